use Rattle.std.proofs.Common.{ℕ, List, sym, ap, ◌∙◌}
use Rattle.std.specs.Prelude.{not, option_map}
use Rattle.cwr_findings.specs.Steps.Walks.{is_number}
use Rattle.cwr_findings.proofs.lemmas.RuleTests.{other_publisher, other_writer}
use Rattle.cwr_findings.proofs.finding_questions.names_another_party.Goals as goal

pub returns-in-Spt : goal.returns-in-Spt
returns-in-Spt c = λ t k work h.
    ap not (c.is_number.ensures
    ∙ ap (λ (x : List ℕ). is_number x (option_map (λ cell. cell.now) c.args.before.now.publisher)) c.cell.ensures.value)
    ∙ other_publisher c.args.shown.now t k (option_map (λ cell. cell.now) c.args.before.now.publisher) work
    (sym c.kind.ensures.value ∙ c.in-Spt.is) c.cell.ensures.fits h.publisher

pub returns-in-Swt : goal.returns-in-Swt
returns-in-Swt c = λ t k work h.
    ap not (c.is_number-in-Swt.ensures
    ∙ ap (λ (x : List ℕ). is_number x (option_map (λ cell. cell.now) c.args.before.now.writer)) c.cell-in-Swt.ensures.value)
    ∙ other_writer c.args.shown.now t k (option_map (λ cell. cell.now) c.args.before.now.writer) work
    (sym c.kind.ensures.value ∙ c.in-Swt.is) c.cell-in-Swt.ensures.fits h.writer
