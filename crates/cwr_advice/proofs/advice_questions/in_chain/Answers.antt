use Rattle.std.proofs.Common.{List, ℕ, refl, sym, ap, ◌∙◌}
use Rattle.std.specs.Str.{bytes_eq}
use Rattle.cwr_lines.specs.Format.Records.{cell_named}
use Rattle.cwr_findings.proofs.lemmas.NamedCells.{named_cell}
use Rattle.cwr_advice.specs.Format.Rules.{is_publisher}
use Rattle.cwr_advice.proofs.lemmas.AdvisedFields.{and_true, sequence_of_publisher}
use Rattle.cwr_advice.proofs.advice_questions.in_chain.Goals as goal

pub returns : goal.returns
returns c =
    let publisher = sym c.is_publisher.ensures ∙ c.if-not-is_publisher.false in
    c.eq.ensures
    ∙ ap (λ (x : List ℕ). bytes_eq x c.args.sequence.now) (c.cell.ensures.value ∙ named_cell "publisher sequence"
    c.args.other.now.kind 4 2 c.args.other.now (sequence_of_publisher c.args.other.now publisher) refl c.cell.ensures.fits)
    ∙ and_true (is_publisher c.args.other.now) (bytes_eq (cell_named "publisher sequence" c.args.other.now) c.args.sequence.now)
    publisher
