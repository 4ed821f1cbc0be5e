use Rattle.std.proofs.Common.{◌≡◌, Bool, cond, [], refl, sym, ap, ◌∙◌}
use Rattle.cwr_fields.specs.Format.Bytes.{trimmed}
use Rattle.cwr_lines.specs.Format.Records.{cell_named}
use Rattle.cwr_findings.proofs.lemmas.NamedCells.{named_cell}
use Rattle.cwr_sent.specs.Format.SentFacts.{title_check}
use Rattle.cwr_sent.proofs.lemmas.Cells.{title}
use Rattle.cwr_sent.proofs.facts.check_of.Goals as goal

pub returns-then-is_work : goal.returns-then-is_work
returns-then-is_work c =
    let work = sym c.is_work.ensures ∙ c.if-is_work.true in
    let named : c.cell.result.now ≡ cell_named "title" c.args.head.now =
    c.cell.ensures.value
    ∙ named_cell "title" c.args.head.now.kind 4 60 c.args.head.now (title c.args.head.now work) refl c.cell.ensures.fits in
    c.title_check.ensures ∙ ap title_check (c.trimmed.ensures ∙ ap trimmed named)
    ∙ ap (λ (b : Bool). title_check (trimmed (cond b (cell_named "title" c.args.head.now) []))) (sym work)

pub returns-else-is_work : goal.returns-else-is_work
unfolding trimmed
returns-else-is_work c =
    let none = sym c.is_work.ensures ∙ c.if-is_work.false in
    ap (λ (b : Bool). title_check (trimmed (cond b (cell_named "title" c.args.head.now) []))) (sym none)
