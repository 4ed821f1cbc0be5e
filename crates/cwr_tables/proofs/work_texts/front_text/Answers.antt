use Rattle.std.proofs.Common.{ℕ, List, ap}
use Rattle.cwr_fields.specs.declared.kinds.Kind.{Kind}
use Rattle.cwr_fields.specs.Format.Kinds.{letters}
use Rattle.cwr_devices.proofs.lemmas.Adding.{adds_as, adds_both}
use Rattle.cwr_tables.specs.Format.RecordTables.{shown_cell}
use Rattle.cwr_tables.specs.Steps.RowTexts.{next_cell}
use Rattle.cwr_tables.proofs.lemmas.NamedOwners.{cell_is}
use Rattle.cwr_tables.proofs.lemmas.WorkFields.{iswc, title, work_number}
use Rattle.cwr_tables.proofs.work_texts.front_text.Goals as goal

pub returns : goal.returns
returns g c =
    let shown : List ℕ → List ℕ = λ cell. next_cell (shown_cell c.args.encoding cell) in
    let number =
    cell_is "submitter work number" c.args.head.now 6 14 c.cell.result.now c.cell.ensures.value
    (work_number c.args.head.now c.requires) c.cell.ensures.fits in
    let name =
    cell_is "title" c.args.head.now 4 60 c.cell-2.result.now c.cell-2.ensures.value (title c.args.head.now c.requires)
    c.cell-2.ensures.fits in
    let code =
    cell_is "iswc" c.args.head.now 7 11 c.cell-3.result.now c.cell-3.ensures.value (iswc c.args.head.now c.requires)
    c.cell-3.ensures.fits in
    adds_both (adds_both (adds_both (adds_both (adds_both c.first_number.ensures c.next_number.ensures)
    (adds_as (ap (λ (kind : Kind). next_cell (letters kind)) c.kind.ensures.value) c.next_letters.ensures))
    (adds_as (ap shown number) c.next_shown.ensures)) (adds_as (ap shown name) c.next_shown-2.ensures))
    (adds_as (ap shown code) c.next_shown-3.ensures)
