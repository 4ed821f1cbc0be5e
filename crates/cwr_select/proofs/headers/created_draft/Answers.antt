use Rattle.std.proofs.Common.{sym, ap, subst, ◌∙◌, refl}
use Rattle.cwr_fields.specs.declared.kinds.Kind.{Kind}
use Rattle.cwr_fields.specs.declared.kinds.Kind.TheVariants as kinds
use Rattle.cwr_fields.specs.Format.Layouts.{layout}
use Rattle.cwr_lines.specs.Format.Carried.{set_cell}
use Rattle.cwr_lines.specs.Format.Records.{RecordValue}
use Rattle.cwr_select.specs.Steps.Headers.{IsWholeCell}
use Rattle.cwr_select.proofs.lemmas.CreatedHeaders.{assembled, day_is_cell, header_cell, later_cell, time_is_cell}
use Rattle.cwr_select.proofs.headers.created_draft.Goals as goal

pub copied-draft-requires : goal.copied-draft-requires
copied-draft-requires c = ap layout (sym c.requires)

pub put-requires : goal.put-requires
put-requires c =
    subst (λ (k : Kind). IsWholeCell k 6 c.write.new.cell) (sym (ap (λ (r : RecordValue). r.kind) c.copied-draft.ensures.copy))
    (subst (IsWholeCell kinds.Hdr 6) (sym c.write.ensures) (day_is_cell c.args.moment))

pub put-requires-2 : goal.put-requires-2
put-requires-2 c =
    subst (λ (k : Kind). IsWholeCell k 7 c.write-2.new.cell)
    (sym (ap (λ (r : RecordValue). r.kind) (c.put.ensures ∙ ap (set_cell 6 c.write.new.cell) c.copied-draft.ensures.copy)))
    (subst (IsWholeCell kinds.Hdr 7) (sym c.write-2.ensures) (time_is_cell c.args.moment))

pub put-requires-3 : goal.put-requires-3
put-requires-3 c =
    subst (λ (k : Kind). IsWholeCell k 8 c.later_day-transmitted.result.now)
    (sym (ap (λ (r : RecordValue). r.kind) (c.put-2.ensures ∙ ap (set_cell 7 c.write-2.new.cell) (c.put.ensures
    ∙ ap (set_cell 6 c.write.new.cell) c.copied-draft.ensures.copy))))
    (subst (IsWholeCell kinds.Hdr 8) (sym c.later_day-transmitted.ensures)
    (later_cell c.cell.result.now c.write.new.cell
    (header_cell c.args.shown.now 8 c.cell.result.now c.requires c.cell.ensures.fits c.cell.ensures.value refl)
    (subst (IsWholeCell kinds.Hdr 8) (sym c.write.ensures) (day_is_cell c.args.moment))))

pub returns : goal.returns
returns c =
    c.put-3.ensures ∙ ap (set_cell 8 c.later_day-transmitted.result.now) (c.put-2.ensures
    ∙ ap (set_cell 7 c.write-2.new.cell) (c.put.ensures ∙ ap (set_cell 6 c.write.new.cell) c.copied-draft.ensures.copy))
    ∙ assembled c.args.moment c.args.shown.now c.cell.result.now c.write.new.cell c.write-2.new.cell
    c.later_day-transmitted.result.now c.requires c.cell.ensures.fits c.cell.ensures.value c.write.ensures c.write-2.ensures
    c.later_day-transmitted.ensures
