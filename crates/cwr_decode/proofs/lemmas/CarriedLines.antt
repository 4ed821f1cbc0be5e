-- What a line that was taken carries, by its bytes alone.
use Rattle.std.proofs.Common.{◌≡◌, ℕ, List, Option, Some, None, refl, sym, ap, ◌∙◌}
use Rattle.cwr_fields.specs.declared.kinds.Kind.{Kind}
use Rattle.cwr_lines.specs.declared.lines.LineEnd.{LineEnd}
use Rattle.cwr_lines.specs.declared.lines.LineEnd.TheVariants.{Line}
use Rattle.cwr_lines.specs.Format.Lines.{body_kind, cells_as, without_cr}
use Rattle.cwr_lines.specs.Format.Records.{RecordValue}
use Rattle.cwr_lines.specs.Steps.Held.{HeldLine, IsHeld, body_by, carried_by, held_record}
use Rattle.cwr_decode.specs.Format.Entries.{carried, carried_as}
use Rattle.cwr_decode.specs.Format.WholeLines.{IsLine}

-- what the bytes carry is what a held line of them does
carried_as_held : (kind : Option Kind) (body : List ℕ) → carried_as kind body ≡ carried_by kind (cells_as kind body)
carried_as_held None body = refl
carried_as_held (Some this_kind) body = refl

pub carried_line : (line : HeldLine) (r : RecordValue) → line.ended ≡ Line → held_record line ≡ Some r
    → carried (without_cr line.bytes) ≡ Some r
carried_line line r ended carries =
    let body : List ℕ = without_cr line.bytes in
    carried_as_held (body_kind body) body ∙ ap (λ (e : LineEnd). carried_by (body_kind (body_by e line.bytes))
    (cells_as (body_kind (body_by e line.bytes)) (body_by e line.bytes))) (sym ended) ∙ carries

pub is_line : (line : HeldLine) → IsHeld line → IsLine line.bytes
is_line line h = record { no_lf = h.no_lf; short = h.short }
