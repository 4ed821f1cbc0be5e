-- What a line that was taken carries and a record that it holds.
use Rattle.std.proofs.Common.{◌≡◌, ◌≢◌, ℕ, true, false, List, Option, Some, None, refl, sym, ap, ap₂, ◌∙◌, true≢false}
use Rattle.cwr_fields.specs.declared.kinds.Kind.{Kind}
use Rattle.cwr_lines.specs.declared.lines.LineEnd.{LineEnd}
use Rattle.cwr_lines.specs.declared.lines.LineEnd.TheVariants.{Open, Line, Over}
use Rattle.cwr_lines.specs.Format.Lines.{body_kind, excess_as, without_cr}
use Rattle.cwr_lines.specs.Format.Records.{RecordValue}
use Rattle.cwr_lines.specs.Steps.Held.{HeldLine, IsHeld, body_by, carried_by, ended_too_long, held_body, held_cells, held_excess}
use Rattle.cwr_lines.specs.Steps.Held.{held_kind}
use Rattle.cwr_calls.specs.Format.LineRecords.{CarriesRecord}
use Rattle.cwr_decode.proofs.lemmas.CarriedLines.{carried_line, is_line}
use Rattle.cwr_calls.specs.Steps.Writings.{HoldsRecord}

-- a line of a kind, with nothing bad behind its last field, isn't too long
pub line_ended : (line : HeldLine) (kind : Kind) → line.ended ≢ Open → held_kind line ≡ Some kind → held_excess line ≡ false
    → line.ended ≡ Line
line_ended line this_kind ended named excess = by line.ended refl
  where
    by : (e : LineEnd) → line.ended ≡ e → line.ended ≡ Line
    by Open q = absurd (ended q)
    by Line q = q
    by Over q =
        let bad : held_excess line ≡ true =
        ap₂ (λ (o : Option Kind) (e : LineEnd). excess_as o (ended_too_long e) (held_body line)) named q in
        absurd (true≢false (sym bad ∙ excess))

-- a line that carries something names a kind
named_by : (o : Option Kind) (cells : List (List ℕ)) (r : RecordValue) → carried_by o cells ≡ Some r
    → (kind : Kind) × (o ≡ Some kind)
named_by None cells r e = absurd (cc e)
named_by (Some this_kind) cells r e = (this_kind, refl)

pub record_line_ended : (line : HeldLine) (r : RecordValue) → line.ended ≢ Open → HoldsRecord line r → line.ended ≡ Line
record_line_ended line r ended h =
    let named = named_by (held_kind line) (held_cells line) r h.carried in
    line_ended line named.0 ended named.1 h.excess

-- by its bytes the line carries the record
pub carries_record : (line : HeldLine) (r : RecordValue) → line.ended ≡ Line → IsHeld line → HoldsRecord line r
    → CarriesRecord line.bytes r
carries_record line r ended held h = record {
  is_line = is_line line held;
  carries = carried_line line r ended h.carried;
  good = h.good;
  excess =
      ap (λ (e : LineEnd). excess_as (body_kind (body_by e line.bytes)) (ended_too_long e) (body_by e line.bytes)) (sym ended)
      ∙ h.excess;
}

-- and so is TRL's
pub kind_by_bytes : (line : HeldLine) (kind : Kind) → line.ended ≡ Line → held_kind line ≡ Some kind
    → body_kind (without_cr line.bytes) ≡ Some kind
kind_by_bytes line this_kind ended named = ap (λ (e : LineEnd). body_kind (body_by e line.bytes)) (sym ended) ∙ named
