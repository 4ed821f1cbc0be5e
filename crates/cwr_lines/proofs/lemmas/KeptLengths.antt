-- A line that ended is kept in no more bytes than the longest line.
use Rattle.std.proofs.Common.{ℕ, ◌-◌, ◌≤◌, Bool, true, false, List, length, take, Option, Some, None, refl}
use Rattle.std.proofs.Common.{ap, arith}
use Rattle.std.specs.Prelude.{if◌then◌else◌}
use Rattle.std.proofs.lemmas.List.{length-take-le}
use Rattle.cwr_fields.specs.declared.kinds.Kind.{Kind}
use Rattle.cwr_lines.specs.declared.lines.LineEnd.{LineEnd}
use Rattle.cwr_lines.specs.declared.lines.LineEnd.TheVariants.{Open, Line, Over}
use Rattle.cwr_fields.specs.Format.Layouts.{line_width}
use Rattle.cwr_lines.specs.Steps.Held.{HeldLine, IsClosed, IsFilled, body_by, filled_as, held_body, line_kept}
use Rattle.cwr_fields.proofs.lemmas.AllKinds.{line_width_most}
use Rattle.cwr_lines.proofs.lemmas.FilledTexts.{length-filled}

cut_short : (b : Bool) (line : List ℕ) → length (if b then (take (length line - 1) line) else line) ≤ length line
cut_short true line = omega (arith, length-take-le (length line - 1) line (omega arith))
cut_short false line = omega arith

body_short : (ended : LineEnd) (bytes : List ℕ) → length (body_by ended bytes) ≤ length bytes
body_short Open bytes = cut_short _ bytes
body_short Line bytes = cut_short _ bytes
body_short Over bytes = omega arith

filled_short : (kind : Option Kind) (body : List ℕ) → length body ≤ 1024 → length (filled_as kind body) ≤ 1024
filled_short None body h = omega (arith, length-filled 3 body)
filled_short (Some kind) body h = omega (arith, length-filled (line_width kind) body, line_width_most kind)

parts_short : (text : List ℕ) (kind : Option Kind) (h : HeldLine) → IsFilled text kind h → length h.bytes ≤ 1024
    → length text ≤ 1024
parts_short text kind h filled short =
    let body : length (held_body h) ≤ 1024 = omega (arith, body_short h.ended h.bytes, short) in
    omega (arith, filled_short kind (held_body h) body, ap length filled.parts)

pub kept_short : (text : List ℕ) (count : ℕ) (has_return : Bool) (kind : Option Kind) (ended : LineEnd)
    → IsClosed text count has_return kind ended → length text ≤ 1024
kept_short text count has_return kind Open h = absurd (h.1 refl)
kept_short text count has_return kind Line h =
    parts_short text kind (line_kept text count has_return Line) h.0.keeps h.0.held.short
kept_short text count has_return kind Over h =
    parts_short text kind (line_kept text count has_return Over) h.0.keeps h.0.held.short
