-- Numbers are set in the front of a filled line, and what stands behind its last field stays.
use Rattle.std.proofs.Common.{◌≡◌, ℕ, ◌+◌, ◌-◌, ◌≤◌, Bool, true, false, List, [], ◌∷◌, ◌++◌, length, take, drop, slice_set, sym}
use Rattle.std.proofs.Common.{ap, ap₂, subst, ◌∙◌, arith, append_assoc}
use Rattle.std.specs.Prelude.{Option, Some, None, slice_index, IfSome, if◌then◌else◌}
use Rattle.std.proofs.lemmas.List.{drop-drop, drop-take, length-append, length-drop, length-set, length-take-le, take-append-drop}
use Rattle.std.proofs.lemmas.List.{take-take, take_more_set}
use Rattle.std.proofs.Math.Seq.{take-append_seam}
use Rattle.cwr_fields.specs.Format.Bytes.{digits}
use Rattle.cwr_fields.specs.declared.kinds.Kind.{Kind}
use Rattle.cwr_fields.specs.declared.kinds.Kind.TheVariants.{Hdr, Grh, Grt, Trl}
use Rattle.cwr_lines.specs.declared.lines.LineEnd.{LineEnd}
use Rattle.cwr_lines.specs.declared.lines.LineEnd.TheVariants.{Open, Line, Over}
use Rattle.cwr_fields.specs.Format.Layouts.{line_width}
use Rattle.cwr_lines.specs.Steps.Held.{HeldLine, IsHeld, body_by, filled_as, held_body}
use Rattle.cwr_lines.specs.Steps.Numbered.{numbered_part}
use Rattle.cwr_fields.proofs.lemmas.AllKinds.{line_width_widest}
use Rattle.cwr_lines.proofs.lemmas.FilledTexts.{length-filled}

-- ---- what stands behind a place of the front, and behind the front

behind : (n m : ℕ) (line : List ℕ) → drop n (take (n + m) line) ++ drop (n + m) line ≡ drop n line
behind n m line =
    let later : drop (n + m) line ≡ drop m (drop n line) = sym (drop-drop m n line ∙ ap (λ (k : ℕ). drop k line) (omega arith)) in
    ap₂ (λ (x y : List ℕ). x ++ y) (drop-take n m line) later ∙ take-append-drop m (drop n line)

left_of : (n w : ℕ) (line : List ℕ) → n ≤ w → drop n (take w line) ++ drop w line ≡ drop n line
left_of n w line h =
    subst (λ (k : ℕ). drop n (take k line) ++ drop k line ≡ drop n line) (omega (arith, h)) (behind n (w - n) line)

two_joined : (a b x y : List ℕ) → (a ++ (b ++ x)) ++ y ≡ a ++ (b ++ (x ++ y))
two_joined a b x y = append_assoc a (b ++ x) y ∙ ap (λ (l : List ℕ). a ++ l) (append_assoc b x y)

three_joined : (a b c x y : List ℕ) → (a ++ (b ++ (c ++ x))) ++ y ≡ a ++ (b ++ (c ++ (x ++ y)))
three_joined a b c x y = append_assoc a (b ++ (c ++ x)) y ∙ ap (λ (l : List ℕ). a ++ l) (two_joined b c x y)

-- the numbers of the front are those of the line
part_of_front : (kind : Kind) (ns line : List ℕ) (w : ℕ) → 24 ≤ w
    → numbered_part kind ns (take w line) ++ drop w line ≡ numbered_part kind ns line
part_of_front Hdr ns line w h = left_of 3 w line (omega (arith, h))
part_of_front Grh ns line w h =
    two_joined (take 3 (drop 3 (take w line))) (digits 5 (slice_index ns 0)) (drop 11 (take w line)) (drop w line)
    ∙ ap₂ (λ (x y : List ℕ). x ++ (digits 5 (slice_index ns 0) ++ y)) (type_cell line w h) (left_of 11 w line (omega (arith, h)))
  where
    type_cell : (line : List ℕ) (w : ℕ) → 24 ≤ w → take 3 (drop 3 (take w line)) ≡ take 3 (drop 3 line)
    type_cell line w h =
        let more : 3 + (w - 3) ≡ w = omega (arith, h) in
        ap (λ (k : ℕ). take 3 (drop 3 (take k line))) (sym more) ∙ ap (take 3) (drop-take 3 (w - 3) line)
        ∙ take-take 3 (w - 3) (drop 3 line) (omega (arith, h))
part_of_front Grt ns line w h =
    three_joined (digits 5 (slice_index ns 0)) (digits 8 (slice_index ns 1)) (digits 8 (slice_index ns 2)) (drop 24 (take w line))
    (drop w line)
    ∙ ap (λ (x : List ℕ). digits 5 (slice_index ns 0) ++ (digits 8 (slice_index ns 1) ++ (digits 8 (slice_index ns 2) ++ x)))
    (left_of 24 w line h)
part_of_front Trl ns line w h =
    three_joined (digits 5 (slice_index ns 0)) (digits 8 (slice_index ns 1)) (digits 8 (slice_index ns 2)) (drop 24 (take w line))
    (drop w line)
    ∙ ap (λ (x : List ℕ). digits 5 (slice_index ns 0) ++ (digits 8 (slice_index ns 1) ++ (digits 8 (slice_index ns 2) ++ x)))
    (left_of 24 w line h)
part_of_front this_kind ns line w h =
    two_joined (digits 8 (slice_index ns 0)) (digits 8 (slice_index ns 1)) (drop 19 (take w line)) (drop w line)
    ∙ ap (λ (x : List ℕ). digits 8 (slice_index ns 0) ++ (digits 8 (slice_index ns 1) ++ x))
    (left_of 19 w line (omega (arith, h)))

-- numbers that are set in the front are set in the line
pub set_in_front : (kind : Kind) (ns line front new : List ℕ) (w : ℕ) → 24 ≤ w
    → front ≡ take 3 (take w line) ++ numbered_part kind ns (take w line) → new ≡ front ++ drop w line
    → new ≡ take 3 line ++ numbered_part kind ns line
set_in_front kind ns line front new w h f e =
    e ∙ ap (λ (x : List ℕ). x ++ drop w line) f
    ∙ append_assoc (take 3 (take w line)) (numbered_part kind ns (take w line)) (drop w line)
    ∙ ap₂ (λ (x y : List ℕ). x ++ y) (take-take 3 w line (omega (arith, h))) (part_of_front kind ns line w h)

-- ---- how long a filled line is

without_shorter : (b : Bool) (n : ℕ) (line : List ℕ) → n ≤ length line → length (if b then take n line else line) ≤ length line
without_shorter true n line h = omega (arith, h, length-take-le n line h)
without_shorter false n line h = omega arith

body_shorter : (e : LineEnd) (bytes : List ℕ) → length (body_by e bytes) ≤ length bytes
body_shorter Open bytes = without_shorter _ (length bytes - 1) bytes (omega arith)
body_shorter Line bytes = without_shorter _ (length bytes - 1) bytes (omega arith)
body_shorter Over bytes = omega arith

filled_short : (kind : Option Kind) (body : List ℕ) → length body ≤ 1024 → length (filled_as kind body) ≤ 1024
filled_short None body h = omega (arith, h, length-filled 3 body)
filled_short (Some this_kind) body h = omega (arith, h, length-filled (line_width this_kind) body, line_width_widest this_kind)

pub text_short : (text : List ℕ) (kind : Option Kind) (h : HeldLine) → IsHeld h → text ≡ filled_as kind (held_body h)
    → length text ≤ 1024
text_short text kind h k e =
    omega (arith, ap length e, filled_short kind (held_body h) (omega (arith, k.short, body_shorter h.ended h.bytes)))

filled_wide : (kind : Option Kind) (body : List ℕ) → IfSome kind (λ k. line_width k ≤ length (filled_as kind body))
filled_wide None body = tt
filled_wide (Some this_kind) body = omega (arith, length-filled (line_width this_kind) body)

-- the filled text of a line has room for its cells
pub wide_enough : (kind : Option Kind) (text body : List ℕ) → text ≡ filled_as kind body
    → IfSome kind (λ k. line_width k ≤ length text)
wide_enough kind text body e = subst (λ (t : List ℕ). IfSome kind (λ k. line_width k ≤ length t)) (sym e) (filled_wide kind body)

-- ---- the end of the line

-- two bytes are set behind the text
pub end_set : (text rest : List ℕ) (n first second : ℕ) → n ≡ length text → 2 ≤ length rest
    → take (n + 2) (slice_set (slice_set (text ++ rest) n first) (n + 1) second) ≡ text ++ first ∷ second ∷ []
end_set text rest n first second e some =
    let all : List ℕ = text ++ rest in
    let long : length all ≡ length text + length rest = length-append text rest in
    let one : take (n + 1) (slice_set all n first) ≡ text ++ first ∷ [] =
    take_more_set all n first (omega (arith, long, e, some))
    ∙ ap (λ (x : List ℕ). x ++ first ∷ []) (ap (λ (k : ℕ). take k all) e ∙ take-append_seam text rest) in
    ap (λ (k : ℕ). take k (slice_set (slice_set all n first) (n + 1) second)) (omega arith)
    ∙ take_more_set (slice_set all n first) (n + 1) second (omega (arith, long, e, some, length-set all n first))
    ∙ ap (λ (x : List ℕ). x ++ second ∷ []) one ∙ append_assoc text (first ∷ []) (second ∷ [])

-- behind a text of at most 1,024 bytes that was copied into a buffer of two more there is room for these
pub room_left : (n : ℕ) (buffer copied rest : List ℕ) → length copied ≡ length (take n buffer) → n ≤ 1024 → length buffer ≡ 1026
    → rest ≡ drop n (copied ++ drop n buffer) → 2 ≤ length rest
room_left n buffer copied rest c short room e =
    omega (
      arith,
      ap length e,
      length-drop n (copied ++ drop n buffer),
      length-append copied (drop n buffer),
      length-drop n buffer,
      short,
      room,
      c,
      length-take-le n buffer (omega (arith, short, room)),
    )
