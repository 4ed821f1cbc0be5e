-- What a held line carries is what the first bytes of its filled text carry, as many as its kind is wide.
use Rattle.std.proofs.Common.{◌≡◌, ℕ, Bool, ◌+◌, ◌-◌, ◌≤◌, List, [], ◌∷◌, length, map, take, drop, refl, sym, ap, ap₂, subst, ◌∙◌}
use Rattle.std.proofs.Common.{arith}
use Rattle.std.specs.Prelude.{◌↔◌, Option, Some, None, IsSome, IfSome, IsSomeAnd}
use Rattle.std.proofs.lemmas.List.{length-take, drop-take, take-take}
use Rattle.std.proofs.lemmas.List.Sums.{sum_by-cons}
use Rattle.cwr_fields.specs.declared.kinds.Kind.{Kind}
use Rattle.cwr_fields.specs.Format.Layouts.{FieldLayout, layout, total_width, line_width}
use Rattle.cwr_lines.specs.Format.Lines.{pieces, cells_as}
use Rattle.cwr_lines.specs.Format.Records.{RecordValue, IsRecord, record_of}
use Rattle.cwr_lines.specs.Steps.Carried.{carried_cells, record_in}
use Rattle.cwr_lines.specs.declared.lines.LineEnd.{LineEnd}
use Rattle.cwr_lines.specs.Steps.Held.{HeldLine, held_body, held_cells, carried_by, held_record, line_kept, IsFilled, IsClosed}
use Rattle.cwr_lines.proofs.lemmas.CellParts.{filled_of}
use Rattle.cwr_lines.proofs.lemmas.FilledTexts.{length-filled}

-- pieces of a text lie within its first bytes
pieces_within : (fields : List FieldLayout) (n : ℕ) (text : List ℕ) → total_width fields ≤ n
    → pieces (map (λ f. f.width) fields) (take n text) ≡ pieces (map (λ f. f.width) fields) text
pieces_within [] n text h = refl
pieces_within (f ∷ fields) n text h =
    let total : total_width (f ∷ fields) ≡ f.width + total_width fields = sum_by-cons (λ (g : FieldLayout). g.width) f fields in
    let split : n ≡ f.width + (n - f.width) = omega (arith, h, total) in
    ap₂ (λ (x : List ℕ) (y : List (List ℕ)). x ∷ y) (take-take f.width n text (omega (arith, h, total)))
    (ap (pieces (map (λ g. g.width) fields))
    (ap (λ (m : ℕ). drop f.width (take m text)) split ∙ drop-take f.width (n - f.width) text)
    ∙ pieces_within fields (n - f.width) (drop f.width text) (omega (arith, h, total)))

-- the filled text is at least as wide as the kind
pub filled_wide : (text : List ℕ) (kind : Kind) (h : HeldLine) → IsFilled text (Some kind) h → line_width kind ≤ length text
filled_wide text kind h k =
    let count : length text ≡ length (held_body h) + (line_width kind - length (held_body h)) =
    ap length k.parts ∙ length-filled (line_width kind) (held_body h) in
    omega (arith, count)

pub record_held : (text : List ℕ) (kind : Kind) (h : HeldLine) → IsFilled text (Some kind) h
    → held_record h ≡ Some (record_in kind (take (line_width kind) text))
unfolding carried_cells
record_held text kind h k =
    ap (λ (o : Option Kind). carried_by o (cells_as o (held_body h))) (sym k.known)
    ∙ ap (λ (cells : List (List ℕ)). Some (record_of (record { kind = kind; cells = cells })))
    (ap (pieces (map (λ f. f.width) (layout kind))) (sym k.parts)
    ∙ sym (pieces_within (layout kind) (line_width kind) text (omega arith)))

pub record_found : (text : List ℕ) (kind : Kind) (h : HeldLine) (o : Option RecordValue) → IsFilled text (Some kind) h → IsSome o
    ↔ IsRecord (record_in kind (take (line_width kind) text))
    → IsSome o ↔ IsSomeAnd (held_record h) IsRecord
record_found text kind h o k e =
    subst (λ (r : Option RecordValue). IsSome o ↔ IsSomeAnd r IsRecord) (sym (record_held text kind h k)) e

pub record_value : (text : List ℕ) (kind : Kind) (h : HeldLine) (o : Option RecordValue) → IsFilled text (Some kind) h
    → IfSome o (λ found. found ≡ record_in kind (take (line_width kind) text))
    → IfSome o (λ found. held_record h ≡ Some found)
record_value text kind h None k e = tt
record_value text kind h (Some found) k e = record_held text kind h k ∙ ap Some (sym e)

-- as many bytes of the filled text as the kind is wide
pub first_bytes : (text : List ℕ) (kind : Kind) (width : ℕ) (h : HeldLine) → IsFilled text (Some kind) h → width ≡ line_width kind
    → length (take width text) ≡ width
first_bytes text kind width h k e = omega (arith, length-take width text, e, filled_wide text kind h k)

-- a line that is known to carry a record carries it by its filled text
pub known_fits : (text : List ℕ) (kind : Kind) (h : HeldLine) → IsFilled text (Some kind) h → IsSomeAnd (held_record h) IsRecord
    → IsRecord (record_in kind (take (line_width kind) text))
known_fits text kind h k r = subst (λ (o : Option RecordValue). IsSomeAnd o IsRecord) (record_held text kind h k) r

-- and isn't of unknown kind
pub known_kind : (text : List ℕ) (count : ℕ) (has_return : Bool) (known : Option Kind) (ended : LineEnd) (now : HeldLine)
    → IsClosed text count has_return known ended → line_kept text count has_return ended ≡ now → known ≡ None
    → IsSomeAnd (held_record now) IsRecord → ⊥
known_kind text count has_return known ended now k e none r =
    let at : IsFilled text known (line_kept text count has_return ended) = filled_of text count has_return known ended k.0 k.1 in
    let moved : IsFilled text known now = subst (λ (x : HeldLine). IsFilled text known x) e at in
    subst (λ (o : Option Kind). IsSomeAnd (carried_by o (held_cells now)) IsRecord) (sym moved.known ∙ none) r
