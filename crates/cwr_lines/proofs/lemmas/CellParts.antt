-- The cells of a line are parts of the line filled up to its kind's width.
use Rattle.std.proofs.Common.{◌≡◌, ◌≢◌, ℕ, zero, suc, ◌+◌, ◌-◌, ◌≤◌, Bool, true, false, not, ◌&&◌, nat_lt, cond, List, [], ◌∷◌}
use Rattle.std.proofs.Common.{length, map, take, drop, option_map, slice_get, refl, sym, subst, ap, ap₂, ◌∙◌, arith}
use Rattle.std.specs.Prelude.{◌==◌, Option, Some, None}
use Rattle.std.proofs.lemmas.List.{drop-drop}
use Rattle.std.proofs.lemmas.List.Sums.{sum_by-cons}
use Rattle.std.proofs.lemmas.Bool.{and_parts}
use Rattle.cwr_fields.specs.Format.Bytes.{filled, is_control, is_plain}
use Rattle.cwr_fields.specs.declared.kinds.Kind.{Kind}
use Rattle.cwr_lines.specs.declared.lines.LineEnd.{LineEnd}
use Rattle.cwr_lines.specs.declared.lines.LineEnd.TheVariants.{Open, Line, Over}
use Rattle.cwr_fields.specs.Format.Layouts.{FieldLayout, layout, fields_with_starts, field_with_start, total_width, line_width}
use Rattle.cwr_lines.specs.Format.Lines.{pieces, cells_as}
use Rattle.cwr_lines.specs.Steps.Held.{HeldLine, held_body, held_kind, held_cell, cell_as, IsFilled, IsKept, IsClosed, line_kept}
use Rattle.cwr_lines.proofs.lemmas.FilledTexts.{length-filled}

-- the part of a text that a field takes
abbrev pub part : List ℕ → ℕ × FieldLayout → List ℕ
part text p = take p.1.width (drop p.0 text)

pub plain_take : (n : ℕ) (text : List ℕ) → is_plain text ≡ true → is_plain (take n text) ≡ true
plain_take zero text h = refl
plain_take (suc n) [] h = refl
plain_take (suc n) (b ∷ text) h =
    let p =
    and_parts (nat_lt b 256 && not (is_control b)) (is_plain text) h in ap₂ (λ (x y : Bool). x && y) p.0 (plain_take n text p.1)

pub plain_drop : (n : ℕ) (text : List ℕ) → is_plain text ≡ true → is_plain (drop n text) ≡ true
plain_drop zero text h = h
plain_drop (suc n) [] h = refl
plain_drop (suc n) (b ∷ text) h = plain_drop n text (and_parts (nat_lt b 256 && not (is_control b)) (is_plain text) h).1

-- the part of a text without control bytes has none
pub plain_part : (text : List ℕ) (p : ℕ × FieldLayout) → is_plain text ≡ true → is_plain (part text p) ≡ true
plain_part text p h = plain_take p.1.width (drop p.0 text) (plain_drop p.0 text h)

-- a piece is the part that its field takes
pub piece_is_part : (at : ℕ) (fields : List FieldLayout) (text : List ℕ) (i : ℕ)
    → slice_get (pieces (map (λ f. f.width) fields) (drop at text)) i
    ≡ option_map (part text) (slice_get (fields_with_starts at fields) i)
piece_is_part at [] text i = refl
piece_is_part at (f ∷ fields) text zero = refl
piece_is_part at (f ∷ fields) text (suc i) =
    ap (λ (x : List ℕ). slice_get (pieces (map (λ g. g.width) fields) x) i) (drop-drop f.width at text)
    ∙ piece_is_part (at + f.width) fields text i

unless : (b : Bool) (text : List ℕ) (x : Option (List ℕ)) (y : Option (ℕ × FieldLayout)) → x ≡ option_map (part text) y
    → cond b None x ≡ option_map (part text) (cond b None y)
unless true text x y e = refl
unless false text x y e = e

-- cell j of a text of the width is the part that field j takes
pub cell_is_part : (kind : Kind) (text : List ℕ) (j : ℕ)
    → cell_as (Some kind) (pieces (map (λ f. f.width) (layout kind)) text) j ≡ option_map (part text) (field_with_start kind j)
cell_is_part kind text j =
    unless (j == 0) text (slice_get (pieces (map (λ f. f.width) (layout kind)) text) (j - 1))
    (slice_get (fields_with_starts 0 (layout kind)) (j - 1)) (piece_is_part 0 (layout kind) text (j - 1))

pub field_part_within : (at : ℕ) (fields : List FieldLayout) (i : ℕ) (p : ℕ × FieldLayout)
    → slice_get (fields_with_starts at fields) i ≡ Some p → p.0 + p.1.width ≤ at + total_width fields
field_part_within at [] i p e = absurd cc
field_part_within at (f ∷ fields) zero p e =
    let same : (at, f) ≡ p = cc e in
    rw (← same) (omega (arith, sum_by-cons (λ (g : FieldLayout). g.width) f fields))
field_part_within at (f ∷ fields) (suc i) p e =
    omega (arith, field_part_within (at + f.width) fields i p e, sum_by-cons (λ (g : FieldLayout). g.width) f fields)

within_unless : (b : Bool) (kind : Kind) (i : ℕ) (p : ℕ × FieldLayout)
    → cond b None (slice_get (fields_with_starts 0 (layout kind)) i) ≡ Some p → p.0 + p.1.width ≤ line_width kind
within_unless true kind i p e = absurd cc
within_unless false kind i p e = omega (arith, field_part_within 0 (layout kind) i p e)

-- each field ends within its line
pub field_within : (kind : Kind) (j : ℕ) (p : ℕ × FieldLayout) → field_with_start kind j ≡ Some p
    → p.0 + p.1.width ≤ line_width kind
field_within kind j p e = within_unless (j == 0) kind (j - 1) p e

-- a line that ended is filled up
pub filled_of : (text : List ℕ) (count : ℕ) (has_return : Bool) (kind : Option Kind) (ended : LineEnd)
    → IsKept text count has_return kind ended → ended ≢ Open
    → IsFilled text kind (line_kept text count has_return ended)
filled_of text count has_return kind Open k n = absurd (n refl)
filled_of text count has_return kind Line k n = k.keeps
filled_of text count has_return kind Over k n = k.keeps

-- cell j of a held line, by its kind
pub held_cell-by_kind : (h : HeldLine) (kind : Kind) (j : ℕ) → held_kind h ≡ Some kind
    → held_cell h j ≡ option_map (part (filled (line_width kind) (held_body h))) (field_with_start kind j)
held_cell-by_kind h kind j e =
    ap (λ (o : Option Kind). cell_as o (cells_as o (held_body h)) j) e
    ∙ cell_is_part kind (filled (line_width kind) (held_body h)) j

-- cell j is the part of the filled text that field j takes
pub held_cell-part : (text : List ℕ) (h : HeldLine) (kind : Kind) (j : ℕ) → IsFilled text (Some kind) h
    → held_cell h j ≡ option_map (part text) (field_with_start kind j)
held_cell-part text h kind j k =
    let parts : text ≡ filled (line_width kind) (held_body h) = k.parts in
    rw parts (held_cell-by_kind h kind j (sym k.known))

-- the part of a filled text that a field takes lies within the text
pub held_part_within : (text : List ℕ) (h : HeldLine) (kind : Kind) (j : ℕ) (p : ℕ × FieldLayout) → IsFilled text (Some kind) h
    → field_with_start kind j ≡ Some p → p.0 + p.1.width ≤ length text
held_part_within text h kind j p k e =
    let count : length text ≡ length (held_body h) + (line_width kind - length (held_body h)) =
    ap length k.parts ∙ length-filled (line_width kind) (held_body h) in
    omega (arith, field_within kind j p e)

-- a line that ended and is of that kind is filled up by it
pub filled_now : (text : List ℕ) (count : ℕ) (has_return : Bool) (known : Option Kind) (ended : LineEnd) (kind : Kind)
    (now : HeldLine)
    → IsClosed text count has_return known ended → line_kept text count has_return ended ≡ now → known ≡ Some kind
    → IsFilled text (Some kind) now
filled_now text count has_return known ended kind now k e same =
    let at : IsFilled text known (line_kept text count has_return ended) = filled_of text count has_return known ended k.0 k.1 in
    let moved : IsFilled text known now = subst (λ (x : HeldLine). IsFilled text known x) e at in
    subst (λ (o : Option Kind). IsFilled text o now) same moved

-- what is cut out where the field is known
pub held_cell_found : (text : List ℕ) (h : HeldLine) (kind : Kind) (j : ℕ) (p : ℕ × FieldLayout) → IsFilled text (Some kind) h
    → Some p ≡ field_with_start kind j
    → Some (part text p) ≡ held_cell h j
held_cell_found text h kind j p k e = sym (held_cell-part text h kind j k ∙ ap (option_map (part text)) (sym e))

-- a line of the kind has no cell where the kind has no field
pub no_held_cell_found : (text : List ℕ) (h : HeldLine) (kind : Kind) (j : ℕ) → IsFilled text (Some kind) h
    → field_with_start kind j ≡ None → held_cell h j ≡ None
no_held_cell_found text h kind j k e = held_cell-part text h kind j k ∙ ap (option_map (part text)) e
