-- The line of a record's row is the line that the record is kept in, with the numbers put in.
use Rattle.std.proofs.Common.{◌≡◌, ℕ, ◌+◌, ◌≤◌, Bool, true, false, not, cond, List, [], ◌∷◌, ◌++◌, length, map, take, drop}
use Rattle.std.proofs.Common.{filter, refl, sym, ap, ap₂, ◌∙◌, arith, true≢false, append_assoc, take-add}
use Rattle.std.specs.Prelude.{slice_get, slice_index, unwrap_or, if◌then◌else◌}
use Rattle.std.specs.List.{concat, list_all, zip}
use Rattle.std.proofs.lemmas.Bool.{and_parts}
use Rattle.std.proofs.Math.Seq.{take-append_seam, drop-append_seam}
use Rattle.std.proofs.lemmas.List.{length-append, length-drop, length-take-le, take-append-drop, drop-drop}
use Rattle.std.proofs.lemmas.List.Sums.{sum_by-cons}
use Rattle.cwr_fields.specs.Format.Bytes.{digits}
use Rattle.cwr_fields.proofs.lemmas.Digits.{length-digits}
use Rattle.cwr_fields.specs.declared.kinds.Kind.{Kind}
use Rattle.cwr_fields.specs.declared.kinds.Kind.TheVariants.{Hdr, Grh, Grt, Trl}
use Rattle.cwr_fields.specs.Format.Kinds.{letters}
use Rattle.cwr_fields.specs.Format.Layouts.{FieldLayout, fields_after_type, in_transaction, number, total_width, line_width}
use Rattle.cwr_lines.specs.Format.Lines.{pieces}
use Rattle.cwr_lines.specs.Format.Records.{RecordValue, rest_if, row_cells, row_of, full_line}
use Rattle.cwr_lines.specs.Steps.Carried.{carried_cells, record_in}
use Rattle.cwr_lines.specs.Steps.Numbered.{numbered_part, with_part}
use Rattle.cwr_lines.proofs.lemmas.GoodLinesAreRows.{carried_in}
use Rattle.cwr_lines.proofs.lemmas.NumbersOfKinds.{numbered_inside, letters_long, line_width_least}

-- the text of some fields, with numbers in the place of their derived cells
abbrev filled_in : List FieldLayout → List ℕ → List ℕ → List ℕ
filled_in [] numbers text = []
filled_in (f ∷ fields) numbers text =
    (if f.derived then digits f.width (slice_index numbers 0) else take f.width text)
    ++ filled_in fields (rest_if f.derived numbers) (drop f.width text)

-- ---- the cells of a row, one after another

row_by : (b : Bool) (f : FieldLayout) (fields : List FieldLayout) (numbers text : List ℕ) (rest : List (FieldLayout × List ℕ))
    → ((ns : List ℕ) → concat (row_cells fields ns (map (λ p. p.1) rest)) ≡ filled_in fields ns (drop f.width text))
    → let carried : List (List ℕ) = map (λ p. p.1) (cond (not b) ((f, take f.width text) ∷ rest) rest) in
    concat ((if b then digits f.width (slice_index numbers 0) else unwrap_or (slice_get carried 0) [])
    ∷ row_cells fields (rest_if b numbers) (rest_if (not b) carried))
    ≡ (if b then digits f.width (slice_index numbers 0) else take f.width text)
    ++ filled_in fields (rest_if b numbers) (drop f.width text)
row_by true f fields numbers text rest h = ap (λ (x : List ℕ). digits f.width (slice_index numbers 0) ++ x) (h (drop 1 numbers))
row_by false f fields numbers text rest h = ap (λ (x : List ℕ). take f.width text ++ x) (h numbers)

row_filled : (fields : List FieldLayout) (numbers text : List ℕ)
    → concat (row_cells fields numbers (carried_in fields (pieces (map (λ f. f.width) fields) text)))
    ≡ filled_in fields numbers text
row_filled [] numbers text = refl
row_filled (f ∷ fields) numbers text =
    row_by f.derived f fields numbers text
    (filter (λ p. not p.0.derived) (zip fields (pieces (map (λ g. g.width) fields) (drop f.width text))))
    (λ ns. row_filled fields ns (drop f.width text))

full_filled : (kind : Kind) (line numbers : List ℕ)
    → full_line (row_of numbers (record_in kind line)) ≡ letters kind ++ filled_in (fields_after_type kind) numbers (drop 3 line)
unfolding carried_cells
full_filled kind line numbers = ap (λ (x : List ℕ). letters kind ++ x) (row_filled (fields_after_type kind) numbers (drop 3 line))

-- ---- fields without numbers

plain_by : (b : Bool) (f : FieldLayout) (fields : List FieldLayout) (numbers text : List ℕ) → not b ≡ true
    → filled_in fields numbers (drop f.width text) ≡ drop f.width text
    → (if b then digits f.width (slice_index numbers 0) else take f.width text)
    ++ filled_in fields (rest_if b numbers) (drop f.width text) ≡ text
plain_by true f fields numbers text h e = absurd (true≢false (sym h))
plain_by false f fields numbers text h e = ap (λ (x : List ℕ). take f.width text ++ x) e ∙ take-append-drop f.width text

plain_filled : (fields : List FieldLayout) (numbers text : List ℕ) → list_all (λ f. not f.derived) fields ≡ true
    → length text ≡ total_width fields → filled_in fields numbers text ≡ text
plain_filled [] numbers [] h e = refl
plain_filled [] numbers (b ∷ text) h e = absurd (omega (arith, e))
plain_filled (f ∷ fields) numbers text h e =
    let p = and_parts (not f.derived) (list_all (λ g. not g.derived) fields) h in
    plain_by f.derived f fields numbers text p.0
    (plain_filled fields numbers (drop f.width text) p.1
    (omega (arith, e, length-drop f.width text, sum_by-cons (λ (g : FieldLayout). g.width) f fields)))

-- what is left after some bytes
left_by : (n m : ℕ) (line : List ℕ) → length line ≡ n + m → length (drop n line) ≡ m
left_by n m line e = omega (arith, e, length-drop n line)

second : (ns : List ℕ) → slice_index (drop 1 ns) 0 ≡ slice_index ns 1
second [] = refl
second (n ∷ ns) = refl

third : (ns : List ℕ) → slice_index (drop 1 (drop 1 ns)) 0 ≡ slice_index ns 2
third [] = refl
third (n ∷ []) = refl
third (n ∷ m ∷ ns) = refl

-- ---- the records inside a transaction, those around one, and those around groups

inside_filled : (rest : List FieldLayout) (ns line : List ℕ) → list_all (λ f. not f.derived) rest ≡ true
    → length line ≡ 19 + total_width rest
    → filled_in (in_transaction rest) ns (drop 3 line)
    ≡ digits 8 (slice_index ns 0) ++ (digits 8 (slice_index ns 1) ++ drop 19 line)
inside_filled rest ns line h e =
    let at : drop 8 (drop 8 (drop 3 line)) ≡ drop 19 line = ap (drop 8) (drop-drop 8 3 line) ∙ drop-drop 8 11 line in
    let last : filled_in rest (drop 1 (drop 1 ns)) (drop 8 (drop 8 (drop 3 line))) ≡ drop 19 line
    = ap (filled_in rest (drop 1 (drop 1 ns))) at
    ∙ plain_filled rest (drop 1 (drop 1 ns)) (drop 19 line) h (left_by 19 (total_width rest) line e) in
    ap₂ (λ (n : ℕ) (x : List ℕ). digits 8 (slice_index ns 0) ++ (digits 8 n ++ x)) (second ns) last

ends_filled : (rest : List FieldLayout) (ns line : List ℕ) → list_all (λ f. not f.derived) rest ≡ true
    → length line ≡ 24 + total_width rest
    → filled_in (number "a" 5 ∷ number "b" 8 ∷ number "c" 8 ∷ rest) ns (drop 3 line)
    ≡ digits 5 (slice_index ns 0) ++ (digits 8 (slice_index ns 1) ++ (digits 8 (slice_index ns 2) ++ drop 24 line))
ends_filled rest ns line h e =
    let at : drop 8 (drop 8 (drop 5 (drop 3 line))) ≡ drop 24 line =
    ap (λ (x : List ℕ). drop 8 (drop 8 x)) (drop-drop 5 3 line) ∙ ap (drop 8) (drop-drop 8 8 line) ∙ drop-drop 8 16 line in
    let last : filled_in rest (drop 1 (drop 1 (drop 1 ns))) (drop 8 (drop 8 (drop 5 (drop 3 line)))) ≡ drop 24 line
    = ap (filled_in rest (drop 1 (drop 1 (drop 1 ns)))) at
    ∙ plain_filled rest (drop 1 (drop 1 (drop 1 ns))) (drop 24 line) h (left_by 24 (total_width rest) line e) in
    ap₂ (λ (n : ℕ) (x : List ℕ). digits 5 (slice_index ns 0) ++ (digits 8 n ++ x)) (second ns)
    (ap₂ (λ (n : ℕ) (x : List ℕ). digits 8 n ++ x) (third ns) last)

group_filled : (ns line : List ℕ) → length line ≡ 28
    → filled_in (fields_after_type Grh) ns (drop 3 line) ≡ take 3 (drop 3 line) ++ (digits 5 (slice_index ns 0) ++ drop 11 line)
group_filled ns line e =
    let rest : List FieldLayout = drop 2 (fields_after_type Grh) in
    let at : drop 5 (drop 3 (drop 3 line)) ≡ drop 11 line = ap (drop 5) (drop-drop 3 3 line) ∙ drop-drop 5 6 line in
    ap (λ (x : List ℕ). take 3 (drop 3 line) ++ (digits 5 (slice_index ns 0) ++ x))
    (ap (filled_in rest (drop 1 ns)) at ∙ plain_filled rest (drop 1 ns) (drop 11 line) refl (left_by 11 17 line e))

numbered_filled : (kind : Kind) (ns line : List ℕ) → length line ≡ line_width kind
    → numbered_part kind ns line ≡ filled_in (fields_after_type kind) ns (drop 3 line)
numbered_filled Hdr ns line h = sym (plain_filled (fields_after_type Hdr) ns (drop 3 line) refl (left_by 3 98 line h))
numbered_filled Grh ns line h = sym (group_filled ns line h)
numbered_filled Grt ns line h = sym (ends_filled (drop 3 (fields_after_type Grt)) ns line refl h)
numbered_filled Trl ns line h = sym (ends_filled [] ns line refl h)
numbered_filled this_kind ns line h = sym (inside_filled (drop 2 (fields_after_type this_kind)) ns line refl h)

-- the line that a record is kept in, with numbers put in, is the full line of its row
pub full_line-numbered : (kind : Kind) (ns line : List ℕ) → length line ≡ line_width kind
    → full_line (row_of ns (record_in kind line)) ≡ letters kind ++ numbered_part kind ns line
full_line-numbered kind ns line h =
    full_filled kind line ns ∙ ap (λ (x : List ℕ). letters kind ++ x) (sym (numbered_filled kind ns line h))

-- ---- what the code sets, one number after another

-- a part in the place of what stands after a front
part_after : (x y part : List ℕ) (at : ℕ) → at ≡ length x → with_part at part (x ++ y) ≡ x ++ (part ++ drop (length part) y)
part_after x y part at e =
    let front : take at (x ++ y) ≡ x = ap (λ (n : ℕ). take n (x ++ y)) e ∙ take-append_seam x y in
    let back : drop (at + length part) (x ++ y) ≡ drop (length part) y =
    sym (drop-drop (length part) at (x ++ y))
    ∙ ap (drop (length part)) (ap (λ (n : ℕ). drop n (x ++ y)) e ∙ drop-append_seam x y) in
    ap₂ (λ (z t : List ℕ). z ++ (part ++ t)) front back

-- two numbers, one after the other
two_set : (at next : ℕ) (line p q one two : List ℕ) → at ≤ length line → next ≡ at + length p → one ≡ with_part at p line
    → two ≡ with_part next q one
    → two ≡ take at line ++ (p ++ (q ++ drop (next + length q) line))
two_set at next line p q one two within e f g =
    let begun : one ≡ (take at line ++ p) ++ drop next line =
    f ∙ ap (λ (n : ℕ). take at line ++ (p ++ drop n line)) (sym e) ∙ sym (append_assoc (take at line) p (drop next line)) in
    let long : next ≡ length (take at line ++ p) =
    omega (arith, e, length-append (take at line) p, length-take-le at line within) in
    g ∙ ap (with_part next q) begun ∙ part_after (take at line ++ p) (drop next line) q next long
    ∙ ap (λ (t : List ℕ). (take at line ++ p) ++ (q ++ t)) (drop-drop (length q) next line)
    ∙ append_assoc (take at line) p (q ++ drop (next + length q) line)

pub set_in_group_head : (ns line p one : List ℕ) (x : ℕ) → length line ≡ 28 → x ≡ slice_index ns 0 → p ≡ digits 5 x
    → one ≡ with_part 6 p line
    → one ≡ take 3 line ++ numbered_part Grh ns line
set_in_group_head ns line p one x h e f g =
    let begun : take 6 line ≡ take 3 line ++ take 3 (drop 3 line) = take-add 3 3 line in
    let part : p ≡ digits 5 (slice_index ns 0) = f ∙ ap (digits 5) e in
    let long : length p ≡ 5 = ap length f ∙ length-digits 5 x in
    g ∙ ap (λ (n : ℕ). take 6 line ++ (p ++ drop (6 + n) line)) long
    ∙ ap₂ (λ (z t : List ℕ). z ++ (t ++ drop 11 line)) begun part
    ∙ append_assoc (take 3 line) (take 3 (drop 3 line)) (digits 5 (slice_index ns 0) ++ drop 11 line)

pub set_inside : (kind : Kind) (ns line one two : List ℕ) (x y : ℕ) → (kind ≡ Hdr → ⊥) → (kind ≡ Grh → ⊥) → (kind ≡ Grt → ⊥)
    → (kind ≡ Trl → ⊥) → length line ≡ line_width kind
    → x ≡ slice_index ns 0 → y ≡ slice_index ns 1 → one ≡ with_part 3 (digits 8 x) line → two ≡ with_part 11 (digits 8 y) one
    → two ≡ take 3 line ++ numbered_part kind ns line
set_inside kind ns line one two x y h k l m wide e f g i =
    let least : 24 ≤ line_width kind = line_width_least kind in
    two_set 3 11 line (digits 8 x) (digits 8 y) one two (omega (arith, least, wide)) (omega (arith, length-digits 8 x)) g i
    ∙ ap (λ (n : ℕ). take 3 line ++ (digits 8 x ++ (digits 8 y ++ drop (11 + n) line))) (length-digits 8 y)
    ∙ ap₂ (λ (n j : ℕ). take 3 line ++ (digits 8 n ++ (digits 8 j ++ drop 19 line))) e f
    ∙ ap (λ (z : List ℕ). take 3 line ++ z) (sym (numbered_inside kind ns line h k l m))

-- the three numbers of GRT and TRL
pub set_at_ends : (ns line one two three : List ℕ) (x y z : ℕ) → 24 ≤ length line → x ≡ slice_index ns 0 → y ≡ slice_index ns 1
    → z ≡ slice_index ns 2
    → one ≡ with_part 3 (digits 5 x) line → two ≡ with_part 8 (digits 8 y) one → three ≡ with_part 16 (digits 8 z) two
    → three ≡ take 3 line
    ++ (digits 5 (slice_index ns 0) ++ (digits 8 (slice_index ns 1) ++ (digits 8 (slice_index ns 2) ++ drop 24 line)))
set_at_ends ns line one two three x y z wide e f g h i j =
    let both : two ≡ take 3 line ++ (digits 5 x ++ (digits 8 y ++ drop 16 line)) =
    two_set 3 8 line (digits 5 x) (digits 8 y) one two (omega (arith, wide)) (omega (arith, length-digits 5 x)) h i
    ∙ ap (λ (n : ℕ). take 3 line ++ (digits 5 x ++ (digits 8 y ++ drop (8 + n) line))) (length-digits 8 y) in
    let front : List ℕ = take 3 line ++ (digits 5 x ++ digits 8 y) in
    let same : two ≡ front ++ drop 16 line =
    both ∙ ap (λ (t : List ℕ). take 3 line ++ t) (sym (append_assoc (digits 5 x) (digits 8 y) (drop 16 line)))
    ∙ sym (append_assoc (take 3 line) (digits 5 x ++ digits 8 y) (drop 16 line)) in
    let long : 16 ≡ length front =
    omega (
      arith,
      wide,
      length-append (take 3 line) (digits 5 x ++ digits 8 y),
      length-append (digits 5 x) (digits 8 y),
      length-digits 5 x,
      length-digits 8 y,
      length-take-le 3 line (omega (arith, wide)),
    ) in
    j ∙ ap (with_part 16 (digits 8 z)) same ∙ part_after front (drop 16 line) (digits 8 z) 16 long
    ∙ ap (λ (n : ℕ). front ++ (digits 8 z ++ drop n (drop 16 line))) (length-digits 8 z)
    ∙ ap (λ (t : List ℕ). front ++ (digits 8 z ++ t)) (drop-drop 8 16 line)
    ∙ append_assoc (take 3 line) (digits 5 x ++ digits 8 y) (digits 8 z ++ drop 24 line)
    ∙ ap (λ (t : List ℕ). take 3 line ++ t) (append_assoc (digits 5 x) (digits 8 y) (digits 8 z ++ drop 24 line))
    ∙ ap₂ (λ (n m : ℕ). take 3 line ++ (digits 5 n ++ (digits 8 m ++ (digits 8 z ++ drop 24 line)))) e f
    ∙ ap
    (λ (n : ℕ). take 3 line ++ (digits 5 (slice_index ns 0) ++ (digits 8 (slice_index ns 1) ++ (digits 8 n ++ drop 24 line))))
    g

-- ---- the whole line

-- a line that was copied to the front of a text
pub copied : (line copy tail : List ℕ) → copy ≡ line → take (length line) (copy ++ tail) ≡ line
copied line copy tail e = ap (λ (z : List ℕ). take (length line) (z ++ tail)) e ∙ take-append_seam line tail

-- the record type is put over the first bytes of a line with its numbers, and the line end after it
pub line_set : (r : RecordValue) (ns line body name end tail rest begun whole text : List ℕ) (n : ℕ) → n ≡ length line
    → length line ≡ line_width r.kind → r ≡ record_in r.kind line
    → length body ≡ length line → body ≡ take 3 line ++ numbered_part r.kind ns line → name ≡ letters r.kind → end ≡ 13 ∷ 10 ∷ []
    → begun ≡ body ++ tail → whole ≡ name ++ drop 3 begun → text ≡ take n whole ++ (end ++ rest)
    → take (n + 2) text ≡ full_line (row_of ns r) ++ 13 ∷ 10 ∷ []
line_set r ns line body name end tail rest begun whole text n many wide carries long numbered named ended e f g =
    let part : List ℕ = numbered_part r.kind ns line in
    let least : 24 ≤ line_width r.kind = line_width_least r.kind in
    let three : length (take 3 line) ≡ 3 = length-take-le 3 line (omega (arith, least, wide)) in
    let cells : begun ≡ take 3 line ++ (part ++ tail) =
    e ∙ ap (λ (z : List ℕ). z ++ tail) numbered ∙ append_assoc (take 3 line) part tail in
    let after : drop 3 begun ≡ part ++ tail =
    ap (drop 3) cells ∙ ap (λ (m : ℕ). drop m (take 3 line ++ (part ++ tail))) (sym three)
    ∙ drop-append_seam (take 3 line) (part ++ tail) in
    let full : full_line (row_of ns r) ≡ letters r.kind ++ part =
    ap (λ (x : RecordValue). full_line (row_of ns x)) carries ∙ full_line-numbered r.kind ns line wide in
    let front : whole ≡ full_line (row_of ns r) ++ tail =
    f ∙ ap₂ (λ (z t : List ℕ). z ++ t) named after ∙ sym (append_assoc (letters r.kind) part tail)
    ∙ ap (λ (z : List ℕ). z ++ tail) (sym full) in
    let size : length (full_line (row_of ns r)) ≡ n =
    omega (
      arith,
      ap length full,
      length-append (letters r.kind) part,
      letters_long r.kind,
      long,
      ap length numbered,
      length-append (take 3 line) part,
      three,
      many,
    ) in
    let kept : take n whole ≡ full_line (row_of ns r) =
    ap₂ (λ (m : ℕ) (z : List ℕ). take m z) (sym size) front ∙ take-append_seam (full_line (row_of ns r)) tail in
    let line_end : List ℕ = 13 ∷ 10 ∷ [] in
    let all : text ≡ (full_line (row_of ns r) ++ line_end) ++ rest =
    g ∙ ap₂ (λ (z t : List ℕ). z ++ (t ++ rest)) kept ended ∙ sym (append_assoc (full_line (row_of ns r)) line_end rest) in
    let total : n + 2 ≡ length (full_line (row_of ns r) ++ line_end) =
    omega (arith, size, length-append (full_line (row_of ns r)) line_end) in
    ap₂ (λ (m : ℕ) (z : List ℕ). take m z) total all ∙ take-append_seam (full_line (row_of ns r) ++ line_end) rest
