-- A line that ended has no control byte where what was taken of it has none: it was filled up with spaces.
use Rattle.std.proofs.Common.{◌≡◌, ℕ, zero, suc, ◌-◌, Bool, true, false, cond, not, ◌&&◌, List, [], ◌∷◌, ◌++◌, length, take, drop}
use Rattle.std.proofs.Common.{refl, subst, ap, ap₂, ◌∙◌}
use Rattle.std.specs.Prelude.{Option, Some, None, nat_lt, replicate}
use Rattle.std.specs.Str.{bytes_eq}
use Rattle.std.proofs.lemmas.List.{append-nil}
use Rattle.std.proofs.lemmas.List.Folds.{list_all-append}
use Rattle.cwr_fields.specs.Format.Bytes.{is_plain, is_control, filled}
use Rattle.cwr_fields.specs.declared.kinds.Kind.{Kind}
use Rattle.cwr_lines.specs.declared.lines.LineEnd.{LineEnd}
use Rattle.cwr_lines.specs.declared.lines.LineEnd.TheVariants.{Line}
use Rattle.cwr_fields.specs.Format.Layouts.{line_width}
use Rattle.cwr_lines.specs.Format.Lines.{without_cr}
use Rattle.cwr_lines.specs.Steps.Held.{IsKept, filled_as, held_body, line_kept, return_if}
use Rattle.cwr_lines.proofs.lemmas.CellParts.{plain_take}
use Rattle.cwr_lines.proofs.lemmas.RowLaws.{without_cr-added}

spaces_plain : (n : ℕ) → is_plain (replicate n 32) ≡ true
spaces_plain zero = refl
spaces_plain (suc n) = spaces_plain n

filled_plain : (n : ℕ) (xs : List ℕ) → is_plain xs ≡ true → is_plain (filled n xs) ≡ true
filled_plain n xs h =
    list_all-append (λ b. nat_lt b 256 && not (is_control b)) xs (replicate (n - length xs) 32)
    ∙ ap₂ (λ (x y : Bool). x && y) h (spaces_plain (n - length xs))

filled_as_plain : (kind : Option Kind) (body : List ℕ) → is_plain body ≡ true → is_plain (filled_as kind body) ≡ true
filled_as_plain None body h = filled_plain 3 body h
filled_as_plain (Some this_kind) body h = filled_plain (line_width this_kind) body h

cut_plain : (b : Bool) (n : ℕ) (xs : List ℕ) → is_plain xs ≡ true → is_plain (cond b (take n xs) xs) ≡ true
cut_plain true n xs h = plain_take n xs h
cut_plain false n xs h = h

body_plain : (xs : List ℕ) (r : Bool) → is_plain xs ≡ true → is_plain (without_cr (xs ++ return_if r)) ≡ true
body_plain xs true h = ap is_plain (without_cr-added xs) ∙ h
body_plain xs false h =
    ap (λ (l : List ℕ). is_plain (without_cr l)) (append-nil xs)
    ∙ cut_plain (bytes_eq (drop (length xs - 1) xs) (13 ∷ [])) (length xs - 1) xs h

line_plain : (text : List ℕ) (count : ℕ) (has_return : Bool) (kind : Option Kind) → IsKept text count has_return kind Line
    → is_plain (take count text) ≡ true → is_plain text ≡ true
line_plain text count has_return kind k h =
    let parts : text ≡ filled_as kind (held_body (line_kept text count has_return Line)) = k.keeps.parts in
    ap is_plain parts
    ∙ filled_as_plain kind (held_body (line_kept text count has_return Line)) (body_plain (take count text) has_return h)

pub ended_plain : (text : List ℕ) (count : ℕ) (has_return : Bool) (kind : Option Kind) (ended : LineEnd)
    → IsKept text count has_return kind ended → (ended ≡ Line) × (is_plain (take count text) ≡ true) → is_plain text ≡ true
ended_plain text count has_return kind ended k h =
    line_plain text count has_return kind (subst (IsKept text count has_return kind) h.0 k) h.1
