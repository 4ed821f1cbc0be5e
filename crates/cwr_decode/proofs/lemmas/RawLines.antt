-- The raw lines of a text that begins with whole lines.
use Rattle.std.proofs.Common.{◌≡◌, ℕ, suc, ◌-◌, List, [], ◌∷◌, ◌++◌, length, take, refl, ap, ◌∙◌, arith}
use Rattle.std.specs.List.{AllByRecursion, list_any, slice_split, onto_first}
use Rattle.std.proofs.lemmas.Bool.{or_parts}
use Rattle.std.proofs.lemmas.List.Splits.{length-slice_split, slice_split-cons_yes, slice_split-cons_no}
use Rattle.cwr_fields.proofs.lemmas.LineFeeds.{NoLf}
use Rattle.cwr_lines.specs.Format.Lines.{is_lf, raw_lines}
use Rattle.cwr_lines.proofs.lemmas.LineLaws.{text_of-cons}
use Rattle.cwr_decode.specs.Steps.Represents.{text_of}

split_line : (line rest : List ℕ) → NoLf line → slice_split is_lf (line ++ 10 ∷ rest) ≡ line ∷ slice_split is_lf rest
split_line [] rest h = slice_split-cons_yes is_lf 10 rest refl
split_line (b ∷ line) rest h =
    let p = or_parts (is_lf b) (list_any is_lf line) h in
    slice_split-cons_no is_lf b (line ++ 10 ∷ rest) p.0 ∙ ap (onto_first b) (split_line line rest p.1)

split_open : (bytes : List ℕ) → NoLf bytes → slice_split is_lf bytes ≡ bytes ∷ []
split_open [] h = refl
split_open (b ∷ bytes) h =
    let p = or_parts (is_lf b) (list_any is_lf bytes) h in
    slice_split-cons_no is_lf b bytes p.0 ∙ ap (onto_first b) (split_open bytes p.1)

raw_line : (line rest : List ℕ) → NoLf line → raw_lines (line ++ 10 ∷ rest) ≡ line ∷ raw_lines rest
raw_line line rest h =
    let parts : List (List ℕ) = slice_split is_lf rest in
    let some : length (line ∷ parts) - 1 ≡ suc (length parts - 1) = omega (arith, length-slice_split is_lf rest) in
    ap (λ (ps : List (List ℕ)). take (length ps - 1) ps) (split_line line rest h) ∙ ap (λ (n : ℕ). take n (line ∷ parts)) some

pub raw_begins : (lines : List (List ℕ)) (rest : List ℕ) → AllByRecursion NoLf lines
    → raw_lines (text_of lines ++ rest) ≡ lines ++ raw_lines rest
raw_begins [] rest h = refl
raw_begins (line ∷ lines) rest h =
    ap raw_lines (text_of-cons line lines rest) ∙ raw_line line (text_of lines ++ rest) h.0
    ∙ ap (λ (l : List (List ℕ)). line ∷ l) (raw_begins lines rest h.1)

-- a line that has no line feed yet is none of them
pub raw_open : (bytes : List ℕ) → NoLf bytes → raw_lines bytes ≡ []
raw_open bytes h = ap (λ (ps : List (List ℕ)). take (length ps - 1) ps) (split_open bytes h)

-- so is the line after them
pub raw_after : (lines : List (List ℕ)) (line rest : List ℕ) → AllByRecursion NoLf lines → NoLf line
    → raw_lines (text_of lines ++ (line ++ 10 ∷ rest)) ≡ lines ++ line ∷ raw_lines rest
raw_after lines line rest h no_lf =
    raw_begins lines (line ++ 10 ∷ rest) h ∙ ap (λ (l : List (List ℕ)). lines ++ l) (raw_line line rest no_lf)
