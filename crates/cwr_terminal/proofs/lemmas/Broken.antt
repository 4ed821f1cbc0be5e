-- Texts and names, byte by byte.
use Rattle.std.proofs.Common.{◌≡◌, ℕ, ◌+◌, ◌<◌, ◌≤◌, Bool, true, false, List, [], ◌∷◌, ◌++◌, length, drop, get_or, cond, refl, sym, ap, ◌∙◌}
use Rattle.std.proofs.lemmas.List.{drop_all, drop_more}
use Rattle.cwr_terminal.specs.Format.Breaks.{begins_gap, breaks, broken, column_behind, column_of, columns, gap_end, may_break, new_line, shown_next, word_columns}
use Rattle.cwr_terminal.specs.Format.Shown.{begins_own, name_length}

-- ---- the columns of a word

pub word_by : (before b : ℕ) (text : List ℕ) (x : Bool) → may_break before (b ∷ text) ≡ x
    → word_columns before (b ∷ text) ≡ cond x 0 (column_of b + word_columns b text)
unfolding word_columns
word_by before b text x e = ap (λ (y : Bool). cond y 0 (column_of b + word_columns b text)) e

pub word_none : (before : ℕ) → word_columns before [] ≡ 0
unfolding word_columns
word_none before = refl

at_more : (before : ℕ) (text : List ℕ) (i : ℕ) (x : Bool) → i < length text → may_break before (drop i text) ≡ x
    → word_columns before (drop i text) ≡ cond x 0 (column_of (get_or text i 0) + word_columns (get_or text i 0) (drop (i + 1) text))
at_more before text i x h e =
    ap (word_columns before) (drop_more text i 0 h)
    ∙ word_by before (get_or text i 0) (drop (i + 1) text) x (ap (may_break before) (sym (drop_more text i 0 h)) ∙ e)

pub word_breaks : (before : ℕ) (text : List ℕ) (i : ℕ) → i < length text → may_break before (drop i text) ≡ true
    → word_columns before (drop i text) ≡ 0
word_breaks before text i h e = at_more before text i true h e

pub word_goes_on : (before : ℕ) (text : List ℕ) (i : ℕ) → i < length text → may_break before (drop i text) ≡ false
    → word_columns before (drop i text) ≡ column_of (get_or text i 0) + word_columns (get_or text i 0) (drop (i + 1) text)
word_goes_on before text i h e = at_more before text i false h e

pub word_ends : (before : ℕ) (text : List ℕ) (i : ℕ) → length text ≤ i → word_columns before (drop i text) ≡ 0
word_ends before text i h = ap (word_columns before) (drop_all i text h) ∙ word_none before

-- ---- what is shown of a text

broken_by : (indent width column before b : ℕ) (text : List ℕ)
    → broken indent width column before (b ∷ text)
    ≡ shown_next indent width column before (b ∷ text)
    ++ broken indent width (column_behind indent width column before (b ∷ text)) b text
unfolding broken
broken_by indent width column before b text = refl

pub broken_none : (indent width column before : ℕ) → broken indent width column before [] ≡ []
unfolding broken
broken_none indent width column before = refl

-- a line is broken at a byte, or goes on with it
pub broken_there : (indent width column before b : ℕ) (text : List ℕ) → breaks width column before (b ∷ text) ≡ true
    → broken indent width column before (b ∷ text) ≡ new_line indent ++ broken indent width indent b text
broken_there indent width column before b text e =
    broken_by indent width column before b text
    ∙ ap (λ (x : Bool). cond x (new_line indent) (b ∷ []) ++ broken indent width (cond x indent (column + columns (b ∷ []))) b text) e

pub broken_on : (indent width column before b : ℕ) (text : List ℕ) → breaks width column before (b ∷ text) ≡ false
    → broken indent width column before (b ∷ text) ≡ b ∷ broken indent width (column + columns (b ∷ [])) b text
broken_on indent width column before b text e =
    broken_by indent width column before b text
    ∙ ap (λ (x : Bool). cond x (new_line indent) (b ∷ []) ++ broken indent width (cond x indent (column + columns (b ∷ []))) b text) e

pub broken_more : (indent width column before : ℕ) (text : List ℕ) (i : ℕ) → i < length text
    → broken indent width column before (drop i text)
    ≡ shown_next indent width column before (drop i text)
    ++ broken indent width (column_behind indent width column before (drop i text)) (get_or text i 0) (drop (i + 1) text)
broken_more indent width column before text i h =
    ap (broken indent width column before) (drop_more text i 0 h)
    ∙ broken_by indent width column before (get_or text i 0) (drop (i + 1) text)
    ∙ ap (λ (l : List ℕ). shown_next indent width column before l
    ++ broken indent width (column_behind indent width column before l) (get_or text i 0) (drop (i + 1) text)) (sym (drop_more text i 0 h))

pub broken_ends : (indent width column before : ℕ) (text : List ℕ) (i : ℕ) → length text ≤ i
    → broken indent width column before (drop i text) ≡ []
broken_ends indent width column before text i h =
    ap (broken indent width column before) (drop_all i text h) ∙ broken_none indent width column before

-- ---- a name before a line

name_by : (b : ℕ) (rest : List ℕ) (n : ℕ) (x : Bool) → begins_own (b ∷ rest) ≡ x
    → name_length (b ∷ rest) n ≡ cond x (n + 2) (name_length rest (n + 1))
unfolding name_length
name_by b rest n x e = ap (λ (y : Bool). cond y (n + 2) (name_length rest (n + 1))) e

name_at : (line : List ℕ) (i : ℕ) (x : Bool) → i < length line → begins_own (drop i line) ≡ x
    → name_length (drop i line) i ≡ cond x (i + 2) (name_length (drop (i + 1) line) (i + 1))
name_at line i x h e =
    ap (λ (l : List ℕ). name_length l i) (drop_more line i 0 h)
    ∙ name_by (get_or line i 0) (drop (i + 1) line) i x (ap begins_own (sym (drop_more line i 0 h)) ∙ e)

pub name_ends : (line : List ℕ) (i : ℕ) → i < length line → begins_own (drop i line) ≡ true → name_length (drop i line) i ≡ i + 2
name_ends line i h e = name_at line i true h e

pub name_goes_on : (line : List ℕ) (i : ℕ) → i < length line → begins_own (drop i line) ≡ false
    → name_length (drop i line) i ≡ name_length (drop (i + 1) line) (i + 1)
name_goes_on line i h e = name_at line i false h e

no_name : (n : ℕ) → name_length [] n ≡ 0
unfolding name_length
no_name n = refl

pub name_none : (line : List ℕ) (i : ℕ) → length line ≤ i → name_length (drop i line) i ≡ 0
name_none line i h = ap (λ (l : List ℕ). name_length l i) (drop_all i line h) ∙ no_name i

-- ---- the last two spaces of a line

gap_by : (b : ℕ) (rest : List ℕ) (n found : ℕ) (x : Bool) → begins_gap (b ∷ rest) ≡ x
    → gap_end (b ∷ rest) n found ≡ gap_end rest (n + 1) (cond x (n + 2) found)
unfolding gap_end
gap_by b rest n found x e = ap (λ (y : Bool). gap_end rest (n + 1) (cond y (n + 2) found)) e

gap_at : (line : List ℕ) (i found : ℕ) (x : Bool) → i < length line → begins_gap (drop i line) ≡ x
    → gap_end (drop i line) i found ≡ gap_end (drop (i + 1) line) (i + 1) (cond x (i + 2) found)
gap_at line i found x h e =
    ap (λ (l : List ℕ). gap_end l i found) (drop_more line i 0 h)
    ∙ gap_by (get_or line i 0) (drop (i + 1) line) i found x (ap begins_gap (sym (drop_more line i 0 h)) ∙ e)

pub gap_found : (line : List ℕ) (i found : ℕ) → i < length line → begins_gap (drop i line) ≡ true
    → gap_end (drop i line) i found ≡ gap_end (drop (i + 1) line) (i + 1) (i + 2)
gap_found line i found h e = gap_at line i found true h e

pub gap_goes_on : (line : List ℕ) (i found : ℕ) → i < length line → begins_gap (drop i line) ≡ false
    → gap_end (drop i line) i found ≡ gap_end (drop (i + 1) line) (i + 1) found
gap_goes_on line i found h e = gap_at line i found false h e

no_gap : (n found : ℕ) → gap_end [] n found ≡ found
unfolding gap_end
no_gap n found = refl

pub gap_ends : (line : List ℕ) (i found : ℕ) → length line ≤ i → gap_end (drop i line) i found ≡ found
gap_ends line i found h = ap (λ (l : List ℕ). gap_end l i found) (drop_all i line h) ∙ no_gap i found
