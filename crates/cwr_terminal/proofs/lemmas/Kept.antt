-- What is shown of a line says all that the line says.
use Rattle.std.proofs.Common.{◌≡◌, ℕ, zero, suc, ◌+◌, Bool, true, false, cond, List, [], ◌∷◌, ◌++◌, Option, Some, None, IfSome, codes, length, take, drop, nat_lt, bytes_eq, refl, sym, ap, ap₂, ◌∙◌, subst, subst₂, append-nil, take-append-drop}
use Rattle.std.proofs.lemmas.List.Concat.{flat_map-append}
use Rattle.cwr_terminal.specs.declared.styles.Style.{Style}
use Rattle.cwr_terminal.specs.Format.Breaks.{broken, columns, indent_in, new_line}
use Rattle.std.specs.List.{position_or_len}
use Rattle.cwr_terminal.specs.Format.Colours.{colour_of, coloured, coloured_with, ends_word, first_word, is_red, is_yellow, own_colour}
use Rattle.cwr_terminal.specs.Format.Laws.{NothingIsLost, SaysTheSame, break, joined, kept, mark, said, shown}
use Rattle.cwr_terminal.specs.Format.Shown.{broken_from, own_from, shown_behind_name, shown_line, shown_own, text_from}
use Rattle.cwr_terminal.proofs.lemmas.Fitting.{broken_to_fit}

-- bytes that are kept
same : (text : List ℕ) → SaysTheSame text text
same text = (kept text ∷ [], sym (append-nil text), sym (append-nil text))

-- one text behind another
says_both : (a x b y : List ℕ) → SaysTheSame a x → SaysTheSame b y → SaysTheSame (a ++ b) (x ++ y)
says_both a x b y first then = (
  first.0 ++ then.0,
  ap₂ (λ (l m : List ℕ). l ++ m) first.1 then.1 ∙ sym (flat_map-append said first.0 then.0),
  ap₂ (λ (l m : List ℕ). l ++ m) first.2 then.2 ∙ sym (flat_map-append shown first.0 then.0),
)

says_break : (indent : ℕ) → SaysTheSame (32 ∷ []) (new_line indent)
says_break indent = (break indent ∷ [], refl, sym (append-nil (new_line indent)))

says_joined : (indent : ℕ) (first : List ℕ) (lines : List (List ℕ))
    → SaysTheSame (joined (32 ∷ []) first lines) (joined (new_line indent) first lines)
says_joined indent first [] = same first
says_joined indent first (line ∷ lines) =
    says_both first first ((32 ∷ []) ++ joined (32 ∷ []) line lines) (new_line indent ++ joined (new_line indent) line lines)
    (same first)
    (says_both (32 ∷ []) (new_line indent) (joined (32 ∷ []) line lines) (joined (new_line indent) line lines)
    (says_break indent) (says_joined indent line lines))

-- a text that is broken
says_broken : (indent width column : ℕ) (text : List ℕ) → SaysTheSame text (broken indent width column 32 text)
says_broken indent width column text =
    let it = broken_to_fit indent width column text in
    subst₂ (λ (l m : List ℕ). SaysTheSame l m) (sym it.2.spaced) (sym it.2.indented) (says_joined indent it.0 it.1)

-- from some byte on
says_from : (width : Option ℕ) (column from : ℕ) (own : List ℕ) → SaysTheSame own (broken_from width column from own)
says_from None column from own = same own
says_from (Some width) column from own =
    let begun = column + columns (take from own) in
    let indent = indent_in width begun from in
    subst (λ (l : List ℕ). SaysTheSame l (take from own ++ broken indent width begun 32 (drop from own))) (take-append-drop from own)
    (says_both (take from own) (take from own) (drop from own) (broken indent width begun 32 (drop from own)) (same (take from own))
    (says_broken indent width begun (drop from own)))

-- ---- a line with the colour of its first word

says_mark : (digit : ℕ) → SaysTheSame [] (shown (mark digit))
says_mark digit = (mark digit ∷ [], refl, sym (append-nil (shown (mark digit))))

abbrev Marks : Option (List ℕ) → Type 0
Marks colour = IfSome colour (λ c. SaysTheSame [] c)

marks_by : (red yellow green : Bool)
    → Marks (cond red (Some (27 ∷ codes "[31m")) (cond yellow (Some (27 ∷ codes "[33m")) (cond green (Some (27 ∷ codes "[32m")) None)))
marks_by true yellow green = says_mark 49
marks_by false true green = says_mark 51
marks_by false false true = says_mark 50
marks_by false false false = tt

marks : (word : List ℕ) → Marks (colour_of word)
marks word = marks_by (is_red word) (is_yellow word) (bytes_eq word (codes "GOOD"))

-- a front of a line, and what is behind as many bytes
front_and_rest : (n : ℕ) (line : List ℕ) → take n line ++ drop (length (take n line)) line ≡ line
front_and_rest zero line = refl
front_and_rest (suc n) [] = refl
front_and_rest (suc n) (b ∷ line) = ap (λ (l : List ℕ). b ∷ l) (front_and_rest n line)

says_with : (colour : Option (List ℕ)) (line : List ℕ) → Marks colour → SaysTheSame line (coloured_with colour line)
says_with None line it = same line
says_with (Some colour) line it =
    let word = first_word line in
    let rest = drop (length (first_word line)) line in
    subst (λ (l : List ℕ). SaysTheSame l (colour ++ word ++ own_colour ++ rest))
    (ap (λ (l : List ℕ). l ++ rest) (append-nil word) ∙ front_and_rest (position_or_len ends_word line) line)
    (says_both (word ++ []) (colour ++ word ++ own_colour) rest rest
    (says_both word (colour ++ word) [] own_colour (says_both [] colour word word it (same word)) (says_mark 57))
    (same rest))

says_coloured : (line : List ℕ) → SaysTheSame line (coloured line)
says_coloured line = says_with (colour_of (first_word line)) line (marks (first_word line))

-- ---- a whole line

says_plain : (is_coloured : Bool) (own : List ℕ) → SaysTheSame own (cond is_coloured (coloured own) own)
says_plain true own = says_coloured own
says_plain false own = same own

says_own : (from : Option ℕ) (style : Style) (column : ℕ) (own : List ℕ) → SaysTheSame own (shown_own from style column own)
says_own None style column own = says_plain style.coloured own
says_own (Some from) style column own = says_from style.width column from own

says_behind : (style : Style) (name own : List ℕ) → SaysTheSame (name ++ own) (shown_behind_name style name own)
says_behind style name own =
    says_both name name own (shown_own (text_from style.lines own) style (columns name) own)
    (same name) (says_own (text_from style.lines own) style (columns name) own)

says_line : (is_long : Bool) (style : Style) (line : List ℕ)
    → SaysTheSame line (cond is_long line
    (shown_behind_name style (take (own_from style.lines line) line) (drop (own_from style.lines line) line)))
says_line true style line = same line
says_line false style line =
    subst (λ (l : List ℕ). SaysTheSame l (shown_behind_name style (take (own_from style.lines line) line) (drop (own_from style.lines line) line)))
    (take-append-drop (own_from style.lines line) line)
    (says_behind style (take (own_from style.lines line) line) (drop (own_from style.lines line) line))

pub nothing_is_lost : NothingIsLost
unfolding shown_line
nothing_is_lost style line = says_line (nat_lt 1024 (length line)) style line
