-- What is shown of a text on a terminal.
use Rattle.std.specs.Prelude.{◌≡◌, ℕ, ◌+◌, ◌<◌, Bool, false, ◌&&◌, ◌==◌, nat_lt, List, [], ◌∷◌, ◌++◌, Option, Some, None, length, slice_index, take, drop, if◌then◌else◌}
use Rattle.cwr_terminal.specs.declared.styles.Lines.{Lines}
use Rattle.cwr_terminal.specs.declared.styles.Lines.TheVariants as kinds
use Rattle.cwr_terminal.specs.declared.styles.Style.{Style}
use Rattle.cwr_terminal.specs.declared.styles.TheConstants.{LONGEST}
use Rattle.cwr_terminal.specs.Format.Breaks.{broken, columns, gap_end, indent_in, is_explanation, label_length}
use Rattle.cwr_terminal.specs.Format.Colours.{coloured}

-- a colon and a space, which stand behind a name
abbrev pub begins_own : List ℕ → Bool
begins_own text = nat_lt 1 (length text) && (slice_index text 0 == 58) && (slice_index text 1 == 32)

-- how many bytes stand before a line's own text, with so many before these: those up to the first colon and space, or none
unfoldable pub name_length : List ℕ → ℕ → ℕ
name_length [] n = 0
name_length (b ∷ rest) n = if begins_own (b ∷ rest) then n + 2 else name_length rest (n + 1)

-- a line's own text begins behind the name of a file, where one stands before each line
abbrev pub own_from : Lines → List ℕ → ℕ
own_from kinds.Told line = 0
own_from kinds.Named line = name_length line 0
own_from kinds.Help line = 0

-- where the text begins that is broken, in a line's own text: that of an explanation, and each of help
abbrev pub text_from : Lines → List ℕ → Option ℕ
text_from kinds.Told own = if is_explanation own then Some label_length else None
text_from kinds.Named own = if is_explanation own then Some label_length else None
text_from kinds.Help own = Some (gap_end own 0 0)

-- its start as it is, and the text from there on broken, behind so many columns
abbrev pub broken_from : Option ℕ → ℕ → ℕ → List ℕ → List ℕ
broken_from None column from own = own
broken_from (Some width) column from own =
    let begun = column + columns (take from own) in
    take from own ++ broken (indent_in width begun from) width begun 32 (drop from own)

-- a line's own text behind so many columns: with its text broken, or else with the colour of its first word
abbrev pub shown_own : Option ℕ → Style → ℕ → List ℕ → List ℕ
shown_own (Some from) style column own = broken_from style.width column from own
shown_own None style column own = if style.coloured then coloured own else own

-- behind a name
abbrev pub shown_behind_name : Style → List ℕ → List ℕ → List ℕ
shown_behind_name style name own = name ++ shown_own (text_from style.lines own) style (columns name) own

-- a line, without what ends it: longer ones are as they are
unfoldable pub shown_line : Style → List ℕ → List ℕ
shown_line style line =
    if nat_lt LONGEST (length line) then line
    else shown_behind_name style (take (own_from style.lines line) line) (drop (own_from style.lines line) line)

-- a text behind what has begun its first line
unfoldable pub shown_after : Style → List ℕ → List ℕ → List ℕ
shown_after style line [] = shown_line style line
shown_after style line (b ∷ text) =
    if b == 10 then shown_line style line ++ 10 ∷ shown_after style [] text
    else shown_after style (line ++ b ∷ []) text

-- a text, line by line, or as it is
abbrev pub shown_text : Option Style → List ℕ → List ℕ
shown_text None text = text
shown_text (Some style) text = shown_after style [] text

abbrev pub HasNoLineFeed : List ℕ → Type 0
HasNoLineFeed text = (k : ℕ) → k < length text → (slice_index text k == 10) ≡ false
