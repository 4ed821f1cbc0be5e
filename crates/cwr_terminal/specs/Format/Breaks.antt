-- Where lines are broken.
use Rattle.std.specs.Prelude.{ℕ, ◌+◌, Bool, not, ◌&&◌, ◌||◌, ◌==◌, nat_le, nat_lt, List, [], ◌∷◌, ◌++◌, length, take, drop, replicate, slice_index, if◌then◌else◌}
use Rattle.std.specs.List.{list_all, sum_by}
use Rattle.cwr_terminal.specs.declared.styles.TheConstants.{DEEPEST}

-- how many columns a byte takes: in UTF-8 a character's first byte takes one, the others none, and control bytes none
abbrev pub column_of : ℕ → ℕ
column_of b = if nat_lt b 32 || (not (nat_lt b 128) && nat_lt b 192) then 0 else 1

abbrev pub columns : List ℕ → ℕ
columns text = sum_by column_of text

-- a line may be broken at the byte that the text begins with: a space, and neither the byte before it nor the one behind it is one
abbrev pub may_break : ℕ → List ℕ → Bool
may_break before text =
    nat_lt 1 (length text) && (slice_index text 0 == 32) && not (before == 32) && not (slice_index text 1 == 32)

-- how many columns the text takes up to where it may be broken
unfoldable pub word_columns : ℕ → List ℕ → ℕ
word_columns before [] = 0
word_columns before (b ∷ text) = if may_break before (b ∷ text) then 0 else column_of b + word_columns b text

-- it is broken there: so many columns stand before it, and with the word behind it there would be more than the width
abbrev pub breaks : ℕ → ℕ → ℕ → List ℕ → Bool
breaks width column before text =
    may_break before text && nat_lt width (column + 1 + word_columns 32 (drop 1 text))

-- what stands in place of that space: a line feed, and spaces up to the column in which the text began
abbrev pub new_line : ℕ → List ℕ
new_line indent = 10 ∷ replicate indent 32

-- what is shown of the text's first byte, and how many columns stand before what follows
abbrev pub shown_next : ℕ → ℕ → ℕ → ℕ → List ℕ → List ℕ
shown_next indent width column before text = if breaks width column before text then new_line indent else take 1 text

abbrev pub column_behind : ℕ → ℕ → ℕ → ℕ → List ℕ → ℕ
column_behind indent width column before text =
    if breaks width column before text then indent else column + columns (take 1 text)

-- a text broken at words, so many columns behind the start of its line, and behind that byte
unfoldable pub broken : ℕ → ℕ → ℕ → ℕ → List ℕ → List ℕ
broken indent width column before [] = []
broken indent width column before (b ∷ text) =
    shown_next indent width column before (b ∷ text)
    ++ broken indent width (column_behind indent width column before (b ∷ text)) b text

-- where the text of an explanation begins
abbrev pub label_length : ℕ
label_length = 12

abbrev pub is_of_label : ℕ → Bool
is_of_label b = (not (nat_lt b 97) && nat_lt b 123) || (b == 32)

-- a label of small letters and spaces, between two spaces and one, or no letters where the text of the line before goes on
abbrev pub is_label : List ℕ → Bool
is_label label =
    (slice_index label 0 == 32) && (slice_index label 1 == 32) && (slice_index label 11 == 32) && list_all is_of_label label

-- a line of an explanation: such a label, and text from the thirteenth byte on
abbrev pub is_explanation : List ℕ → Bool
is_explanation line = nat_lt label_length (length line) && is_label (take label_length line)

abbrev pub begins_gap : List ℕ → Bool
begins_gap text = nat_lt 1 (length text) && (slice_index text 0 == 32) && (slice_index text 1 == 32)

-- where the text of a line of help begins: how many bytes stand before what is behind the last two spaces, with so many before these,
-- where that is so many up to there
unfoldable pub gap_end : List ℕ → ℕ → ℕ → ℕ
gap_end [] n found = found
gap_end (b ∷ rest) n found = gap_end rest (n + 1) (if begins_gap (b ∷ rest) then n + 2 else found)

-- lines that begin in that column have 20 columns and more, and it isn't too far right
abbrev pub has_room : ℕ → ℕ → Bool
has_room width column = nat_le column DEEPEST && nat_le (column + 20) width

-- how far the lines are indented into which a text is broken: as far as it begins, or else as far as it does in a line without a name
-- before it, where that leaves room
abbrev pub indent_in : ℕ → ℕ → ℕ → ℕ
indent_in width begun from = if has_room width begun then begun else if has_room width from then from else 0
