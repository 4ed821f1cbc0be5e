-- The colours of the words that lines begin with.
use Rattle.std.specs.Prelude.{ℕ, Bool, ◌||◌, nat_lt, List, ◌∷◌, ◌++◌, Option, Some, None, codes, length, drop, take, if◌then◌else◌}
use Rattle.std.specs.List.{position_or_len}
use Rattle.std.specs.Str.{bytes_eq}

-- a word ends at a space, or a control byte
abbrev pub ends_word : ℕ → Bool
ends_word b = nat_lt b 33

abbrev pub first_word : List ℕ → List ℕ
first_word line = take (position_or_len ends_word line) line

-- what the input can't be, or lacks
abbrev pub is_red : List ℕ → Bool
is_red word =
    bytes_eq word (codes "REFUSED") || bytes_eq word (codes "TRUNCATED") || bytes_eq word (codes "FAULT")
    || bytes_eq word (codes "FAULTS")

-- what may be sent back
abbrev pub is_yellow : List ℕ → Bool
is_yellow word = bytes_eq word (codes "FINDING") || bytes_eq word (codes "ADVICE")

-- red, yellow and green
abbrev pub colour_of : List ℕ → Option (List ℕ)
colour_of word =
    if is_red word then Some (27 ∷ codes "[31m")
    else if is_yellow word then Some (27 ∷ codes "[33m")
    else if bytes_eq word (codes "GOOD") then Some (27 ∷ codes "[32m")
    else None

-- the terminal's own colour
abbrev pub own_colour : List ℕ
own_colour = 27 ∷ codes "[39m"

abbrev pub coloured_with : Option (List ℕ) → List ℕ → List ℕ
coloured_with None line = line
coloured_with (Some colour) line = colour ++ first_word line ++ own_colour ++ drop (length (first_word line)) line

-- a line with the colour of its first word, where that has one
abbrev pub coloured : List ℕ → List ℕ
coloured line = coloured_with (colour_of (first_word line)) line
