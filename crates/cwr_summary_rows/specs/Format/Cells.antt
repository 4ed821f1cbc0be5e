-- A cell of a row, as it stands in each form.
use Rattle.std.specs.Prelude.{ℕ, ◌+◌, ◌-◌, ◌/◌, ◌%◌, ◌==◌, List, [], ◌∷◌, ◌++◌, codes, decimal, length, replicate, Option, Some, None, option_map, if◌then◌else◌}
use Rattle.hex.specs.Hex.{encode_lower}
use Rattle.json.specs.Print.{escape}
use Rattle.cwr_json.specs.declared.encodings.Encoding.TheVariants.{Latin1}
use Rattle.cwr_json.specs.Format.Encodings.{characters}
use Rattle.cwr_tables.specs.Format.Tables.{cell_text}
use Rattle.cwr_summary_rows.specs.declared.forms.Form.{Form}
use Rattle.cwr_summary_rows.specs.declared.forms.Form.TheVariants.{Names, Words, Csv, Json}

-- ---- a cell after others, with its name

-- in words a value stands so far from the left
abbrev pub margin : ℕ
margin = 23

-- what stands before the value
abbrev pub start : Form → List ℕ → List ℕ
start Names name = codes "," ++ name
start Words name = codes "  " ++ name ++ replicate (margin - 2 - length name) 32
start Csv name = codes ","
start Json name = codes ",\"" ++ name ++ codes "\":"

-- what stands behind it
abbrev pub end : Form → List ℕ
end Names = []
end Words = codes "\n"
end Csv = []
end Json = []

-- a cell without a value: in words it is left out
abbrev pub blank : Form → List ℕ → List ℕ
blank Names name = start Names name
blank Words name = []
blank Csv name = start Csv name
blank Json name = start Json name ++ codes "null"

-- a cell with the text of its value, if it has one
abbrev pub cell : Form → List ℕ → Option (List ℕ) → List ℕ
cell form name None = blank form name
cell form name (Some text) = start form name ++ text ++ end form

-- ---- values

-- in words a 0 is left out
abbrev pub told : Form → Option ℕ → Option ℕ
told Words None = None
told Words (Some n) = if n == 0 then None else Some n
told form n = n

-- a number
abbrev pub number_cell : Form → List ℕ → Option ℕ → List ℕ
number_cell form name n = cell form name (option_map decimal (told form n))

-- hundredths of a percent, as percent with two decimals
abbrev pub percent : ℕ → List ℕ
percent n = decimal (n / 100) ++ codes "." ++ (48 + n / 10 % 10) ∷ (48 + n % 10) ∷ []

abbrev pub share_cell : Form → List ℕ → Option ℕ → List ℕ
share_cell form name n = cell form name (option_map percent (told form n))

-- bytes of a transmission or of a line, each shown as the character of ISO 8859-1, and in words as it is
abbrev pub shown : Form → List ℕ → List ℕ
shown Names text = text
shown Words text = text
shown Csv text = cell_text (characters Latin1 text)
shown Json text = codes "\"" ++ escape (characters Latin1 text) ++ codes "\""

-- none are blank
abbrev pub if_any : List ℕ → Option (List ℕ)
if_any [] = None
if_any (b ∷ rest) = Some (b ∷ rest)

abbrev pub bytes_cell : Form → List ℕ → List ℕ → List ℕ
bytes_cell form name text = cell form name (option_map (shown form) (if_any text))

-- a digest in hexadecimal digits, the first of each byte for its upper four bits
abbrev pub in_quotes : Form → List ℕ → List ℕ
in_quotes Json text = codes "\"" ++ text ++ codes "\""
in_quotes form text = text

abbrev pub digest_cell : Form → List ℕ → Option (List ℕ) → List ℕ
digest_cell form name digest = cell form name (option_map (λ d. in_quotes form (encode_lower d)) digest)
