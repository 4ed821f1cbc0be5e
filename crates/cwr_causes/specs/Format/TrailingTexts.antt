-- What is said of the bytes after a transmission.
use Rattle.std.specs.Prelude.{ℕ, ◌==◌, ◌&&◌, ◌||◌, Bool, true, false, List, [], ◌∷◌, ◌++◌, codes, decimal, Option, None, Some, if◌then◌else◌}
use Rattle.std.specs.List.{concat}
use Rattle.std.specs.Option.{is_some}
use Rattle.std.specs.Str.{bytes_eq}
use Rattle.cwr_fields.specs.Format.Kinds.{kind_of}
use Rattle.cwr_causes.specs.declared.trailing.Trailing.{Trailing}
use Rattle.cwr_causes.specs.declared.trailing_words.Remainder.{Remainder}
use Rattle.cwr_causes.specs.declared.trailing_words.Remainder.TheVariants.{Filler, Records, Signature, Unknown}
use Rattle.cwr_causes.specs.Format.Openings.{note_words}
use Rattle.cwr_causes.specs.Format.Texts.{label_words}

-- how many bytes stand there
unfoldable pub count_words : ℕ → List ℕ
count_words count = if count == 1 then codes "1 byte stands" else decimal count ++ codes " bytes stand"

-- that there may be more of them
abbrev pub least_words : Bool → List ℕ
least_words true = []
least_words false = codes "at least "

-- that so many bytes begin as another transmission does, and how both become one file
unfoldable pub second_line : ℕ → List ℕ
second_line count =
    concat
    (label_words (codes "note") ∷ codes "it begins with HDR, as a second transmission does: put the last " ∷ decimal count
    ∷ codes " bytes into a file of their own, check both, and put them together: cwr join -o OUT --new A B; but if it is the same one again, remove it, as each work would be sent twice\n" ∷ [])

-- the same where it isn't known how many these are
unfoldable pub second_of_many : List ℕ
second_of_many =
    label_words (codes "note")
    ++ codes "it begins with HDR, as a second transmission does: check that one in a file of its own\n"

-- they begin as the signature of a mail does
abbrev pub is_signature : List ℕ → Bool
is_signature (a ∷ b ∷ c ∷ rest) = (a == 45) && ((b == 45) && ((c == 32) || ((c == 13) || (c == 10))))
is_signature begins = false

-- What they look like that begin otherwise: all of them fill up a file, as blank lines and the end mark of DOS do, or they are the
-- signature of a mail, or begin as a record does.
abbrev pub remainder_of : Trailing → Remainder
remainder_of found =
    if found.is_filler && found.is_all then Filler else (if is_signature found.begins then Signature else (if is_some (kind_of found.begins) then Records else Unknown))

abbrev pub remainder_said : Remainder → Option (List ℕ)
remainder_said Filler = Some (codes "only blanks, line ends, zeros or end marks of DOS (byte 26) stand there: nothing is lost without them")
remainder_said Signature = Some (codes "it begins as the signature of a mail does")
remainder_said Records = Some (codes "it begins as a record does: if it belongs to the transmission, put it before TRL, and mend the counts")
remainder_said Unknown = None

-- the same, if they do, and else what they look like
abbrev pub second_words : Trailing → List ℕ
second_words found =
    if bytes_eq found.begins (codes "HDR") then (if found.is_all then second_line found.bytes else second_of_many)
    else note_words (remainder_said (remainder_of found))

-- how many bytes stand after a transmission, and that nobody judges them
unfoldable pub after_words : List ℕ → Trailing → List ℕ
after_words name found =
    concat
    (label_words (codes "after") ∷ least_words found.is_all ∷ count_words found.bytes ∷ codes " in " ∷ name
    ∷ codes " after the transmission; what stands there isn't judged\n" ∷ [])

-- the same, and how they begin, where there are some
unfoldable pub trailing_words : List ℕ → Trailing → List ℕ
trailing_words name found =
    if found.bytes == 0 then [] else after_words name found ++ second_words found
