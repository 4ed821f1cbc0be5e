-- What a misplaced line points to, in words.
use Rattle.std.specs.Prelude.{ℕ, ◌==◌, Bool, true, false, List, [], ◌∷◌, ◌++◌, codes, decimal, Option, Some, if◌then◌else◌}
use Rattle.std.specs.List.{concat}
use Rattle.cwr_fields.specs.declared.codes.TransactionType.TheVariants.{Agreement}
use Rattle.cwr_shape.specs.declared.stages.Stage.{Stage}
use Rattle.cwr_shape.specs.declared.stages.Stage.TheVariants.{Within}
use Rattle.cwr_shape.specs.declared.symbols.Symbol.{Symbol}
use Rattle.cwr_causes.specs.declared.misplacements.Gap.{Gap}
use Rattle.cwr_causes.specs.declared.misplacements.Gap.TheVariants.{FileHead, Groups, GroupHead, GroupFront, Transactions, Header, Front}
use Rattle.cwr_causes.specs.declared.misplacements.Gap.TheVariants.{Records, End, GroupFoot}
use Rattle.cwr_causes.specs.declared.misplacements.Misplacement.{Misplacement}
use Rattle.cwr_causes.specs.declared.misplacements.Misplacement.TheVariants.{Missing, SecondFile, Moved, GoesOn, HeaderNumber, Unknown}
use Rattle.cwr_causes.specs.declared.misplaced_words.LinePlace.{LinePlace}
use Rattle.cwr_causes.specs.declared.sequences.RecordNumbers.{RecordNumbers}
use Rattle.cwr_causes.specs.Format.ComingTexts.{symbol_words}
use Rattle.cwr_causes.specs.Format.Texts.{label_words}

-- ---- records of which one is meant

-- what stands before a symbol where another one stands before that
abbrev pub or_separator : Bool → List ℕ
or_separator follows = if follows then codes " or " else []

abbrev pub one_alternative : Bool → Symbol → List ℕ
one_alternative follows symbol = or_separator follows ++ symbol_words symbol

-- the one or the other of the symbols, where one stands before them or none does
unfoldable pub alternatives_after : Bool → List Symbol → List ℕ
alternatives_after follows [] = []
alternatives_after follows (symbol ∷ rest) = one_alternative follows symbol ++ alternatives_after true rest

unfoldable pub alternatives : List Symbol → List ℕ
alternatives symbols = alternatives_after false symbols

-- ---- what is missing

-- the header of a transaction
unfoldable pub header_gap : ℕ → List ℕ
header_gap transaction = concat (codes "the header of transaction " ∷ decimal transaction ∷ codes " is missing before this line, or stands after it" ∷ [])

-- that and records after it
unfoldable pub front_gap : ℕ → ℕ → List ℕ
front_gap transaction last =
    concat
    (codes "the header of transaction " ∷ decimal transaction ∷ codes " and its records up to sequence " ∷ decimal last
    ∷ codes " are missing before this line, or stand after it" ∷ [])

-- one record in mid-transaction
unfoldable pub record_gap : ℕ → List ℕ
record_gap sequence =
    concat (codes "the record with sequence " ∷ decimal sequence ∷ codes " is missing before this line, or stands after it" ∷ [])

-- several
unfoldable pub records_gap : ℕ → ℕ → List ℕ
records_gap first last =
    concat
    (codes "the records with sequence " ∷ decimal first ∷ codes " to " ∷ decimal last
    ∷ codes " are missing before this line, or stand after it" ∷ [])

abbrev pub gap_words : Gap → List ℕ
gap_words FileHead = codes "HDR, with which a file begins, is missing before this line, or stands after it where lines were sorted or moved"
gap_words Groups = codes "the groups of the file are missing before this line, or stand after it"
gap_words GroupHead = codes "the GRH of this group is missing before this line, or stands after it"
gap_words GroupFront =
    codes "the GRH and the first records of this group are missing before this line, or the line before it stands too early"
gap_words Transactions = codes "the transactions of this group are missing before this line, or stand after it"
gap_words (Header transaction) = header_gap transaction
gap_words (Front transaction last) = front_gap transaction last
gap_words (Records first last) = if first == last then record_gap first else records_gap first last
gap_words End = codes "the last records of the transaction before it are missing before this line, or stand elsewhere"
gap_words GroupFoot = codes "the GRT of the group before it is missing before this line, or stands after it"

-- that a line of the kind with those letters may stand here
unfoldable pub here_start : List ℕ → List ℕ
here_start letters = concat (codes ": " ∷ letters ∷ codes " may stand here after " ∷ [])

-- after one of the symbols
unfoldable pub here_after : List ℕ → List Symbol → List ℕ
here_after letters symbols = here_start letters ++ alternatives symbols

unfoldable pub here_words : List ℕ → List Symbol → List ℕ
here_words letters [] = []
here_words letters (symbol ∷ symbols) = here_after letters (symbol ∷ symbols)

-- that is missing; a line of the kind may stand there after one of these
unfoldable pub missing_words : Gap → List ℕ → List Symbol → List ℕ
missing_words gap letters letting = (gap_words gap ++ codes "; don't delete this one") ++ here_words letters letting

unfoldable pub missing_line : Gap → List ℕ → List Symbol → List ℕ
missing_line gap letters letting =
    concat (label_words (codes "points to") ∷ missing_words gap letters letting ∷ codes "\n" ∷ [])

-- ---- what else a line shows

-- that a line of the kind with those letters may stand after others
unfoldable pub place_start : List ℕ → List ℕ
place_start letters = letters ++ codes " may stand after "

-- nothing is missing; a line of the kind may stand after one of these
unfoldable pub goes_on_words : List ℕ → List Symbol → List ℕ
goes_on_words letters preceding =
    (codes "the numbers of this line go on from those of the line before, so nothing is missing between them: it stands in a wrong place, or its kind or that of the line before is mistyped; "
    ++ place_start letters)
    ++ alternatives preceding

unfoldable pub goes_on_line : List ℕ → List Symbol → List ℕ
goes_on_line letters preceding =
    concat (label_words (codes "points to") ∷ goes_on_words letters preceding ∷ codes "\n" ∷ [])

-- the numbers of a record
unfoldable pub numbers_words : RecordNumbers → List ℕ
numbers_words numbers =
    concat (codes "record " ∷ decimal numbers.own ∷ codes " of transaction " ∷ decimal numbers.transaction ∷ [])

-- these come before those of the line before
unfoldable pub moved_line : RecordNumbers → RecordNumbers → List ℕ
moved_line before here =
    concat
    (label_words (codes "points to") ∷ codes "this line has the numbers of " ∷ numbers_words here
    ∷ codes ", and the line before it those of " ∷ numbers_words before
    ∷ codes ": one of the two was moved or stands twice, or two files were put together\n" ∷ [])

-- an HDR after other faults, after so many bytes
unfoldable pub later_head_line : ℕ → List ℕ
later_head_line offset =
    concat
    (label_words (codes "points to")
    ∷ codes "HDR stands in the first line alone: if what stands before this one is no transmission, remove that; if a second file begins here, cut them apart after byte "
    ∷ decimal offset
    ∷ codes ", mend each, and then put them together: cwr join -o OUT --new A B; if lines were sorted or moved, take the file as it was before that\n" ∷ [])

-- a second file begins, after so many bytes
unfoldable pub first_head_line : ℕ → List ℕ
first_head_line offset =
    concat
    (label_words (codes "points to")
    ∷ codes "a second file begins with this line, and the end of the first one is missing: cut them apart after byte "
    ∷ decimal offset ∷ codes ", mend each, and then put them together: cwr join -o OUT --new A B\n" ∷ [])

-- an HDR in that place
abbrev pub second_file_line : LinePlace → List ℕ
second_file_line place = if place.is_later then later_head_line place.offset else first_head_line place.offset

-- it has the number of a header, and is none
unfoldable pub header_number_line : List ℕ
header_number_line =
    label_words (codes "points to")
    ++ codes "record sequence 0 is that of a header, and this line is none: its kind or its number is mistyped; don't delete it\n"

-- the line has the numbers that belong there, and its kind is none
unfoldable pub mistyped_line : List ℕ
mistyped_line =
    label_words (codes "points to")
    ++ codes "the numbers of this line are those that belong here: its record type is mistyped; don't delete it\n"

-- what the line shows, of a kind with those letters and in that place, where it may stand here after one of the first symbols, and in a
-- transaction after one of the second
abbrev pub misplacement_words : List ℕ → LinePlace → List Symbol → List Symbol → Misplacement → List ℕ
misplacement_words letters place letting preceding (Missing gap) = missing_line gap letters letting
misplacement_words letters place letting preceding SecondFile = second_file_line place
misplacement_words letters place letting preceding (Moved before here) = moved_line before here
misplacement_words letters place letting preceding GoesOn = goes_on_line letters preceding
misplacement_words letters place letting preceding HeaderNumber = header_number_line
misplacement_words letters place letting preceding Unknown = []

-- in an agreement the last records are missing, or the numbers go on
abbrev pub are_roles_asked : Option Stage → Misplacement → Bool
are_roles_asked (Some (Within Agreement step)) (Missing End) = true
are_roles_asked (Some (Within Agreement step)) GoesOn = true
are_roles_asked stage shown = false

-- which roles a block of IPA has
unfoldable pub role_line : List ℕ
role_line =
    label_words (codes "note")
    ++ codes "each block of IPA has at least one of role AS and one of role AC: if no IPA is missing, the role of one is mistyped\n"

abbrev pub role_words : Bool → List ℕ
role_words asked = if asked then role_line else []

-- what a line points to that names no record, where its numbers belong there or not
abbrev pub mistyped_words : Bool → List ℕ
mistyped_words belongs = if belongs then mistyped_line else []
