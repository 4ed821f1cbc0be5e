-- What a line that names no record looks like, and which other version of CWR a line names.
use Rattle.std.specs.Prelude.{ℕ, ◌-◌, ◌==◌, ◌&&◌, ◌||◌, nat_eq, nat_le, Bool, true, false, List, [], ◌∷◌, codes, drop, length, Option, None, Some}
use Rattle.std.specs.Prelude.{decimal, if◌then◌else◌}
use Rattle.std.specs.List.{concat, list_all, list_any, starts_with}
use Rattle.std.specs.Option.{is_none, is_some, option_or}
use Rattle.std.specs.Char.{is_ascii_alphabetic, is_ascii_alphanumeric, is_ascii_lowercase, to_ascii_uppercase}
use Rattle.cwr_fields.specs.declared.kinds.Kind.{Kind}
use Rattle.cwr_fields.specs.declared.kinds.Kind.TheVariants.{Hdr, Grh}
use Rattle.cwr_fields.specs.Format.Bytes.{is_plain}
use Rattle.cwr_fields.specs.Format.Kinds.{kind_of}
use Rattle.cwr_shape.specs.declared.reasons.Reason.{Reason}
use Rattle.cwr_shape.specs.declared.reasons.Reason.TheVariants as reasons
use Rattle.cwr_causes.specs.declared.openings.Opening.{Opening}
use Rattle.cwr_causes.specs.declared.openings.Opening.TheVariants.{Empty, White, ByteOrderMark, Utf16, Ebcdic, Gzip, Zip, LowerCase, Pdf, Rtf, Markup}
use Rattle.cwr_causes.specs.declared.openings.Opening.TheVariants.{Quoted, InQuotes, Indented, MailHead, OfSocieties, Conflict, Base64, BeforeHeader, Other}
use Rattle.cwr_causes.specs.Format.Refusals.{first_kind}
use Rattle.cwr_causes.specs.Format.Texts.{label_words}

-- ---- a line that names no record

-- no byte stands before its end
abbrev pub is_empty_line : List ℕ → Bool
is_empty_line [] = true
is_empty_line (b ∷ []) = b == 13
is_empty_line (b ∷ c ∷ rest) = false

-- a blank, or a control byte
abbrev pub is_white : ℕ → Bool
is_white b = nat_le b 32 || (b == 160)

-- it has nothing else
abbrev pub is_white_line : List ℕ → Bool
is_white_line line = list_all is_white line

-- it begins with HDR in EBCDIC
abbrev pub is_ebcdic : List ℕ → Bool
is_ebcdic line = starts_with nat_eq line (200 ∷ 196 ∷ 217 ∷ [])

-- it begins as a text in UTF-16 does: with the byte order mark, or with a letter of two bytes
abbrev pub is_utf16 : List ℕ → Bool
is_utf16 (a ∷ b ∷ rest) =
    ((a == 255) && (b == 254)) || (((a == 254) && (b == 255))
    || (((a == 0) && is_ascii_alphabetic b) || ((b == 0) && is_ascii_alphabetic a)))
is_utf16 line = false

-- its first three letters would name a record if they were capital
abbrev pub is_lower_case : List ℕ → Bool
is_lower_case (a ∷ b ∷ c ∷ rest) =
    is_some (kind_of (to_ascii_uppercase a ∷ to_ascii_uppercase b ∷ to_ascii_uppercase c ∷ []))
is_lower_case line = false

-- a space, a tab or a byte of a non-breaking space
abbrev pub is_blank : ℕ → Bool
is_blank b = (b == 32) || ((b == 9) || ((b == 160) || (b == 194)))

-- without blanks at its begin
abbrev pub without_blanks : List ℕ → List ℕ
without_blanks [] = []
without_blanks (b ∷ rest) = if is_blank b then without_blanks rest else b ∷ rest

abbrev pub begins_blank : List ℕ → Bool
begins_blank [] = false
begins_blank (b ∷ rest) = is_blank b

-- its letters name a record behind blanks
abbrev pub is_indented : List ℕ → Bool
is_indented line = begins_blank line && is_some (first_kind (without_blanks line))

-- it begins as the head of a mail does
abbrev pub is_mail_head : List ℕ → Bool
is_mail_head line =
    starts_with nat_eq line (codes "From") || (starts_with nat_eq line (codes "Received:")
    || (starts_with nat_eq line (codes "Return-Path:") || (starts_with nat_eq line (codes "Delivered-To:")
    || (starts_with nat_eq line (codes "MIME-Version:") || (starts_with nat_eq line (codes "Subject:")
    || (starts_with nat_eq line (codes "Date:") || starts_with nat_eq line (codes "Content-Type:")))))))

-- it has at least 60 bytes, all of those of base64, and one is a small letter
abbrev pub is_base64_byte : ℕ → Bool
is_base64_byte b = is_ascii_alphanumeric b || ((b == 43) || ((b == 47) || ((b == 61) || (b == 13))))

abbrev pub is_base64 : List ℕ → Bool
is_base64 line = nat_le 60 (length line) && (list_all is_base64_byte line && list_any is_ascii_lowercase line)

-- it begins as a transaction that societies send
abbrev pub is_of_societies : List ℕ → Bool
is_of_societies line = starts_with nat_eq line (codes "ISW") || starts_with nat_eq line (codes "EXC")

-- it begins as a tag of HTML or XML does
abbrev pub begins_tag : List ℕ → Bool
begins_tag (a ∷ b ∷ rest) = (a == 60) && (is_ascii_alphabetic b || ((b == 33) || ((b == 47) || (b == 63))))
begins_tag line = false

-- it is a mark that version control leaves between two versions
abbrev pub is_conflict : List ℕ → Bool
is_conflict line =
    starts_with nat_eq line (codes "<<<<<<<") || (starts_with nat_eq line (codes "=======") || starts_with nat_eq line (codes ">>>>>>>"))

-- what a text looks like that isn't packed, and no record in small letters
abbrev pub text_opening : List ℕ → Opening
text_opening line =
    if starts_with nat_eq line (codes "%PDF") then Pdf
    else (if starts_with nat_eq line (123 ∷ 92 ∷ 114 ∷ 116 ∷ 102 ∷ []) then Rtf
    else (if is_conflict line then Conflict
    else (if begins_tag line then Markup
    else (if starts_with nat_eq line (codes ">") then Quoted
    else (if starts_with nat_eq line (34 ∷ []) then InQuotes
    else (if is_indented line then Indented
    else (if is_of_societies line then OfSocieties else (if is_base64 line then Base64 else Other))))))))

-- what it looks like
abbrev pub opening_of : List ℕ → Opening
opening_of line =
    if is_empty_line line then Empty
    else (if is_white_line line then White
    else (if starts_with nat_eq line (239 ∷ 187 ∷ 191 ∷ []) then ByteOrderMark
    else (if starts_with nat_eq line (31 ∷ 139 ∷ []) then Gzip
    else (if starts_with nat_eq line (80 ∷ 75 ∷ 3 ∷ 4 ∷ []) then Zip
    else (if is_utf16 line then Utf16
    else (if is_ebcdic line then Ebcdic
    else (if is_mail_head line then MailHead else (if is_lower_case line then LowerCase else text_opening line))))))))

-- a file that begins so is no text of one byte a character
abbrev pub is_packed : Opening → Bool
is_packed Gzip = true
is_packed Zip = true
is_packed Utf16 = true
is_packed Ebcdic = true
is_packed Pdf = true
is_packed opening = false

-- it looks like nothing of these
abbrev pub is_other : Opening → Bool
is_other Other = true
is_other opening = false

-- a file's first line that looks like nothing else stands before the header, if that comes
abbrev pub opening_at : ℕ → Opening → Opening
opening_at number Other = if number == 1 then BeforeHeader else Other
opening_at number opening = opening

-- what is said of transactions that societies send
abbrev pub societies_said : List ℕ
societies_said = codes "ISW and EXC are transactions that societies send: this program takes none of them"

-- what is said of it
abbrev pub opening_said : Opening → Option (List ℕ)
opening_said Empty = Some (codes "the line is empty: remove it")
opening_said White = Some (codes "the line has nothing but blanks and control bytes: remove it, unless the line before it was broken and goes on with it")
opening_said Ebcdic = Some (codes "this looks like EBCDIC, as mainframes write texts: have the file converted to ASCII")
opening_said ByteOrderMark = Some (codes "the line begins with a byte order mark (EF BB BF): save the file without it")
opening_said Utf16 =
    Some (codes "this looks like UTF-16: save the file in ASCII, or in a character set of one byte a character")
opening_said Gzip = Some (codes "this is a gzip file: unpack it")
opening_said Zip = Some (codes "this is a zip file: unpack it")
opening_said LowerCase = Some (codes "record types are in capital letters: where the whole line is in small ones, its titles and numbers too, turn all of it, or the whole file")
opening_said Pdf = Some (codes "this is a PDF file: the transmission itself is wanted")
opening_said Rtf = Some (codes "this is a text of a word processor (RTF): save it as plain text")
opening_said Markup = Some (codes "this looks like HTML or XML: the transmission itself is wanted")
opening_said Quoted = Some (codes "the line begins with >, as mail programs quote: remove that from each line, or take the attachment")
opening_said InQuotes =
    Some (codes "the line begins with a double quote, as a spreadsheet writes cells: take the file as it was before that")
opening_said Indented = Some (codes "blanks stand before the record type: remove them from each line")
opening_said MailHead = Some (codes "this looks like the head of a mail: save the attachment")
opening_said OfSocieties = Some societies_said
opening_said Conflict =
    Some (codes "version control marks so where two versions differ (<<<<<<<, =======, >>>>>>>): take one of the two, and remove the marks")
opening_said Base64 = Some (codes "this looks like base64, in which mails carry files: unpack it")
opening_said BeforeHeader =
    Some (codes "a file begins with HDR: if that line comes, what stands before it is no part of the transmission, so remove it; if it doesn't, the beginning of the file is missing; if each line has a number in front, remove that")
opening_said Other = None

-- ---- the same in one line after another

-- both lines look alike, by something that is done to a whole file
abbrev pub is_same_opening : Opening → Opening → Bool
is_same_opening LowerCase LowerCase = true
is_same_opening Markup Markup = true
is_same_opening Quoted Quoted = true
is_same_opening InQuotes InQuotes = true
is_same_opening Indented Indented = true
is_same_opening OfSocieties OfSocieties = true
is_same_opening Base64 Base64 = true
is_same_opening opening that = false

-- it looks as the line before it does, where that is held and names no record either
abbrev pub is_as_before : Option (List ℕ) → Opening → Bool
is_as_before None opening = false
is_as_before (Some before) opening = is_none (first_kind before) && is_same_opening (opening_of before) opening

-- a note
unfoldable pub note_line : List ℕ → List ℕ
note_line said = concat (label_words (codes "note") ∷ said ∷ codes "\n" ∷ [])

abbrev pub note_words : Option (List ℕ) → List ℕ
note_words None = []
note_words (Some said) = note_line said

-- the note on a line of that number that names no record
abbrev pub opening_words : Reason → List ℕ → ℕ → List ℕ
opening_words reasons.UnknownKind line number = note_words (opening_said (opening_at number (opening_of line)))
opening_words reason line number = []

-- a line that names no record, after that one, looks as that does
abbrev pub repeats_before : Reason → Option (List ℕ) → List ℕ → Bool
repeats_before reasons.UnknownKind before line = is_as_before before (opening_of line)
repeats_before reason before line = false

-- ---- another version of CWR

-- the version of CWR whose transactions have the version with which a text begins
abbrev pub group_version : List ℕ → Option (List ℕ)
group_version text =
    if starts_with nat_eq text (codes "02.00") then Some (codes "2.0")
    else (if starts_with nat_eq text (codes "02.20") then Some (codes "2.2")
    else (if starts_with nat_eq text (codes "03.00") then Some (codes "3.0")
    else (if starts_with nat_eq text (codes "03.10") then Some (codes "3.1") else None)))

-- the version of 3.0 and 3.1 with which a text begins
abbrev pub third_version : List ℕ → Option (List ℕ)
third_version text =
    if starts_with nat_eq text (codes "3.0") then Some (codes "3.0")
    else (if starts_with nat_eq text (codes "3.1") then Some (codes "3.1") else None)

-- the same, and 2.2
abbrev pub later_version : List ℕ → Option (List ℕ)
later_version text = if starts_with nat_eq text (codes "2.2") then Some (codes "2.2") else third_version text

-- the first of 3.0 and 3.1 in a text
abbrev pub first_version : List ℕ → Option (List ℕ)
first_version [] = None
first_version (b ∷ rest) = option_or (third_version (b ∷ rest)) (first_version rest)

-- The version that a header names: after all fields of 2.1, where 2.2 has it, or late in it.
abbrev pub header_version : List ℕ → Option (List ℕ)
header_version line = option_or (later_version (drop 101 line)) (first_version (drop 59 line))

-- the version of CWR that a line names, where it isn't 2.1
abbrev pub version_in : Kind → List ℕ → Option (List ℕ)
version_in Hdr line = header_version line
version_in Grh line = group_version (drop 11 line)
version_in this_kind line = None

-- the note on it
unfoldable pub version_line : List ℕ → List ℕ
version_line version =
    concat
    (label_words (codes "note") ∷ codes "the line is one of CWR " ∷ version
    ∷ codes ", by the version that it names: this program reads CWR 2.1\n" ∷ [])

abbrev pub version_said : Option (List ℕ) → List ℕ
version_said None = []
version_said (Some version) = version_line version

abbrev pub version_words : Option Kind → List ℕ → List ℕ
version_words None line = []
version_words (Some this_kind) line = version_said (version_in this_kind line)

-- ---- a header whose version stands further left

-- what a line has from the version of 2.1 on
abbrev pub version_text : List ℕ → Option (List ℕ)
version_text [] = None
version_text (b ∷ rest) =
    if starts_with nat_eq (b ∷ rest) (codes "01.10") then Some (b ∷ rest) else version_text rest

-- how many bytes that stands before byte 60, its place in a header in which no control characters are
abbrev pub moved_text : List ℕ → Option (List ℕ) → ℕ
moved_text line None = 0
moved_text line (Some text) = 59 - (length line - length text)

abbrev pub moved_by : Option Kind → List ℕ → ℕ
moved_by (Some Hdr) line = if is_plain line then moved_text line (version_text line) else 0
moved_by this_kind line = 0

-- the note on it, by the byte with which it begins, from 1
unfoldable pub moved_version_line : ℕ → List ℕ
moved_version_line first =
    concat
    (label_words (codes "note") ∷ codes "01.10, the version, begins at byte " ∷ decimal first
    ∷ codes " of the line, and its place is byte 60: blanks or letters were lost before it, and what stands behind has moved with it; take the file as it was before that\n" ∷ [])
