-- What a list says by which transactions are selected.
use Rattle.std.specs.Prelude.{◌≡◌, ℕ, Bool, ◌==◌, nat_lt, ◌&&◌, leb, length, take, drop, map, filter, List, [], ◌∷◌, Option, Some, None, if◌then◌else◌, ◌-◌, IsSome}
use Rattle.std.specs.List.{after_first, before_first, slice_split}
use Rattle.std.specs.Str.{bytes_eq}
use Rattle.cwr_files.specs.Format.Files.{Texts}
use Rattle.cwr_files.specs.Format.Inputs.{IfRead}
use Rattle.cwr_fields.specs.Format.Bytes.{are_digits, filled, number_of, trimmed}

-- ---- its lines

-- the text without the bytes by which one in UTF-8 may begin
abbrev pub unmarked : List ℕ → List ℕ
unmarked text = if bytes_eq (take 3 text) (239 ∷ 187 ∷ 191 ∷ []) then drop 3 text else text

-- a line without a CR at its end
abbrev pub before_cr : List ℕ → List ℕ
before_cr line = if bytes_eq (drop (length line - 1) line) (13 ∷ []) then take (length line - 1) line else line

-- what a line says: a CR and then spaces at its end are left out
abbrev pub entry_of : List ℕ → List ℕ
entry_of line = trimmed (before_cr line)

-- what the lines of a list say, which end in line feeds; blank ones are left out
abbrev pub entries_of : List (List ℕ) → List (List ℕ)
entries_of lines = filter (λ entry. nat_lt 0 (length entry)) (map entry_of lines)

abbrev pub entries_in : List ℕ → List (List ℕ)
entries_in text = entries_of (slice_split (λ b. b == 10) (unmarked text))

-- ---- what its entries are

-- the first value, and those after it
abbrev pub read_before : {A : Type 0} → Option A → Option (List A) → Option (List A)
read_before None rest = None
read_before (Some a) None = None
read_before (Some a) (Some rest) = Some (a ∷ rest)

-- what all entries are; none where one is none
abbrev pub all_read : {A : Type 0} → (List ℕ → Option A) → List (List ℕ) → Option (List A)
all_read reads [] = Some []
all_read reads (entry ∷ entries) = read_before (reads entry) (all_read reads entries)

-- a number has 20 bytes at most, up to which it is filled up with spaces
abbrev pub number_in : List ℕ → Option (List ℕ)
number_in entry = if leb (length entry) 20 then Some (filled 20 entry) else None

-- one to eight digits
abbrev pub is_place_number : List ℕ → Bool
is_place_number text = nat_lt 0 (length text) && (leb (length text) 8 && are_digits text)

abbrev pub place_number : List ℕ → Option ℕ
place_number text = if is_place_number text then Some (number_of text) else None

-- both numbers, where both are some
abbrev pub pair_of : Option ℕ → Option ℕ → Option (ℕ × ℕ)
pair_of None transaction = None
pair_of (Some group) None = None
pair_of (Some group) (Some transaction) = Some (group, transaction)

-- a place is two numbers, that of a group before the first space, and that of a transaction in it after that
abbrev pub place_in : List ℕ → Option (ℕ × ℕ)
place_in entry =
    pair_of (place_number (before_first (λ b. b == 32) entry)) (place_number (after_first (λ b. b == 32) entry))

-- ---- by its name

-- these are what the list of that name says, or that on standard input; none where none is named
abbrev pub IsListed : {A : Type 0} → (List ℕ → Option A) → Option Texts → Option (List ℕ) → Option (List ℕ) → Option (List A) → Type 0
IsListed reads held standard None values = values ≡ None
IsListed reads held standard (Some name) values =
    IsSome values × IfRead held standard (Some name) (λ text. all_read reads (entries_in text) ≡ values)

-- a line of the list of that name says nothing of it, where one is named
abbrev pub IsNoList : {A : Type 0} → (List ℕ → Option A) → Option Texts → Option (List ℕ) → Option (List ℕ) → Type 0
IsNoList reads held standard None = ⊥
IsNoList reads held standard (Some name) = IfRead held standard (Some name) (λ text. all_read reads (entries_in text) ≡ None)
