-- The numbers and codes of others that cells hold, as far as they can be judged by themselves: by check digits and by their form.
use Rattle.std.specs.Prelude.{ℕ, ◌+◌, ◌-◌, ◌*◌, ◌%◌, Bool, not, ◌&&◌, ◌||◌, ◌==◌, nat_lt, nat_le, List, [], ◌∷◌, codes, length}
use Rattle.std.specs.Prelude.{take, drop, zip, slice_index}
use Rattle.std.specs.List.{list_all, sum_by}
use Rattle.std.specs.Str.{bytes_eq}
use Rattle.cwr_fields.specs.Format.Bytes.{are_digits, is_digit, number_of, trimmed}

-- each weight by its digit, added up
abbrev pub weighted_pairs : List (ℕ × ℕ) → ℕ
weighted_pairs pairs = sum_by (λ p. p.0 * (p.1 - 48)) pairs

-- the digits by their weights, added up, as far as both go
abbrev pub weighted : List ℕ → List ℕ → ℕ
weighted weights digits = weighted_pairs (zip weights digits)

-- a letter, upper case or lower case
abbrev pub is_letter : ℕ → Bool
is_letter b = (nat_le 65 b && nat_le b 90) || (nat_le 97 b && nat_le b 122)

-- ---- IPI name numbers: nine digits, and two that check them by the modulus 101

-- the weights of the nine digits
abbrev pub name_weights : List ℕ
name_weights = 10 ∷ 9 ∷ 8 ∷ 7 ∷ 6 ∷ 5 ∷ 4 ∷ 3 ∷ 2 ∷ []

-- The number that two digits write belongs to the remainder: both are 101 together. Where that asks for more than two digits, or for
-- none, 00 and 01 are taken.
abbrev pub checks : ℕ → ℕ → Bool
checks remainder number = (remainder + number == 101) || (nat_lt remainder 2 && nat_lt number 2)

-- an IPI name number
abbrev pub is_ipi_name : List ℕ → Bool
is_ipi_name cell = (length cell == 11) && are_digits cell && checks (weighted name_weights cell % 101) (number_of (drop 9 cell))

-- ---- IPI base numbers: `I-`, nine digits, a hyphen and a check digit

-- the weights of the nine digits
abbrev pub base_weights : List ℕ
base_weights = 1 ∷ 2 ∷ 3 ∷ 4 ∷ 5 ∷ 6 ∷ 7 ∷ 8 ∷ 9 ∷ []

-- the form of one
abbrev pub has_base_form : List ℕ → Bool
has_base_form cell =
    (length cell == 13) && bytes_eq (take 2 cell) (codes "I-") && are_digits (take 9 (drop 2 cell)) && (slice_index cell 11 == 45)
    && is_digit (slice_index cell 12)

-- an IPI base number: two, the nine digits by their weights and the check digit are a multiple of ten together
abbrev pub is_ipi_base : List ℕ → Bool
is_ipi_base cell = has_base_form cell && ((2 + weighted base_weights (drop 2 cell) + (slice_index cell 12 - 48)) % 10 == 0)

-- ---- recordings

-- an ISRC: two letters, three letters or digits, seven digits
abbrev pub is_isrc : List ℕ → Bool
is_isrc cell =
    (length cell == 12) && list_all is_letter (take 2 cell) && list_all (λ b. is_letter b || is_digit b) (take 3 (drop 2 cell))
    && are_digits (drop 5 cell)

-- the weights of the digits of an EAN, of which the last one's weight is 1 however many there are
abbrev pub ean_weights : List ℕ
ean_weights = 3 ∷ 1 ∷ 3 ∷ 1 ∷ 3 ∷ 1 ∷ 3 ∷ 1 ∷ 3 ∷ 1 ∷ 3 ∷ 1 ∷ 3 ∷ 1 ∷ []

-- an EAN, or a UPC, which has one digit less: at most 13 digits, which are a multiple of ten by their weights
abbrev pub is_ean_of : List ℕ → Bool
is_ean_of digits =
    are_digits digits && nat_le (length digits) 13 && (weighted (drop (14 - length digits) ean_weights) digits % 10 == 0)

-- the same in a cell, with spaces behind it
abbrev pub is_ean : List ℕ → Bool
is_ean cell = is_ean_of (trimmed cell)

-- ---- codes of lists that aren't kept here, by their form

-- the number of a society: three digits
abbrev pub is_society : List ℕ → Bool
is_society cell = (length cell == 3) && are_digits cell

-- every byte is the digit 0
abbrev pub is_zero : List ℕ → Bool
is_zero cell = list_all (λ b. b == 48) cell

-- the number of a territory: that of a country is below 1000, and that of a group of countries begins with 21
abbrev pub is_territory_number : List ℕ → Bool
is_territory_number cell = (bytes_eq (take 1 cell) (codes "0") && not (is_zero cell)) || bytes_eq (take 2 cell) (codes "21")

-- the code of a language: two letters
abbrev pub is_language : List ℕ → Bool
is_language cell = (length cell == 2) && list_all is_letter cell
