-- What is told of a selection: how many transactions are selected, and what of its lists is missing, or is there several times.
use Rattle.std.specs.Prelude.{ℕ, Bool, if◌then◌else◌, filter, List, [], ◌∷◌, ◌++◌, Option, Some, None, codes, decimal}
use Rattle.std.specs.List.{flat_map, list_any}
use Rattle.std.specs.Str.{bytes_eq}
use Rattle.cwr_fields.specs.Format.Bytes.{trimmed}
use Rattle.cwr_values.specs.Format.Values.{TransmissionValue}
use Rattle.cwr_select.specs.declared.reports.SelectReport.{SelectReport}
use Rattle.cwr_select.specs.Format.Criteria.{number_cell}
use Rattle.cwr_transform.specs.Format.Missing.{Placed, placed, places_of, same_place}

-- ---- the lines

-- `SELECTED k of n`
abbrev pub selected_line : SelectReport → List ℕ
selected_line report =
    codes "SELECTED " ++ (decimal report.selected ++ (codes " of " ++ (decimal report.transactions ++ codes "\n")))

-- the place that ends a line
abbrev pub place_text : ℕ × ℕ → List ℕ
place_text place = codes " group " ++ (decimal place.0 ++ (codes " transaction " ++ (decimal place.1 ++ codes "\n")))

-- `MISSING NUMBER`
abbrev pub missing_number : List ℕ → List ℕ
missing_number number = codes "MISSING " ++ (number ++ codes "\n")

-- `TWICE NUMBER group G transaction T`
abbrev pub twice_line : List ℕ → ℕ × ℕ → List ℕ
twice_line number place = codes "TWICE " ++ (number ++ place_text place)

-- `MISSING group G transaction T`
unfoldable pub missing_place : ℕ × ℕ → List ℕ
missing_place place = codes "MISSING" ++ place_text place

-- ---- what is told

-- the first of each value, but those that came before
abbrev pub firsts_after : {A : Type 0} → (A → A → Bool) → List A → List A → List A
firsts_after same before [] = []
firsts_after same before (x ∷ xs) = (if list_any (same x) before then [] else x ∷ []) ++ firsts_after same (before ++ x ∷ []) xs

-- the places of the transactions that have the number
abbrev pub places_with : List ℕ → List Placed → List (ℕ × ℕ)
places_with number ps = places_of (filter (λ p. bytes_eq number (number_cell p.records)) ps)

-- A number is missing where no transaction has it. Where several have it, each of these is told.
abbrev pub number_lines : List ℕ → List (ℕ × ℕ) → List ℕ
number_lines number [] = missing_number number
number_lines number (place ∷ []) = []
number_lines number (place ∷ other ∷ places) = flat_map (twice_line number) (place ∷ other ∷ places)

-- a place is missing where no transaction has it
abbrev pub place_lines : ℕ × ℕ → List (ℕ × ℕ) → List ℕ
place_lines place places = if list_any (same_place place) places then [] else missing_place place

-- the lines of the numbers that a list says, in its order, each once, without the spaces at their ends; and of its places
abbrev pub numbers_told : List (List ℕ) → List Placed → List ℕ
numbers_told numbers ps = flat_map (λ number. number_lines (trimmed number) (places_with number ps)) (firsts_after bytes_eq [] numbers)

abbrev pub places_told : List (ℕ × ℕ) → List Placed → List ℕ
places_told places ps = flat_map (λ place. place_lines place (places_of ps)) (firsts_after same_place [] places)

-- where there is such a list
abbrev pub told_of : {A : Type 0} → (List A → List Placed → List ℕ) → Option (List A) → List Placed → List ℕ
told_of told None ps = []
told_of told (Some listed) ps = told listed ps

-- What is told of a transmission, by what the lists say. It doesn't depend on what is selected of it but for the first line.
abbrev pub selection_told : SelectReport → Option (List (List ℕ)) → Option (List (ℕ × ℕ)) → TransmissionValue → List ℕ
selection_told report numbers places v =
    selected_line report ++ (told_of numbers_told numbers (placed v) ++ told_of places_told places (placed v))
