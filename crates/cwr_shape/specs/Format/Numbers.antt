-- The numbers that the records of a transmission carry, from the lengths of its transactions, group by group.
use Rattle.std.specs.Prelude.{◌≡◌, ℕ, ◌+◌, ◌==◌, List, [], ◌∷◌, ◌++◌, length, map, filter, find, zip, sum, sum_by, slice_index_or}
use Rattle.std.specs.Prelude.{Option, option_map, flat_map}
use Rattle.std.specs.List.{range_with_len, enumerate_from}
use Rattle.cwr_fields.specs.declared.kinds.Kind.{Kind}
use Rattle.cwr_fields.specs.declared.kinds.Kind.TheVariants as kinds
use Rattle.cwr_fields.specs.Format.Layouts.{fields_after_type}
use Rattle.cwr_shape.specs.declared.symbols.Symbol.{Symbol}
use Rattle.cwr_shape.specs.declared.symbols.Symbol.TheVariants.{Plain, Ipa, Grh}
use Rattle.cwr_shape.specs.Format.Outlines.{GroupOutline, IsOutline, symbols_of}

-- record k of transaction j carries j and k
abbrev pub transaction_numbers : ℕ → ℕ → List (List ℕ)
transaction_numbers j records = map (λ k. j ∷ k ∷ []) (range_with_len 0 records)

-- the records of a group, with GRH and GRT
abbrev pub group_records : List ℕ → ℕ
group_records lengths = 2 + sum lengths

-- GRH and GRT of group i carry i + 1, and GRT how many transactions and records the group has
abbrev pub group_numbers : ℕ → List ℕ → List (List ℕ)
group_numbers i lengths = ((i + 1) ∷ []) ∷ flat_map (λ p. transaction_numbers p.0 p.1) (enumerate_from 0 lengths)
    ++ ((i + 1) ∷ length lengths ∷ group_records lengths ∷ []) ∷ []

-- the records of a transmission, with HDR and TRL
abbrev pub all_records : List (List ℕ) → ℕ
all_records groups = 2 + sum_by group_records groups

-- The numbers of each record: HDR has none, and TRL how many groups, transactions and records there are.
abbrev pub numbers_of : List (List ℕ) → List (List ℕ)
numbers_of groups = [] ∷ flat_map (λ p. group_numbers p.0 p.1) (enumerate_from 0 groups)
    ++ (length groups ∷ sum_by length groups ∷ all_records groups ∷ []) ∷ []

-- the lengths of an outline's transactions
abbrev pub lengths_of : List GroupOutline → List (List ℕ)
lengths_of groups = map (λ g. map length g.transactions) groups

-- the fields of a kind that hold its numbers, in order
abbrev pub number_fields : Kind → List ℕ
number_fields kind = map (λ p. p.0) (filter (λ p. p.1.derived) (enumerate_from 2 (fields_after_type kind)))

-- of a record's numbers the one in field j, if that field holds one
abbrev pub number_in : Kind → ℕ → List ℕ → Option ℕ
number_in kind j numbers = option_map (λ p. p.1) (find (λ p. p.0 == j) (zip (number_fields kind) numbers))

-- the kind of a symbol
abbrev pub symbol_kind : Symbol → Kind
symbol_kind (Plain this_kind) = this_kind
symbol_kind (Ipa role) = kinds.Ipa
symbol_kind (Grh ty) = kinds.Grh

-- in each transmission that continues from these symbols by a record of the kind, this is the number in its field j
abbrev pub IsNumberAt : List Symbol → Kind → ℕ → Option ℕ → Type 0
IsNumberAt xs kind j n =
    (groups : List GroupOutline) (s : Symbol) (rest : List Symbol) → IsOutline groups → symbols_of groups ≡ xs ++ s ∷ rest
    → symbol_kind s ≡ kind → n ≡ number_in kind j (slice_index_or (numbers_of (lengths_of groups)) (length xs) [])
