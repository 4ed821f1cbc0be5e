-- The shapes of transactions: which lists of records, seen as symbols, one may have.
use Rattle.std.specs.Prelude.{◌≡◌, Bool, false, not, List, [], ◌∷◌, ◌++◌, ◌⊎◌}
use Rattle.std.specs.List.{AllByRecursion, IsAmong, filter, flat_map}
use Rattle.cwr_fields.specs.declared.codes.Role.{Role}
use Rattle.cwr_fields.specs.declared.codes.Role.TheVariants.{Assignor, Acquirer}
use Rattle.cwr_fields.specs.declared.codes.TransactionType.{TransactionType}
use Rattle.cwr_fields.specs.declared.codes.TransactionType.TheVariants.{Agreement, NewWork, RevisedWork, Acknowledgement}
use Rattle.cwr_fields.specs.declared.kinds.Kind.{Kind}
use Rattle.cwr_fields.specs.declared.kinds.Kind.TheVariants as kinds
use Rattle.cwr_fields.specs.Format.Kinds.{is_carried}
use Rattle.cwr_shape.specs.declared.symbols.Symbol.{Symbol}
use Rattle.cwr_shape.specs.declared.symbols.Symbol.TheVariants.{Plain, Ipa}

-- the symbol is that of a record that is carried as text
abbrev pub is_carried_symbol : Symbol → Bool
is_carried_symbol (Plain this_kind) = is_carried this_kind
is_carried_symbol s = false

-- the symbols without those of carried records
abbrev pub without_carried : List Symbol → List Symbol
without_carried xs = filter (λ s. not (is_carried_symbol s)) xs

-- A pattern of symbols: one of some, a pattern and then another, one or the other of two, both of two, a
-- pattern any number of times, or a pattern with carried records at any place.
pub data Pattern : Type 0 where
  one_of : List Symbol → Pattern
  ◌then◌ ◌or◌ ◌and◌ : Pattern → Pattern → Pattern
  many carrying : Pattern → Pattern

infixr 30 ◌then◌
infixr 20 ◌or◌
infixr 20 ◌and◌
-- the symbols match the pattern
abbrev pub Matches : Pattern → List Symbol → Type 0
Matches (one_of ss) xs = (s : Symbol) × IsAmong ss s × (xs ≡ s ∷ [])
Matches (p then q) xs = (front : List Symbol) × (rest : List Symbol) × (xs ≡ front ++ rest) × Matches p front × Matches q rest
Matches (p or q) xs = Matches p xs ⊎ Matches q xs
Matches (p and q) xs = Matches p xs × Matches q xs
Matches (carrying p) xs = Matches p (without_carried xs)
Matches (many p) xs = (parts : List (List Symbol)) × (xs ≡ flat_map (λ part. part) parts) × AllByRecursion (Matches p) parts

-- one record of the kind
abbrev pub a : Kind → Pattern
a kind = one_of (Plain kind ∷ [])

-- the pattern once or more
abbrev pub some : Pattern → Pattern
some p = p then many p

-- a party of either side
abbrev pub party : Pattern
party = one_of (Ipa Assignor ∷ Ipa Acquirer ∷ [])

-- parties, of whom one has the role
abbrev pub among_parties : Role → Pattern
among_parties role = many party then one_of (Ipa role ∷ []) then many party

-- territories, and then parties in any order, at least one of each side
abbrev pub block : Pattern
block = some (a kinds.Ter) then (among_parties Assignor and among_parties Acquirer)

-- an agreement
abbrev pub agreement : Pattern
agreement = a kinds.Agr then carrying (some block)

-- a publisher with its territories, or one whom the submitter doesn't control
abbrev pub publisher : Pattern
publisher = a kinds.Spu then many (a kinds.Spt) or a kinds.Opu

-- a writer with territories and publishers, or one whom the submitter doesn't control
abbrev pub writer : Pattern
writer = a kinds.Swr then many (a kinds.Swt or a kinds.Pwr) or a kinds.Owr then many (a kinds.Pwr)

-- a record that may stand after the writers
abbrev pub tail_record : Pattern
tail_record =
    one_of (Plain kinds.Alt ∷ Plain kinds.Ewt ∷ Plain kinds.Ver ∷ Plain kinds.Per ∷ Plain kinds.Rec ∷ Plain kinds.Orn
    ∷ Plain kinds.Com ∷ [])

-- a work with that header
abbrev pub work : Kind → Pattern
work header = a header then carrying (many publisher then some writer then many tail_record)

-- no record at all
abbrev pub nothing : Pattern
nothing = many (one_of [])

-- the copy of the agreement or the work that an acknowledgement speaks of, if it has one
abbrev pub copy : Pattern
copy = nothing or agreement or work kinds.Nwr or work kinds.Rev

-- an acknowledgement, its messages and its copy
abbrev pub acknowledgement : Pattern
acknowledgement = a kinds.Ack then many (a kinds.Msg) then copy

-- the pattern of the transactions of a type
abbrev pub pattern_of : TransactionType → Pattern
pattern_of Agreement = agreement
pattern_of NewWork = work kinds.Nwr
pattern_of RevisedWork = work kinds.Rev
pattern_of Acknowledgement = acknowledgement

-- the symbols are a whole transaction of the type
abbrev pub IsShape : TransactionType → List Symbol → Type 0
IsShape ty xs = Matches (pattern_of ty) xs

-- the symbols begin a transaction of some type
abbrev pub BeginsShape : List Symbol → Type 0
BeginsShape xs = (ty : TransactionType) × (rest : List Symbol) × IsShape ty (xs ++ rest)
