-- Whole transmissions in symbols, what begins one, and the limits.
use Rattle.std.specs.Prelude.{◌≡◌, ◌<◌, ◌≤◌, List, [], ◌∷◌, ◌++◌, length}
use Rattle.std.specs.List.{AllByRecursion, flat_map}
use Rattle.cwr_fields.specs.declared.codes.TransactionType.{TransactionType}
use Rattle.cwr_fields.specs.declared.kinds.Kind.TheVariants as kinds
use Rattle.cwr_shape.specs.declared.symbols.Symbol.{Symbol}
use Rattle.cwr_shape.specs.declared.symbols.Symbol.TheVariants.{Plain, Grh}
use Rattle.cwr_shape.specs.declared.limits.Limits.{Limits}
use Rattle.cwr_shape.specs.declared.limits.LimitKind.{LimitKind}
use Rattle.cwr_shape.specs.declared.limits.LimitKind.TheVariants.{Records, Groups, Transaction}
use Rattle.cwr_shape.specs.Format.Shapes.{IsShape}

-- a group in symbols: its type, and its transactions
pub record GroupOutline : Type 0 where
  pub ty : TransactionType
  pub transactions : List (List Symbol)

-- GRH, the transactions and GRT
abbrev pub group_symbols : GroupOutline → List Symbol
group_symbols g = Grh g.ty ∷ flat_map (λ t. t) g.transactions ++ Plain kinds.Grt ∷ []

-- HDR, the groups and TRL
abbrev pub symbols_of : List GroupOutline → List Symbol
symbols_of groups = Plain kinds.Hdr ∷ flat_map group_symbols groups ++ Plain kinds.Trl ∷ []

-- one or more transactions, each of the group's type
abbrev pub IsGroupOutline : GroupOutline → Type 0
IsGroupOutline g = (0 < length g.transactions) × AllByRecursion (IsShape g.ty) g.transactions

-- one or more groups
abbrev pub IsOutline : List GroupOutline → Type 0
IsOutline groups = (0 < length groups) × AllByRecursion IsGroupOutline groups

-- the symbols are those of a whole transmission
abbrev pub IsWhole : List Symbol → Type 0
IsWhole xs = (groups : List GroupOutline) × IsOutline groups × (xs ≡ symbols_of groups)

-- the transmission keeps to one limit
abbrev pub KeepsTo : LimitKind → Limits → List GroupOutline → Type 0
KeepsTo Records limits groups = length (symbols_of groups) ≤ limits.records
KeepsTo Groups limits groups = length groups ≤ limits.groups
KeepsTo Transaction limits groups =
    AllByRecursion (λ g. AllByRecursion (λ t. length t ≤ limits.transaction) g.transactions) groups

-- the transmission is within the limits
abbrev pub IsWithin : Limits → List GroupOutline → Type 0
IsWithin limits groups = KeepsTo Records limits groups × KeepsTo Groups limits groups × KeepsTo Transaction limits groups

-- the transmission begins with these symbols
abbrev pub BeginsWith : List Symbol → List GroupOutline → Type 0
BeginsWith xs groups = (rest : List Symbol) × (symbols_of groups ≡ xs ++ rest)

-- some transmission, of which P holds, begins with these symbols
abbrev pub Continues : (List GroupOutline → Type 0) → List Symbol → Type 0
Continues P xs = (groups : List GroupOutline) × IsOutline groups × P groups × BeginsWith xs groups
