-- The symbols that records and lines have, as far as their cells say.
use Rattle.std.specs.Prelude.{◌≡◌, ℕ, List, [], ◌∷◌, ◌++◌, Option, Some, None, find, slice_get, option_and_then}
use Rattle.std.specs.List.{AllZip, IsAmong}
use Rattle.std.specs.Str.{bytes_eq}
use Rattle.cwr_fields.specs.declared.codes.Role.{Role}
use Rattle.cwr_fields.specs.declared.codes.Role.TheVariants.{Assignor, Acquirer}
use Rattle.cwr_fields.specs.declared.codes.TransactionType.{TransactionType}
use Rattle.cwr_fields.specs.declared.codes.TransactionType.TheVariants.{Agreement, NewWork, RevisedWork, Acknowledgement}
use Rattle.cwr_fields.specs.Format.Codes.{role_code, type_code}
use Rattle.cwr_fields.specs.declared.kinds.Kind.{Kind}
use Rattle.cwr_fields.specs.declared.kinds.Kind.TheVariants as kinds
use Rattle.cwr_shape.specs.declared.symbols.Symbol.{Symbol}
use Rattle.cwr_shape.specs.declared.symbols.Symbol.TheVariants.{Plain, Ipa, Grh}
use Rattle.cwr_shape.specs.Format.Outlines.{GroupOutline, IsOutline, symbols_of}

-- the role that a cell spells
abbrev pub role_in : List ℕ → Option Role
role_in cell = find (λ role. bytes_eq (role_code role) cell) (Assignor ∷ Acquirer ∷ [])

-- the type that a cell spells
abbrev pub type_in : List ℕ → Option TransactionType
type_in cell = find (λ ty. bytes_eq (type_code ty) cell) (Agreement ∷ NewWork ∷ RevisedWork ∷ Acknowledgement ∷ [])

-- the role if it is known, or else both
abbrev pub parties_of : Option Role → List Symbol
parties_of (Some role) = Ipa role ∷ []
parties_of None = Ipa Assignor ∷ Ipa Acquirer ∷ []

-- the type if it is known, or else all of them
abbrev pub groups_of : Option TransactionType → List Symbol
groups_of (Some ty) = Grh ty ∷ []
groups_of None = Grh Agreement ∷ Grh NewWork ∷ Grh RevisedWork ∷ Grh Acknowledgement ∷ []

-- the symbols that a record of the kind may have whose first cells are these: IPA's role is its fourth cell, GRH's type its second
abbrev pub candidates : Option Kind → List (List ℕ) → List Symbol
candidates None cells = []
candidates (Some kinds.Ipa) cells = parties_of (option_and_then role_in (slice_get cells 3))
candidates (Some kinds.Grh) cells = groups_of (option_and_then type_in (slice_get cells 1))
candidates (Some this_kind) cells = Plain this_kind ∷ []

-- the transmission begins with records each of which has one of its candidates
abbrev pub BeginsAmong : List (List Symbol) → List GroupOutline → Type 0
BeginsAmong sets groups = (xs : List Symbol) × (rest : List Symbol) × (symbols_of groups ≡ xs ++ rest) × AllZip IsAmong sets xs

-- some transmission, of which P holds, begins so
abbrev pub ContinuesAmong : (List GroupOutline → Type 0) → List (List Symbol) → Type 0
ContinuesAmong P sets = (groups : List GroupOutline) × IsOutline groups × P groups × BeginsAmong sets groups
