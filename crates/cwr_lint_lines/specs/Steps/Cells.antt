-- What the cells of a line say.
use Rattle.std.specs.Prelude.{ℕ, Bool, false, ◌&&◌, nat_le, List, length, Option, Some, None, option_and_then, if◌then◌else◌}
use Rattle.std.specs.Str.{bytes_eq}
use Rattle.cwr_fields.specs.declared.cell_types.Word.TheVariants.{Edi}
use Rattle.cwr_fields.specs.declared.codes.Role.{Role}
use Rattle.cwr_fields.specs.declared.codes.Role.TheVariants.{Assignor}
use Rattle.cwr_fields.specs.declared.codes.TransactionType.{TransactionType}
use Rattle.cwr_fields.specs.declared.codes.TransactionType.TheVariants.{Agreement, NewWork, RevisedWork, Acknowledgement}
use Rattle.cwr_fields.specs.Format.Bytes.{are_digits, is_spaces, number_of}
use Rattle.cwr_fields.specs.Format.Codes.{word_text}
use Rattle.cwr_fields.specs.declared.kinds.Kind.{Kind}
use Rattle.cwr_fields.specs.declared.kinds.Kind.TheVariants as kinds
use Rattle.cwr_lines.specs.Steps.Held.{HeldLine, cell_as, held_body, held_cells, held_excess, held_kind}
use Rattle.cwr_shape.specs.declared.symbols.Symbol.{Symbol}
use Rattle.cwr_shape.specs.declared.symbols.Symbol.TheVariants.{Plain, Ipa, Grh}
use Rattle.cwr_shape.specs.Format.Candidates.{role_in as role_spelled, type_in as type_spelled}
use Rattle.cwr_lint_lines.specs.Format.FaultsAtFields.{LineCut}

-- the line as it is cut
abbrev pub held_cut : HeldLine → LineCut
held_cut h = record { kind = held_kind h; cells = held_cells h; excess = held_excess h; blank = is_spaces (held_body h) }

-- cell j of the line, from 1
abbrev pub cell_in : LineCut → ℕ → Option (List ℕ)
cell_in l j = cell_as l.kind l.cells j

-- the number that at most ten digits write
abbrev pub number_in_cell : List ℕ → Option ℕ
number_in_cell cell = if nat_le (length cell) 10 && are_digits cell then Some (number_of cell) else None

-- the number in cell j of the line, if one stands there
abbrev pub number_at : LineCut → ℕ → Option ℕ
number_at l j = option_and_then number_in_cell (cell_in l j)

-- the type that a GRH says, if it can be read
abbrev pub type_in : LineCut → Option TransactionType
type_in l = option_and_then type_spelled (cell_in l 2)

-- the role of an IPA, if it can be read
abbrev pub role_in : LineCut → Option Role
role_in l = option_and_then role_spelled (cell_in l 4)

-- the type of transactions that begin with records of the kind
abbrev pub type_of_header : Kind → Option TransactionType
type_of_header kinds.Agr = Some Agreement
type_of_header kinds.Nwr = Some NewWork
type_of_header kinds.Rev = Some RevisedWork
type_of_header kinds.Ack = Some Acknowledgement
type_of_header this_kind = None

-- the role, or an assignor's where it can't be read
abbrev pub role_or_assignor : Option Role → Role
role_or_assignor None = Assignor
role_or_assignor (Some role) = role

-- the symbol of a line of the kind in the order of records
abbrev pub symbol_in : Kind → LineCut → Symbol
symbol_in kinds.Ipa l = Ipa (role_or_assignor (role_in l))
symbol_in kinds.Grh l = Grh Acknowledgement
symbol_in this_kind l = Plain this_kind

-- the cell is the constant of HDR
abbrev pub is_version : Option (List ℕ) → Bool
is_version None = false
is_version (Some cell) = bytes_eq cell (word_text Edi)

abbrev pub has_version : LineCut → Bool
has_version l = is_version (cell_in l 5)
