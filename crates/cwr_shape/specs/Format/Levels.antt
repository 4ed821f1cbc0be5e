-- How much each refusal rejects.
use Rattle.std.specs.Prelude.{ℕ, Bool, true, false, ◌||◌, ◌==◌, Option, Some, None, if◌then◌else◌}
use Rattle.cwr_fields.specs.declared.cell_types.CellType.{CellType}
use Rattle.cwr_fields.specs.declared.cell_types.CellType.TheVariants as types
use Rattle.cwr_fields.specs.declared.kinds.Kind.{Kind}
use Rattle.cwr_fields.specs.declared.kinds.Kind.TheVariants.{Hdr, Grh, Grt, Trl, Agr, Nwr, Rev, Ack}
use Rattle.cwr_fields.specs.Format.Layouts.{FieldLayout, field_at}
use Rattle.cwr_shape.specs.declared.reasons.Reason.{Reason}
use Rattle.cwr_shape.specs.declared.reasons.Reason.TheVariants as reasons
use Rattle.cwr_shape.specs.declared.limits.LimitKind.TheVariants as limits
use Rattle.cwr_shape.specs.declared.reasons.Level.{Level}
use Rattle.cwr_shape.specs.declared.reasons.Level.TheVariants.{E, G, T, R, F}
use Rattle.cwr_shape.specs.declared.tallies.Scope.{Scope}
use Rattle.cwr_shape.specs.declared.tallies.Scope.TheVariants as scopes

-- the level of a record that may not come: it rejects what is open
abbrev pub level_of_scope : Scope → Level
level_of_scope scopes.File = E
level_of_scope scopes.Group = G
level_of_scope scopes.Transaction = T

-- a cell of these types can't be blank
abbrev pub must_be_filled : CellType → Bool
must_be_filled types.Required = true
must_be_filled types.Number = true
must_be_filled (types.Code table) = true
must_be_filled ty = false

-- the level of a cell: one that must be filled rejects its record, and any other the field
abbrev pub level_of_type : Option FieldLayout → Level
level_of_type None = F
level_of_type (Some f) = if must_be_filled f.ty then R else F

-- the level of a cell, a number or an excess inside a transaction, after its header; fields 2 and 3 are the sequences
abbrev pub level_inside : Kind → ℕ → Reason → Level
level_inside this_kind field (reasons.Cell fault) =
    if (field == 2) || (field == 3) then T else level_of_type (field_at this_kind field)
level_inside this_kind field (reasons.Number n) = T
level_inside this_kind field reason = R

-- the level of a cell, a number or an excess
abbrev pub level_in : Kind → ℕ → Reason → Level
level_in Hdr field reason = E
level_in Trl field reason = E
level_in Grh field reason = G
level_in Grt field reason = G
level_in Agr field reason = T
level_in Nwr field reason = T
level_in Rev field reason = T
level_in Ack field reason = T
level_in this_kind field reason = level_inside this_kind field reason

-- the level of a transaction that would become too long
abbrev pub level_of_length : Option Kind → Level
level_of_length (Some Grh) = G
level_of_length this_kind = T

-- the level of a refusal at a field of a line of the kind, where that scope is open
abbrev pub level_of : Option Kind → ℕ → Reason → Scope → Level
level_of this_kind field reasons.UnknownKind scope = level_of_scope scope
level_of this_kind field reasons.Misplaced scope = level_of_scope scope
level_of this_kind field (reasons.Limit limits.Transaction) scope = level_of_length this_kind
level_of this_kind field (reasons.Limit limit) scope = E
level_of (Some this_kind) field reason scope = level_in this_kind field reason
level_of None field reason scope = level_of_scope scope

-- what is open after a record of the kind, or at the start
abbrev pub scope_after_kind : Option Kind → Scope
scope_after_kind None = scopes.File
scope_after_kind (Some Hdr) = scopes.File
scope_after_kind (Some Grt) = scopes.File
scope_after_kind (Some Trl) = scopes.File
scope_after_kind (Some Grh) = scopes.Group
scope_after_kind (Some this_kind) = scopes.Transaction
