-- Worked levels: each entry of the table of levels.
use Rattle.std.proofs.Common.{◌≡◌, ◌+◌, ◌*◌, Bool, true, false, List, [], ◌∷◌, ◌++◌, length, map, replicate, refl}
use Rattle.std.specs.Prelude.{◌&&◌, Some, None, filter, not}
use Rattle.std.specs.List.{flat_map}
use Rattle.cwr_fields.specs.declared.cell_types.CellType.{CellType}
use Rattle.cwr_fields.specs.declared.cell_types.CellType.TheVariants as types
use Rattle.cwr_fields.specs.declared.cell_types.CellFault.TheVariants.{Blank, Control, NotDigits, NotADate, NotATime, OverShare}
use Rattle.cwr_fields.specs.declared.cell_types.CellFault.TheVariants.{NotACode, NotConstant}
use Rattle.cwr_fields.specs.declared.tables.Table.TheVariants as tables
use Rattle.cwr_fields.specs.declared.cell_types.Word.TheVariants as words
use Rattle.cwr_fields.specs.declared.kinds.Kind.{Kind}
use Rattle.cwr_fields.specs.declared.kinds.Kind.TheVariants as kinds
use Rattle.cwr_fields.specs.Format.Kinds.{all_kinds, is_in_transaction}
use Rattle.cwr_fields.specs.Format.Layouts.{layout}
use Rattle.cwr_shape.specs.declared.reasons.Reason.{Reason}
use Rattle.cwr_shape.specs.declared.reasons.Reason.TheVariants as reasons
use Rattle.cwr_shape.specs.declared.limits.LimitKind.TheVariants as limits
use Rattle.cwr_shape.specs.declared.reasons.Level.{Level}
use Rattle.cwr_shape.specs.declared.reasons.Level.TheVariants.{E, G, T, R, F}
use Rattle.cwr_shape.specs.declared.tallies.Scope.{Scope}
use Rattle.cwr_shape.specs.declared.tallies.Scope.TheVariants as scopes
use Rattle.cwr_shape.specs.Format.Levels.{level_of, level_of_type, scope_after_kind}

abbrev all_places : List Scope
all_places = scopes.File ∷ scopes.Group ∷ scopes.Transaction ∷ []

-- a cell's fault, a number and an excess
abbrev cell_reasons : List Reason
cell_reasons =
    map reasons.Cell (Blank ∷ Control ∷ NotDigits ∷ NotADate ∷ NotATime ∷ OverShare ∷ NotACode ∷ NotConstant ∷ [])
    ++ reasons.Number 7 ∷ reasons.Excess ∷ []

-- the kinds that begin transactions, and those inside that begin none
abbrev header_kinds : List Kind
header_kinds = kinds.Agr ∷ kinds.Nwr ∷ kinds.Rev ∷ kinds.Ack ∷ []

abbrev is_header : Kind → Bool
is_header kinds.Agr = true
is_header kinds.Nwr = true
is_header kinds.Rev = true
is_header kinds.Ack = true
is_header this_kind = false

abbrev inner_kinds : List Kind
inner_kinds = filter (λ kind. is_in_transaction kind && not (is_header kind)) all_kinds

-- a record that may not come, by what is open
unknown : map (level_of None 1 reasons.UnknownKind) all_places ≡ E ∷ G ∷ T ∷ []
unknown = refl

misplaced : map (λ place. map (λ kind. level_of (Some kind) 1 reasons.Misplaced place) all_kinds) all_places
    ≡ map (replicate (length all_kinds)) (E ∷ G ∷ T ∷ [])
misplaced = refl

-- what is open after each kind
places_after_kinds : (scope_after_kind None ≡ scopes.File)
    × (map (λ kind. scope_after_kind (Some kind)) (kinds.Hdr ∷ kinds.Grh ∷ kinds.Grt ∷ kinds.Trl ∷ [])
    ≡ scopes.File ∷ scopes.Group ∷ scopes.File ∷ scopes.File ∷ [])
    × (map (λ kind. scope_after_kind (Some kind)) (header_kinds ++ inner_kinds)
    ≡ replicate (4 + length inner_kinds) scopes.Transaction)
places_after_kinds = (refl, refl, refl)

-- a limit
too_many_records : flat_map (λ place. map (λ kind. level_of (Some kind) 1 (reasons.Limit limits.Records) place) all_kinds)
    all_places ≡ replicate (3 * length all_kinds) E
too_many_records = refl

too_many_groups : flat_map (λ place. map (λ kind. level_of (Some kind) 1 (reasons.Limit limits.Groups) place) all_kinds)
    all_places ≡ replicate (3 * length all_kinds) E
too_many_groups = refl

transaction_too_long : (level_of (Some kinds.Grh) 2 (reasons.Limit limits.Transaction) scopes.File ≡ G)
    × (level_of (Some kinds.Ipa) 4 (reasons.Limit limits.Transaction) scopes.Transaction ≡ T)
    × (map (λ kind. level_of (Some kind) 1 (reasons.Limit limits.Transaction) scopes.Transaction)
    (header_kinds ++ inner_kinds) ≡ replicate (4 + length inner_kinds) T)
transaction_too_long = (refl, refl, refl)

-- a cell, a number or an excess around transactions and in their headers, at field 2, at the last one and after it
abbrev levels_in : Kind → Scope → List Level
levels_in kind place =
    flat_map (λ j. map (λ reason. level_of (Some kind) j reason place) cell_reasons)
    (2 ∷ length (layout kind) ∷ (length (layout kind) + 1) ∷ [])

in_file : (levels_in kinds.Hdr scopes.File ≡ replicate 30 E) × (levels_in kinds.Trl scopes.File ≡ replicate 30 E)
in_file = (refl, refl)

in_group : (levels_in kinds.Grh scopes.File ≡ replicate 30 G) × (levels_in kinds.Grt scopes.Transaction ≡ replicate 30 G)
in_group = (refl, refl)

in_header : flat_map (λ kind. flat_map (levels_in kind) (scopes.Group ∷ scopes.Transaction ∷ []))
    header_kinds ≡ replicate 240 T
in_header = refl

-- after a header: the two sequences
in_sequences : flat_map (λ kind. flat_map (λ j. map (λ reason. level_of (Some kind) j reason scopes.Transaction)
    (reasons.Cell Blank ∷ reasons.Cell NotDigits ∷ reasons.Number 7 ∷ [])) (2 ∷ 3 ∷ [])) inner_kinds ≡ replicate (6 * length inner_kinds) T
in_sequences = refl

-- after a header: the excess
in_excess : map (λ kind. level_of (Some kind) (length (layout kind) + 1) reasons.Excess scopes.Transaction) inner_kinds
    ≡ replicate (length inner_kinds) R
in_excess = refl

-- after a header: a cell, by its type
abbrev level_of_cells : CellType → Level
level_of_cells ty = level_of_type (Some (record { name = []; width = 1; ty = ty; derived = false }))

by_type : (map level_of_cells (types.Required ∷ types.Number ∷ types.Code tables.Role ∷ []) ≡ replicate 3 R)
    × (map level_of_cells (types.Text ∷ types.OptNumber ∷ types.Date ∷ types.OptDate ∷ types.Time ∷ types.OptTime
    ∷ types.OptDuration ∷ types.Share ∷ types.Flag ∷ types.OptCode tables.Sign ∷ types.Constant words.Edi
    ∷ []) ≡ replicate 11 F)
by_type = (refl, refl)

by_field : (level_of (Some kinds.Swr) 5 (reasons.Cell Blank) scopes.Transaction ≡ R)
    × (level_of (Some kinds.Ter) 5 (reasons.Cell NotDigits) scopes.Transaction ≡ R)
    × (level_of (Some kinds.Ipa) 4 (reasons.Cell NotACode) scopes.Transaction ≡ R)
    × (level_of (Some kinds.Swr) 12 (reasons.Cell OverShare) scopes.Transaction ≡ F)
    × (level_of (Some kinds.Spu) 8 (reasons.Cell NotACode) scopes.Transaction ≡ F)
    × (level_of (Some kinds.Rec) 4 (reasons.Cell NotADate) scopes.Transaction ≡ F)
by_field = (refl, refl, refl, refl, refl, refl)
