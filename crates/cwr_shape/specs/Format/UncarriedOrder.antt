-- The orders of records without copies, with carried records and without, for the laws that each order that was one of these still is.
use Rattle.std.specs.Prelude.{◌≡◌, ◌<◌, Bool, true, false, not, List, length}
use Rattle.std.specs.List.{AllByRecursion, list_all}
use Rattle.cwr_fields.specs.declared.codes.TransactionType.{TransactionType}
use Rattle.cwr_fields.specs.declared.codes.TransactionType.TheVariants.{Agreement, NewWork, RevisedWork, Acknowledgement}
use Rattle.cwr_fields.specs.declared.kinds.Kind.{Kind}
use Rattle.cwr_fields.specs.declared.kinds.Kind.TheVariants as kinds
use Rattle.cwr_shape.specs.declared.symbols.Symbol.{Symbol}
use Rattle.cwr_shape.specs.declared.symbols.Symbol.TheVariants.{Plain}
use Rattle.cwr_shape.specs.Format.Outlines.{GroupOutline, symbols_of}
use Rattle.cwr_shape.specs.Format.Shapes.{Pattern, ◌then◌, many, Matches, is_carried_symbol, a, some, block, publisher, writer}
use Rattle.cwr_shape.specs.Format.Shapes.{tail_record, agreement, work}

-- an agreement
abbrev pub uncarried_agreement : Pattern
uncarried_agreement = a kinds.Agr then some block

-- a work with that header
abbrev pub uncarried_work : Kind → Pattern
uncarried_work header = a header then many publisher then some writer then many tail_record

-- the pattern of the transactions of a type
abbrev pub uncarried_pattern : TransactionType → Pattern
uncarried_pattern Agreement = uncarried_agreement
uncarried_pattern NewWork = uncarried_work kinds.Nwr
uncarried_pattern RevisedWork = uncarried_work kinds.Rev
uncarried_pattern Acknowledgement = a kinds.Ack then many (a kinds.Msg)

-- the symbols are a whole transaction of the type, in which no record is carried, and an acknowledgement has no copy
abbrev pub IsUncarriedShape : TransactionType → List Symbol → Type 0
IsUncarriedShape ty xs = Matches (uncarried_pattern ty) xs

-- a symbol that such a transaction may have: none of a carried record, and in an acknowledgement no header of its copy
abbrev pub is_former : TransactionType → Symbol → Bool
is_former Acknowledgement (Plain kinds.Agr) = false
is_former Acknowledgement (Plain kinds.Nwr) = false
is_former Acknowledgement (Plain kinds.Rev) = false
is_former ty s = not (is_carried_symbol s)

abbrev pub AreFormer : TransactionType → List Symbol → Type 0
AreFormer ty xs = list_all (is_former ty) xs ≡ true

-- one or more such transactions, each of the group's type
abbrev pub IsUncarriedGroup : GroupOutline → Type 0
IsUncarriedGroup g = (0 < length g.transactions) × AllByRecursion (IsUncarriedShape g.ty) g.transactions

-- the symbols are those of a whole transmission, in which no record is carried, and no acknowledgement has a copy
abbrev pub IsUncarriedWhole : List Symbol → Type 0
IsUncarriedWhole xs =
    (groups : List GroupOutline) × (0 < length groups) × AllByRecursion IsUncarriedGroup groups × (xs ≡ symbols_of groups)

-- ---- with carried records

-- the pattern of the transactions of a type, of which an acknowledgement has no copy
abbrev pub uncopied_pattern : TransactionType → Pattern
uncopied_pattern Agreement = agreement
uncopied_pattern NewWork = work kinds.Nwr
uncopied_pattern RevisedWork = work kinds.Rev
uncopied_pattern Acknowledgement = a kinds.Ack then many (a kinds.Msg)

-- the symbols are a whole transaction of the type, without a copy
abbrev pub IsUncopiedShape : TransactionType → List Symbol → Type 0
IsUncopiedShape ty xs = Matches (uncopied_pattern ty) xs

-- a symbol that such a transaction may have: in an acknowledgement no header of its copy
abbrev pub is_uncopied : TransactionType → Symbol → Bool
is_uncopied Acknowledgement (Plain kinds.Agr) = false
is_uncopied Acknowledgement (Plain kinds.Nwr) = false
is_uncopied Acknowledgement (Plain kinds.Rev) = false
is_uncopied ty s = true

abbrev pub AreUncopied : TransactionType → List Symbol → Type 0
AreUncopied ty xs = list_all (is_uncopied ty) xs ≡ true

-- one or more such transactions, each of the group's type
abbrev pub IsUncopiedGroup : GroupOutline → Type 0
IsUncopiedGroup g = (0 < length g.transactions) × AllByRecursion (IsUncopiedShape g.ty) g.transactions

-- the symbols are those of a whole transmission, in which no acknowledgement has a copy
abbrev pub IsUncopiedWhole : List Symbol → Type 0
IsUncopiedWhole xs =
    (groups : List GroupOutline) × (0 < length groups) × AllByRecursion IsUncopiedGroup groups × (xs ≡ symbols_of groups)
