-- The numbers that a record must have, by its kind and what was counted before it.
use Rattle.std.specs.Prelude.{ℕ, ◌+◌, ◌-◌, Bool, true, false, List, [], ◌∷◌}
use Rattle.cwr_fields.specs.declared.codes.TransactionType.{TransactionType}
use Rattle.cwr_fields.specs.declared.kinds.Kind.{Kind}
use Rattle.cwr_fields.specs.declared.kinds.Kind.TheVariants.{Hdr, Grh, Grt, Trl}
use Rattle.cwr_shape.specs.declared.symbols.Symbol.TheVariants as symbols
use Rattle.cwr_shape.specs.declared.tallies.Counts.{Counts}
use Rattle.cwr_shape.specs.Format.NextSymbols.{is_header_of}

-- the numbers of a record inside a transaction, which is a header or not
abbrev pub expected_inside : Bool → Counts → List ℕ
expected_inside true c = c.in_group ∷ 0 ∷ []
expected_inside false c = (c.in_group - 1) ∷ (c.after_header + 1) ∷ []

-- the numbers of a record of the kind, in a group of the type
abbrev pub expected_numbers : TransactionType → Counts → Kind → List ℕ
expected_numbers ty c Hdr = []
expected_numbers ty c Grh = (c.groups + 1) ∷ []
expected_numbers ty c Grt = c.groups ∷ c.in_group ∷ (c.after_grh + 2) ∷ []
expected_numbers ty c Trl = c.groups ∷ c.transactions ∷ (c.records + 1) ∷ []
expected_numbers ty c this_kind = expected_inside (is_header_of ty (symbols.Plain this_kind)) c
