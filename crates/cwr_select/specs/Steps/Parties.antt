-- Where records have IPI name numbers.
use Rattle.std.specs.Prelude.{ℕ}
use Rattle.cwr_fields.specs.declared.kinds.Kind.{Kind}
use Rattle.cwr_fields.specs.declared.kinds.Kind.TheVariants.{Ipa, Spu, Opu, Swr, Owr, Ewt, Ver, Per, Com}

-- the fields of a kind that have them, and 0 in the place of one that there isn't
abbrev pub party_fields : Kind → ℕ × ℕ
party_fields Ipa = (5, 0)
party_fields Spu = (10, 0)
party_fields Opu = (10, 0)
party_fields Swr = (10, 0)
party_fields Owr = (10, 0)
party_fields Per = (6, 0)
party_fields Ewt = (10, 14)
party_fields Ver = (10, 14)
party_fields Com = (10, 13)
party_fields this_kind = (0, 0)
