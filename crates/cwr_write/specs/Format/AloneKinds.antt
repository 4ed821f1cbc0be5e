-- The kinds whose records are items alone.
use Rattle.cwr_fields.specs.declared.kinds.Kind.{Kind}
use Rattle.cwr_fields.specs.declared.kinds.Kind.TheVariants.{Hdr, Grh, Grt, Trl}

-- a record of the kind is an item alone
abbrev pub IsAlone : Kind → Type 0
IsAlone Hdr = Unit {0}
IsAlone Grh = Unit {0}
IsAlone Grt = Unit {0}
IsAlone Trl = Unit {0}
IsAlone other = ⊥
