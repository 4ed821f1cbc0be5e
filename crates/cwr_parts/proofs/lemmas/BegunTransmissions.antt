-- Where records begin those of a transmission, a call of an encoder that adds more of them may come: it is no mistake, and it
-- isn't refused by a limit to which the transmission keeps.
use Rattle.std.proofs.Common.{◌≡◌, List, ◌++◌, map, ap, subst, ◌∙◌}
use Rattle.std.specs.Prelude.{Err}
use Rattle.std.proofs.lemmas.List.{map-append}
use Rattle.cwr_lines.specs.Format.Records.{RecordValue}
use Rattle.cwr_shape.specs.declared.symbols.Symbol.{Symbol}
use Rattle.cwr_shape.specs.declared.limits.LimitKind.{LimitKind}
use Rattle.cwr_shape.specs.declared.limits.LimitKind.TheVariants as limits
use Rattle.cwr_shape.specs.declared.tallies.Bar.TheVariants as bars
use Rattle.cwr_shape.specs.Format.Ranges.{LimitValues}
use Rattle.cwr_shape.specs.Format.AnyTransmission.{Any}
use Rattle.cwr_shape.specs.Format.Outlines.{Continues, IsWithin}
use Rattle.cwr_shape.specs.Format.NextSymbols.{IsBarredFirst}
use Rattle.cwr_values.specs.Format.Values.{TransmissionValue, IsTransmission, FitsIn, symbol_of, outline_of}
use Rattle.cwr_values.specs.Format.Rows.{records_of}
use Rattle.cwr_values.proofs.lemmas.OneSpelling.{symbols-outline, outline_whole}
use Rattle.cwr_encode.specs.declared.encoders.EncodeFault.TheVariants.{Limit}
use Rattle.cwr_encode.specs.Format.Encoders.{JudgesCall}

-- the symbols of its first records begin a transmission
pub begins : (v : TransmissionValue) (records rest : List RecordValue) → IsTransmission v → records_of v ≡ records ++ rest
    → Continues Any (map symbol_of records)
begins v records rest h e = (
  outline_of v,
  outline_whole v h,
  tt,
  (map symbol_of rest, symbols-outline v h ∙ ap (map symbol_of) e ∙ map-append symbol_of records rest),
)

-- within the limits, if it is
pub begins_within : (allowed : LimitValues) (v : TransmissionValue) (records rest : List RecordValue) → IsTransmission v
    → FitsIn allowed v → records_of v ≡ records ++ rest
    → Continues (IsWithin allowed) (map symbol_of records)
begins_within allowed v records rest h fits e = (
  outline_of v,
  outline_whole v h,
  fits,
  (map symbol_of rest, symbols-outline v h ∙ ap (map symbol_of) e ∙ map-append symbol_of records rest),
)

-- with these records added to those before
pub begins_more : (v : TransmissionValue) (records added rest : List RecordValue) → IsTransmission v
    → records_of v ≡ (records ++ added) ++ rest → Continues Any (map symbol_of records ++ map symbol_of added)
begins_more v records added rest h e =
    subst (Continues Any) (map-append symbol_of records added) (begins v (records ++ added) rest h e)

pub begins_more_within : (allowed : LimitValues) (v : TransmissionValue) (records added rest : List RecordValue)
    → IsTransmission v → FitsIn allowed v → records_of v ≡ (records ++ added) ++ rest
    → Continues (IsWithin allowed) (map symbol_of records ++ map symbol_of added)
begins_more_within allowed v records added rest h fits e =
    subst (Continues (IsWithin allowed)) (map-append symbol_of records added)
    (begins_within allowed v (records ++ added) rest h fits e)

-- no limit refuses a call with which a transmission within the limits continues
pub never_limited : (allowed : LimitValues) (comes right whole : Type 0) (xs added : List Symbol) (limit : LimitKind)
    → Continues (IsWithin allowed) (xs ++ added)
    → JudgesCall {A = Unit {0}} comes right whole allowed xs added (Err (Limit limit)) → ⊥
never_limited allowed comes right whole xs added limits.Records g h = h.3.1 (g.0, g.1, g.2.0, g.3)
never_limited allowed comes right whole xs added limits.Groups g h = h.3.1 (g.0, g.1, g.2.1, g.3)
never_limited allowed comes right whole xs added limits.Transaction g h = h.3.2 (g.0, g.1, g.2.2, g.3)

-- nor is it barred
pub never_barred : (allowed : LimitValues) (xs : List Symbol) (limit : LimitKind) → Continues (IsWithin allowed) xs
    → IsBarredFirst allowed (λ P. Continues P xs) (bars.Limit limit) → ⊥
never_barred allowed xs limits.Records g h = h.1 (g.0, g.1, g.2.0, g.3)
never_barred allowed xs limits.Groups g h = h.1 (g.0, g.1, g.2.1, g.3)
never_barred allowed xs limits.Transaction g h = h.2 (g.0, g.1, g.2.2, g.3)
