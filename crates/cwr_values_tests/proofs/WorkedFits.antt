-- Worked limits: the first that a transmission doesn't keep to.
use Rattle.std.proofs.Common.{◌≡◌, ℕ, List, [], ◌∷◌, refl}
use Rattle.std.specs.Prelude.{Some, None}
use Rattle.cwr_fields.specs.declared.kinds.Kind.TheVariants as kinds
use Rattle.cwr_lines.specs.Format.Records.{RecordValue, blank_record}
use Rattle.cwr_shape.specs.declared.limits.Limits.{Limits}
use Rattle.cwr_values.specs.declared.transmissions.ValueFault.TheVariants.{NoGroup, Records, Groups, Transaction}
use Rattle.cwr_values.specs.Format.Values.{GroupValue, TransmissionValue}
use Rattle.cwr_values.specs.Format.Rows.{rows}
use Rattle.cwr_values.specs.Format.Fits.{value_fault}

-- shorter names

abbrev limits : ℕ → ℕ → ℕ → Limits
limits records groups transaction = record { records = records; groups = groups; transaction = transaction }

abbrev group : List (List RecordValue) → GroupValue
group ts = record { head = blank_record kinds.Grh; transactions = ts; foot = blank_record kinds.Grt }

abbrev transmission : List GroupValue → TransmissionValue
transmission groups = record { opening = blank_record kinds.Hdr; groups = groups }

abbrev ack : RecordValue
ack = blank_record kinds.Ack

abbrev msg : RecordValue
msg = blank_record kinds.Msg

-- two groups: acknowledgements of one and two records, and of three and four
abbrev worked : TransmissionValue
worked =
    transmission
    (group ((ack ∷ []) ∷ (ack ∷ msg ∷ []) ∷ []) ∷ group ((ack ∷ msg ∷ msg ∷ []) ∷ (ack ∷ msg ∷ msg ∷ msg ∷ []) ∷ []) ∷ [])

no_group : value_fault (limits 5 1 1) (transmission []) ≡ Some NoGroup
unfolding rows
no_group = refl

fits : value_fault (limits 16 2 4) worked ≡ None
unfolding rows
fits = refl

too_many_records : value_fault (limits 15 1 1) worked ≡ Some Records
unfolding rows
too_many_records = refl

too_many_groups : value_fault (limits 16 1 1) worked ≡ Some Groups
unfolding rows
too_many_groups = refl

-- the first by its place, and not the longest
too_long : (value_fault (limits 16 2 3) worked ≡ Some (Transaction 1 1))
    × (value_fault (limits 16 2 1) worked ≡ Some (Transaction 0 1))
unfolding rows
too_long = (refl, refl)
