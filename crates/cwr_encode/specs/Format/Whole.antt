-- What is answered when a whole transmission is written.
use Rattle.std.specs.Prelude.{◌≡◌, ℕ, List, Option, Result, Ok, Err}
use Rattle.cwr_devices.specs.Format.Failures.{one_more_failure}
use Rattle.cwr_shape.specs.declared.limits.LimitKind.TheVariants as limit_kinds
use Rattle.cwr_values.specs.declared.transmissions.ValueFault.{ValueFault}
use Rattle.cwr_values.specs.declared.transmissions.ValueFault.TheVariants.{NoGroup, Records, Groups, Transaction}
use Rattle.cwr_encode.specs.declared.encoders.EncodeFault.{EncodeFault}
use Rattle.cwr_encode.specs.declared.encoders.EncodeFault.TheVariants.{Incomplete, Limit, Writer}
use Rattle.cwr_encode.specs.Format.Finishing.{HasAll, HasFront}

-- why a transmission is refused that doesn't fit
abbrev pub refusal_of : ValueFault → EncodeFault
refusal_of NoGroup = Incomplete
refusal_of Records = Limit limit_kinds.Records
refusal_of Groups = Limit limit_kinds.Groups
refusal_of (Transaction group transaction) = Limit limit_kinds.Transaction

-- Where all goes well the text is written after what the writer had, and its length is the answer; where the writer fails,
-- the text's first bytes are, and how many is the answer. There is no other fault.
abbrev pub WritesAll : {W : Type 0} → (W → Option (List ℕ)) → (W → ℕ) → List ℕ → W → W → Result ℕ EncodeFault → Type 0
WritesAll contents failures text old new (Ok n) = (failures new ≡ failures old) × HasAll contents (contents old) new text n
WritesAll contents failures text old new (Err (Writer n)) =
    (failures new ≡ one_more_failure (failures old)) × HasFront contents (contents old) new text n
WritesAll contents failures text old new (Err fault) = ⊥
