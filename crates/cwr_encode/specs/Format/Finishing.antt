-- How finishing is answered: when a transmission may end, and what is written then.
use Rattle.std.specs.Prelude.{◌≡◌, ℕ, ◌-◌, ◌^◌, min, List, [], ◌∷◌, ◌++◌, length, Option, Result}
use Rattle.std.specs.Io.KnownBytes.{Appends}
use Rattle.cwr_fields.specs.declared.kinds.Kind.TheVariants as kinds
use Rattle.cwr_lines.specs.Format.Records.{RecordValue}
use Rattle.cwr_shape.specs.declared.symbols.Symbol.{Symbol}
use Rattle.cwr_shape.specs.declared.symbols.Symbol.TheVariants.{Plain}
use Rattle.cwr_shape.specs.Format.Ranges.{LimitValues}
use Rattle.cwr_values.specs.Format.Values.{TransmissionValue, IsTransmission, FitsIn}
use Rattle.cwr_values.specs.Format.Rows.{records_of, trailer}
use Rattle.cwr_encode.specs.declared.encoders.Reached.{Reached}
use Rattle.cwr_encode.specs.declared.encoders.Reached.TheVariants as reached_to
use Rattle.cwr_encode.specs.declared.encoders.EncodeFault.{EncodeFault}
use Rattle.cwr_encode.specs.Format.Encoders.{JudgesCall, reached}

-- a transmission ends after a group, and no call but the last comes after HDR alone
abbrev pub IsBeforeTrailer : Reached → Type 0
IsBeforeTrailer reached_to.Opening = Unit {0}
IsBeforeTrailer reached_to.GroupFoot = Unit {0}
IsBeforeTrailer r = ⊥

-- a transmission ends that has a group
abbrev pub JudgesEnd : {A : Type 0} → LimitValues → List Symbol → Result A EncodeFault → Type 0
JudgesEnd limits xs answer =
    JudgesCall (IsBeforeTrailer (reached xs)) (Unit {0}) (reached xs ≡ reached_to.GroupFoot) limits xs (Plain kinds.Trl ∷ [])
    answer

-- with TRL after them the records are those of the transmission, which is within the limits
pub record Completes (limits : LimitValues) (records : List RecordValue) (v : TransmissionValue) : Type 0 where
  pub whole : IsTransmission v
  pub within : FitsIn limits v
  pub records_are : records_of v ≡ records ++ trailer ∷ []

-- after what the writer had at the start it has the text, and the number is the text's length
pub record HasAll {W : Type 0} (contents : W → Option (List ℕ)) (start : Option (List ℕ)) (writer : W) (text : List ℕ)
    (n : ℕ) : Type 0 where
  pub appended : Appends start (contents writer) text
  pub counted : n ≡ min (length text) (2 ^ 64 - 1)

-- after what the writer had at the start it has the text's first bytes, so many
pub record HasFront {W : Type 0} (contents : W → Option (List ℕ)) (start : Option (List ℕ)) (writer : W) (text : List ℕ)
    (n : ℕ) : Type 0 where
  pub bytes : List ℕ
  pub rest : List ℕ
  pub split : text ≡ bytes ++ rest
  pub has : HasAll contents start writer bytes n
