-- What putting numbers right writes, and the status of that, by what a text is with its numbers put right.
use Rattle.std.specs.Prelude.{◌≡◌, ◌⊎◌, ℕ, Bool, true, false, List, Option, IfSome, Result, Ok, Err}
use Rattle.cwr_shape.specs.declared.limits.Limits.{Limits}
use Rattle.cwr_values.specs.Format.Values.{FitsIn, IsTransmission, TransmissionValue}
use Rattle.cwr_values.specs.Format.Rows.{canonical_text}
use Rattle.cwr_judge.specs.Format.Ends.{IsAccepted}
use Rattle.cwr_judge.specs.Format.Items.{value_items}
use Rattle.cwr_endings.specs.declared.endings.Status.{Status}
use Rattle.cwr_endings.specs.declared.endings.Status.TheVariants as statuses
use Rattle.cwr_endings.specs.declared.endings.Wanted.{Wanted}
use Rattle.cwr_endings.specs.declared.stops.Stop.{Stop}
use Rattle.cwr_endings.specs.Format.Endings.{FindsFrom}

-- With its numbers put right the text is accepted as the transmission, and no finding in that is unwanted.
pub record RepairsTo (renumbered : List ℕ → List ℕ) (limits : Limits) (wanted : Wanted) (text : List ℕ) (v : TransmissionValue)
    : Type 0 where
  pub count : ℕ
  pub accepted : IsAccepted limits (renumbered text) v count
  pub calm : FindsFrom wanted.fail_on (value_items v) false

-- as no transmission it is
abbrev pub RepairsToNone : (List ℕ → List ℕ) → Limits → Wanted → List ℕ → Type 0
RepairsToNone renumbered limits wanted text = (v : TransmissionValue) → RepairsTo renumbered limits wanted text v → ⊥

-- The numbers of a text are put right where it is accepted then, and that ends well. Else it ends as refused; so it may where nothing may
-- follow the transmission, and where numbers by which records may have come into the transaction or the group before theirs aren't put
-- right.
abbrev pub IsRepairStatus : (List ℕ → List ℕ) → Limits → Wanted → Bool → List ℕ → Status → Type 0
IsRepairStatus renumbered limits wanted anyway text statuses.Good =
    (v : TransmissionValue) × RepairsTo renumbered limits wanted text v
IsRepairStatus renumbered limits wanted anyway text statuses.Refused =
    RepairsToNone renumbered limits wanted text ⊎ ((wanted.whole ≡ true) ⊎ (anyway ≡ false))
IsRepairStatus renumbered limits wanted anyway text statuses.CommandLine = ⊥
IsRepairStatus renumbered limits wanted anyway text statuses.Fault = ⊥

-- so it ends where the bytes of the input are known, or the input, what is written, or memory failed
abbrev pub EndsAsRepair : (List ℕ → List ℕ) → Limits → Wanted → Bool → Option (List ℕ) → Result Status Stop → Type 0
EndsAsRepair renumbered limits wanted anyway input (Ok status) =
    IfSome input (λ text. IsRepairStatus renumbered limits wanted anyway text status)
EndsAsRepair renumbered limits wanted anyway input (Err stop) = Unit {0}

-- The text is canonical, of a transmission within the limits, as which the input is accepted with its numbers put right.
pub record IsRepairOf (renumbered : List ℕ → List ℕ) (limits : Limits) (wanted : Wanted) (input : Option (List ℕ)) (text : List ℕ)
    : Type 0 where
  pub value : TransmissionValue
  pub whole : IsTransmission value
  pub within : FitsIn limits value
  pub canonical : text ≡ canonical_text value
  pub repaired : IfSome input (λ known. RepairsTo renumbered limits wanted known value)
