-- Laws over what is told of advice.
use Rattle.std.specs.Prelude.{◌≡◌, ℕ, true, false, List, filter, take}
use Rattle.cwr_advice.specs.declared.rules.Advice.{Advice}
use Rattle.cwr_advise.specs.Format.ToldAdvice.{is_of, told_of}

-- of each rule the first three pieces are told, in their order
abbrev pub FirstAreTold : Type 0
FirstAreTold = (place : ℕ) (advice : List Advice) → filter (is_of place) (told_of false advice) ≡ take 3 (filter (is_of place) advice)

-- or all are
abbrev pub AllAreTold : Type 0
AllAreTold = (advice : List Advice) → told_of true advice ≡ advice
