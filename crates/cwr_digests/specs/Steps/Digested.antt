-- What a hasher holds of what is read.
use Rattle.std.specs.Prelude.{◌≡◌, ℕ, List, ◌++◌, Option, None, Some}
use Rattle.std.specs.Coded.{Coded-set, Unit-prop, coded_list, coded_ℕ, Π_prop, →_prop, ×_prop}
use Rattle.std.specs.Io.KnownBytes.{Consumes}
use Rattle.sha2.specs.declared.Sha256.{Sha256}
use Rattle.sha2.specs.Hashers.{Holds256}
use Rattle.sha2.specs.Sha256.{Holds}

-- the hasher, if there is one, holds the text
abbrev pub HoldsIf : Option Sha256 → List ℕ → Type 0
HoldsIf hasher text = (h : Sha256) → hasher ≡ Some h → Holds256 h text

-- ---- each has one proof at most

pub Holds256-prop : (hasher : Sha256) (text : List ℕ) → IsProp (Holds256 hasher text)
unfolding Holds
Holds256-prop hasher text =
    ×_prop (Coded-set coded_ℕ _ _) (×_prop (Coded-set (coded_list coded_ℕ) _ _) (Coded-set (coded_list coded_ℕ) _ _))

pub HoldsIf-prop : (hasher : Option Sha256) (text : List ℕ) → IsProp (HoldsIf hasher text)
HoldsIf-prop hasher text = Π_prop (λ h. →_prop (Holds256-prop h text))

pub Consumes-prop : (whole left : Option (List ℕ)) (taken : List ℕ) → IsProp (Consumes whole left taken)
Consumes-prop None left taken = Unit-prop
Consumes-prop (Some w) None taken = λ x y. absurd x
Consumes-prop (Some w) (Some l) taken = Coded-set (coded_list coded_ℕ) w (taken ++ l)
