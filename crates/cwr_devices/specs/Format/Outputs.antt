-- What the outputs of a split have had.
use Rattle.std.specs.Prelude.{◌≡◌, ℕ, ◌+◌, ◌-◌, ◌^◌, ◌==◌, min, List, [], ◌∷◌, ◌++◌, length, Option, Some, None, Result, Ok, Err}
use Rattle.std.specs.Prelude.{if◌then◌else◌}
use Rattle.cwr_devices.specs.Format.Failures.{one_more_failure}

-- texts that were known stay at the front, and these come after them
abbrev pub AddsTexts : Option (List (List ℕ)) → Option (List (List ℕ)) → List (List ℕ) → Type 0
AddsTexts None new added = Unit {0}
AddsTexts (Some texts) None added = ⊥
AddsTexts (Some texts) (Some now) added = now ≡ texts ++ added

-- one text does
abbrev pub AddsText : Option (List (List ℕ)) → Option (List (List ℕ)) → List ℕ → Type 0
AddsText old new text = AddsTexts old new (text ∷ [])

-- the bytes are known, and are so many; the highest number stands for more too
abbrev pub HasBytes : Option (List ℕ) → ℕ → Type 0
HasBytes None n = ⊥
HasBytes (Some bytes) n = n ≡ min (length bytes) (2 ^ 64 - 1)

-- how many failed writers were given up, with one more that has so many failures
abbrev pub given_up_with : ℕ → ℕ → ℕ
given_up_with failures before = if failures == 0 then before else one_more_failure before

-- how many writers are lent with one more, where it could be made
abbrev pub lent_after : {A B : Type 0} → Result A B → ℕ → ℕ
lent_after (Ok writer) before = before + 1
lent_after (Err fault) before = before
