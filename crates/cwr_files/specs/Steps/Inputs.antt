-- The bytes that an input has left.
use Rattle.std.specs.Prelude.{◌≡◌, ℕ, Bool, true, false, List, [], Option, Some, None, IsSome}
use Rattle.cwr_files.specs.Format.Files.{Texts}
use Rattle.cwr_files.specs.Format.Inputs.{is_standard}
use Rattle.cwr_files.specs.declared.inputs.Device.{Device}
use Rattle.cwr_files.specs.declared.inputs.Device.TheVariants.{File, Standard, Ended}
use Rattle.cwr_files.specs.declared.inputs.Input.{Input}

abbrev pub remaining_in : {F I : Type 0} → (F → Option (List ℕ)) → (I → Option (List ℕ)) → Device F I → Option (List ℕ)
remaining_in of_file of_standard (File file) = of_file file
remaining_in of_file of_standard (Standard input) = of_standard input
remaining_in of_file of_standard Ended = Some []

abbrev pub remaining_of : {F I P : Type 0} → (F → Option (List ℕ)) → (I → Option (List ℕ)) → Input F I P → Option (List ℕ)
remaining_of of_file of_standard input = remaining_in of_file of_standard input.device

-- these bytes are left of the input
abbrev pub HasLeft : {F I P : Type 0} → (F → Option (List ℕ)) → (I → Option (List ℕ)) → Option (List ℕ) → Input F I P → Type 0
HasLeft of_file of_standard left input = remaining_of of_file of_standard input ≡ left

-- the bytes that standard input has left, where it is there
abbrev pub standard_left : {I : Type 0} → (I → Option (List ℕ)) → Option I → Option (List ℕ)
standard_left of_standard None = None
standard_left of_standard (Some input) = of_standard input

-- these are left of an input that was opened: what lies under its name, where texts are known, or what standard input has
abbrev pub IsLeftAt : Bool → Option Texts → Option (List ℕ) → List ℕ → Option (List ℕ) → Type 0
IsLeftAt true held standard name left = left ≡ standard
IsLeftAt false None standard name left = Unit {0}
IsLeftAt false (Some texts) standard name left = IsSome (texts name) × (left ≡ texts name)

abbrev pub IsLeftOf : Option Texts → Option (List ℕ) → Option (List ℕ) → Option (List ℕ) → Type 0
IsLeftOf held standard None left = left ≡ standard
IsLeftOf held standard (Some name) left = IsLeftAt (is_standard (Some name)) held standard name left

-- standard input is there once
abbrev pub standard_after : {I : Type 0} → Bool → Option I → Option I
standard_after true standard = None
standard_after false standard = standard

-- standard input is there, where it is asked for
abbrev pub IsThereFor : {I : Type 0} → Bool → Option I → Type 0
IsThereFor true standard = IsSome standard
IsThereFor false standard = Unit {0}
