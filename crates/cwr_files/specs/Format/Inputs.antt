-- Which words name standard input, what is read under a word, and what inputs are called.
use Rattle.std.specs.Prelude.{◌≡◌, ◌⊎◌, ℕ, Bool, true, false, if◌then◌else◌, List, [], ◌∷◌, All, map, Option, Some, None, IfSome, IsSome, codes, chars, encode_utf8_all}
use Rattle.std.specs.List.{AllZip}
use Rattle.std.specs.Str.{bytes_eq}
use Rattle.std.specs.Char.{is_control}
use Rattle.cwr_devices.specs.Format.Failures.{one_more_failure}
use Rattle.cwr_files.specs.declared.faults.Fault.{Fault}
use Rattle.cwr_files.specs.declared.faults.Fault.TheVariants as faults
use Rattle.cwr_files.specs.declared.faults.Name.TheVariants.{File, StandardInput}
use Rattle.cwr_files.specs.Format.Files.{Texts}

-- no word does, and `-`
abbrev pub is_standard : Option (List ℕ) → Bool
is_standard None = true
is_standard (Some name) = bytes_eq name (codes "-")

-- without words, and as the one word
abbrev pub are_standard : List (List ℕ) → Bool
are_standard [] = true
are_standard (name ∷ []) = is_standard (Some name)
are_standard names = false

-- ---- what is read under a word

-- standard input is there, or was read
abbrev pub IsThereOrRead : {I : Type 0} → I → Option I → Type 0
IsThereOrRead input standard = (standard ≡ Some input) ⊎ (standard ≡ None)

-- what lies there is this; nothing is read where nothing lies
abbrev pub IfThere : Option (List ℕ) → (List ℕ → Type 0) → Type 0
IfThere None is = ⊥
IfThere (Some text) is = is text

-- so is the text under a name, where texts are known
abbrev pub IfHeld : Option Texts → List ℕ → (List ℕ → Type 0) → Type 0
IfHeld None name is = Unit {0}
IfHeld (Some texts) name is = IfThere (texts name) is

-- so is what is on standard input, or in the file
abbrev pub IfReadAt : Bool → Option Texts → Option (List ℕ) → List ℕ → (List ℕ → Type 0) → Type 0
IfReadAt true held standard name is = IfSome standard is
IfReadAt false held standard name is = IfHeld held name is

-- so is what a word names: the file of that name, or standard input, where the bytes are known
abbrev pub IfRead : Option Texts → Option (List ℕ) → Option (List ℕ) → (List ℕ → Type 0) → Type 0
IfRead held standard None is = IfSome standard is
IfRead held standard (Some name) is = IfReadAt (is_standard (Some name)) held standard name is

-- the text that a word names, where it is known and there
abbrev pub text_at : Bool → Option Texts → Option (List ℕ) → List ℕ → Option (List ℕ)
text_at true held standard name = standard
text_at false None standard name = None
text_at false (Some texts) standard name = texts name

abbrev pub text_of : Option Texts → Option (List ℕ) → List ℕ → Option (List ℕ)
text_of held standard name = text_at (is_standard (Some name)) held standard name

-- the words name these texts, one each
abbrev pub AreTexts : Option Texts → Option (List ℕ) → List (List ℕ) → List (List ℕ) → Type 0
AreTexts held standard names texts = AllZip (λ name text. text_of held standard name ≡ Some text) names texts

-- what each word names is there, where texts are known
abbrev pub AreThere : Option Texts → Option (List ℕ) → List (List ℕ) → Type 0
AreThere held standard names = All (λ name. IfRead held standard (Some name) (λ text. Unit {0})) names

-- ---- an input that couldn't be opened

-- Where the word names standard input, which is there once, that isn't there; else the file of the word couldn't be opened, the system said why,
-- and it is counted.
abbrev pub IsUnopenedBy : {I : Type 0} → Option (List ℕ) → Option I → ℕ → ℕ → Fault → Type 0
IsUnopenedBy name standard old new (faults.Open StandardInput reason) =
    (is_standard name ≡ true) × (standard ≡ None) × (reason ≡ None) × (new ≡ old)
IsUnopenedBy name standard old new (faults.Open (File of) reason) =
    (is_standard name ≡ false) × (name ≡ Some of.now) × IsSome reason × (new ≡ one_more_failure old)
IsUnopenedBy name standard old new fault = ⊥

-- the name under which the system has what a word names
abbrev pub path_of_input : List ℕ → List ℕ
path_of_input word = if bytes_eq word (codes "-") then codes "/dev/stdin" else word

-- ---- how inputs are shown

-- a character as a line shows it: one that controls is `?`
abbrev pub shown_char : ℕ → ℕ
shown_char c = if is_control c then 63 else c

-- a text as a line shows it
abbrev pub shown_text : List ℕ → List ℕ
shown_text text = encode_utf8_all (map shown_char (chars text))

-- what the input that a word names is called in lines
abbrev pub shown_name : List ℕ → List ℕ
shown_name word = if bytes_eq word (codes "-") then codes "standard input" else shown_text word
