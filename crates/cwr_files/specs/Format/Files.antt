-- What lies under names, and what one call of the system does to that.
use Rattle.std.specs.Prelude.{◌≡◌, ◌<◌, ℕ, zero, suc, ◌+◌, min, Bool, false, ◌&&◌, List, [], Option, Some, None, IsSome, Result, Ok, Err, if◌then◌else◌}
use Rattle.std.specs.Option.{is_some}
use Rattle.std.specs.Str.{bytes_eq}
use Rattle.cwr_devices.specs.Format.Failures.{most_failures, one_more_failure}
use Rattle.cwr_files.specs.declared.stores.Found.{Found}
use Rattle.cwr_files.specs.declared.stores.Found.TheVariants.{Nothing, File}
use Rattle.cwr_files.specs.declared.stores.Unmade.{Unmade}
use Rattle.cwr_files.specs.declared.stores.Unmade.TheVariants.{IsThere, Failed}

-- under each name a text, or nothing
abbrev pub Texts : Type 0
Texts = List ℕ → Option (List ℕ)

-- the texts where this lies under the name
abbrev pub put : List ℕ → Option (List ℕ) → Texts → Texts
put name text texts n = if bytes_eq n name then text else texts n

-- under each name lies the same
abbrev pub Same : Texts → Texts → Type 0
Same texts new = (n : List ℕ) → new n ≡ texts n

-- under each name but that one lies the same
abbrev pub SameBut : List ℕ → Texts → Texts → Type 0
SameBut name texts new = (n : List ℕ) → bytes_eq n name ≡ false → new n ≡ texts n

-- texts that were known are known again, and this holds between them
abbrev pub Turns : Option Texts → Option Texts → (Texts → Texts → Type 0) → Type 0
Turns None new how = Unit {0}
Turns (Some texts) None how = ⊥
Turns (Some texts) (Some new) how = how texts new

-- ---- how failures are counted

-- the count after so many more: at the highest it stays
abbrev pub counted_on : ℕ → ℕ → ℕ
counted_on zero before = before
counted_on (suc more) before = min (before + suc more) most_failures

-- a call that fails counts one more, and none else does
abbrev pub Counts : {A E : Type 0} → Result A E → ℕ → ℕ → Type 0
Counts (Ok x) old new = new ≡ old
Counts (Err e) old new = new ≡ one_more_failure old

-- a failure was counted, below the highest count
abbrev pub HasCounted : ℕ → ℕ → Type 0
HasCounted old failures = failures < most_failures → old < failures

-- that something has the name is no failure
abbrev pub CountsMaking : {W : Type 0} → Result W Unmade → ℕ → ℕ → Type 0
CountsMaking (Ok writer) old new = new ≡ old
CountsMaking (Err IsThere) old new = new ≡ old
CountsMaking (Err (Failed reason)) old new = new ≡ one_more_failure old

-- ---- what calls answer, and what they change

-- a reader of the text that lies there; where nothing does, none is answered
abbrev pub IsReader : {R E : Type 0} → (R → Option (List ℕ)) → Option (List ℕ) → Result R E → Type 0
IsReader remaining (Some text) (Ok reader) = remaining reader ≡ Some text
IsReader remaining None (Ok reader) = ⊥
IsReader remaining found (Err e) = Unit {0}

abbrev pub Opens : {R E : Type 0} → (R → Option (List ℕ)) → Option Texts → List ℕ → Result R E → Type 0
Opens remaining None name result = Unit {0}
Opens remaining (Some texts) name result = IsReader remaining (texts name) result

-- Where texts are known each name is that of a file of its own: two are those of one file just where they are the same name, and something
-- lies under it.
abbrev pub AreOne : Option Texts → List ℕ → List ℕ → Bool → Type 0
AreOne None name other result = Unit {0}
AreOne (Some texts) name other result = result ≡ (is_some (texts name) && bytes_eq name other)

-- where texts are known, a file has the name, or nothing
abbrev pub IsFound : {E : Type 0} → Option (List ℕ) → Result Found E → Type 0
IsFound None (Ok Nothing) = Unit {0}
IsFound (Some text) (Ok File) = Unit {0}
IsFound found (Err e) = Unit {0}
IsFound found result = ⊥

abbrev pub Finds : {E : Type 0} → Option Texts → List ℕ → Result Found E → Type 0
Finds None name result = Unit {0}
Finds (Some texts) name result = IsFound (texts name) result

-- a writer of nothing so far, under a name that nothing had; it is there only where something has it
abbrev pub IsMade : {W : Type 0} → (W → Option (List ℕ)) → List ℕ → Result W Unmade → Texts → Texts → Type 0
IsMade contents name (Ok writer) texts new = (texts name ≡ None) × SameBut name texts new × (contents writer ≡ Some [])
IsMade contents name (Err IsThere) texts new = IsSome (texts name) × Same texts new
IsMade contents name (Err (Failed reason)) texts new = Same texts new

-- a writer of nothing so far, under the name; what lies there then isn't said
abbrev pub IsOpened : {W E : Type 0} → (W → Option (List ℕ)) → List ℕ → Result W E → Texts → Texts → Type 0
IsOpened contents name (Ok writer) texts new = SameBut name texts new × (contents writer ≡ Some [])
IsOpened contents name (Err e) texts new = SameBut name texts new

-- the name that is being written, where texts are known
abbrev pub IsMaking : {W E : Type 0} → Option Texts → List ℕ → Result W E → Option (List ℕ) → Type 0
IsMaking texts name (Err e) now = now ≡ None
IsMaking None name (Ok writer) now = Unit {0}
IsMaking (Some texts) name (Ok writer) now = now ≡ Some name

-- under the name that was being written lies what the writer had; where that failed, anything may lie there
abbrev pub IsClosed : {E : Type 0} → Option (List ℕ) → Option (List ℕ) → Result (Unit {0}) E → Texts → Texts → Type 0
IsClosed None written result texts new = Same texts new
IsClosed (Some name) None result texts new = SameBut name texts new
IsClosed (Some name) (Some written) (Ok x) texts new = Same (put name (Some written) texts) new
IsClosed (Some name) (Some written) (Err e) texts new = SameBut name texts new

-- anything may lie under the name that was being written
abbrev pub IsGivenUp : Option (List ℕ) → Texts → Texts → Type 0
IsGivenUp None texts new = Same texts new
IsGivenUp (Some name) texts new = SameBut name texts new

-- what lay under the one name lies under the other, and no longer under the one; or nothing changed
abbrev pub IsRenamed : {E : Type 0} → List ℕ → List ℕ → Result (Unit {0}) E → Texts → Texts → Type 0
IsRenamed from to (Ok x) texts new = IsSome (texts from) × Same (put to (texts from) (put from None texts)) new
IsRenamed from to (Err e) texts new = Same texts new

-- nothing lies under the name, or nothing changed
abbrev pub IsRemoved : {E : Type 0} → List ℕ → Result (Unit {0}) E → Texts → Texts → Type 0
IsRemoved name (Ok x) texts new = Same (put name None texts) new
IsRemoved name (Err e) texts new = Same texts new
