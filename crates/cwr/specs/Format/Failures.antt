-- What failed where a run of a work ends as one that did.
use Rattle.std.specs.Prelude.{◌≡◌, ℕ, List, [], ◌∷◌, map, Option, None, Some, IsSome, Result, Ok, Err}
use Rattle.cwr_words.specs.declared.words.Work.{Work}
use Rattle.cwr_words.specs.declared.words.Work.TheVariants.{Check, Show, Explain, Lint, Advise, Json, Csv, Acks, Summary, Write, Split, Join, Renumber}
use Rattle.cwr_files.specs.declared.faults.Fault.{Fault}
use Rattle.cwr_files.specs.declared.faults.Fault.TheVariants as faults
use Rattle.cwr_files.specs.Format.Files.{Texts}
use Rattle.cwr_endings.specs.declared.endings.Status.{Status}
use Rattle.cwr_endings.specs.declared.endings.Status.TheVariants as statuses
use Rattle.cwr_endings.specs.declared.stops.Stop.{Stop}
use Rattle.cwr_endings.specs.declared.stops.Stop.TheVariants as stops
use Rattle.cwr_endings.specs.Format.Failures.{FailsOut, FailsSo, FailsToJoin, IsFaultOfRead}
use Rattle.cwr_answers.specs.Format.Failures.{FailsOnAnswers, IsFaultOfOne}
use Rattle.cwr_transform.specs.Format.Splits.{FailsToCut}

-- so it is where a report on several ends as what failed does, or standard input was named twice
abbrev pub FailsEach : Result Status Stop → ℕ → ℕ → Type 0
FailsEach (Ok statuses.Fault) old now = (fault : Fault) × IsFaultOfOne fault old now
FailsEach (Ok status) old now = Unit {0}
FailsEach (Err stops.Output) old now = Unit {0}
FailsEach (Err (stops.Fault (faults.IsTwice of))) old now = Unit {0}
FailsEach (Err (stops.Fault fault)) old now = IsFaultOfRead fault old now

abbrev pub FailsOnFiles : List (List ℕ) → Result Status Stop → ℕ → ℕ → Type 0
FailsOnFiles [] ending old now = FailsSo ending old now
FailsOnFiles (name ∷ []) ending old now = FailsSo ending old now
FailsOnFiles (name ∷ other ∷ names) ending old now = FailsEach ending old now

-- the one input of acknowledgements that are matched with nothing
abbrev pub one_of : List (List ℕ) → List (List ℕ) → Option (Option (List ℕ))
one_of [] [] = Some None
one_of (name ∷ []) [] = Some (Some name)
one_of names sent = None

-- It is so of that one. Of several, and of those that are matched with what was sent, nothing is said.
abbrev pub OfOne : List (List ℕ) → List (List ℕ) → (Option (List ℕ) → Type 0) → Type 0
OfOne [] [] is = is None
OfOne (name ∷ []) [] is = is (Some name)
OfOne names sent is = Unit {0}

-- A run of the work that ends as what failed does had a fault which is counted, where so many failures of files were counted before it and after
-- it, and this lay under names then, or no such file can be made, or there was no memory. Of a split it is said where it is known what lay under
-- names. Of selections nothing is said here.
abbrev pub FailsWork : Work → Option (List ℕ) → Option Texts → Option Texts → Result Status Stop → ℕ → ℕ → Type 0
FailsWork (Check judging) making held after ending old now = FailsOnFiles (map (λ name. name.now) judging.files.items) ending old now
FailsWork (Explain judging) making held after ending old now = FailsOnFiles (map (λ name. name.now) judging.files.items) ending old now
FailsWork (Show words) making held after ending old now = FailsSo ending old now
FailsWork (Lint words) making held after ending old now = FailsOnFiles (map (λ name. name.now) words.files.items) ending old now
FailsWork (Advise words) making held after ending old now = FailsOnFiles (map (λ name. name.now) words.judging.files.items) ending old now
FailsWork (Json words) making held after ending old now = FailsOut words.out making held after ending old now
FailsWork (Csv words) making held after ending old now = FailsOut words.out making held after ending old now
FailsWork (Acks words) making held after ending old now =
    OfOne (map (λ name. name.now) words.files.items) (map (λ name. name.now) words.sent.items) (λ name. FailsSo ending old now)
    × FailsOnAnswers ending old now
FailsWork (Summary words) making held after ending old now = FailsEach ending old now
FailsWork (Write words) making held after ending old now = FailsOut words.out making held after ending old now
FailsWork (Split words) making held after ending old now = making ≡ None → IsSome held → FailsToCut ending old now
FailsWork (Join words) making held after ending old now = FailsToJoin words.out making held after ending old now
FailsWork (Renumber words) making held after ending old now = FailsOut words.out making held after ending old now
FailsWork work making held after ending old now = Unit {0}
