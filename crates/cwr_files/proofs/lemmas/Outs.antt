-- What is left of a run that writes a file.
use Rattle.std.proofs.Common.{◌≡◌, ℕ, ◌+◌, List, Option, Some, None, ap, subst, ◌∙◌}
use Rattle.std.specs.Prelude.{Ok, Err}
use Rattle.std.specs.Str.{bytes_eq}
use Rattle.cwr_files.specs.Format.Files.{Same, Texts, Turns}
use Rattle.cwr_files.specs.Format.NewFiles.{HoldsNew, LeavesAll, LeavesNothing, unfinished_name}
use Rattle.cwr_files.specs.Steps.NewFiles.{EndsDropped, EndsKept, IsBegun, final_name, name_of_part}
use Rattle.cwr_files.specs.declared.new_files.NewFile.{NewFile}

-- the file has its name
pub holds_new : (A E : Type 0) (made : NewFile) (name text : List ℕ) (is : List ℕ → Type 0) (old failures : ℕ) (a : A) (texts : Texts)
    (now : Option Texts) → final_name made ≡ name → is text → EndsKept {A = A} {E = E} made text old failures (Ok a) texts now
    → Turns (Some texts) now (HoldsNew name is)
holds_new A E made name text is old failures a texts None e h k = absurd k
holds_new A E made name text is old failures a texts (Some new) e h k =
    subst (λ (n : List ℕ). HoldsNew n is texts new) e (text, h, k)

pub leaves_all : (made : NewFile) (name : List ℕ) (making : Option (List ℕ)) (most failures : ℕ) (texts on new : Texts) → final_name made ≡ name
    → IsBegun made making texts on → LeavesNothing (name_of_part made) most failures texts new → LeavesAll name most failures texts new
leaves_all made name making most failures texts on new e begun left =
    by (subst (λ (o : Option (List ℕ)). LeavesNothing o most failures texts new) begun.called left)
  where
    by : LeavesNothing (Some begun.part) most failures texts new → LeavesAll name most failures texts new
    by h = record {
      others = λ n no. h.0 n (ap (bytes_eq n) (begun.is_part.0.called
          ∙ ap (λ (m : List ℕ). unfinished_name m begun.is_part.0.tries) e) ∙ no begun.is_part.0.tries);
      all = h.1;
    }

-- it hasn't
pub leaves_kept : (A E : Type 0) (made : NewFile) (name text : List ℕ) (making : Option (List ℕ)) (old failures : ℕ) (fault : E)
    (texts on : Texts) (now : Option Texts) → final_name made ≡ name → IsBegun made making texts on
    → EndsKept {A = A} {E = E} made text old failures (Err fault) texts now → Turns (Some texts) now (LeavesAll name (old + 1) failures)
leaves_kept A E made name text making old failures fault texts on None e begun k = absurd k
leaves_kept A E made name text making old failures fault texts on (Some new) e begun k =
    leaves_all made name making (old + 1) failures texts on new e begun k

pub leaves_dropped : (made : NewFile) (name : List ℕ) (making : Option (List ℕ)) (most failures : ℕ) (texts on : Texts) (now : Option Texts)
    → final_name made ≡ name → IsBegun made making texts on → EndsDropped made most failures texts now
    → Turns (Some texts) now (LeavesAll name most failures)
leaves_dropped made name making most failures texts on None e begun k = absurd k
leaves_dropped made name making most failures texts on (Some new) e begun k =
    leaves_all made name making most failures texts on new e begun k

-- where nothing changed
pub leaves_same : (name : List ℕ) (most failures : ℕ) (texts new : Texts) → Same texts new → LeavesAll name most failures texts new
leaves_same name most failures texts new h = record { others = λ n no. h n; all = λ few below. h }
