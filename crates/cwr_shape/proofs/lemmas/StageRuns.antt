-- Symbols that begin a whole transmission are those by which the table continues from the start.
use Rattle.std.proofs.Common.{◌≡◌, true, List, [], ◌∷◌, ◌++◌, Option, Some, None, refl, sym, ap, subst, ◌∙◌, true≢false}
use Rattle.std.proofs.Common.{append_assoc}
use Rattle.std.specs.Prelude.{◌↔◌, IsSome, is_some}
use Rattle.std.specs.Option.{option_and_then}
use Rattle.cwr_shape.specs.declared.symbols.Symbol.{Symbol}
use Rattle.cwr_shape.specs.declared.stages.Stage.{Stage}
use Rattle.cwr_shape.specs.declared.stages.Stage.TheVariants as stages
use Rattle.cwr_shape.specs.Format.Shapes.{Matches}
use Rattle.cwr_shape.specs.Format.Outlines.{Continues, IsWhole}
use Rattle.cwr_shape.specs.Steps.NextStages.{next_stage}
use Rattle.cwr_shape.specs.Format.AnyTransmission.{Any}
use Rattle.cwr_shape.specs.Steps.Left.{left, is_stage, LeavesAt}
use Rattle.cwr_shape.proofs.lemmas.StagePatterns.{table_continues, goes_back, next_is_stage}
use Rattle.cwr_shape.proofs.lemmas.WholePatterns.{whole_matches, matches_whole}
use Rattle.cwr_shape.proofs.lemmas.RestsLeft.{left_at}

-- the stage after some symbols, by the table
unfoldable pub run : Stage → List Symbol → Option Stage
run stage [] = Some stage
run stage (s ∷ xs) = option_and_then (λ to. run to xs) (next_stage stage s)

-- the table comes from one stage to another, where what is left is left
pub record Comes (stage : Stage) (xs rest : List Symbol) : Type 0 where
  pub to : Stage
  pub is : run stage xs ≡ Some to
  pub real : is_stage to ≡ true
  pub left_there : Matches (left to) rest

pub comes_to : (stage : Stage) (xs rest : List Symbol) → is_stage stage ≡ true → Matches (left stage) (xs ++ rest)
    → Comes stage xs rest
unfolding run
comes_to stage [] rest real m = record { to = stage; is = refl; real = real; left_there = m }
comes_to stage (s ∷ xs) rest real m =
    let first = table_continues stage s (xs ++ rest) real m in
    let later = comes_to first.to xs rest first.real first.left_there in
    record {
      to = later.to;
      is = ap (option_and_then (λ to. run to xs)) first.is ∙ later.is;
      real = later.real;
      left_there = later.left_there;
    }

-- what the first step of a run was
first_by : (xs : List Symbol) (to : Stage) (o : Option Stage) → option_and_then (λ t. run t xs) o ≡ Some to
    → (mid : Stage) × (o ≡ Some mid) × (run mid xs ≡ Some to)
first_by xs to None e = absurd (none_is_some to e)
  where
    none_is_some : (x : Stage) → None ≡ Some x → ⊥
    none_is_some x k = cc k
first_by xs to (Some mid) e = (mid, refl, e)

pub run_first : (stage : Stage) (s : Symbol) (xs : List Symbol) (to : Stage) → run stage (s ∷ xs) ≡ Some to
    → (mid : Stage) × (next_stage stage s ≡ Some mid) × (run mid xs ≡ Some to)
unfolding run
run_first stage s xs to e = first_by xs to (next_stage stage s) e

pub comes_back : (stage : Stage) (xs rest : List Symbol) (to : Stage) → is_stage stage ≡ true → run stage xs ≡ Some to
    → Matches (left to) rest → Matches (left stage) (xs ++ rest)
unfolding run
comes_back stage [] rest to real e m =
    let same : stage ≡ to = cc e in subst (λ (t : Stage). Matches (left t) rest) (sym same) m
comes_back stage (s ∷ xs) rest to real e m =
    let first = run_first stage s xs to e in
    goes_back stage s first.0 (xs ++ rest) real first.1
    (comes_back first.0 xs rest to (next_is_stage stage s first.0 real first.1) first.2 m)

pub run_is_stage : (stage : Stage) (xs : List Symbol) (to : Stage) → is_stage stage ≡ true → run stage xs ≡ Some to
    → is_stage to ≡ true
unfolding run
run_is_stage stage [] to real e = let same : stage ≡ to = cc e in subst (λ (t : Stage). is_stage t ≡ true) same real
run_is_stage stage (s ∷ xs) to real e =
    let first = run_first stage s xs to e in run_is_stage first.0 xs to (next_is_stage stage s first.0 real first.1) first.2

pub run_more : (stage : Stage) (xs ys : List Symbol) (mid : Stage) → run stage xs ≡ Some mid → run stage (xs ++ ys) ≡ run mid ys
unfolding run
run_more stage [] ys mid e = let same : stage ≡ mid = cc e in ap (λ (t : Stage). run t ys) same
run_more stage (s ∷ xs) ys mid e =
    let first = run_first stage s xs mid e in
    ap (option_and_then (λ to. run to (xs ++ ys))) first.1 ∙ run_more first.0 xs ys mid first.2

-- a run of one more symbol is a run and one more
pub run_last : (stage : Stage) (xs : List Symbol) (s : Symbol) (to : Stage) → run stage (xs ++ s ∷ []) ≡ Some to
    → (mid : Stage) × (run stage xs ≡ Some mid) × (next_stage mid s ≡ Some to)
unfolding run
run_last stage [] s to e = let first = run_first stage s [] to e in
    let same : first.0 ≡ to = cc first.2 in (stage, refl, first.1 ∙ ap Some same)
run_last stage (x ∷ xs) s to e =
    let first = run_first stage x (xs ++ s ∷ []) to e in
    let last = run_last first.0 xs s to first.2 in
    (last.0, ap (option_and_then (λ t. run t xs)) first.1 ∙ last.1, last.2)

-- one more symbol comes where the table has a stage for it
next_begins : (xs : List Symbol) (stage : Stage) (s : Symbol) → LeavesAt xs stage → (o : Option Stage) → next_stage stage s ≡ o
    → IsSome o → Continues Any (xs ++ s ∷ [])
next_begins xs stage s st None e some = absurd (true≢false (sym some))
next_begins xs stage s st (Some to) e some =
    let rest = left_at to (next_is_stage stage s to st.real e) in
    let w = (st.leaves (s ∷ rest.0)).1 (goes_back stage s to rest.0 st.real e rest.1) in
    (w.0, w.1, tt, (rest.0, sym w.2 ∙ sym (append_assoc xs (s ∷ []) rest.0)))

begins_next : (xs : List Symbol) (stage : Stage) (s : Symbol) → LeavesAt xs stage → Continues Any (xs ++ s ∷ [])
    → IsSome (next_stage stage s)
begins_next xs stage s st g =
    let whole : IsWhole (xs ++ s ∷ g.3.0) = (g.0, g.1, sym (append_assoc xs (s ∷ []) g.3.0) ∙ sym g.3.1) in
    let on = table_continues stage s g.3.0 st.real ((st.leaves (s ∷ g.3.0)).0 whole) in
    ap is_some on.is

pub leaves_next : (xs : List Symbol) (stage : Stage) (s : Symbol) → LeavesAt xs stage → IsSome (next_stage stage s)
    ↔ Continues Any (xs ++ s ∷ [])
leaves_next xs stage s st = (next_begins xs stage s st (next_stage stage s) refl, begins_next xs stage s st)

-- some transmission begins with the symbols where the table goes through them
pub begins_run : (xs : List Symbol) → Continues Any xs → (to : Stage) × (run stages.Start xs ≡ Some to)
begins_run xs g =
    let whole : Matches (left stages.Start) (xs ++ g.3.0) = subst (Matches (left stages.Start)) g.3.1 (whole_matches g.0 g.1) in
    let come = comes_to stages.Start xs g.3.0 refl whole in
    (come.to, come.is)

pub run_begins : (xs : List Symbol) (to : Stage) → run stages.Start xs ≡ Some to → Continues Any xs
run_begins xs to e =
    let rest = left_at to (run_is_stage stages.Start xs to refl e) in
    let w = matches_whole (xs ++ rest.0) (comes_back stages.Start xs rest.0 to refl e rest.1) in
    (w.0, w.1, tt, (rest.0, sym w.2))
