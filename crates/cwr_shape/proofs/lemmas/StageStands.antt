-- Symbols stand where the table comes to, and leave what is left there.
use Rattle.std.proofs.Common.{◌≡◌, List, [], ◌∷◌, ◌++◌, Option, Some, None, refl, sym, ap, subst, ◌∙◌}
use Rattle.std.specs.Prelude.{◌↔◌, IsSome, IfSome}
use Rattle.std.specs.Option.{option_and_then}
use Rattle.cwr_shape.specs.declared.symbols.Symbol.{Symbol}
use Rattle.cwr_shape.specs.declared.stages.Stage.{Stage}
use Rattle.cwr_shape.specs.declared.stages.Stage.TheVariants as stages
use Rattle.cwr_shape.specs.Format.Shapes.{Matches}
use Rattle.cwr_shape.specs.Format.Outlines.{Continues}
use Rattle.cwr_shape.specs.Steps.NextStages.{next_stage}
use Rattle.cwr_shape.specs.Format.AnyTransmission.{Any}
use Rattle.cwr_shape.specs.Steps.Left.{left, StandsAt, LeavesAt}
use Rattle.cwr_shape.proofs.lemmas.WholePatterns.{whole_matches, matches_whole}
use Rattle.cwr_shape.proofs.lemmas.StageRuns.{run, run_more, run_is_stage, comes_to, comes_back, begins_run, run_begins, leaves_next}
use Rattle.cwr_shape.proofs.lemmas.StageNames.{run_names}

one_stage : (x y : Stage) → Some x ≡ Some y → x ≡ y
one_stage x y e = cc e

-- the table comes to where symbols stand
pub stands_run : (xs : List Symbol) (stage : Stage) → StandsAt xs stage → run stages.Start xs ≡ Some stage
stands_run xs stage st =
    let come = begins_run xs st.begins in
    let there : come.0 ≡ stage = run_names xs come.0 come.1 ∙ sym st.named in
    come.1 ∙ ap Some there

run_stands : (xs : List Symbol) (stage : Stage) → run stages.Start xs ≡ Some stage → StandsAt xs stage
run_stands xs stage e = record { begins = run_begins xs stage e; named = run_names xs stage e }

run_leaves : (xs : List Symbol) (stage : Stage) → run stages.Start xs ≡ Some stage → LeavesAt xs stage
run_leaves xs stage e = record {
  real = run_is_stage stages.Start xs stage refl e;
  leaves = λ rest. (
    λ w. let come = comes_to stages.Start xs rest refl (subst (Matches (left stages.Start)) (sym w.2) (whole_matches w.0 w.1)) in
        subst (λ (t : Stage). Matches (left t) rest) (one_stage come.to stage (sym come.is ∙ e)) come.left_there,
    λ m. matches_whole (xs ++ rest) (comes_back stages.Start xs rest stage refl e m),
  );
}

pub stands_leaves : (xs : List Symbol) (stage : Stage) → StandsAt xs stage → LeavesAt xs stage
stands_leaves xs stage st = run_leaves xs stage (stands_run xs stage st)

-- no symbols stand at the start
pub stands_start : StandsAt [] stages.Start
unfolding run
stands_start = run_stands [] stages.Start refl

pub run_one : (stage : Stage) (s : Symbol) (to : Stage) → next_stage stage s ≡ Some to → run stage (s ∷ []) ≡ Some to
unfolding run
run_one stage s to e = ap (option_and_then (λ t. run t [])) e

-- one more symbol comes where the table continues, and stands where it goes
pub next_exact : (xs : List Symbol) (stage : Stage) (s : Symbol) (o : Option Stage) → o ≡ next_stage stage s → StandsAt xs stage
    → IsSome o ↔ Continues Any (xs ++ s ∷ [])
next_exact xs stage s o e st =
    subst (λ (x : Option Stage). IsSome x ↔ Continues Any (xs ++ s ∷ [])) (sym e)
    (leaves_next xs stage s (stands_leaves xs stage st))

pub next_stands : (xs : List Symbol) (stage : Stage) (s : Symbol) (o : Option Stage) → o ≡ next_stage stage s → StandsAt xs stage
    → IfSome o (StandsAt (xs ++ s ∷ []))
next_stands xs stage s None e st = tt
next_stands xs stage s (Some to) e st =
    run_stands (xs ++ s ∷ []) to (run_more stages.Start xs (s ∷ []) stage (stands_run xs stage st) ∙ run_one stage s to (sym e))
