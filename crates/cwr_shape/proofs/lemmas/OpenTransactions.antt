-- The records of the open transaction, as they are counted after its header, stand at the step of the stage.
use Rattle.std.proofs.Common.{◌≡◌, ℕ, ◌+◌, ◌-◌, Bool, true, false, cond, List, [], ◌∷◌, ◌++◌, length, drop, Option, Some, None}
use Rattle.std.proofs.Common.{refl, sym, ap, subst, ◌∙◌, arith, true≢false, append_assoc, append-nil}
use Rattle.std.specs.Prelude.{IfSome}
use Rattle.std.specs.List.{list_all}
use Rattle.std.proofs.lemmas.Bool.{and_parts}
use Rattle.std.proofs.lemmas.List.{length-append, drop_at}
use Rattle.cwr_fields.specs.declared.codes.TransactionType.{TransactionType}
use Rattle.cwr_fields.specs.declared.kinds.Kind.TheVariants as kinds
use Rattle.cwr_shape.specs.declared.symbols.Symbol.{Symbol}
use Rattle.cwr_shape.specs.declared.symbols.Symbol.TheVariants.{Plain, Grh}
use Rattle.cwr_shape.specs.declared.stages.Stage.{Stage}
use Rattle.cwr_shape.specs.declared.stages.Stage.TheVariants as stages
use Rattle.cwr_shape.specs.declared.stages.TransactionStep.{TransactionStep}
use Rattle.cwr_shape.specs.declared.stages.TransactionStep.TheVariants as steps
use Rattle.cwr_shape.specs.declared.tallies.Counts.{Counts}
use Rattle.cwr_shape.specs.Format.NextSymbols.{type_after, open_type, counts_of, scope_after, has_open_transaction, open_records}
use Rattle.cwr_shape.specs.Format.NextSymbols.{after_header}
use Rattle.cwr_shape.specs.Steps.Counting.{counts_with, counts_with_header, counts_with_other, scope_at}
use Rattle.cwr_shape.specs.Steps.NextStages.{header_step, step_on, may_end, within, next_or_foot, on_or_next, next_stage}
use Rattle.cwr_shape.specs.Steps.Left.{StandsAt, StandsAtStep, StandsInside, is_inside}
use Rattle.cwr_shape.proofs.lemmas.OneMore.{open_type-snoc, counts-snoc}
use Rattle.cwr_shape.proofs.lemmas.ScopesNamed.{scope_stands}
use Rattle.cwr_shape.proofs.lemmas.StageRuns.{run, run_first}
use Rattle.cwr_shape.proofs.lemmas.StageStands.{stands_run}
use Rattle.cwr_shape.proofs.lemmas.StepPatterns.{first_stands, on_stands, stands_goes}
use Rattle.cwr_shape.proofs.lemmas.TransactionNumbers.{is_inner, headed_shape, inner_symbol}

-- the last of the symbols, as many as are counted after a header and that, stand at the step
record OpenAt (ty : TransactionType) (step : TransactionStep) (xs : List Symbol) : Type 0 where
  front : List Symbol
  head : Symbol
  rest : List Symbol
  split : xs ≡ front ++ (head ∷ rest)
  many : length (after_header xs) ≡ length rest
  stands : StandsAtStep ty (head ∷ rest) step

-- so do those of the transaction that is open at the stage, if one is
abbrev IsOpen : List Symbol → Stage → Type 0
IsOpen xs (stages.Within ty step) = (open_type xs ≡ ty) × (is_inside step ≡ true → OpenAt ty step xs)
IsOpen xs stage = Unit {0}

-- ---- one more symbol

-- a header begins one
by_header : (ty : TransactionType) (xs : List Symbol) (s : Symbol) (to : TransactionStep) → open_type xs ≡ ty
    → header_step ty s ≡ Some to → IsOpen (xs ++ s ∷ []) (stages.Within ty to)
by_header ty xs s to same e =
    let st : StandsAtStep ty (s ∷ []) to =
    subst (λ (o : Option TransactionStep). IfSome o (StandsAtStep ty (s ∷ []))) e (first_stands ty s (header_step ty s) refl) in
    let goes = stands_goes ty (s ∷ []) to st in
    let h = headed_shape ty (s ∷ goes.0) goes.1 in
    let first : h.head ≡ s = cc h.whole in
    let counts : counts_with (open_type xs) (counts_of xs) s ≡ counts_with_header (counts_of xs) =
    ap (λ (t : TransactionType). counts_with t (counts_of xs) s) same
    ∙ ap (counts_with ty (counts_of xs)) (sym first) ∙ h.counts (counts_of xs) in (
      open_type-snoc xs s ∙ ap (λ (t : TransactionType). type_after t s) same ∙ ap (type_after ty) (sym first) ∙ h.same_type,
      λ inside. record {
        front = xs;
        head = s;
        rest = [];
        split = refl;
        many = ap (λ (c : Counts). c.after_header) (sym (counts-snoc xs s) ∙ counts);
        stands = st;
      },
    )

one_passes : (test : Symbol → Bool) (xs : List Symbol) (s : Symbol) (rest : List Symbol)
    → list_all test ((xs ++ s ∷ []) ++ rest) ≡ true → test s ≡ true
one_passes test [] s rest h = (and_parts (test s) (list_all test rest) h).0
one_passes test (x ∷ xs) s rest h =
    one_passes test xs s rest (and_parts (test x) (list_all test ((xs ++ s ∷ []) ++ rest)) h).1

-- and one of its records continues it
by_inner : (ty : TransactionType) (step : TransactionStep) (xs : List Symbol) (s : Symbol) (to : TransactionStep)
    → open_type xs ≡ ty → OpenAt ty step xs → step_on step s ≡ Some to → IsOpen (xs ++ s ∷ []) (stages.Within ty to)
by_inner ty step xs s to same o e =
    let more : List Symbol = o.head ∷ (o.rest ++ s ∷ []) in
    let st : StandsAtStep ty more to =
    subst (λ (q : Option TransactionStep). IfSome q (StandsAtStep ty more)) e
    (on_stands ty (o.head ∷ o.rest) step s (step_on step s) refl o.stands) in
    let goes = stands_goes ty more to st in
    let h = headed_shape ty (more ++ goes.0) goes.1 in
    let after : h.rest ≡ (o.rest ++ s ∷ []) ++ goes.0 = cc h.whole in
    let inner = one_passes (is_inner ty) o.rest s goes.0 (sym (ap (list_all (is_inner ty)) after) ∙ h.inner) in
    let here = inner_symbol ty (counts_of xs) s inner in
    let counts : counts_with (open_type xs) (counts_of xs) s ≡ counts_with_other (counts_of xs) =
    ap (λ (t : TransactionType). counts_with t (counts_of xs) s) same ∙ here.counts in
    let many : length (after_header (xs ++ s ∷ [])) ≡ length (after_header xs) + 1 =
    ap (λ (c : Counts). c.after_header) (sym (counts-snoc xs s) ∙ counts) in (
      open_type-snoc xs s ∙ ap (λ (t : TransactionType). type_after t s) same ∙ here.same_type,
      λ inside. record {
        front = o.front;
        head = o.head;
        rest = o.rest ++ s ∷ [];
        split = ap (λ (l : List Symbol). l ++ s ∷ []) o.split ∙ append_assoc o.front (o.head ∷ o.rest) (s ∷ []);
        many = omega (arith, many, o.many, length-append o.rest (s ∷ []));
        stands = st;
      },
    )

none_is_some : (to : Stage) → None ≡ Some to → ⊥
none_is_some to e = cc e

one_stage : (x y : Stage) → Some x ≡ Some y → x ≡ y
one_stage x y e = cc e

-- the stage at a step is that of some step
within_to : (ty : TransactionType) (o : Option TransactionStep) (to : Stage) → within ty o ≡ Some to
    → (step : TransactionStep) × (o ≡ Some step) × (stages.Within ty step ≡ to)
within_to ty None to e = absurd (none_is_some to e)
within_to ty (Some step) to e = (step, refl, one_stage (stages.Within ty step) to e)

by_foot : (ty : TransactionType) (xs : List Symbol) (s : Symbol) (to : Stage) → open_type xs ≡ ty → next_or_foot ty s ≡ Some to
    → IsOpen (xs ++ s ∷ []) to
by_foot ty xs (Plain kinds.Grt) to same e = subst (IsOpen (xs ++ Plain kinds.Grt ∷ [])) (one_stage stages.Closed to e) tt
by_foot ty xs s to same e =
    let w = within_to ty (header_step ty s) to e in subst (IsOpen (xs ++ s ∷ [])) w.2 (by_header ty xs s w.0 same w.1)

on_to : (ty : TransactionType) (step : TransactionStep) (xs : List Symbol) (s : Symbol) (o : Option TransactionStep) (to : Stage)
    → open_type xs ≡ ty → OpenAt ty step xs → step_on step s ≡ o → on_or_next ty o s ≡ Some to → IsOpen (xs ++ s ∷ []) to
on_to ty step xs s None to same k on e = by_foot ty xs s to same e
on_to ty step xs s (Some next) to same k on e =
    subst (IsOpen (xs ++ s ∷ [])) (one_stage (stages.Within ty next) to e) (by_inner ty step xs s next same k on)

step_to : (ty : TransactionType) (step : TransactionStep) (xs : List Symbol) (s : Symbol) (b : Bool) (to : Stage)
    → open_type xs ≡ ty → OpenAt ty step xs
    → cond b (on_or_next ty (step_on step s) s) (within ty (step_on step s)) ≡ Some to → IsOpen (xs ++ s ∷ []) to
step_to ty step xs s true to same k e = on_to ty step xs s (step_on step s) to same k refl e
step_to ty step xs s false to same k e =
    let w = within_to ty (step_on step s) to e in subst (IsOpen (xs ++ s ∷ [])) w.2 (by_inner ty step xs s w.0 same k w.1)

in_group : (ty : TransactionType) (xs : List Symbol) (to : Stage) → Some (stages.Within ty steps.InGroup) ≡ Some to
    → IsOpen (xs ++ Grh ty ∷ []) to
in_group ty xs to e =
    subst (IsOpen (xs ++ Grh ty ∷ [])) (one_stage (stages.Within ty steps.InGroup) to e)
    (open_type-snoc xs (Grh ty), λ inside. absurd (true≢false (sym inside)))

next_open : (stage : Stage) (xs : List Symbol) (s : Symbol) (to : Stage) → IsOpen xs stage → next_stage stage s ≡ Some to
    → IsOpen (xs ++ s ∷ []) to
next_open stages.Start xs (Plain kinds.Hdr) to o e =
    subst (IsOpen (xs ++ Plain kinds.Hdr ∷ [])) (one_stage stages.Opened to e) tt
next_open stages.Start xs s to o e = absurd (none_is_some to e)
next_open stages.Opened xs (Grh ty) to o e = in_group ty xs to e
next_open stages.Opened xs s to o e = absurd (none_is_some to e)
next_open (stages.Within ty steps.InGroup) xs s to o e =
    let w = within_to ty (header_step ty s) to e in subst (IsOpen (xs ++ s ∷ [])) w.2 (by_header ty xs s w.0 o.0 w.1)
next_open (stages.Within ty step) xs s to o e = step_to ty step xs s (may_end step) to o.0 (o.1 refl) e
next_open stages.Closed xs (Grh ty) to o e = in_group ty xs to e
next_open stages.Closed xs (Plain kinds.Trl) to o e =
    subst (IsOpen (xs ++ Plain kinds.Trl ∷ [])) (one_stage stages.Ended to e) tt
next_open stages.Closed xs s to o e = absurd (none_is_some to e)
next_open stages.Ended xs s to o e = absurd (none_is_some to e)

walk_open : (xs front : List Symbol) (stage to : Stage) → IsOpen front stage → run stage xs ≡ Some to → IsOpen (front ++ xs) to
unfolding run
walk_open [] front stage to o e =
    subst (λ (l : List Symbol). IsOpen l to) (sym (append-nil front)) (subst (IsOpen front) (one_stage stage to e) o)
walk_open (s ∷ xs) front stage to o e =
    let first = run_first stage s xs to e in
    subst (λ (l : List Symbol). IsOpen l to) (append_assoc front (s ∷ []) xs)
    (walk_open xs (front ++ s ∷ []) first.0 to (next_open stage front s first.0 o first.1) first.2)

-- ---- where one is open

open_inside : (ty : TransactionType) (step : TransactionStep) → has_open_transaction (scope_at (stages.Within ty step)) ≡ true
    → is_inside step ≡ true
open_inside ty steps.InGroup h = absurd (true≢false (sym h))
open_inside ty step h = refl

last_stand : (ty : TransactionType) (step : TransactionStep) (xs : List Symbol) → OpenAt ty step xs
    → has_open_transaction (scope_after xs) ≡ true → StandsAtStep ty (drop (length xs - open_records xs) xs) step
last_stand ty step xs o is_open =
    let many : open_records xs ≡ 1 + length o.rest =
    ap (λ (b : Bool). cond b (1 + length (after_header xs)) 0) is_open ∙ ap (λ (n : ℕ). 1 + n) o.many in
    let size : length xs ≡ length o.front + length (o.head ∷ o.rest) =
    ap length o.split ∙ length-append o.front (o.head ∷ o.rest) in
    let start : length o.front ≡ length xs - open_records xs = omega (arith, many, size) in
    let last : drop (length xs - open_records xs) xs ≡ o.head ∷ o.rest =
    ap (drop (length xs - open_records xs)) o.split ∙ drop_at o.front (o.head ∷ o.rest) (length xs - open_records xs) start in
    subst (λ (l : List Symbol). StandsAtStep ty l step) (sym last) o.stands

stand_at : (stage : Stage) (xs : List Symbol) → IsOpen xs stage → has_open_transaction (scope_at stage) ≡ true
    → has_open_transaction (scope_after xs) ≡ true → StandsInside stage (drop (length xs - open_records xs) xs)
stand_at (stages.Within ty step) xs o h is_open = last_stand ty step xs (o.1 (open_inside ty step h)) is_open
stand_at stage xs o h is_open = absurd (true≢false (sym h))

-- the records of the open transaction stand at the stage's own step
pub open_stands : (xs : List Symbol) (stage : Stage) → StandsAt xs stage → has_open_transaction (scope_after xs) ≡ true
    → StandsInside stage (drop (length xs - open_records xs) xs)
open_stands xs stage st is_open =
    stand_at stage xs (walk_open xs [] stages.Start stage tt (stands_run xs stage st))
    (ap has_open_transaction (scope_stands xs stage st) ∙ is_open) is_open
