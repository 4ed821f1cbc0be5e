-- After symbols with which a transmission within the limits begins, each symbol and each kind of record may come, or something bars it.
use Rattle.std.proofs.Common.{◌≡◌, ◌≤◌, List, [], ◌∷◌, ◌++◌, refl, sym, true≢false}
use Rattle.std.specs.Prelude.{Option, Some, None, Result, Ok, Err}
use Rattle.cwr_fields.specs.declared.kinds.Kind.{Kind}
use Rattle.cwr_fields.specs.declared.kinds.Kind.TheVariants as kinds
use Rattle.cwr_fields.specs.declared.codes.TransactionType.TheVariants.{Acknowledgement}
use Rattle.cwr_shape.specs.declared.symbols.Symbol.{Symbol}
use Rattle.cwr_shape.specs.declared.symbols.Symbol.TheVariants.{Plain, Ipa, Grh}
use Rattle.cwr_shape.specs.declared.stages.Stage.{Stage}
use Rattle.cwr_shape.specs.declared.limits.LimitKind.{LimitKind}
use Rattle.cwr_shape.specs.declared.tallies.Bar.{Bar}
use Rattle.cwr_shape.specs.declared.tallies.Bar.TheVariants.{Misplaced, Limit}
use Rattle.cwr_shape.specs.Format.Ranges.{LimitValues}
use Rattle.cwr_shape.specs.Format.Outlines.{IsWithin, Continues}
use Rattle.cwr_shape.specs.Format.NextSymbols.{counts_of, Answers, AnswersKind}
use Rattle.cwr_shape.specs.Steps.NextStages.{next_stage}
use Rattle.cwr_shape.specs.Steps.Stages.{stage_after}
use Rattle.cwr_shape.specs.Steps.Tallies.{TallyValue, IsTallyOf}
use Rattle.cwr_shape.specs.Steps.Counting.{passed_limit_at, wanted_role}
use Rattle.cwr_shape.proofs.lemmas.StageStands.{next_exact, next_stands}
use Rattle.cwr_shape.proofs.lemmas.LimitsByNeeds.{kept_within}
use Rattle.cwr_shape.proofs.lemmas.WhatMayCome.{goes_any}
use Rattle.cwr_shape.proofs.lemmas.FirstBars.{Next, may_come, is_barred}
use Rattle.cwr_shape.proofs.lemmas.FirstBarsOfKinds.{parties, groups, answers_best, best_party, best_group, best_one}

-- the tally of the symbols
abbrev pub tally_at : LimitValues → List Symbol → TallyValue
tally_at limits xs = record { limits = limits; stage = stage_after xs; counts = counts_of xs }

is_tally_at : (limits : LimitValues) (xs : List Symbol) → Continues (IsWithin limits) xs → IsTallyOf (tally_at limits xs) xs
is_tally_at limits xs g = record { stands = record { begins = goes_any xs g; named = refl }; counted = refl; within = g }

-- the symbol may come, or what bars it
pub answer_one : (limits : LimitValues) (xs : List Symbol) (s : Symbol) → 1 ≤ limits.transaction → Continues (IsWithin limits) xs
    → (answer : Result (Unit {0}) Bar) × Answers limits xs s answer
answer_one limits xs s one g = by (next_stage (stage_after xs) s) refl
  where
    t : TallyValue
    t = tally_at limits xs

    st : IsTallyOf t xs
    st = is_tally_at limits xs g

    by : (o : Option Stage) → o ≡ next_stage (stage_after xs) s → (answer : Result (Unit {0}) Bar) × Answers limits xs s answer
    by None e = (Err Misplaced, λ c. absurd (true≢false (sym ((next_exact xs (stage_after xs) s None e st.stands).1 c))))
    by (Some next) e = within (passed_limit_at limits next (counts_of (xs ++ s ∷ []))) refl
      where
        n : Next t xs s next (counts_of (xs ++ s ∷ []))
        n =
            record {
              before = st;
              on = next_stands xs (stage_after xs) s (Some next) e st.stands;
              same = refl;
              one = one;
              kept = kept_within limits xs g;
            }

        within : (p : Option LimitKind) → p ≡ passed_limit_at limits next (counts_of (xs ++ s ∷ []))
            → (answer : Result (Unit {0}) Bar) × Answers limits xs s answer
        within None f = (Ok tt, may_come t xs s next (counts_of (xs ++ s ∷ [])) None n f refl)
        within (Some limit) f = (Err (Limit limit), is_barred t xs s next (counts_of (xs ++ s ∷ [])) (Some limit) limit n f refl)

-- some record of the kind may come, or what bars them all
pub answer_kind : (limits : LimitValues) (xs : List Symbol) (kind : Kind) → 1 ≤ limits.transaction
    → Continues (IsWithin limits) xs → (answer : Result (Unit {0}) Bar) × AnswersKind limits xs kind answer
answer_kind limits xs kinds.Ipa one g =
    let t = tally_at limits xs in
    let a = answer_one limits xs (Ipa (wanted_role t.stage)) one g in
    (a.0, answers_best t xs parties (Ipa (wanted_role t.stage)) a.0 (best_party t xs (is_tally_at limits xs g) one) a.1)
answer_kind limits xs kinds.Grh one g =
    let t = tally_at limits xs in
    let a = answer_one limits xs (Grh Acknowledgement) one g in
    (a.0, answers_best t xs groups (Grh Acknowledgement) a.0 (best_group t xs (is_tally_at limits xs g) one) a.1)
answer_kind limits xs kind one g =
    let a = answer_one limits xs (Plain kind) one g in
    (a.0, answers_best (tally_at limits xs) xs (Plain kind ∷ []) (Plain kind) a.0 (best_one limits xs (Plain kind)) a.1)
