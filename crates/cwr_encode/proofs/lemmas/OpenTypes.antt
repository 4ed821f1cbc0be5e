-- What the stage tells of the open group.
use Rattle.std.proofs.Common.{◌≡◌, Bool, true, false, true≢false, List, [], ◌∷◌, ◌++◌, refl, sym, ap, subst, ◌∙◌}
use Rattle.std.specs.Prelude.{◌↔◌}
use Rattle.cwr_fields.specs.declared.codes.TransactionType.{TransactionType}
use Rattle.cwr_fields.specs.declared.kinds.Kind.TheVariants as kinds
use Rattle.cwr_shape.specs.declared.symbols.Symbol.{Symbol}
use Rattle.cwr_shape.specs.declared.symbols.Symbol.TheVariants.{Plain}
use Rattle.cwr_shape.specs.declared.stages.Stage.{Stage}
use Rattle.cwr_shape.specs.declared.stages.Stage.TheVariants as stages
use Rattle.cwr_shape.specs.declared.stages.TransactionStep.{TransactionStep}
use Rattle.cwr_shape.specs.declared.stages.TransactionStep.TheVariants as steps
use Rattle.cwr_shape.specs.Format.Outlines.{Continues}
use Rattle.cwr_shape.specs.Format.AnyTransmission.{Any}
use Rattle.cwr_shape.specs.Steps.Left.{StandsAt}
use Rattle.cwr_shape.specs.Steps.Tallies.{TallyValue, IsTallyOf}
use Rattle.cwr_shape.proofs.lemmas.TallySteps.{stands_type}
use Rattle.cwr_encode.specs.declared.encoders.Reached.TheVariants as reached_to
use Rattle.cwr_encode.specs.Format.Encoders.{reached, IsInGroup, IsBetween}
use Rattle.cwr_encode.specs.Steps.Encoders.{reached_at, TakesTransactions}
use Rattle.cwr_encode.proofs.lemmas.Comes.{reached_stands, foot_inside}

reached_is : (t : TallyValue) (stage : Stage) (xs : List Symbol) → IsTallyOf t xs → stage ≡ t.stage
    → reached xs ≡ reached_at stage
reached_is t stage xs st e = sym (reached_stands xs t.stage st.stands) ∙ ap reached_at (sym e)

-- right after GRH
pub ready_head : (t : TallyValue) (stage : Stage) (ty : TransactionType) (xs : List Symbol) → IsTallyOf t xs → stage ≡ t.stage
    → stage ≡ stages.Within ty steps.InGroup → TakesTransactions ty xs
ready_head t stage ty xs st e w =
    let r : reached xs ≡ reached_to.GroupHead = reached_is t stage xs st e ∙ ap reached_at w in
    record {
      same_type = sym (stands_type xs ty steps.InGroup (subst (StandsAt xs) (sym e ∙ w) st.stands));
      inside = subst IsInGroup (sym r) tt;
      between = λ h. absurd (cc (sym r ∙ h));
    }

-- after a transaction that is whole
pub ready_later : (t : TallyValue) (stage : Stage) (ty : TransactionType) (step : TransactionStep) (xs : List Symbol) (b : Bool)
    → IsTallyOf t xs → stage ≡ t.stage → stage ≡ stages.Within ty step
    → (b ≡ true) ↔ Continues Any (xs ++ Plain kinds.Grt ∷ []) → b ≡ true → TakesTransactions ty xs
ready_later t stage ty step xs b st e w test h = record {
  same_type = sym (stands_type xs ty step (subst (StandsAt xs) (sym e ∙ w) st.stands));
  inside = subst IsInGroup (sym (foot_inside t xs st (test.0 h))) tt;
  between = λ _. test.0 h;
}

-- after one that isn't
pub unready_later : (t : TallyValue) (stage : Stage) (ty : TransactionType) (step : TransactionStep) (xs : List Symbol) (b : Bool)
    → IsTallyOf t xs → stage ≡ t.stage → stage ≡ stages.Within ty step → (step ≡ steps.InGroup → ⊥)
    → (b ≡ true) ↔ Continues Any (xs ++ Plain kinds.Grt ∷ []) → b ≡ false → IsBetween xs → ¬ IsInGroup (reached xs)
unready_later t stage ty step xs b st e w later test h between inside =
    true≢false (sym (test.1 (between (reached_is t stage xs st e ∙ ap reached_at w ∙ named step later))) ∙ h)
  where
    named : (p : TransactionStep) → (p ≡ steps.InGroup → ⊥) → reached_at (stages.Within ty p) ≡ reached_to.Inside
    named steps.InGroup n = absurd (n refl)
    named p n = refl

-- where no group is open
pub none_open : (t : TallyValue) (stage : Stage) (xs : List Symbol) → IsTallyOf t xs → stage ≡ t.stage
    → ((ty : TransactionType) (step : TransactionStep) → stage ≡ stages.Within ty step → ⊥) → ¬ IsInGroup (reached xs)
none_open t stage xs st e n inside = by stage n (subst IsInGroup (reached_is t stage xs st e) inside)
  where
    by : (s : Stage) → ((ty : TransactionType) (step : TransactionStep) → s ≡ stages.Within ty step → ⊥)
        → IsInGroup (reached_at s) → ⊥
    by stages.Start m k = k
    by stages.Opened m k = k
    by stages.Closed m k = k
    by stages.Ended m k = k
    by (stages.Within ty step) m k = m ty step refl
