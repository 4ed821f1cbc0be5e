-- What an item that is read after transactions were passed over keeps of what a reading of one item promises.
use Rattle.std.proofs.Common.{◌≡◌, ℕ, ◌≤◌, true, List, Option, sym, ap, subst, ◌∙◌, arith, inl, inr, true≢false}
use Rattle.std.specs.Prelude.{Result, IfSome}
use Rattle.cwr_lines.specs.Format.Records.{RecordValue}
use Rattle.cwr_values.specs.declared.items.Item.{Item}
use Rattle.cwr_decode.specs.declared.outcomes.Outcome.{Outcome}
use Rattle.cwr_decode.specs.declared.machine.Passed.{Passed}
use Rattle.cwr_decode.specs.declared.machine.State.TheVariants as states
use Rattle.cwr_decode.specs.declared.readings.ReadFault.{ReadFault}
use Rattle.cwr_decode.specs.Steps.Calls.{IsLive}
use Rattle.cwr_decode.specs.Steps.Machines.{Standing, WaitsOutside, again}
use Rattle.cwr_decode.specs.Steps.Passing.{PassesOver, StaysOrPasses}
use Rattle.cwr_decode.specs.Steps.Readings.{FindsNoMemory, ReadsAgain, answer_of}

abbrev Answer : Type 0
Answer = Result (Option Item) ReadFault

pending_reads : states.Pending ≡ states.Reading → {A : Type 0} → A
pending_reads e = absurd (cc e)

pub live_still : (P : List RecordValue → Type 0) (old new : Standing) (left after : Option (List ℕ)) (passed : Passed)
    → PassesOver P old left passed new after → IsLive old.state → IsLive new.state
live_still P old new left after passed p live = elim p.live [ inl on ↦ on | inr same ↦ ap again same.0 ∙ live ]

module _ {R : Type 0} (old between new : Standing) (before mid after : R) (answer : Answer) where
  pub memory_passing : StaysOrPasses old before between mid → (IsLive old.state → IsLive between.state)
      → between.tally.counts.records ≤ new.tally.counts.records → FindsNoMemory between mid answer new after
      → FindsNoMemory old before answer new after
  memory_passing (inl same) still kept m = λ is live few.
      let found = m is (still live) (omega (arith, few, ap (λ (d : Standing). d.tally.counts.records) same.0)) in
      (sym (ap (λ (d : Standing). d.state) same.0) ∙ found.0, found.1 ∙ same.1)
  memory_passing (inr on) still kept m = λ is live few.
      let found = m is (still live) (omega (arith, few, on.kept)) in
      absurd (omega (arith, few, kept, on.more (λ reads. pending_reads (sym found.0 ∙ reads))))

  pub again_passing : StaysOrPasses old before between mid → ReadsAgain between mid answer new after
      → ReadsAgain old before answer new after
  again_passing (inl same) m =
      subst (λ (b : R). ReadsAgain old b answer new after) same.1
      (subst (λ (d : Standing). ReadsAgain d mid answer new after) same.0 m)
  again_passing (inr on) m =
      subst (λ (o : Option Outcome). IfSome o (λ outcome. (answers outcome) × (new ≡ old) × (after ≡ before))) (sym on.live) tt
    where
      answers : Outcome → Type 0
      answers outcome = Rattle.std.specs.Prelude.Some answer ≡ answer_of outcome

  pub ended_passing : StaysOrPasses old before between mid → (between.finished ≡ true → after ≡ mid) → old.finished ≡ true
      → after ≡ before
  ended_passing (inl same) m e = m (ap (λ (d : Standing). d.finished) same.0 ∙ e) ∙ same.1
  ended_passing (inr on) m e = absurd (true≢false (sym e ∙ on.fresh))

  pub alone_passing : StaysOrPasses old before between mid → (WaitsOutside between → after ≡ mid) → WaitsOutside old
      → after ≡ before
  alone_passing (inl same) m w = m (subst WaitsOutside (sym same.0) w) ∙ same.1
  alone_passing (inr on) m w = absurd (on.inside w)
