use Rattle.std.proofs.Common.{◌≡◌, ◌∙◌, ◌+◌, ◌-◌, ◌^◌, ℕ, List, [], ◌∷◌, ◌++◌, Some, map, ap, refl, subst, sym}
use Rattle.std.specs.Prelude.{min, slice_index, unwrap_or}
use Rattle.cwr_endings.specs.declared.sums.Sums.{Sums}
use Rattle.cwr_endings.specs.Format.Sums.{AreSums, is_good}
use Rattle.cwr_tools.specs.declared.verdicts.Verdict.{Verdict}
use Rattle.cwr_summary.specs.declared.summaries.Summary.{Summary}
use Rattle.cwr_summaries.specs.declared.summaries.Totals.{Totals}
use Rattle.cwr_summaries.specs.Format.Rows.{SummedInput, verdict_of}
use Rattle.cwr_summaries.specs.Steps.Rows.{AreTotals, if_good, input_of}
use Rattle.cwr_summaries.proofs.lemmas.Totals.{added_good, bad_verdict, other_counted}
use Rattle.cwr_summaries.proofs.summaries.Totals.add.Goals as goal
use Rattle.cwr_summaries.proofs.summaries.Totals.add.Goals.{in-Some, in_default-advice}

pub returns-in_default : goal.returns-in_default
returns-in_default c = record {
  memory = tt;
  status = c.count.ensures.status;
  totals = λ name advice inputs before.
      other_counted c.args.self.now _ (input_of name advice c.args.found.now) inputs
      (bad_verdict c.args.found.now.judgement.verdict c.in_default.not-Good) refl (c.count.ensures.sums _ before.sums) before;
}

pub returns-clause-totals : goal.returns-clause-totals
returns-clause-totals c = λ name advice inputs before.
    let new : Totals = c.match-advice.self in
    let found = c.args.found.now in
    let verdict : Verdict = found.judgement.verdict in
    let after : ℕ = found.after in
    let input : SummedInput = input_of name advice found in
    let kept : Totals = c.add_opening.new.self in
    let others = c.in_ok-add_opening.ensures.others in
    let all : new.bytes ≡ c.saturating_add-self.result → new.after ≡ c.saturating_add-self-2.result → new.summary ≡ c.add_all.new.self
    → new.senders ≡ kept.senders → new.sums ≡ kept.sums → AreTotals new (inputs ++ input ∷ []) = λ bytes_are after_is numbers senders sums.
    added_good c.args.self.now kept new input inputs verdict c.header.result refl (ap (λ (v : Verdict). is_good (Some v)) c.in-Good.is)
    c.header.ensures
    (bytes_are ∙ c.saturating_add-self.ensures ∙ ap (λ (t : Totals). min (t.bytes + found.bytes) (2 ^ 64 - 1)) others)
    (after_is ∙ c.saturating_add-self-2.ensures ∙ ap (λ (t : Totals). min (t.after + after) (2 ^ 64 - 1)) others
    ∙ ap (λ (v : Verdict). min (c.args.self.now.after + unwrap_or (if_good v (Some after)) 0) (2 ^ 64 - 1)) (sym c.in-Good.is))
    (λ i. ap (λ (s : Summary). slice_index s.numbers i) numbers ∙ c.add_all.ensures i
    ∙ ap (λ (t : Totals). min (slice_index t.summary.numbers i + slice_index c.summary.result.numbers i) (2 ^ 64 - 1)) others
    ∙ ap (λ (s : Summary). min (slice_index c.args.self.now.summary.numbers i + slice_index s.numbers i) (2 ^ 64 - 1)) c.summary.ensures.value)
    senders c.in_ok-add_opening.ensures.many c.in_ok-add_opening.ensures.among sums
    (subst (λ (s : Sums). AreSums s (map verdict_of inputs ++ Some verdict ∷ [])) (sym (ap (λ (t : Totals). t.sums) others))
    (c.count.ensures.sums (map verdict_of inputs) before.sums)) before in
    elim c.match-advice.branch [
      | in-Some w ↦ all (ap (λ (t : Totals). t.bytes) w.self-is) (ap (λ (t : Totals). t.after) w.self-is)
          (ap (λ (t : Totals). t.summary) w.self-is) (ap (λ (t : Totals). t.senders) w.self-is) (ap (λ (t : Totals). t.sums) w.self-is)
      | in_default-advice w ↦ all (ap (λ (t : Totals). t.bytes) w.self-is) (ap (λ (t : Totals). t.after) w.self-is)
          (ap (λ (t : Totals). t.summary) w.self-is) (ap (λ (t : Totals). t.senders) w.self-is) (ap (λ (t : Totals). t.sums) w.self-is)
    ]
