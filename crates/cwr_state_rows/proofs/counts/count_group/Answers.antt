use Rattle.std.proofs.Common.{List, ℕ, fold, sym, ap, ◌∙◌, arith}
use Rattle.std.specs.List.{enumerate_from}
use Rattle.std.proofs.lemmas.List.{take_all}
use Rattle.std.proofs.lemmas.Option.{slice_get_within}
use Rattle.cwr_sent.specs.declared.facts.SentFacts.{SentFacts}
use Rattle.cwr_state_rows.specs.declared.counts.Counts.{Counts}
use Rattle.cwr_state_rows.specs.Steps.HeldRows.{counts_with_one}
use Rattle.cwr_state_rows.proofs.lemmas.NumberedMore.{fold-more, none_past}
use Rattle.cwr_state_rows.proofs.counts.count_group.Goals as goal

pub prove-unreachable-requires : goal.prove-unreachable-requires
prove-unreachable-requires c =
    let w = slice_get_within c.args.group.now.facts c.loop-facts.t c.in-Some.facts (sym c.facts.ensures ∙ c.in-Some.is) in
    omega (arith, w, c.len-count.ensures, c.if-prove.true)

pub count_transaction-requires : goal.count_transaction-requires
count_transaction-requires c =
    slice_get_within c.args.group.now.facts c.loop-facts.t c.in-Some.facts (sym c.facts.ensures ∙ c.in-Some.is)

pub loop-facts-smaller : goal.loop-facts-smaller
loop-facts-smaller c =
    let w = slice_get_within c.args.group.now.facts c.loop-facts.t c.in-Some.facts (sym c.facts.ensures ∙ c.in-Some.is) in
    omega (arith, w)

pub loop-facts-preserved : goal.loop-facts-preserved
loop-facts-preserved c =
    let w = slice_get_within c.args.group.now.facts c.loop-facts.t c.in-Some.facts (sym c.facts.ensures ∙ c.in-Some.is) in
    let h : Counts → ℕ × SentFacts → Counts = counts_with_one c.args.files.now c.args.group.now.answers in
    record {
      within = omega (arith, w);
      counted =
          c.in_ok-so_far.ensures ∙ ap (λ (n : Counts). h n (c.loop-facts.t, c.in-Some.facts)) c.loop-facts.invariant.counted
          ∙ sym (fold-more h c.args.counts c.args.group.now.facts c.loop-facts.t c.in-Some.facts
          (sym c.in-Some.is ∙ c.facts.ensures));
    }

pub returns : goal.returns
returns c =
    let past = none_past c.args.group.now.facts c.loop-facts.t (sym c.facts.ensures ∙ c.in_default.is) in
    let h : Counts → ℕ × SentFacts → Counts = counts_with_one c.args.files.now c.args.group.now.answers in
    c.loop-facts.invariant.counted
    ∙ ap (λ (l : List SentFacts). fold h c.args.counts (enumerate_from 0 l)) (take_all c.loop-facts.t c.args.group.now.facts past)
