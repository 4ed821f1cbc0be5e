use Rattle.std.proofs.Common.{◌≡◌, List, sym, ap, ap₂, ◌∙◌, arith, length, take}
use Rattle.std.specs.Prelude.{map, Some, slice_get}
use Rattle.std.proofs.lemmas.List.{length-map, length-map, take_all}
use Rattle.cwr_sent.specs.Format.SentFacts.{SentContent}
use Rattle.cwr_sent.specs.Format.SentRows.{content_in}
use Rattle.cwr_delivery.specs.declared.outcomes.Few.{Few}
use Rattle.cwr_delivery.specs.Format.Answering.{agreeing_in, agreeing_of, found_by, standing_in}
use Rattle.cwr_delivery.specs.Steps.Outcomes.{few_of, few_with_found, outcome_few}
use Rattle.cwr_delivery.proofs.lemmas.Ends.{shown_at}
use Rattle.cwr_delivery.proofs.lemmas.FoundTransactions.{found_more, outcome_same}
use Rattle.cwr_delivery.proofs.outcomes.outcome_of.Goals as goal

pub loop-i-preserved : goal.loop-i-preserved
loop-i-preserved c =
    let contents : List SentContent = map content_in c.args.sent.now in
    let there : slice_get contents c.loop-i.i ≡ Some (content_in c.index-sent-i.result) =
    shown_at content_in c.args.sent.now c.loop-i.i c.index-sent-i.result c.loop-i-test.true c.index-sent-i.is in
    record {
      agreeing = c.with_found-agreeing.ensures
          ∙ ap₂ (λ (x : Few) o. few_with_found x c.loop-i.i o) c.loop-i.invariant.agreeing
          (c.agreeing_of.ensures ∙ ap (agreeing_of c.args.head.now) c.standing_in-found.ensures)
          ∙ sym (found_more (agreeing_in c.args.by_place c.args.head.now) contents c.loop-i.i (content_in c.index-sent-i.result) there);
      standing = c.with_found-standing.ensures
          ∙ ap₂ (λ (x : Few) o. few_with_found x c.loop-i.i o) c.loop-i.invariant.standing c.standing_in-found.ensures
          ∙ sym (found_more (standing_in c.args.by_place c.args.head.now) contents c.loop-i.i (content_in c.index-sent-i.result) there);
    }

pub returns : goal.returns
returns c =
    let contents : List SentContent = map content_in c.args.sent.now in
    let many : length contents ≡ length c.args.sent.now = length-map c.args.sent.now content_in in
    let whole : take c.loop-i.i contents ≡ contents =
    take_all c.loop-i.i contents (omega (arith, many, c.loop-i-test.false)) in
    c.outcome_few.ensures
    ∙ ap₂ (λ (x y : Few). outcome_few x y c.args.head.now)
    (c.loop-i.invariant.agreeing ∙ ap (λ (l : List SentContent). few_of (found_by (agreeing_in c.args.by_place c.args.head.now) l)) whole)
    (c.loop-i.invariant.standing ∙ ap (λ (l : List SentContent). few_of (found_by (standing_in c.args.by_place c.args.head.now) l)) whole)
    ∙ outcome_same (found_by (agreeing_in c.args.by_place c.args.head.now) contents)
    (found_by (standing_in c.args.by_place c.args.head.now) contents) c.args.head.now
