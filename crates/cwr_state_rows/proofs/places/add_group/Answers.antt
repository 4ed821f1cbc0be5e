use Rattle.std.proofs.Common.{List, ◌++◌, sym, ap, ◌∙◌, arith}
use Rattle.std.specs.List.{enumerate_from, flat_map}
use Rattle.std.proofs.lemmas.List.{take_all}
use Rattle.std.proofs.lemmas.Option.{slice_get_within}
use Rattle.cwr_sent.specs.declared.facts.SentFacts.{SentFacts}
use Rattle.cwr_state_rows.specs.Steps.HeldPlaces.{transaction_places}
use Rattle.cwr_state_rows.proofs.lemmas.NumberedMore.{added_on, flat_more, none_past}
use Rattle.cwr_state_rows.proofs.places.add_group.Goals as goal

pub loop-facts-preserved : goal.loop-facts-preserved
loop-facts-preserved c =
    let w = slice_get_within c.args.group.now.facts c.loop-facts.t c.in-Some.facts (sym c.facts.ensures ∙ c.in-Some.is) in
    record {
      within = omega (arith, w);
      added =
          added_on _ _ _ _ _ _ c.loop-facts.invariant.added c.in_ok-add_transaction.ensures
          (flat_more (transaction_places c.args.states.now c.args.files.now c.args.g c.args.group.now.answers) 0 c.args.group.now.facts
          c.loop-facts.t c.loop-facts.t c.in-Some.facts (sym c.in-Some.is ∙ c.facts.ensures) (omega arith));
    }

pub returns : goal.returns
returns c =
    let past = none_past c.args.group.now.facts c.loop-facts.t (sym c.facts.ensures ∙ c.in_default.is) in
    c.loop-facts.invariant.added
    ∙ ap (λ (l : List SentFacts). c.args.places.now.items
    ++ flat_map (transaction_places c.args.states.now c.args.files.now c.args.g c.args.group.now.answers) (enumerate_from 0 l))
    (take_all c.loop-facts.t c.args.group.now.facts past)
