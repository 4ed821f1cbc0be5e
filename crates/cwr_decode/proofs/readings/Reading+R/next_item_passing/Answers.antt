use Rattle.std.proofs.Common.{◌≡◌, Option, Some, ap, refl, subst, sym}
use Rattle.std.specs.Prelude.{IfSome, Err}
use Rattle.cwr_decode.specs.declared.outcomes.Outcome.{Outcome}
use Rattle.cwr_decode.specs.declared.readings.ReadFault.TheVariants.{Reader}
use Rattle.cwr_decode.specs.Steps.Machines.{again}
use Rattle.cwr_decode.specs.Steps.Readings.{answer_of}
use Rattle.cwr_decode.proofs.lemmas.AnsweredAtOnce.{if_some}
use Rattle.cwr_decode.proofs.lemmas.LastHeld.{reads_both}
use Rattle.cwr_decode.proofs.lemmas.PassedOver.{passes_nothing}
use Rattle.cwr_decode.proofs.lemmas.PassingAnswers.{again_passing, live_still, memory_passing}
use Rattle.cwr_decode.proofs.readings.Reading+R.next_item_passing.Goals as goal

pub returns-in-Some-clause-last : goal.returns-in-Some-clause-last
returns-in-Some-clause-last g c = reads_both _ _ _ _ _ _ c.in-Some.ensures.last c.next_item.ensures.last

pub returns-in-Some-clause-reads : goal.returns-in-Some-clause-reads
returns-in-Some-clause-reads g c = record {
  between = c.pass_shown.new.decoder;
  left_between = g.R.Source.remaining c.pass_shown.new.reader;
  passes = c.in-Some.ensures.passes;
  reads = c.next_item.ensures.reads;
  again =
      if_some (again c.pass_shown.new.decoder.state) _ _ (λ outcome h. (h.0, h.1, ap g.R.Source.remaining h.2))
      c.next_item.ensures.again;
}

pub returns-in-None-clause-reads : goal.returns-in-None-clause-reads
returns-in-None-clause-reads g c = record {
  between = c.args.self.now.decoder;
  left_between = g.R.Source.remaining c.args.self.now.reader.now;
  passes =
      passes_nothing g.K.Keeper.are_clean c.args.self.now.decoder c.args.self.now.decoder
      (g.R.Source.remaining c.args.self.now.reader.now) c.nothing.result c.nothing.ensures refl;
  reads = c.in-None.ensures.passes.0;
  again =
      subst (λ (o : Option Outcome). IfSome o (λ outcome. (Some (Err Reader) ≡ answer_of outcome) × (c.pass_shown.new.decoder
      ≡ c.args.self.now.decoder) × (g.R.Source.remaining c.pass_shown.new.reader
      ≡ g.R.Source.remaining c.args.self.now.reader.now))) (sym c.in-None.ensures.passes.1) tt;
}

pub returns-in-Some-clause-memory : goal.returns-in-Some-clause-memory
returns-in-Some-clause-memory g c =
    memory_passing c.args.self.now.decoder c.pass_shown.new.decoder c.next_item.new.self.decoder c.args.self.now.reader.now
    c.pass_shown.new.reader c.next_item.new.self.reader.now c.next_item.result c.in-Some.ensures.stays
    (live_still _ _ _ _ _ _ c.in-Some.ensures.passes) c.next_item.ensures.reads.kept c.next_item.ensures.memory

pub returns-in-Some-clause-again : goal.returns-in-Some-clause-again
returns-in-Some-clause-again g c =
    again_passing c.args.self.now.decoder c.pass_shown.new.decoder c.next_item.new.self.decoder c.args.self.now.reader.now
    c.pass_shown.new.reader c.next_item.new.self.reader.now c.next_item.result c.in-Some.ensures.stays c.next_item.ensures.again
