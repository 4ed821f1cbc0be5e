use Rattle.std.proofs.Common.{[], refl, sym, subst}
use Rattle.cwr_decode.specs.Steps.Machines.{Standing, IsReady}
use Rattle.cwr_decode.proofs.lemmas.NothingRead.{nothing_read}
use Rattle.cwr_decode.proofs.decoders.Decoder.new.Goals as goal

pub invariant_of-result : goal.invariant_of-result
invariant_of-result c = record {
  ready = subst (λ (d : Standing). IsReady d.state d.finished d.line) (sym c.new.ensures.at_start) (refl, λ is. refl);
  under_way =
      record {
        input = [];
        given = [];
        stands = nothing_read c.new.result c.new.ensures.in_range c.new.ensures.stands c.new.ensures.at_start;
      };
}

pub returns-clause-represents : goal.returns-clause-represents
returns-clause-represents c = nothing_read c.new.result c.new.ensures.in_range c.new.ensures.stands c.new.ensures.at_start
