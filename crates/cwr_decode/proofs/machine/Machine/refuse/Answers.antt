use Rattle.std.proofs.Common.{refl, sym, ap, subst, ◌+◌, ◌∙◌, ℕ}
use Rattle.cwr_shape.specs.declared.tallies.Scope.{Scope}
use Rattle.cwr_shape.specs.Format.Levels.{level_of}
use Rattle.cwr_shape.specs.Steps.Tallies.{IsTallyOf}
use Rattle.cwr_decode.specs.Steps.Machines.{Standing}
use Rattle.cwr_decode.proofs.machine.Machine.refuse.Goals as goal

pub returns : goal.returns
returns c = record {
  refusal =
      record { rec = c.records.result + 1; field = c.args.fault.field; level = c.level.result; reason = c.args.fault.reason };
  number = ap (λ (n : ℕ). n + 1) (c.records.ensures.value ∙ ap (λ (d : Standing). d.tally.counts.records) c.self.view_is);
  field = refl;
  reason = refl;
  level =
      λ xs st. c.level.ensures ∙ ap (λ (p : Scope). level_of c.args.kind c.args.fault.field c.args.fault.reason p)
      (c.scope.ensures xs (subst (λ (d : Standing). IsTallyOf d.tally xs) (sym c.self.view_is) st));
  reported = refl;
  stops = c.stop_refused.ensures;
}
