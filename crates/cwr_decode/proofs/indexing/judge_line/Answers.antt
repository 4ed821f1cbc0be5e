use Rattle.std.proofs.Common.{ℕ, ◌+◌, Option, ap, ap₂, subst, sym, ◌∙◌}
use Rattle.cwr_fields.specs.declared.kinds.Kind.{Kind}
use Rattle.cwr_lines.specs.Steps.Held.{HeldLine, held_kind}
use Rattle.cwr_shape.specs.declared.tallies.Scope.{Scope}
use Rattle.cwr_shape.specs.Format.Levels.{level_of}
use Rattle.cwr_shape.specs.Steps.Tallies.{TallyValue, IsTallyOf}
use Rattle.cwr_judge.specs.Steps.Judged.{IsNext, IsOfNone, IsFirstFault}
use Rattle.cwr_decode.proofs.indexing.judge_line.Goals as goal

pub returns-in-Ok-clause-ok : goal.returns-in-Ok-clause-ok
returns-in-Ok-clause-ok c = λ xs s. record {
  symbol = c.in-Ok.symbol;
  accepted = c.in-Ok.field-0-1;
  next =
      subst (λ (h : HeldLine). IsNext c.args.tally.now.limits xs h c.in-Ok.symbol c.in-Ok.field-0-1) c.cut-cut.ensures
      (c.in-Ok.ensures.ok xs s);
  limits = c.in-Ok.ensures.limits;
  stands = c.in-Ok.ensures.stands xs s;
  trailer = c.is_trailer.ensures;
}

pub returns-in-Err-clause-err : goal.returns-in-Err-clause-err
returns-in-Err-clause-err c = λ xs s. let same = subst (λ (t : TallyValue). IsTallyOf t xs) (sym c.in-Err.ensures.kept) s in record {
  none = subst (λ (h : HeldLine). IsOfNone c.args.tally.now.limits xs h) c.cut-cut.ensures (c.in-Err.ensures.err xs s);
  first =
      subst (λ (h : HeldLine). IsFirstFault c.args.tally.now.limits xs h c.in-Err.fault.field c.in-Err.fault.reason)
      c.cut-cut.ensures (c.in-Err.ensures.first xs s);
  number = ap (λ (n : ℕ). n + 1) (c.records.ensures.counted xs same);
  level =
      c.level.ensures ∙ ap₂ (λ (k : Option Kind) (p : Scope). level_of k c.in-Err.fault.field c.in-Err.fault.reason p)
      (c.kind.ensures ∙ ap held_kind c.cut-cut.ensures) (c.scope.ensures xs same);
}
