use Rattle.std.proofs.Common.{sym, ap, ◌∙◌, subst}
use Rattle.cwr_fields.specs.declared.kinds.Kind.{Kind}
use Rattle.cwr_shape.specs.declared.symbols.Symbol.{Symbol}
use Rattle.std.specs.Prelude.{Some}
use Rattle.cwr_shape.specs.Format.NextSymbols.{IsBarred}
use Rattle.cwr_judge.specs.Steps.Judged.{HasNumbers, Lacks}
use Rattle.cwr_judge.proofs.lemmas.NumberCells.{known_of, lacking, barred}
use Rattle.cwr_judge.proofs.judging.next_record.Goals as goal

pub has_numbers-requires : goal.has_numbers-requires
has_numbers-requires c = known_of c.args.line.now c.in-Some.record c.in-Some.ensures.value ∙ ap Some (sym c.kind.ensures.value)

pub returns-then-not-has_numbers-clause-none : goal.returns-then-not-has_numbers-clause-none
returns-then-not-has_numbers-clause-none c = λ xs st t s r.
    lacking c.args.tally.now.limits xs c.args.line.now c.in-Some.record r s c.in-Some.ensures.value
    (subst (λ (k : Kind). Lacks xs k (HasNumbers xs c.args.line.now k)) c.kind.ensures.value
    (c.has_numbers.ensures.no xs st c.if-not-has_numbers.true))

pub returns-in-Ok-clause-some : goal.returns-in-Ok-clause-some
returns-in-Ok-clause-some c = λ xs st. record {
  carried = c.in-Some.ensures.value;
  in_order = c.kind.ensures.fits;
  symbol = sym c.symbol_of-symbol.ensures;
  may_come = c.in-Ok.ensures.answer xs st;
  numbers =
      subst (λ (k : Kind). HasNumbers xs c.args.line.now k) c.kind.ensures.value
      (c.has_numbers.ensures.yes xs st c.if-not-has_numbers.false);
  excess = sym c.excess.ensures ∙ c.if-excess.false;
}

pub returns-in-Err-clause-none : goal.returns-in-Err-clause-none
returns-in-Err-clause-none c = λ xs st t s r.
    barred c.args.tally.now.limits xs c.args.line.now c.in-Some.record r s c.in-Err.field-0 c.in-Some.ensures.value
    (subst (λ (x : Symbol). IsBarred c.args.tally.now.limits xs x c.in-Err.field-0) c.symbol_of-symbol.ensures
    (c.in-Err.ensures.answer xs st))
