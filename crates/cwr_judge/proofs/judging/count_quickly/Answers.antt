use Rattle.std.proofs.Common.{sym, ap, ◌∙◌, subst}
use Rattle.cwr_fields.specs.declared.kinds.Kind.{Kind}
use Rattle.std.specs.Prelude.{Some}
use Rattle.cwr_judge.specs.Steps.Judged.{HasNumbers}
use Rattle.cwr_judge.proofs.lemmas.NumberCells.{known_of}
use Rattle.cwr_judge.proofs.judging.count_quickly.Goals as goal

pub surely_has_numbers-requires : goal.surely_has_numbers-requires
surely_has_numbers-requires c =
    known_of c.args.line.now c.in-Some.record c.in-Some.ensures.value ∙ ap Some (sym c.kind.ensures.value)

pub returns-in-Ok-clause-counted : goal.returns-in-Ok-clause-counted
returns-in-Ok-clause-counted c = λ yes.
    let excess = sym c.excess-has_excess.ensures ∙ c.if-has_excess.false in
    record {
      symbol = c.symbol_of-symbol.result;
      accepted = c.in-Some.record;
      carried = c.in-Some.ensures.value;
      in_order = c.kind.ensures.fits;
      excess = excess;
      next = λ xs st. record {
        carried = c.in-Some.ensures.value;
        in_order = c.kind.ensures.fits;
        symbol = sym c.symbol_of-symbol.ensures;
        may_come = c.in-Ok.ensures.answer xs st;
        numbers =
            subst (λ (k : Kind). HasNumbers xs c.args.line.now k) c.kind.ensures.value
            (c.surely_has_numbers.ensures xs st c.if-not-surely_has_numbers.false);
        excess = excess;
      };
      limits = c.in-Ok.ensures.limits;
      stands = c.in-Ok.ensures.stands;
    }
