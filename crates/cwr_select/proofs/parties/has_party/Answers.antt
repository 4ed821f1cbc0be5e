use Rattle.std.proofs.Common.{◌≡◌, ℕ, ◌+◌, suc, false, take, arith, sym, subst, ◌∙◌}
use Rattle.std.specs.List.{list_any}
use Rattle.cwr_select.specs.Format.Criteria.{names_party}
use Rattle.cwr_select.proofs.lemmas.PartyCells.{none_more, one_names}
use Rattle.cwr_select.proofs.parties.has_party.Goals as goal

pub returns-then-names_party : goal.returns-then-names_party
returns-then-names_party c =
    sym (one_names (names_party c.args.number.now) c.args.transaction.now c.records.i c.in-Some.shown c.in-Some.ensures.value
    (sym c.names_party.ensures ∙ c.if-names_party.true))

pub records-preserved : goal.records-preserved
records-preserved c =
    let one : suc c.records.i ≡ c.records.i + 1 = omega arith in
    record {
      counted = c.records.invariant.counted;
      within = omega arith;
      none =
          subst (λ (k : ℕ). list_any (names_party c.args.number.now) (take k c.args.transaction.now) ≡ false) one
          (none_more (names_party c.args.number.now) c.args.transaction.now c.records.i c.in-Some.shown c.in-Some.ensures.value
          (sym c.names_party.ensures ∙ c.if-names_party.false) c.records.invariant.none);
    }
