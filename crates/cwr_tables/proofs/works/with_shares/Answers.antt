use Rattle.std.proofs.Common.{◌≡◌, ℕ, Bool, true, false, cond, refl, sym, ap, ◌∙◌, arith}
use Rattle.std.specs.Prelude.{Option, None, Some}
use Rattle.cwr_tables.specs.Format.WorkTables.{is_on}
use Rattle.cwr_tables.specs.Steps.WorkTexts.{both, stated_share}
use Rattle.cwr_tables.proofs.works.with_shares.Goals as goal

still : (o : Option ℕ) → o ≡ both o None
still None = refl
still (Some n) = refl

nothing_added : (o share : Option ℕ) (b : Bool) → b ≡ false → o ≡ both o (cond b share None)
nothing_added o share true e = absurd (cc e)
nothing_added o share false e = still o

added : (new old more share : Option ℕ) (b : Bool) → b ≡ true → new ≡ both old more → more ≡ share
    → new ≡ both old (cond b share None)
added new old more share true e h same = h ∙ ap (both old) same
added new old more share false e h same = absurd (cc e)

pub shares_of-requires : goal.shares_of-requires
shares_of-requires c = sym c.is_on.ensures ∙ c.if-not-is_on.false

pub plus-requires-clause-performing : goal.plus-requires-clause-performing
plus-requires-clause-performing c = omega (arith, c.requires.performing, c.shares_of.ensures.performing.small)

pub plus-requires-clause-mechanical : goal.plus-requires-clause-mechanical
plus-requires-clause-mechanical c = omega (arith, c.requires.mechanical, c.shares_of.ensures.mechanical.small)

pub plus-requires-clause-synchronization : goal.plus-requires-clause-synchronization
plus-requires-clause-synchronization c = omega (arith, c.requires.synchronization, c.shares_of.ensures.synchronization.small)

pub returns-then-not-is_on : goal.returns-then-not-is_on
returns-then-not-is_on c =
    let off : is_on c.args.side c.args.shown.now ≡ false = sym c.is_on.ensures ∙ c.if-not-is_on.true in
    record {
      performing = record {
        sum =
            nothing_added c.args.sums.performing (stated_share "pr share" c.args.shown.now)
            (is_on c.args.side c.args.shown.now) off;
        few = omega arith;
      };
      mechanical = record {
        sum =
            nothing_added c.args.sums.mechanical (stated_share "mr share" c.args.shown.now)
            (is_on c.args.side c.args.shown.now) off;
        few = omega arith;
      };
      synchronization = record {
        sum =
            nothing_added c.args.sums.synchronization (stated_share "sr share" c.args.shown.now)
            (is_on c.args.side c.args.shown.now) off;
        few = omega arith;
      };
    }

pub returns : goal.returns
returns c =
    let on : is_on c.args.side c.args.shown.now ≡ true = sym c.is_on.ensures ∙ c.if-not-is_on.false in
    let shares = c.shares_of.ensures in
    record {
      performing = record {
        sum =
            added c.plus.result.performing c.args.sums.performing c.shares_of.result.performing
            (stated_share "pr share" c.args.shown.now) (is_on c.args.side c.args.shown.now) on c.plus.ensures.performing
            shares.performing.value;
        few = omega (arith, c.plus.ensures.performing_sum, shares.performing.small);
      };
      mechanical = record {
        sum =
            added c.plus.result.mechanical c.args.sums.mechanical c.shares_of.result.mechanical
            (stated_share "mr share" c.args.shown.now) (is_on c.args.side c.args.shown.now) on c.plus.ensures.mechanical
            shares.mechanical.value;
        few = omega (arith, c.plus.ensures.mechanical_sum, shares.mechanical.small);
      };
      synchronization = record {
        sum =
            added c.plus.result.synchronization c.args.sums.synchronization c.shares_of.result.synchronization
            (stated_share "sr share" c.args.shown.now) (is_on c.args.side c.args.shown.now) on
            c.plus.ensures.synchronization shares.synchronization.value;
        few = omega (arith, c.plus.ensures.synchronization_sum, shares.synchronization.small);
      };
    }
