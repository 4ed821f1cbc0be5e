-- A decoder of which nothing was read represents no input and no items.
use Rattle.std.proofs.Common.{◌≡◌, List, [], ◌∷◌, ◌++◌, None, refl, sym, ap, subst, arith}
use Rattle.std.specs.List.{AllZip}
use Rattle.cwr_lines.specs.Format.Lines.{IsLineOf}
use Rattle.cwr_shape.specs.declared.symbols.Symbol.{Symbol}
use Rattle.cwr_shape.specs.Format.Ranges.{LimitValues, AreInRange}
use Rattle.cwr_shape.specs.Format.Outlines.{GroupOutline, symbols_of}
use Rattle.cwr_shape.specs.Steps.Tallies as tallies
use Rattle.cwr_shape.specs.Format.NextSymbols.{passed_limit}
use Rattle.cwr_shape.proofs.lemmas.WithinByFronts.{passes_none}
use Rattle.cwr_values.specs.Format.Begins.{rows_after, rows_so_far}
use Rattle.cwr_decode.specs.Steps.Machines.{Standing, at_start, held_of}
use Rattle.cwr_decode.specs.Steps.Represents.{Represents}
use Rattle.cwr_judge.proofs.lemmas.ContinuingRecord.{no_open, no_items}

-- ---- the start

no_rows : AllZip IsLineOf (rows_so_far []) []
unfolding rows_after
no_rows = tt

-- nothing was read
pub nothing_read : (d : Standing) → AreInRange d.tally.limits → tallies.IsTallyOf d.tally [] → d ≡ at_start d.tally
    → Represents d [] []
nothing_read d in_range counted is = subst (λ (q : Standing). Represents q [] []) (sym is) (record {
  in_range = in_range;
  here = record {
    lines = [];
    records = [];
    read =
        record {
          counted = counted;
          in_order = tt;
          rows = no_rows;
          within = λ front rest e. subst
              (λ (xs : List Symbol). passed_limit d.tally.limits xs ≡ None) (no_front front rest e) (nothing_passed d.tally.limits);
        };
    left = λ w. not_empty w.0 w.2;
    split = refl;
    open_line = refl;
    line = record { no_lf = refl; short = omega arith; full = tt };
    held = sym (ap held_of no_open);
    given_are = sym no_items;
  };
})
  where
    no_front : (front rest : List Symbol) → [] ≡ front ++ rest → [] ≡ front
    no_front [] rest e = refl
    no_front (f ∷ front) rest e = absurd (cc e)

    not_empty : (groups : List GroupOutline) → [] ≡ symbols_of groups → ⊥
    not_empty groups e = cc e

    nothing_passed : (limits : LimitValues) → passed_limit limits [] ≡ None
    nothing_passed limits =
        passes_none limits [] (record { records = omega arith; groups = omega arith; transaction = omega arith })
