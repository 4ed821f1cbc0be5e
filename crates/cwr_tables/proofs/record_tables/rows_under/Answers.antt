use Rattle.std.proofs.Common.{ℕ, List, Some, sym, ap, ◌∙◌, zero-add, arith}
use Rattle.std.specs.List.{enumerate_from}
use Rattle.std.proofs.lemmas.Option.{slice_get_within}
use Rattle.cwr_lines.specs.Format.Records.{RecordValue}
use Rattle.cwr_devices.proofs.lemmas.Adding.{adds_all, adds_next, numbered_none, numbered_there}
use Rattle.cwr_tables.specs.declared.places.RowNumbers.TheVariants.{InTransaction}
use Rattle.cwr_tables.specs.Format.RecordTables.{inner_of_kind}
use Rattle.cwr_tables.proofs.record_tables.rows_under.Goals as goal

pub loop-shown-preserved : goal.loop-shown-preserved
loop-shown-preserved g c =
    let row : ℕ × RecordValue → List ℕ =
    λ q. inner_of_kind c.args.encoding c.args.kind c.args.head.now (InTransaction c.args.place.group c.args.place.transaction q.0) q.1 in
    record {
      within = omega (arith, slice_get_within c.args.transaction.now c.loop-shown.i c.in-Some.shown (sym c.in-Some.ensures.value));
      adds =
          adds_next row (enumerate_from 0 c.args.transaction.now) c.loop-shown.i (c.loop-shown.i, c.in-Some.shown)
          (ap (λ (n : ℕ). Some (n, c.in-Some.shown)) (sym (zero-add c.loop-shown.i))
          ∙ numbered_there 0 c.loop-shown.i c.args.transaction.now c.in-Some.shown c.in-Some.ensures.value)
          c.loop-shown.invariant.adds c.inner_of_kind.ensures;
    }

pub returns : goal.returns
returns g c =
    let row : ℕ × RecordValue → List ℕ =
    λ q. inner_of_kind c.args.encoding c.args.kind c.args.head.now (InTransaction c.args.place.group c.args.place.transaction q.0) q.1 in
    adds_all row (enumerate_from 0 c.args.transaction.now) c.loop-shown.i
    (numbered_none 0 c.loop-shown.i c.args.transaction.now c.in_default.ensures.value) c.loop-shown.invariant.adds
