use Rattle.std.proofs.Common.{◌∙◌, ◌||◌, Bool, Bor, List, ℕ, ap, length, map, subst, sym}
use Rattle.std.specs.Prelude.{OnOk, Result, nat_lt}
use Rattle.std.specs.Io.KnownBytes.{Appends}
use Rattle.std.proofs.lemmas.List.{length-map}
use Rattle.cwr_endings.specs.declared.stops.Stop.{Stop}
use Rattle.cwr_summaries.specs.Format.Rows.{SummedInput, heading_in}
use Rattle.cwr_summaries.specs.Steps.Rows.{AreTotals, TellsInputs, WritesSums}
use Rattle.cwr_summaries.proofs.lemmas.Inputs.{rows_told}
use Rattle.cwr_summaries.proofs.summaries.summarize.Goals as goal

pub returns-in-Ok-ended-clause-told : goal.returns-in-Ok-ended-clause-told
returns-in-Ok-ended-clause-told g c =
    let summing = c.args.summing.now in
    let contents = g.W.Target.contents in
    let held = g.S.Store.held c.args.store.now in
    let first = g.I.Read.remaining c.args.standard in
    let words : List (List ℕ) = map {A = Bor (List ℕ)} {B = List ℕ} (λ name. name.now) summing.files.now in
    let names : List (List ℕ) = map {A = Bor (List ℕ)} {B = List ℕ} (λ name. name.now) c.summed-names.result.now in
    let each = c.summarize_each-lines in
    let ended = c.end_rows-lines in
    let start = c.write_heading-lines in
    let failures = g.S.Store.failures c.args.store.now in
    let now = g.S.Store.failures each.new.store in
    let totals = each.new.totals in
    let tells : Bool = summing.quiet || nat_lt 1 (length summing.files.now) in
    rows_told summing.form summing.limits summing.digests summing.whole summing.quiet held first contents words names
    (length c.summed-names.result.now) tells c.args.lines start.result.0 each.result.0 ended.result.0 failures now totals
    (subst (λ (r : Result (Unit {0}) Stop). OnOk r (Appends (contents c.args.lines) (contents start.result.0) (heading_in summing.form)))
    c.in-Ok.is start.ensures.puts)
    (subst (λ (r : Result (Unit {0}) Stop). TellsInputs summing.form summing.limits summing.digests summing.whole summing.quiet held first names
    contents start.result.0 each.result.0 failures now totals r) c.in-Ok-told.is each.ensures.told)
    (subst (λ (r : Result (Unit {0}) Stop). OnOk r ((inputs : List SummedInput) → AreTotals totals inputs → WritesSums contents summing.form tells
    (length c.summed-names.result.now) inputs each.result.0 ended.result.0)) c.in-Ok-ended.is ended.ensures.puts) c.summed-names.ensures
    (sym (length-map c.summed-names.result.now (λ (name : Bor (List ℕ)). name.now)) ∙ ap length c.summed-names.ensures)
    (ap (λ (n : ℕ). summing.quiet || nat_lt 1 n) (sym (length-map summing.files.now (λ (name : Bor (List ℕ)). name.now))))
