use Rattle.std.proofs.Common.{◌≡◌, ℕ, List, map, take, ap, sym, ◌∙◌, arith}
use Rattle.std.proofs.lemmas.List.{take_all}
use Rattle.cwr_fields.specs.declared.kinds.Kind.{Kind}
use Rattle.cwr_lines.specs.Format.Records.{RecordValue}
use Rattle.cwr_summary.specs.declared.columns.Column.TheVariants.{Records}
use Rattle.cwr_summary.specs.Format.Summaries.{record_part}
use Rattle.cwr_summary.specs.Steps.Counted.{added, counted}
use Rattle.cwr_summary.proofs.lemmas.Counting.{counted_one, found_within, mapped_more, none_within}
use Rattle.cwr_summary.proofs.summaries.Summary.add_records.Goals as goal

pub loop-shown-preserved : goal.loop-shown-preserved
loop-shown-preserved c =
    let t : List RecordValue = c.args.transaction.now in
    let i : ℕ = c.loop-shown.i in
    let old : List ℕ = c.args.self.now.numbers in
    record {
      within = omega (arith, found_within t i c.in-Some.shown c.in-Some.ensures.value);
      counted =
          counted_one old c.loop-shown.self.numbers c.add.new.self.numbers (map record_part (take i t)) (record_part c.in-Some.shown)
          c.loop-shown.invariant.counted
          (c.add.ensures ∙ ap (λ (kind : Kind). added c.loop-shown.self.numbers (Records kind, 1)) c.kind.ensures.value)
          ∙ ap (counted old) (sym (mapped_more record_part t i c.in-Some.shown c.in-Some.ensures.value));
    }

pub loop-shown-smaller : goal.loop-shown-smaller
loop-shown-smaller c = omega (arith, found_within c.args.transaction.now c.loop-shown.i c.in-Some.shown c.in-Some.ensures.value)

pub returns : goal.returns
returns c =
    let t : List RecordValue = c.args.transaction.now in
    let all : take c.loop-shown.i t ≡ t = take_all c.loop-shown.i t (none_within t c.loop-shown.i c.in_default.ensures.value) in
    c.loop-shown.invariant.counted ∙ ap (λ (l : List RecordValue). counted c.args.self.now.numbers (map record_part l)) all
