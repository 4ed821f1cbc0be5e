use Rattle.std.proofs.Common.{◌≡◌, ℕ, false, List, [], Option, rules, refl, sym, ap, subst, ◌∙◌, arith}
use Rattle.std.specs.Prelude.{Result, Ok, Err, IfOk, IfSome, IsSomeAnd}
use Rattle.cwr_decode.specs.Steps.LastReads.{IsFrontOf}
use Rattle.cwr_decode.specs.Steps.Machines.{Standing}
use Rattle.cwr_decode.specs.Steps.Runs.{HasReadAll}
use Rattle.cwr_decode.proofs.lemmas.ItemsReadSoFar.{none_read, nothing_read_yet}
use Rattle.cwr_tools.specs.declared.verdicts.Verdict.{Verdict}
use Rattle.cwr_tools.specs.declared.verdicts.ToolFault.{ToolFault}
use Rattle.cwr_tools.specs.declared.totals.Totals.{Totals}
use Rattle.cwr_tools.specs.Format.Reports.{CountsReaderFault}
use Rattle.cwr_tools.specs.Steps.Reports.{PutsReport, StandsAfter, StandsAtEnd, StandsPut}
use Rattle.cwr_tools.specs.Steps.Verdicts.{IsReadLast, IsRightVerdict, StopsAfter}
use Rattle.cwr_tools.proofs.lemmas.CountedTotals.{counts_none, next_room, total_grows}
use Rattle.cwr_tools.proofs.lemmas.LastReported.{HoldsRead, err_last, fault_answered, good_answered, holds_more, holds_none}
use Rattle.cwr_tools.proofs.lemmas.ReportsOn.{IsReporting, fault_reported, first_fault, first_put, good_reported, item_fault}
use Rattle.cwr_tools.proofs.lemmas.ReportsOn.{no_reader_fault, nothing, reads_item, reports_item, room_in, same_fault}
use Rattle.cwr_tools.proofs.lemmas.ReportsOn.{fault_stands, no_stands, stops_after}
use Rattle.cwr_tools.proofs.lemmas.ReportsOn.{stops_decoder}
use Rattle.cwr_tools.proofs.lemmas.ToldReports.{passes_over, told_grows, told_reporting}
use Rattle.cwr_tools.proofs.lemmas.WatchedRuns.{good_right, put_tells, stands_before}
use Rattle.cwr_tools.proofs.reporting.put_items.Goals as goal

pub returns-in_err-put_first-clause-puts : goal.returns-in_err-put_first-clause-puts
returns-in_err-put_first-clause-puts g c = λ of s.
    let new = c.begin_reading-reading.ensures in
    let reading =
    nothing_read_yet c.args.limits c.begin_reading-reading.result.decoder (g.R.Source.remaining c.args.reader.now)
    (g.R.Source.remaining c.begin_reading-reading.result.reader.now) new.represents new.limits new.open new.fresh
    (ap g.R.Source.remaining new.kept) in
    let faulty : PutsReport of nothing c.args.limits (g.R.Source.remaining c.args.reader.now)
    (g.R.Source.remaining c.begin_reading-reading.result.reader.now) g.W.Target.contents g.W.Target.failures
    c.from_residual.result c.args.sink.now c.put_first.new.sink
    = subst (λ (r : Result Verdict ToolFault). PutsReport of nothing c.args.limits (g.R.Source.remaining c.args.reader.now)
    (g.R.Source.remaining c.begin_reading-reading.result.reader.now) g.W.Target.contents g.W.Target.failures r c.args.sink.now
    c.put_first.new.sink)
    (sym (same_fault c.from_residual.result c.in_err-put_first.field-0.0 c.from_residual.ensures.1))
    (first_fault of nothing c.args.limits c.begin_reading-reading.result.decoder (g.R.Source.remaining c.args.reader.now) _
    g.W.Target.contents g.W.Target.failures c.in_err-put_first.field-0.0 c.args.sink.now c.put_first.new.sink
    reading (c.in_err-put_first.ensures of s)) in
    search rules

pub returns-in_err-put_first-clause-stands : goal.returns-in_err-put_first-clause-stands
returns-in_err-put_first-clause-stands g c = λ of s.
    put_tells g.W.Target.contents g.W.Target.failures false (of.lines []) c.in_err-put_first.field-0.0 c.args.sink.now
    c.put_first.new.sink c.args.limits _ _ _ c.from_residual.result (c.in_err-put_first.ensures of s)
    (same_fault c.from_residual.result c.in_err-put_first.field-0.0 c.from_residual.ensures.1)

pub returns-in_err-put_first-clause-last : goal.returns-in_err-put_first-clause-last
returns-in_err-put_first-clause-last g c =
    λ held. err_last c.args.limits _ _ _ c.from_residual.result c.in_err-put_first.field-0.0
    (same_fault c.from_residual.result c.in_err-put_first.field-0.0 c.from_residual.ensures.1)

pub items-init : goal.items-init
items-init g c =
    let new = c.begin_reading-reading.ensures in
    let reading =
    nothing_read_yet c.args.limits c.begin_reading-reading.result.decoder (g.R.Source.remaining c.args.reader.now)
    (g.R.Source.remaining c.begin_reading-reading.result.reader.now) new.represents new.limits new.open new.fresh
    (ap g.R.Source.remaining new.kept) in
    record {
      reporting =
          λ of s. first_put of (g.L.Report.stands c.args.lines.now of) c.args.limits c.begin_reading-reading.result.decoder
          (g.R.Source.remaining c.args.reader.now) (g.R.Source.remaining c.begin_reading-reading.result.reader.now)
          g.W.Target.contents g.W.Target.failures c.new-counts.result tt c.args.sink.now c.put_first.new.sink reading
          (counts_none c.new-counts.result c.new-counts.ensures) s (c.in_ok-put_first.ensures of s);
      failures = ap g.R.Source.failures new.kept;
      last =
          λ held. subst (λ (b : Option (List ℕ)). HoldsRead b (g.R.Source.remaining c.begin_reading-reading.result.reader.now)
          c.begin_reading-reading.result.last) (ap g.R.Source.remaining new.kept)
          (holds_none (g.R.Source.remaining c.begin_reading-reading.result.reader.now) c.begin_reading-reading.result.last
          (new.last held));
      same = refl;
    }

pub put_item-requires-clause-stands : goal.put_item-requires-clause-stands
put_item-requires-clause-stands g c =
    let told =
    (told_reporting _ c.requires.stands.0 _ _ _ _ _ _ _ _ _ _ _ _ _ _
    (passes_over c.passes.result _ c.requires.stands.0 _ (λ t. c.passes.ensures t c.requires.stands.0))
    (c.items.invariant.reporting c.requires.stands.0 c.requires.stands.1) c.in-Ok-Some.ensures.told) in
    (c.requires.stands.0, told.given, told.counts, told.here)

pub put_item-requires-clause-room : goal.put_item-requires-clause-room
put_item-requires-clause-room g c =
    room_in _ _ c.args.limits _ _ _ g.W.Target.contents g.W.Target.failures c.read_on.new.counts c.args.sink.now c.items.sink
    (told_reporting
    _ c.requires.stands.0 _ _ _ _ _ _ _ _ _ _ _ _ _ _
    (passes_over c.passes.result _ c.requires.stands.0 _ (λ t. c.passes.ensures t c.requires.stands.0))
    (c.items.invariant.reporting c.requires.stands.0 c.requires.stands.1) c.in-Ok-Some.ensures.told)

pub put_item-requires-clause-few : goal.put_item-requires-clause-few
put_item-requires-clause-few g c =
    let told =
    (told_reporting _ c.requires.stands.0 _ _ _ _ _ _ _ _ _ _ _ _ _ _
    (passes_over c.passes.result _ c.requires.stands.0 _ (λ t. c.passes.ensures t c.requires.stands.0))
    (c.items.invariant.reporting c.requires.stands.0 c.requires.stands.1) c.in-Ok-Some.ensures.told) in
    let reading =
    (reads_item c.requires.stands.0 _ c.args.limits c.in-Ok-Some.ensures.told.reads.between c.read_on.new.reading.decoder
    (g.R.Source.remaining c.args.reader.now) _ _ g.W.Target.contents g.W.Target.failures c.read_on.new.counts c.args.sink.now
    c.items.sink
    c.in-Ok-Some.field-0 c.in-Ok-Some.item _ _ c.in-Ok-Some.field-0-is told c.in-Ok-Some.ensures.told.reads.reads
    c.in-Ok-Some.ensures.told.reads.again) in
    (next_room c.args.limits c.read_on.new.reading.decoder (g.R.Source.remaining c.args.reader.now) _ c.read_on.new.counts
    told.given c.in-Ok-Some.item reading told.counts).records

pub count-requires-clause-groups : goal.count-requires-clause-groups
count-requires-clause-groups g c =
    (room_in _ _ c.args.limits _ _ _ g.W.Target.contents g.W.Target.failures c.read_on.new.counts c.args.sink.now c.items.sink
    (told_reporting
    _ c.requires.stands.0 _ _ _ _ _ _ _ _ _ _ _ _ _ _
    (passes_over c.passes.result _ c.requires.stands.0 _ (λ t. c.passes.ensures t c.requires.stands.0))
    (c.items.invariant.reporting c.requires.stands.0 c.requires.stands.1) c.in-Ok-Some.ensures.told)).groups

pub count-requires-clause-transactions : goal.count-requires-clause-transactions
count-requires-clause-transactions g c =
    (room_in _ _ c.args.limits _ _ _ g.W.Target.contents g.W.Target.failures c.read_on.new.counts c.args.sink.now c.items.sink
    (told_reporting
    _ c.requires.stands.0 _ _ _ _ _ _ _ _ _ _ _ _ _ _
    (passes_over c.passes.result _ c.requires.stands.0 _ (λ t. c.passes.ensures t c.requires.stands.0))
    (c.items.invariant.reporting c.requires.stands.0 c.requires.stands.1) c.in-Ok-Some.ensures.told)).transactions

pub count-requires-clause-in_group : goal.count-requires-clause-in_group
count-requires-clause-in_group g c =
    (room_in _ _ c.args.limits _ _ _ g.W.Target.contents g.W.Target.failures c.read_on.new.counts c.args.sink.now c.items.sink
    (told_reporting
    _ c.requires.stands.0 _ _ _ _ _ _ _ _ _ _ _ _ _ _
    (passes_over c.passes.result _ c.requires.stands.0 _ (λ t. c.passes.ensures t c.requires.stands.0))
    (c.items.invariant.reporting c.requires.stands.0 c.requires.stands.1) c.in-Ok-Some.ensures.told)).in_group

pub count-requires-clause-records : goal.count-requires-clause-records
count-requires-clause-records g c =
    let told =
    (told_reporting _ c.requires.stands.0 _ _ _ _ _ _ _ _ _ _ _ _ _ _
    (passes_over c.passes.result _ c.requires.stands.0 _ (λ t. c.passes.ensures t c.requires.stands.0))
    (c.items.invariant.reporting c.requires.stands.0 c.requires.stands.1) c.in-Ok-Some.ensures.told) in
    let reading =
    (reads_item c.requires.stands.0 _ c.args.limits c.in-Ok-Some.ensures.told.reads.between c.read_on.new.reading.decoder
    (g.R.Source.remaining c.args.reader.now) _ _ g.W.Target.contents g.W.Target.failures c.read_on.new.counts c.args.sink.now
    c.items.sink
    c.in-Ok-Some.field-0 c.in-Ok-Some.item _ _ c.in-Ok-Some.field-0-is told c.in-Ok-Some.ensures.told.reads.reads
    c.in-Ok-Some.ensures.told.reads.again) in
    (next_room c.args.limits c.read_on.new.reading.decoder (g.R.Source.remaining c.args.reader.now) _ c.read_on.new.counts
    told.given c.in-Ok-Some.item reading told.counts).records

pub items-smaller : goal.items-smaller
items-smaller g c =
    let told =
    (told_reporting _ c.requires.stands.0 _ _ _ _ _ _ _ _ _ _ _ _ _ _
    (passes_over c.passes.result _ c.requires.stands.0 _ (λ t. c.passes.ensures t c.requires.stands.0))
    (c.items.invariant.reporting c.requires.stands.0 c.requires.stands.1) c.in-Ok-Some.ensures.told) in
    let reading =
    (reads_item c.requires.stands.0 _ c.args.limits c.in-Ok-Some.ensures.told.reads.between c.read_on.new.reading.decoder
    (g.R.Source.remaining c.args.reader.now) _ _ g.W.Target.contents g.W.Target.failures c.read_on.new.counts c.args.sink.now
    c.items.sink
    c.in-Ok-Some.field-0 c.in-Ok-Some.item _ _ c.in-Ok-Some.field-0-is told c.in-Ok-Some.ensures.told.reads.reads
    c.in-Ok-Some.ensures.told.reads.again) in
    let room =
    (next_room c.args.limits c.read_on.new.reading.decoder (g.R.Source.remaining c.args.reader.now) _ c.read_on.new.counts
    told.given c.in-Ok-Some.item reading told.counts) in
    omega (
      arith,
      room.groups,
      room.transactions,
      room.records,
      total_grows c.read_on.new.counts c.in-Ok-Some.item,
      told_grows _ c.requires.stands.0 _ _ _ _ _ _ _ _ _ _ _ _ _ _
          (c.items.invariant.reporting c.requires.stands.0 c.requires.stands.1) c.in-Ok-Some.ensures.told,
      ap (λ (n : Totals). n.groups) c.count.ensures,
      ap (λ (n : Totals). n.transactions) c.count.ensures,
      ap (λ (n : Totals). n.records) c.count.ensures,
    )

pub items-preserved : goal.items-preserved
items-preserved g c =
    record {
      reporting = λ of s.
          let told =
          (told_reporting _ of _ _ _ _ _ _ _ _ _ _ _ _ _ _ (passes_over c.passes.result _ of _ (λ t. c.passes.ensures t of))
          (c.items.invariant.reporting of s) c.in-Ok-Some.ensures.told) in
          let reading =
          (reads_item of _ c.args.limits c.in-Ok-Some.ensures.told.reads.between c.read_on.new.reading.decoder
          (g.R.Source.remaining c.args.reader.now) _ _ g.W.Target.contents g.W.Target.failures c.read_on.new.counts
          c.args.sink.now c.items.sink
          c.in-Ok-Some.field-0 c.in-Ok-Some.item _ _ c.in-Ok-Some.field-0-is told c.in-Ok-Some.ensures.told.reads.reads
          c.in-Ok-Some.ensures.told.reads.again) in
          subst (λ (counts : Totals). IsReporting of (g.L.Report.stands c.put_item.new.lines of) c.args.limits
          c.read_on.new.reading.decoder (g.R.Source.remaining c.args.reader.now)
          (g.R.Source.remaining c.read_on.new.reading.reader.now)
          g.W.Target.contents g.W.Target.failures counts c.args.sink.now c.put_item.new.sink) (sym c.count.ensures)
          (reports_item of _ (g.L.Report.stands c.put_item.new.lines of) c.args.limits c.in-Ok-Some.ensures.told.reads.between
          c.read_on.new.reading.decoder (g.R.Source.remaining c.args.reader.now) _ _ g.W.Target.contents g.W.Target.failures
          c.read_on.new.counts c.args.sink.now c.items.sink c.put_item.new.sink c.in-Ok-Some.item tt told reading
          (c.in_ok-put_item-in-Ok-Some.ensures.puts of told.given told.counts told.here)
          (c.in_ok-put_item-in-Ok-Some.ensures.stands of told.given told.counts told.here));
      failures = c.in-Ok-Some.ensures.failures ∙ c.items.invariant.failures;
      last = λ held. holds_more _ _ _ _ _ (c.items.invariant.last held) c.in-Ok-Some.ensures.last;
      same = c.in-Ok-Some.ensures.same_reference ∙ c.items.invariant.same;
    }

pub returns-in_err-put_item-in-Ok-Some-clause-puts : goal.returns-in_err-put_item-in-Ok-Some-clause-puts
returns-in_err-put_item-in-Ok-Some-clause-puts g c = λ of s.
    let told =
    (told_reporting _ of _ _ _ _ _ _ _ _ _ _ _ _ _ _ (passes_over c.passes.result _ of _ (λ t. c.passes.ensures t of))
    (c.items.invariant.reporting of s) c.in-Ok-Some.ensures.told) in
    let reading =
    (reads_item of _ c.args.limits c.in-Ok-Some.ensures.told.reads.between c.read_on.new.reading.decoder
    (g.R.Source.remaining c.args.reader.now) _ _ g.W.Target.contents g.W.Target.failures c.read_on.new.counts c.args.sink.now
    c.items.sink
    c.in-Ok-Some.field-0 c.in-Ok-Some.item _ _ c.in-Ok-Some.field-0-is told c.in-Ok-Some.ensures.told.reads.reads
    c.in-Ok-Some.ensures.told.reads.again) in
    let faulty : PutsReport of nothing c.args.limits (g.R.Source.remaining c.args.reader.now)
    (g.R.Source.remaining c.read_on.new.reading.reader.now) g.W.Target.contents g.W.Target.failures
    c.from_residual-in_err-put_item-in-Ok-Some.result c.args.sink.now c.put_item.new.sink
    = subst (λ (r : Result Verdict ToolFault). PutsReport of nothing c.args.limits (g.R.Source.remaining c.args.reader.now)
    (g.R.Source.remaining c.read_on.new.reading.reader.now) g.W.Target.contents g.W.Target.failures r c.args.sink.now
    c.put_item.new.sink)
    (sym (same_fault c.from_residual-in_err-put_item-in-Ok-Some.result c.in_err-put_item-in-Ok-Some.field-0.0
    c.from_residual-in_err-put_item-in-Ok-Some.ensures.1))
    (item_fault of _ nothing c.args.limits c.in-Ok-Some.ensures.told.reads.between c.read_on.new.reading.decoder
    (g.R.Source.remaining c.args.reader.now) _ _ g.W.Target.contents g.W.Target.failures
    c.read_on.new.counts c.args.sink.now c.items.sink c.put_item.new.sink c.in-Ok-Some.item c.in_err-put_item-in-Ok-Some.field-0.0
    told reading
    (c.in_err-put_item-in-Ok-Some.ensures.puts of told.given told.counts told.here)) in
    search rules

pub returns-in_err-put_item-in-Ok-Some-clause-failures : goal.returns-in_err-put_item-in-Ok-Some-clause-failures
returns-in_err-put_item-in-Ok-Some-clause-failures g c =
    let told =
    (told_reporting _ c.requires.stands.0 _ _ _ _ _ _ _ _ _ _ _ _ _ _
    (passes_over c.passes.result _ c.requires.stands.0 _ (λ t. c.passes.ensures t c.requires.stands.0))
    (c.items.invariant.reporting c.requires.stands.0 c.requires.stands.1) c.in-Ok-Some.ensures.told) in
    let put = c.in_err-put_item-in-Ok-Some.ensures.puts c.requires.stands.0 told.given told.counts told.here in
    let kept : CountsReaderFault (Err c.in_err-put_item-in-Ok-Some.field-0.0) (g.R.Source.failures c.args.reader.now)
    (g.R.Source.failures c.read_on.new.reading.reader.now)
    = no_reader_fault g.W.Target.contents g.W.Target.failures _ put.0 c.in_err-put_item-in-Ok-Some.field-0.0 c.items.sink
    c.put_item.new.sink _ _ put.2 (c.in-Ok-Some.ensures.failures ∙ c.items.invariant.failures) in
    let same =
    same_fault c.from_residual-in_err-put_item-in-Ok-Some.result c.in_err-put_item-in-Ok-Some.field-0.0
    c.from_residual-in_err-put_item-in-Ok-Some.ensures.1 in
    let here = c.in-Ok-Some.ensures.same_reference ∙ c.items.invariant.same in
    search rules

pub returns-in_err-put_item-in-Ok-Some-clause-stands : goal.returns-in_err-put_item-in-Ok-Some-clause-stands
returns-in_err-put_item-in-Ok-Some-clause-stands g c = λ of s.
    let told =
    (told_reporting _ of _ _ _ _ _ _ _ _ _ _ _ _ _ _ (passes_over c.passes.result _ of _ (λ t. c.passes.ensures t of))
    (c.items.invariant.reporting of s) c.in-Ok-Some.ensures.told) in
    let put = c.in_err-put_item-in-Ok-Some.ensures.puts of told.given told.counts told.here in
    put_tells g.W.Target.contents g.W.Target.failures _ put.0 c.in_err-put_item-in-Ok-Some.field-0.0 c.items.sink
    c.put_item.new.sink c.args.limits _ _ _ c.from_residual-in_err-put_item-in-Ok-Some.result put.2
    (same_fault c.from_residual-in_err-put_item-in-Ok-Some.result c.in_err-put_item-in-Ok-Some.field-0.0
    c.from_residual-in_err-put_item-in-Ok-Some.ensures.1)

pub returns-in_err-put_item-in-Ok-Some-clause-last : goal.returns-in_err-put_item-in-Ok-Some-clause-last
returns-in_err-put_item-in-Ok-Some-clause-last g c =
    λ held. err_last c.args.limits _ _ _ c.from_residual-in_err-put_item-in-Ok-Some.result c.in_err-put_item-in-Ok-Some.field-0.0
    (same_fault
    c.from_residual-in_err-put_item-in-Ok-Some.result c.in_err-put_item-in-Ok-Some.field-0.0
    c.from_residual-in_err-put_item-in-Ok-Some.ensures.1)

pub returns-in-Ok-None-clause-puts : goal.returns-in-Ok-None-clause-puts
returns-in-Ok-None-clause-puts g c = λ of s.
    let told =
    (told_reporting _ of _ _ _ _ _ _ _ _ _ _ _ _ _ _ (passes_over c.passes.result _ of _ (λ t. c.passes.ensures t of))
    (c.items.invariant.reporting of s) c.in-Ok-None.ensures.told) in
    let all : HasReadAll c.args.limits (g.R.Source.remaining c.args.reader.now)
    (g.R.Source.remaining c.read_on.new.reading.reader.now) told.given
    = none_read c.args.limits c.in-Ok-None.ensures.told.reads.between c.read_on.new.reading.decoder
    (g.R.Source.remaining c.args.reader.now) _ _ told.given c.in-Ok-None.field-0 _ c.in-Ok-None.field-0-is
    told.reading c.in-Ok-None.ensures.told.reads.reads c.in-Ok-None.ensures.told.reads.again (λ e. e) in
    let good : PutsReport of nothing c.args.limits (g.R.Source.remaining c.args.reader.now)
    (g.R.Source.remaining c.read_on.new.reading.reader.now) g.W.Target.contents g.W.Target.failures (Ok c.good.result)
    c.args.sink.now c.items.sink
    = good_reported of c.args.limits _ _ g.W.Target.contents g.W.Target.failures c.args.sink.now c.items.sink told.given
    c.read_on.new.counts c.good.result all told.counts told.put c.good.ensures in
    let same = c.in-Ok-None.ensures.same_reference ∙ c.items.invariant.same in
    let at : (left : Option (List ℕ)) → left ≡ g.R.Source.remaining c.read_on.new.reading.reader.now
    → PutsReport of nothing c.args.limits (g.R.Source.remaining c.args.reader.now) left g.W.Target.contents g.W.Target.failures
    (Ok c.good.result) c.args.sink.now c.items.sink
    = λ left e. subst (λ (l : Option (List ℕ)). PutsReport of nothing c.args.limits (g.R.Source.remaining c.args.reader.now) l
    g.W.Target.contents g.W.Target.failures (Ok c.good.result) c.args.sink.now c.items.sink) (sym e) good in
    at _ (search rules)

pub returns-in-Ok-None-clause-stands : goal.returns-in-Ok-None-clause-stands
returns-in-Ok-None-clause-stands g c = λ of s.
    let told =
    (told_reporting _ of _ _ _ _ _ _ _ _ _ _ _ _ _ _ (passes_over c.passes.result _ of _ (λ t. c.passes.ensures t of))
    (c.items.invariant.reporting of s) c.in-Ok-None.ensures.told) in
    let all : HasReadAll c.args.limits (g.R.Source.remaining c.args.reader.now)
    (g.R.Source.remaining c.read_on.new.reading.reader.now) told.given
    = none_read c.args.limits c.in-Ok-None.ensures.told.reads.between c.read_on.new.reading.decoder
    (g.R.Source.remaining c.args.reader.now) _ _ told.given c.in-Ok-None.field-0 _ c.in-Ok-None.field-0-is
    told.reading c.in-Ok-None.ensures.told.reads.reads c.in-Ok-None.ensures.told.reads.again (λ e. e) in
    let right : IsRightVerdict c.args.limits (g.R.Source.remaining c.args.reader.now) c.good.result
    (g.R.Source.remaining c.read_on.new.reading.reader.now) told.given
    = good_right c.args.limits _ _ told.given c.read_on.new.counts c.good.result all told.counts c.good.ensures in
    let standing : StandsAfter (g.L.Report.stands c.items.lines of) c.args.limits (g.R.Source.remaining c.args.reader.now)
    (g.R.Source.remaining c.read_on.new.reading.reader.now) c.good.result =
    (told.given, right, told.here) in
    let same = c.in-Ok-None.ensures.same_reference ∙ c.items.invariant.same in
    let at : (left : Option (List ℕ)) → left ≡ g.R.Source.remaining c.read_on.new.reading.reader.now → StandsAfter
    (g.L.Report.stands c.items.lines of) c.args.limits (g.R.Source.remaining c.args.reader.now) left c.good.result
    = λ left e. subst (λ (l : Option (List ℕ)). StandsAfter (g.L.Report.stands c.items.lines of) c.args.limits
    (g.R.Source.remaining c.args.reader.now) l c.good.result) (sym e) standing in
    at _ (search rules)

pub returns-in-Ok-None-clause-last : goal.returns-in-Ok-None-clause-last
returns-in-Ok-None-clause-last g c = λ held.
    let good : IsSomeAnd c.last_read-front.result (IsReadLast c.args.limits (g.R.Source.remaining c.args.reader.now)
    (g.R.Source.remaining c.read_on.new.reading.reader.now) c.good.result)
    = good_answered c.args.limits _ _ c.read_on.new.reading.last c.last_read-front.result c.good.result _ _ _ c.good.ensures
    (holds_more _ _ _ _ _ (c.items.invariant.last held) c.in-Ok-None.ensures.last) c.last_read-front.ensures.bytes in
    search rules

pub returns-in-Err-clause-puts : goal.returns-in-Err-clause-puts
returns-in-Err-clause-puts g c = λ of s.
    let told =
    (told_reporting _ of _ _ _ _ _ _ _ _ _ _ _ _ _ _ (passes_over c.passes.result _ of _ (λ t. c.passes.ensures t of))
    (c.items.invariant.reporting of s) c.in-Err.ensures.told) in
    let stop : StopsAfter c.args.limits c.in-Err.fault (g.R.Source.remaining c.args.reader.now)
    (g.R.Source.remaining c.read_on.new.reading.reader.now) told.given
    = stops_after c.args.limits c.in-Err.ensures.told.reads.between c.read_on.new.reading.decoder
    (g.R.Source.remaining c.args.reader.now) _ _ told.given c.in-Err.fault _ _
    told.reading c.in-Err.ensures.told.reads.reads c.in-Err.ensures.told.reads.again in
    let stopped : PutsReport of nothing c.args.limits (g.R.Source.remaining c.args.reader.now)
    (g.R.Source.remaining c.read_on.new.reading.reader.now) g.W.Target.contents g.W.Target.failures c.verdict_of.result
    c.args.sink.now c.items.sink
    = fault_reported of c.args.limits _ _ g.W.Target.contents g.W.Target.failures c.args.sink.now c.items.sink told.given
    c.in-Err.fault c.verdict_of.result stop told.put c.verdict_of.ensures in
    search rules

pub returns-in-Err-clause-stands : goal.returns-in-Err-clause-stands
returns-in-Err-clause-stands g c = λ of s.
    let told =
    (told_reporting _ of _ _ _ _ _ _ _ _ _ _ _ _ _ _ (passes_over c.passes.result _ of _ (λ t. c.passes.ensures t of))
    (c.items.invariant.reporting of s) c.in-Err.ensures.told) in
    let stop : StopsAfter c.args.limits c.in-Err.fault (g.R.Source.remaining c.args.reader.now)
    (g.R.Source.remaining c.read_on.new.reading.reader.now) told.given
    = stops_after c.args.limits c.in-Err.ensures.told.reads.between c.read_on.new.reading.decoder
    (g.R.Source.remaining c.args.reader.now) _ _ told.given c.in-Err.fault _ _
    told.reading c.in-Err.ensures.told.reads.reads c.in-Err.ensures.told.reads.again in
    let standing : StandsAtEnd (g.L.Report.stands c.items.lines of) c.args.limits (g.R.Source.remaining c.args.reader.now)
    (g.R.Source.remaining c.read_on.new.reading.reader.now) c.verdict_of.result
    = stands_before c.args.limits _ _ told.given (g.L.Report.stands c.items.lines of) c.in-Err.fault c.verdict_of.result stop
    c.verdict_of.ensures told.here in
    search rules

pub returns-in-Err-clause-last : goal.returns-in-Err-clause-last
returns-in-Err-clause-last g c = λ held.
    let told =
    (told_reporting _ c.requires.stands.0 _ _ _ _ _ _ _ _ _ _ _ _ _ _
    (passes_over c.passes.result _ c.requires.stands.0 _ (λ t. c.passes.ensures t c.requires.stands.0))
    (c.items.invariant.reporting c.requires.stands.0 c.requires.stands.1) c.in-Err.ensures.told) in
    let stop : StopsAfter c.args.limits c.in-Err.fault (g.R.Source.remaining c.args.reader.now)
    (g.R.Source.remaining c.read_on.new.reading.reader.now) told.given
    = stops_after c.args.limits c.in-Err.ensures.told.reads.between c.read_on.new.reading.decoder
    (g.R.Source.remaining c.args.reader.now) _ _ told.given c.in-Err.fault _ _
    told.reading c.in-Err.ensures.told.reads.reads c.in-Err.ensures.told.reads.again in
    let same : stop.0.decoder ≡ c.read_on.new.reading.decoder =
    stops_decoder c.args.limits c.in-Err.ensures.told.reads.between c.read_on.new.reading.decoder
    (g.R.Source.remaining c.args.reader.now) _ _ told.given c.in-Err.fault _ _
    told.reading c.in-Err.ensures.told.reads.reads c.in-Err.ensures.told.reads.again in
    let stopped : IfOk c.verdict_of.result (λ verdict. IsSomeAnd c.last_read-front-in-Err.result (IsReadLast c.args.limits
    (g.R.Source.remaining c.args.reader.now) (g.R.Source.remaining c.read_on.new.reading.reader.now) verdict))
    = fault_answered c.args.limits _ _ told.given c.read_on.new.reading.last c.last_read-front-in-Err.result c.in-Err.fault
    c.verdict_of.result stop
    (subst (λ (d : Standing). IfSome c.last_read-front-in-Err.result
    (λ last. IsFrontOf last d)) (sym same) c.last_read-front-in-Err.ensures.front)
    (holds_more _ _ _ _ _ (c.items.invariant.last held) c.in-Err.ensures.last) c.last_read-front-in-Err.ensures.bytes
    c.verdict_of.ensures in
    search rules

pub returns-in_err-put_first-clause-stands_put : goal.returns-in_err-put_first-clause-stands_put
returns-in_err-put_first-clause-stands_put g c = λ of s.
    no_stands of _ c.args.limits _ _ g.W.Target.contents g.W.Target.failures c.from_residual.result
    c.in_err-put_first.field-0.0 _ _ (same_fault c.from_residual.result c.in_err-put_first.field-0.0 c.from_residual.ensures.1)

pub returns-in_err-put_item-in-Ok-Some-clause-stands_put : goal.returns-in_err-put_item-in-Ok-Some-clause-stands_put
returns-in_err-put_item-in-Ok-Some-clause-stands_put g c = λ of s.
    no_stands of _ c.args.limits _ _ g.W.Target.contents g.W.Target.failures
    c.from_residual-in_err-put_item-in-Ok-Some.result c.in_err-put_item-in-Ok-Some.field-0.0 _ _
    (same_fault c.from_residual-in_err-put_item-in-Ok-Some.result c.in_err-put_item-in-Ok-Some.field-0.0
    c.from_residual-in_err-put_item-in-Ok-Some.ensures.1)

pub returns-in-Ok-None-clause-stands_put : goal.returns-in-Ok-None-clause-stands_put
returns-in-Ok-None-clause-stands_put g c = λ of s.
    let told =
    (told_reporting _ of _ _ _ _ _ _ _ _ _ _ _ _ _ _ (passes_over c.passes.result _ of _ (λ t. c.passes.ensures t of))
    (c.items.invariant.reporting of s) c.in-Ok-None.ensures.told) in
    let all : HasReadAll c.args.limits (g.R.Source.remaining c.args.reader.now)
    (g.R.Source.remaining c.read_on.new.reading.reader.now) told.given
    = none_read c.args.limits c.in-Ok-None.ensures.told.reads.between c.read_on.new.reading.decoder
    (g.R.Source.remaining c.args.reader.now) _ _ told.given c.in-Ok-None.field-0 _ c.in-Ok-None.field-0-is
    told.reading c.in-Ok-None.ensures.told.reads.reads c.in-Ok-None.ensures.told.reads.again (λ e. e) in
    let right : IsRightVerdict c.args.limits (g.R.Source.remaining c.args.reader.now) c.good.result
    (g.R.Source.remaining c.read_on.new.reading.reader.now) told.given
    = good_right c.args.limits _ _ told.given c.read_on.new.counts c.good.result all told.counts c.good.ensures in
    let standing : StandsPut of (g.L.Report.stands c.items.lines of) c.args.limits (g.R.Source.remaining c.args.reader.now)
    (g.R.Source.remaining c.read_on.new.reading.reader.now) g.W.Target.contents g.W.Target.failures (Ok c.good.result)
    c.args.sink.now c.items.sink = (told.given, right, told.here, told.put) in
    let same = c.in-Ok-None.ensures.same_reference ∙ c.items.invariant.same in
    let at : (left : Option (List ℕ)) → left ≡ g.R.Source.remaining c.read_on.new.reading.reader.now → StandsPut of
    (g.L.Report.stands c.items.lines of) c.args.limits (g.R.Source.remaining c.args.reader.now) left g.W.Target.contents
    g.W.Target.failures (Ok c.good.result) c.args.sink.now c.items.sink
    = λ left e. subst (λ (l : Option (List ℕ)). StandsPut of (g.L.Report.stands c.items.lines of) c.args.limits
    (g.R.Source.remaining c.args.reader.now) l g.W.Target.contents g.W.Target.failures (Ok c.good.result) c.args.sink.now
    c.items.sink) (sym e) standing in
    at _ (search rules)

pub returns-in-Err-clause-stands_put : goal.returns-in-Err-clause-stands_put
returns-in-Err-clause-stands_put g c = λ of s.
    let told =
    (told_reporting _ of _ _ _ _ _ _ _ _ _ _ _ _ _ _ (passes_over c.passes.result _ of _ (λ t. c.passes.ensures t of))
    (c.items.invariant.reporting of s) c.in-Err.ensures.told) in
    let stop : StopsAfter c.args.limits c.in-Err.fault (g.R.Source.remaining c.args.reader.now)
    (g.R.Source.remaining c.read_on.new.reading.reader.now) told.given
    = stops_after c.args.limits c.in-Err.ensures.told.reads.between c.read_on.new.reading.decoder
    (g.R.Source.remaining c.args.reader.now) _ _ told.given c.in-Err.fault _ _
    told.reading c.in-Err.ensures.told.reads.reads c.in-Err.ensures.told.reads.again in
    let standing : StandsPut of (g.L.Report.stands c.items.lines of) c.args.limits (g.R.Source.remaining c.args.reader.now)
    (g.R.Source.remaining c.read_on.new.reading.reader.now) g.W.Target.contents g.W.Target.failures c.verdict_of.result
    c.args.sink.now c.items.sink
    = fault_stands of (g.L.Report.stands c.items.lines of) c.args.limits _ _ g.W.Target.contents g.W.Target.failures
    c.args.sink.now c.items.sink told.given c.in-Err.fault c.verdict_of.result stop told.here told.put c.verdict_of.ensures in
    search rules
