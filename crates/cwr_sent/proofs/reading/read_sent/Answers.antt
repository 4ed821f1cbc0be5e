use Rattle.std.proofs.Common.{rules, ◌≡◌, refl, sym, ap, ◌∙◌, ◌++◌, ◌∷◌, [], arith, inl}
use Rattle.std.proofs.lemmas.List.{length-append}
use Rattle.cwr_values.specs.Format.Values.{TransmissionValue}
use Rattle.cwr_decode.specs.declared.readings.ReadFault.TheVariants as faults
use Rattle.cwr_decode.specs.Steps.Runs.{HasReadAll, StopsReading}
use Rattle.cwr_decode.proofs.lemmas.ItemsMakeOneTransmission.{items_once}
use Rattle.cwr_decode.proofs.lemmas.ItemsReadSoFar.{all_items, all_taken, fault_read, fewer_left, memory_stops, none_read}
use Rattle.cwr_decode.proofs.lemmas.ItemsReadSoFar.{nothing_read_yet, of_fault, some_read}
use Rattle.cwr_decode.specs.Format.Runs.{TakesFront}
use Rattle.cwr_sent.specs.Format.SentFacts.{content_of}
use Rattle.cwr_sent.specs.Format.SentRows.{content_in}
use Rattle.cwr_sent.specs.Steps.SentTables.{Filled, filled_after, filled_in, filled_with, nothing_filled}
use Rattle.cwr_sent.proofs.lemmas.FilledTables.{content_whole, filled_more, filled_whole, fresh_whole, none_open}
use Rattle.cwr_sent.proofs.reading.read_sent.Goals as goal

pub items-init : goal.items-init
items-init g c =
    let new = c.new-reading.ensures in
    record {
      given = [];
      reading =
          nothing_read_yet c.args.limits c.new-reading.result.decoder (g.R.Source.remaining c.args.reader.now)
          (g.R.Source.remaining c.new-reading.result.reader.now) new.represents new.limits new.open new.fresh
          (ap g.R.Source.remaining new.kept);
      filled = c.new-sent.ensures;
      counted = refl;
      failures = ap g.R.Source.failures new.kept;
      same = refl;
    }

pub returns-in_err-item-clause-stops : goal.returns-in_err-item-clause-stops
returns-in_err-item-clause-stops g c =
    let stops : StopsReading c.args.limits c.in_err-item.field-0.0 (g.R.Source.remaining c.args.reader.now)
    (g.R.Source.remaining c.next_item.new.self.reader.now)
    = inl (fault_read c.args.limits c.items.reading.decoder c.next_item.new.self.decoder (g.R.Source.remaining c.args.reader.now)
    _ _ c.items.invariant.given c.in_err-item.field-0.0 _ _
    c.items.invariant.reading c.in_err-item.ensures.reads c.in_err-item.ensures.again) in
    of_fault c.from_residual.result c.in_err-item.field-0.0 _ c.from_residual.ensures.1 (search rules)

pub returns-then-is_err-clause-stops : goal.returns-then-is_err-clause-stops
returns-then-is_err-clause-stops g c =
    let stops : StopsReading c.args.limits faults.Memory (g.R.Source.remaining c.args.reader.now)
    (g.R.Source.remaining c.next_item.new.self.reader.now)
    = memory_stops c.args.limits _ _ _ c.items.invariant.given c.in-Some.item (some_read c.args.limits c.items.reading.decoder
    c.next_item.new.self.decoder (g.R.Source.remaining c.args.reader.now) _ _ c.items.invariant.given c.in_ok-item.field-0
    c.in-Some.item _ _
    c.in-Some.is c.items.invariant.reading c.in_ok-item.ensures.reads c.in_ok-item.ensures.again) in
    search rules

pub overflow_add-items : goal.overflow_add-items
overflow_add-items g c =
    let h = fewer_left c.args.limits _ _ _ _ c.items.invariant.reading in omega (arith, h, c.items.invariant.counted)

pub items-smaller-else-is_err : goal.items-smaller-else-is_err
items-smaller-else-is_err g c =
    let h = fewer_left c.args.limits _ _ _ _ c.items.invariant.reading in omega (arith, h, c.items.invariant.counted)

pub items-smaller : goal.items-smaller
items-smaller g c =
    let h = fewer_left c.args.limits _ _ _ _ c.items.invariant.reading in omega (arith, h, c.items.invariant.counted)

pub items-preserved-else-is_err : goal.items-preserved-else-is_err
items-preserved-else-is_err g c =
    let on =
    some_read c.args.limits c.items.reading.decoder c.next_item.new.self.decoder (g.R.Source.remaining c.args.reader.now) _ _
    c.items.invariant.given c.in_ok-item.field-0 c.in-Some.item _ _
    c.in-Some.is c.items.invariant.reading c.in_ok-item.ensures.reads c.in_ok-item.ensures.again in
    let added : filled_in c.add.new.self ≡ filled_with (filled_in c.items.sent) c.in-Some.item = search rules in
    record {
      given = c.items.invariant.given ++ c.in-Some.item ∷ [];
      reading = on;
      filled =
          added ∙ ap (λ (f : Filled). filled_with f c.in-Some.item) c.items.invariant.filled
          ∙ filled_more c.items.invariant.given c.in-Some.item;
      counted = omega (arith, c.items.invariant.counted, length-append c.items.invariant.given (c.in-Some.item ∷ []));
      failures = c.in_ok-item.ensures.failures ∙ c.items.invariant.failures;
      same = c.in_ok-item.ensures.same_reference ∙ c.items.invariant.same;
    }

pub items-preserved : goal.items-preserved
items-preserved g c =
    let on =
    some_read c.args.limits c.items.reading.decoder c.next_item.new.self.decoder (g.R.Source.remaining c.args.reader.now) _ _
    c.items.invariant.given c.in_ok-item.field-0 c.in-Some.item _ _
    c.in-Some.is c.items.invariant.reading c.in_ok-item.ensures.reads c.in_ok-item.ensures.again in
    let added : filled_in c.add.new.self ≡ filled_with (filled_in c.items.sent) c.in-Some.item = search rules in
    record {
      given = c.items.invariant.given ++ c.in-Some.item ∷ [];
      reading = on;
      filled =
          added ∙ ap (λ (f : Filled). filled_with f c.in-Some.item) c.items.invariant.filled
          ∙ filled_more c.items.invariant.given c.in-Some.item;
      counted = omega (arith, c.items.invariant.counted, length-append c.items.invariant.given (c.in-Some.item ∷ []));
      failures = c.in_ok-item.ensures.failures ∙ c.items.invariant.failures;
      same = c.in_ok-item.ensures.same_reference ∙ c.items.invariant.same;
    }

pub returns-clause-takes : goal.returns-clause-takes
returns-clause-takes g c =
    let all : HasReadAll c.args.limits (g.R.Source.remaining c.args.reader.now)
    (g.R.Source.remaining c.next_item.new.self.reader.now) c.items.invariant.given
    = none_read c.args.limits c.items.reading.decoder c.next_item.new.self.decoder (g.R.Source.remaining c.args.reader.now) _ _
    c.items.invariant.given c.in_ok-item.field-0 _ c.in_default.is
    c.items.invariant.reading c.in_ok-item.ensures.reads c.in_ok-item.ensures.again (λ e. ap g.R.Source.remaining e) in
    let are = all_items c.args.limits _ _ c.items.invariant.given all in
    let kept : (v : TransmissionValue) × TakesFront c.args.limits (g.R.Source.remaining c.args.reader.now) v
    (g.R.Source.remaining c.next_item.new.self.reader.now) × (content_in c.items.sent ≡ content_of v) = (
      are.value,
      all_taken c.args.limits _ _ c.items.invariant.given are.value all
          (λ v whole given. items_once are.value v (sym are.given_are ∙ given)),
      content_whole c.items.sent are.value (c.items.invariant.filled ∙ ap filled_after are.given_are ∙ filled_whole are.value),
    ) in
    search rules

pub returns-clause-fresh : goal.returns-clause-fresh
returns-clause-fresh g c =
    let all : HasReadAll c.args.limits (g.R.Source.remaining c.args.reader.now)
    (g.R.Source.remaining c.next_item.new.self.reader.now) c.items.invariant.given
    = none_read c.args.limits c.items.reading.decoder c.next_item.new.self.decoder (g.R.Source.remaining c.args.reader.now) _ _
    c.items.invariant.given c.in_ok-item.field-0 _ c.in_default.is
    c.items.invariant.reading c.in_ok-item.ensures.reads c.in_ok-item.ensures.again (λ e. ap g.R.Source.remaining e) in
    let are = all_items c.args.limits _ _ c.items.invariant.given all in
    fresh_whole c.items.sent are.value (c.items.invariant.filled ∙ ap filled_after are.given_are ∙ filled_whole are.value)

pub add-requires : goal.add-requires
add-requires g c =
    ap (λ (f : Filled). f.open_one.answers) c.items.invariant.filled ∙ none_open c.items.invariant.given nothing_filled refl
