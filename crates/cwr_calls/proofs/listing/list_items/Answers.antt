use Rattle.std.proofs.Common.{rules, refl, sym, ap, subst, ◌∙◌, arith}
use Rattle.std.specs.Prelude.{Ok}
use Rattle.cwr_decode.proofs.lemmas.ItemsReadSoFar.{none_read, nothing_read_yet, some_read}
use Rattle.cwr_tools.specs.declared.verdicts.Verdict.TheVariants.{Good}
use Rattle.cwr_calls.specs.declared.listing.Numbers.{Numbers}
use Rattle.cwr_calls.specs.Steps.Listed.{ListsFrom}
use Rattle.cwr_calls.proofs.lemmas.CountedItems.{counts_none, has_room, next_room, total_grows}
use Rattle.cwr_calls.proofs.lemmas.ListedFindings.{IsListing, lists_before, lists_item, lists_nothing}
use Rattle.cwr_calls.proofs.lemmas.ReadItems.{fault_right, good_right, stops_after}
use Rattle.cwr_calls.proofs.listing.list_items.Goals as goal

pub items-init : goal.items-init
items-init g c =
    let new = c.new-reading.ensures in
    record {
      listing =
          lists_nothing c.args.limits c.new-reading.result.decoder (g.R.Source.remaining c.args.reader.now)
          (g.R.Source.remaining c.new-reading.result.reader.now) c.no_numbers-numbers.result c.args.entries.now
          (nothing_read_yet c.args.limits c.new-reading.result.decoder (g.R.Source.remaining c.args.reader.now)
          (g.R.Source.remaining c.new-reading.result.reader.now) new.represents new.limits new.open new.fresh
          (ap g.R.Source.remaining new.kept))
          (counts_none c.no_numbers-numbers.result c.no_numbers-numbers.ensures);
      same = refl;
    }

pub count-requires-clause-groups : goal.count-requires-clause-groups
count-requires-clause-groups g c =
    let i = c.items.invariant.listing in
    (has_room c.args.limits c.items.reading.decoder (g.R.Source.remaining c.args.reader.now) _ c.items.numbers i.given i.reading
    i.counts).groups

pub count-requires-clause-transactions : goal.count-requires-clause-transactions
count-requires-clause-transactions g c =
    let i = c.items.invariant.listing in
    (has_room c.args.limits c.items.reading.decoder (g.R.Source.remaining c.args.reader.now) _ c.items.numbers i.given i.reading
    i.counts).transactions

pub count-requires-clause-records : goal.count-requires-clause-records
count-requires-clause-records g c =
    let i = c.items.invariant.listing in
    (next_room c.args.limits c.next_item.new.self.decoder (g.R.Source.remaining c.args.reader.now) _ c.items.numbers i.given
    c.in-Ok-Some.item
    (some_read c.args.limits c.items.reading.decoder c.next_item.new.self.decoder (g.R.Source.remaining c.args.reader.now) _ _
    i.given c.in-Ok-Some.field-0 c.in-Ok-Some.item _ _ c.in-Ok-Some.field-0-is i.reading c.in-Ok-Some.ensures.reads
    c.in-Ok-Some.ensures.again) i.counts).records

pub items-smaller-in-Some : goal.items-smaller-in-Some
items-smaller-in-Some g c =
    let i = c.items.invariant.listing in
    let room =
    next_room c.args.limits c.next_item.new.self.decoder (g.R.Source.remaining c.args.reader.now) _ c.items.numbers i.given
    c.in-Ok-Some.item
    (some_read c.args.limits c.items.reading.decoder c.next_item.new.self.decoder (g.R.Source.remaining c.args.reader.now) _ _
    i.given c.in-Ok-Some.field-0 c.in-Ok-Some.item _ _ c.in-Ok-Some.field-0-is i.reading c.in-Ok-Some.ensures.reads
    c.in-Ok-Some.ensures.again) i.counts in
    omega (
      arith,
      room.groups,
      room.transactions,
      room.records,
      total_grows c.items.numbers c.in-Ok-Some.item,
      ap (λ (n : Numbers). n.groups) c.count.ensures,
      ap (λ (n : Numbers). n.transactions) c.count.ensures,
      ap (λ (n : Numbers). n.records) c.count.ensures,
    )

pub items-preserved-in-Some : goal.items-preserved-in-Some
items-preserved-in-Some g c = record {
  listing =
      subst (λ (n : Numbers). IsListing c.args.limits c.next_item.new.self.decoder (g.R.Source.remaining c.args.reader.now)
      (g.R.Source.remaining c.next_item.new.self.reader.now) n c.args.entries.now c.put_item.new.entries c.in-Some.end) (sym
      c.count.ensures)
      (lists_item c.args.limits c.items.reading.decoder c.next_item.new.self.decoder (g.R.Source.remaining c.args.reader.now) _ _
      c.items.numbers c.args.entries.now c.items.entries c.put_item.new.entries c.items.at c.in-Some.end
      c.in-Ok-Some.field-0 c.in-Ok-Some.item _ _ c.in-Ok-Some.field-0-is c.items.invariant.listing c.in-Ok-Some.ensures.reads
      c.in-Ok-Some.ensures.again c.in-Some.ensures);
  same = c.in-Ok-Some.ensures.same_reference ∙ c.items.invariant.same;
}

pub items-smaller : goal.items-smaller
items-smaller g c =
    let i = c.items.invariant.listing in
    let room =
    next_room c.args.limits c.next_item.new.self.decoder (g.R.Source.remaining c.args.reader.now) _ c.items.numbers i.given
    c.in-Ok-Some.item
    (some_read c.args.limits c.items.reading.decoder c.next_item.new.self.decoder (g.R.Source.remaining c.args.reader.now) _ _
    i.given c.in-Ok-Some.field-0 c.in-Ok-Some.item _ _ c.in-Ok-Some.field-0-is i.reading c.in-Ok-Some.ensures.reads
    c.in-Ok-Some.ensures.again) i.counts in
    omega (
      arith,
      room.groups,
      room.transactions,
      room.records,
      total_grows c.items.numbers c.in-Ok-Some.item,
      ap (λ (n : Numbers). n.groups) c.count.ensures,
      ap (λ (n : Numbers). n.transactions) c.count.ensures,
      ap (λ (n : Numbers). n.records) c.count.ensures,
    )

pub items-preserved : goal.items-preserved
items-preserved g c = record {
  listing =
      subst (λ (n : Numbers). IsListing c.args.limits c.next_item.new.self.decoder (g.R.Source.remaining c.args.reader.now)
      (g.R.Source.remaining c.next_item.new.self.reader.now) n c.args.entries.now c.put_item.new.entries c.in-Some.end) (sym
      c.count.ensures)
      (lists_item c.args.limits c.items.reading.decoder c.next_item.new.self.decoder (g.R.Source.remaining c.args.reader.now) _ _
      c.items.numbers c.args.entries.now c.items.entries c.put_item.new.entries c.items.at c.in-Some.end
      c.in-Ok-Some.field-0 c.in-Ok-Some.item _ _ c.in-Ok-Some.field-0-is c.items.invariant.listing c.in-Ok-Some.ensures.reads
      c.in-Ok-Some.ensures.again c.in-Some.ensures);
  same = c.in-Ok-Some.ensures.same_reference ∙ c.items.invariant.same;
}

pub returns-in-Ok-None : goal.returns-in-Ok-None
returns-in-Ok-None g c =
    let i = c.items.invariant.listing in
    let all =
    none_read c.args.limits c.items.reading.decoder c.next_item.new.self.decoder (g.R.Source.remaining c.args.reader.now) _ _
    i.given c.in-Ok-None.field-0 _ c.in-Ok-None.field-0-is i.reading c.in-Ok-None.ensures.reads c.in-Ok-None.ensures.again
    (λ e. ap g.R.Source.remaining e) in
    let listed : ListsFrom c.args.limits (g.R.Source.remaining c.args.reader.now)
    (g.R.Source.remaining c.next_item.new.self.reader.now) c.args.entries.now c.items.entries c.items.at
    (Ok (Good c.items.numbers.groups c.items.numbers.transactions c.items.numbers.records))
    = (
      i.given,
      good_right c.args.limits (g.R.Source.remaining c.args.reader.now)
          (g.R.Source.remaining c.next_item.new.self.reader.now) i.given c.items.numbers all i.counts,
      i.put,
    ) in
    search rules

pub returns-in-Err : goal.returns-in-Err
returns-in-Err g c =
    let i = c.items.invariant.listing in
    let stop =
    stops_after c.args.limits c.items.reading.decoder c.next_item.new.self.decoder (g.R.Source.remaining c.args.reader.now) _
    _ i.given c.in-Err.fault _ _ i.reading c.in-Err.ensures.reads c.in-Err.ensures.again in
    let listed : ListsFrom c.args.limits (g.R.Source.remaining c.args.reader.now)
    (g.R.Source.remaining c.next_item.new.self.reader.now) c.args.entries.now c.items.entries c.items.at c.verdict_of.result
    = lists_before c.args.limits (g.R.Source.remaining c.args.reader.now) (g.R.Source.remaining c.next_item.new.self.reader.now)
    i.given c.args.entries.now c.items.entries c.items.at c.verdict_of.result
    (fault_right c.args.limits (g.R.Source.remaining c.args.reader.now) (g.R.Source.remaining c.next_item.new.self.reader.now)
    i.given c.in-Err.fault c.verdict_of.result stop c.verdict_of.ensures) i.put in
    search rules
