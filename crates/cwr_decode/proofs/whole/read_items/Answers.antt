use Rattle.std.proofs.Common.{rules, ◌≡◌, ℕ, Option, List, length, sym, ap, subst, ◌∙◌, ◌++◌, ◌∷◌, [], arith, inl}
use Rattle.std.proofs.lemmas.List.{length-append}
use Rattle.cwr_values.specs.declared.items.Item.{Item}
use Rattle.cwr_decode.specs.declared.readings.ReadFault.TheVariants as faults
use Rattle.cwr_decode.specs.Steps.Runs.{IsReadingOn, HasReadAll, StopsWhole}
use Rattle.cwr_decode.specs.declared.readings.ReadFault.{ReadFault}
use Rattle.cwr_decode.proofs.lemmas.ItemsReadSoFar.{fault_read, fewer_left, items_outgrow, none_read, of_fault, some_read}
use Rattle.cwr_decode.proofs.whole.read_items.Goals as goal

pub returns-in_err-item-clause-stops : goal.returns-in_err-item-clause-stops
returns-in_err-item-clause-stops g c =
    let stops : StopsWhole c.args.limits c.in_err-item.field-0.0 (g.R.Source.remaining c.args.reader.now)
    (g.R.Source.remaining c.next_item.new.self.reader.now)
    = inl (fault_read c.args.limits c.items.reading.decoder c.next_item.new.self.decoder (g.R.Source.remaining c.args.reader.now)
    _ _ c.items.items.items c.in_err-item.field-0.0 _ _
    c.items.invariant.reading c.in_err-item.ensures.reads c.in_err-item.ensures.again) in
    of_fault c.from_residual.result c.in_err-item.field-0.0 _ c.from_residual.ensures.1 (search rules)

pub returns-in_err-add_item-clause-stops : goal.returns-in_err-add_item-clause-stops
returns-in_err-add_item-clause-stops g c =
    let asked = c.in_err-add_item.ensures.asks in
    let refused : StopsWhole c.args.limits faults.Memory (g.R.Source.remaining c.args.reader.now)
    (g.R.Source.remaining c.next_item.new.self.reader.now)
    = items_outgrow c.args.limits _ _ _ c.items.items.items c.in-Some.item (some_read c.args.limits c.items.reading.decoder
    c.next_item.new.self.decoder (g.R.Source.remaining c.args.reader.now) _ _ c.items.items.items c.in_ok-item.field-0
    c.in-Some.item _ _
    c.in-Some.is c.items.invariant.reading c.in_ok-item.ensures.reads c.in_ok-item.ensures.again) asked.1 in
    let stops : StopsWhole c.args.limits c.in_err-add_item.field-0.0 (g.R.Source.remaining c.args.reader.now)
    (g.R.Source.remaining c.next_item.new.self.reader.now)
    = subst (λ (f : ReadFault). StopsWhole c.args.limits f (g.R.Source.remaining c.args.reader.now)
    (g.R.Source.remaining c.next_item.new.self.reader.now)) (sym asked.0) refused in
    let same = c.in_ok-item.ensures.same_reference ∙ c.items.invariant.same ∙ c.new-reading.ensures.same_reference in
    let left = c.reader-in_err-add_item-1.given.1 (sym same) ∙ c.drop-reading-in_err-add_item.ensures in
    of_fault c.from_residual-in_err-add_item.result c.in_err-add_item.field-0.0 _ c.from_residual-in_err-add_item.ensures.1
    (subst (λ (o : Option (List ℕ)). StopsWhole c.args.limits c.in_err-add_item.field-0.0 (g.R.Source.remaining c.args.reader.now) o)
    (sym (ap g.R.Source.remaining left)) stops)

pub items-smaller : goal.items-smaller
items-smaller g c =
    let on =
    some_read c.args.limits c.items.reading.decoder c.next_item.new.self.decoder (g.R.Source.remaining c.args.reader.now) _ _
    c.items.items.items c.in_ok-item.field-0 c.in-Some.item _ _
    c.in-Some.is c.items.invariant.reading c.in_ok-item.ensures.reads c.in_ok-item.ensures.again in
    let pushed : c.add_item.new.items.items ≡ c.items.items.items ++ c.in-Some.item ∷ [] = search rules in
    omega (arith, fewer_left c.args.limits _ _ _ _ on, length-append c.items.items.items (c.in-Some.item ∷ []), ap length pushed)

pub items-preserved : goal.items-preserved
items-preserved g c =
    let on =
    some_read c.args.limits c.items.reading.decoder c.next_item.new.self.decoder (g.R.Source.remaining c.args.reader.now) _ _
    c.items.items.items c.in_ok-item.field-0 c.in-Some.item _ _
    c.in-Some.is c.items.invariant.reading c.in_ok-item.ensures.reads c.in_ok-item.ensures.again in
    let pushed : c.add_item.new.items.items ≡ c.items.items.items ++ c.in-Some.item ∷ [] = search rules in
    record {
      reading =
          subst (λ (given : List Item). IsReadingOn c.args.limits c.next_item.new.self.decoder
          (g.R.Source.remaining c.args.reader.now) (g.R.Source.remaining c.next_item.new.self.reader.now) given) (sym pushed) on;
      failures = c.in_ok-item.ensures.failures ∙ c.items.invariant.failures;
      same = c.in_ok-item.ensures.same_reference ∙ c.items.invariant.same;
      room = search rules;
    }

pub returns-clause-all : goal.returns-clause-all
returns-clause-all g c =
    let all : HasReadAll c.args.limits (g.R.Source.remaining c.args.reader.now)
    (g.R.Source.remaining c.next_item.new.self.reader.now) c.items.items.items
    = none_read c.args.limits c.items.reading.decoder c.next_item.new.self.decoder (g.R.Source.remaining c.args.reader.now) _ _
    c.items.items.items c.in_ok-item.field-0 _ c.in_default.is
    c.items.invariant.reading c.in_ok-item.ensures.reads c.in_ok-item.ensures.again (λ e. ap g.R.Source.remaining e) in
    search rules
