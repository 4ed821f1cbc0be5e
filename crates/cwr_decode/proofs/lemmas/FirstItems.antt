-- The items that a decoder handed out are the first of those of some transmission within its limits.
use Rattle.std.proofs.Common.{◌≡◌, ℕ, ◌<◌, ◌≤◌, ◌^◌, List, [], ◌∷◌, ◌++◌, length, map, sym, ap, subst, ◌∙◌, arith, append_assoc}
use Rattle.std.proofs.lemmas.List.{length-append}
use Rattle.cwr_lines.specs.Format.Records.{RecordValue}
use Rattle.cwr_shape.specs.Format.Ranges.{AreInRange}
use Rattle.cwr_shape.specs.Format.AnyTransmission.{Any}
use Rattle.cwr_shape.specs.Format.Outlines.{Continues}
use Rattle.cwr_shape.specs.Steps.Tallies.{TallyValue}
use Rattle.cwr_values.specs.declared.items.Item.{Item}
use Rattle.cwr_values.specs.Format.Values.{symbol_of}
use Rattle.cwr_judge.specs.Format.Items.{AreFirstItems}
use Rattle.cwr_judge.specs.Steps.Open.{items_so_far, item_of, Closes}
use Rattle.cwr_judge.proofs.lemmas.BegunItems.{begun_items}
use Rattle.cwr_judge.proofs.lemmas.EndingRecord.{ends_closes}
use Rattle.cwr_decode.specs.declared.machine.State.{State}
use Rattle.cwr_decode.specs.declared.machine.State.TheVariants as states
use Rattle.cwr_decode.specs.Steps.Machines.{Standing}
use Rattle.cwr_decode.specs.Steps.Represents.{AreAccepted, IsPending, IsThrough, Represents, RepresentsIn}
use Rattle.cwr_decode.proofs.lemmas.BoundedInputs.{accepted_few}

first_of : (tally : TallyValue) (lines : List (List ℕ)) (records : List RecordValue) (given : List Item) → AreInRange tally.limits
    → AreAccepted tally lines records → given ≡ items_so_far records
    → AreFirstItems tally.limits given
first_of tally lines records given range read e =
    let few : tally.limits.records < 10 ^ 8 = omega (arith, range.most_records) in
    subst (AreFirstItems tally.limits) (sym e) (begun_items tally.limits records few read.in_order read.counted.within)

-- where a record waits, the transaction that it ends was handed out, and its own item is still to come
first_pending : (d : Standing) (input : List ℕ) (given : List Item) → AreInRange d.tally.limits → IsPending d input given
    → AreFirstItems d.tally.limits given
first_pending d input given range p =
    let all : List RecordValue = p.records ++ p.last ∷ [] in
    let first = first_of d.tally p.lines all (items_so_far all) range p.read (λ i. items_so_far all) in
    let g = p.read.counted.within in
    let any : Continues Any (map symbol_of all) = (g.0, g.1, tt, g.3) in
    let few : length p.records ≤ 99999999 =
    omega (arith, range.most_records, accepted_few d.tally p.lines all p.read, length-append p.records (p.last ∷ [])) in
    let closes : Closes p.records p.last = ends_closes p.records p.last p.read.in_order any few p.ends in
    let own : List Item = item_of p.last.kind p.last in
    let whole : items_so_far all ≡ given ++ own = closes.given ∙ ap (λ (l : List Item). l ++ own) (sym p.given_are) in
    record {
      value = first.value;
      whole = first.whole;
      within = first.within;
      rest = own ++ first.rest;
      split = first.split ∙ ap (λ (l : List Item). l ++ first.rest) whole ∙ append_assoc given own first.rest;
    }

first_through : (d : Standing) (input : List ℕ) (given : List Item) → AreInRange d.tally.limits → IsThrough d input given
    → AreFirstItems d.tally.limits given
first_through d input given range t = first_of d.tally t.lines t.records given range t.read t.given_are

first_in : (state : State) (d : Standing) (input : List ℕ) (given : List Item) → AreInRange d.tally.limits
    → RepresentsIn state d input given → AreFirstItems d.tally.limits given
first_in states.Reading d input given range r = first_of d.tally r.lines r.records given range r.read r.given_are
first_in states.Pending d input given range p = first_pending d input given range p
first_in states.Ended d input given range e = first_through d input given range e.through
first_in (states.Refused refusal) d input given range s = first_of d.tally s.lines s.records given range s.read s.given_are
first_in (states.Truncated count) d input given range c = first_through d input given range c.through
first_in states.Memory d input given range f = first_through d input given range f.through

pub first_items : (d : Standing) (input : List ℕ) (given : List Item) → Represents d input given
    → AreFirstItems d.tally.limits given
first_items d input given s = first_in d.state d input given s.in_range s.here
