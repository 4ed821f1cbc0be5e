-- What was joined so far goes on with an item: there is room to count it, its call is no mistake, and it is joined or refused.
use Rattle.std.proofs.Common.{◌≡◌, ◌+◌, ◌≤◌, ℕ, false, List, [], ◌∷◌, ◌++◌, length, map, Option, refl, sym, ap, subst, ◌∙◌}
use Rattle.std.proofs.Common.{append-nil, arith}
use Rattle.std.specs.Prelude.{Result, Ok, Err}
use Rattle.std.specs.List.{AllByRecursion}
use Rattle.std.proofs.lemmas.List.{length-append, length-map, map-append}
use Rattle.cwr_lines.specs.Format.Records.{RecordValue}
use Rattle.cwr_shape.specs.declared.symbols.Symbol.{Symbol}
use Rattle.cwr_shape.specs.declared.limits.LimitKind.{LimitKind}
use Rattle.cwr_shape.specs.declared.tallies.Bar.TheVariants as bars
use Rattle.cwr_shape.specs.Format.Ranges.{LimitValues}
use Rattle.cwr_shape.specs.Format.AnyTransmission.{Any}
use Rattle.cwr_shape.specs.Format.Outlines.{Continues}
use Rattle.cwr_shape.specs.Format.NextSymbols.{IsBarredFirst}
use Rattle.cwr_shape.specs.Steps.Tallies.{IsTallyOf, TallyValue}
use Rattle.cwr_values.specs.declared.items.Item.{Item}
use Rattle.cwr_values.specs.declared.items.Item.TheVariants.{Opened, GroupOpened, Transaction, GroupClosed, Ended}
use Rattle.cwr_values.specs.Format.Values.{symbol_of}
use Rattle.cwr_values.specs.Format.Rows.{records_of}
use Rattle.cwr_judge.specs.Format.Items.{is_transaction, item_records, opens_group, records_in}
use Rattle.cwr_encode.specs.declared.encoders.Encoder.{Encoder}
use Rattle.cwr_encode.specs.declared.encoders.EncodeFault.{EncodeFault}
use Rattle.cwr_encode.specs.declared.encoders.EncodeFault.TheVariants as encode_faults
use Rattle.cwr_encode.specs.Format.Encoders.{IsNoMistake}
use Rattle.cwr_encode.specs.Steps.Encoders.{AddsRecords, Encodes, is_stopped, encoder_limits}
use Rattle.cwr_parts.specs.declared.joined.Joined.{Joined}
use Rattle.cwr_tools.specs.declared.totals.Totals.{Totals}
use Rattle.cwr_tools.specs.declared.verdicts.ToolFault.{ToolFault}
use Rattle.cwr_tools.specs.Steps.Verdicts.{totals_with}
use Rattle.cwr_parts.specs.Steps.Joined.{AddsItems, AreCounted, FailsOn, HasJoined, IsBarredAfter, JoinsOn, JudgesItem, MayAdd}
use Rattle.cwr_parts.specs.Steps.Joined.{is_fault_of}
use Rattle.cwr_parts.proofs.lemmas.BegunTransmissions.{begins_more}
use Rattle.cwr_tools.specs.Steps.Counts.{IsCount}
use Rattle.cwr_tools.proofs.lemmas.CountedTotals.{count_more}
use Rattle.cwr_parts.proofs.lemmas.ItemsAdded.{IsRight, all_first, all_second, few_after, few_items, no_mistake, own_item}
use Rattle.cwr_parts.proofs.lemmas.ItemsAdded.{records_in-append, records_in_value, right_items}

-- ---- the records of one item more

pub records_more : (items : List Item) (item : Item) → records_in (items ++ item ∷ []) ≡ records_in items ++ item_records item
records_more items item =
    records_in-append items (item ∷ []) ∙ ap (λ (l : List RecordValue). records_in items ++ l) (append-nil (item_records item))

pub symbols_more : (items : List Item) (item : Item)
    → map symbol_of (records_in items) ++ map symbol_of (item_records item) ≡ map symbol_of (records_in (items ++ item ∷ []))
symbols_more items item =
    sym (map-append symbol_of (records_in items) (item_records item)) ∙ ap (map symbol_of) (sym (records_more items item))

-- ---- counts

pub is_count : (c : Totals) (items : List Item) → AreCounted c items → IsCount c items
is_count c items h = record { groups = h.groups; transactions = h.transactions; in_group = h.in_group; records = h.records }

pub are_counted : (c : Totals) (items : List Item) → IsCount c items → AreCounted c items
are_counted c items h = record { groups = h.groups; transactions = h.transactions; in_group = h.in_group; records = h.records }

-- an encoder accepts no more records than its limit
pub few_records : (t : TallyValue) (records : List RecordValue) → IsTallyOf t (map symbol_of records)
    → length records ≤ t.limits.records
few_records t records h =
    let w = h.within in
    omega (arith, w.2.0, ap length w.3.1, length-append (map symbol_of records) w.3.0, length-map records symbol_of)

-- the numbers have room for the item
pub record HasRoomFor (c : Totals) (item : Item) : Type 0 where
  pub groups : c.groups ≤ 199999998
  pub transactions : c.transactions ≤ 199999998
  pub in_group : c.in_group ≤ 199999998
  pub records : c.records + length (item_records item) ≤ 99999999

pub room_for : {W : Type 0} (contents : W → Option (List ℕ)) (failures : W → ℕ) (item : Item) (j : Joined W) (new : Encoder W)
    (u : Unit {0}) → MayAdd contents (item ∷ []) j
    → AddsRecords contents failures (item_records item) (Ok u) j.encoder new → encoder_limits new ≡ encoder_limits j.encoder
    → HasRoomFor j.counts item
room_for contents failures item j new u may adds same =
    let right =
    all_first may.items (item ∷ []) (all_first (may.items ++ item ∷ []) may.rest
    (subst (AllByRecursion IsRight) may.split (right_items may.value may.whole))) in
    let counted = may.joined.counted in
    let next : Encodes contents may.start (records_in may.items ++ item_records item) new =
    adds.0 may.start (records_in may.items) may.joined.encodes in
    let few : length (records_in may.items ++ item_records item) ≤ 99999999 =
    omega (
      arith,
      few_records new.tally (records_in may.items ++ item_records item) next.counted,
      ap (λ (l : LimitValues). l.records) same,
      may.range.most_records,
    ) in
    let both = length-append (records_in may.items) (item_records item) in
    record {
      groups = omega (arith, counted.groups, few_items opens_group may.items right, few, both);
      transactions = omega (arith, counted.transactions, few_items is_transaction may.items right, few, both);
      in_group = omega (arith, counted.in_group, few_after may.items right, few, both);
      records = omega (arith, counted.records, few, both);
    }

-- ---- the call

-- an item that begins a transmission is no mistake
pub put_right : {W : Type 0} (contents : W → Option (List ℕ)) (item : Item) (j : Joined W)
    (answer : Result (Unit {0}) EncodeFault) → MayAdd contents (item ∷ []) j
    → ((start : Option (List ℕ)) (records : List RecordValue) → Encodes contents start records j.encoder
    → JudgesItem (encoder_limits j.encoder) item (map symbol_of records) answer)
    → IsNoMistake answer
put_right contents item j answer may judged =
    let before = records_in may.items in
    let own = item_records item in
    let right = subst (AllByRecursion IsRight) may.split (right_items may.value may.whole) in
    let last = all_second may.items (item ∷ []) (all_first (may.items ++ item ∷ []) may.rest right) in
    let split : records_of may.value ≡ (before ++ own) ++ records_in may.rest =
    sym (records_in_value may.value) ∙ ap records_in may.split ∙ records_in-append (may.items ++ item ∷ []) may.rest
    ∙ ap (λ (l : List RecordValue). l ++ records_in may.rest) (records_more may.items item) in
    let more : Continues Any (map symbol_of before ++ map symbol_of own) =
    begins_more may.value before own (records_in may.rest) may.whole split in
    no_mistake j.encoder.tally (map symbol_of before) item answer may.joined.encodes.counted
    (own_item may.value may.items item may.rest may.whole may.split last.0) more (judged may.start before may.joined.encodes)

-- the item was joined
pub put_on : {W : Type 0} (contents : W → Option (List ℕ)) (failures : W → ℕ) (item : Item) (old new : Joined W) (u : Unit {0})
    → AddsRecords contents failures (item_records item) (Ok u) old.encoder new.encoder
    → encoder_limits new.encoder ≡ encoder_limits old.encoder → new.counts ≡ totals_with old.counts item
    → JoinsOn contents failures (item ∷ []) old new
put_on contents failures item old new u adds same counts = record {
  more = λ start items h. record {
    encodes =
        subst (λ (l : List RecordValue). Encodes contents start l new.encoder) (sym (records_more items item))
        (adds.0 start (records_in items) h.encodes);
    counted =
        subst (λ (c : Totals). AreCounted c (items ++ item ∷ [])) (sym counts) (are_counted (totals_with old.counts item)
        (items ++ item ∷ []) (count_more old.counts items item (is_count old.counts items h.counted)));
  };
  unfailed = adds.1;
  quiet = adds.2;
  limits = same;
}

pub item_barred : (limits : LimitValues) (item : Item) (xs : List Symbol) (limit : LimitKind)
    → JudgesItem limits item xs (Err (encode_faults.Limit limit))
    → IsBarredFirst limits (λ P. Continues P (xs ++ map symbol_of (item_records item))) (bars.Limit limit)
item_barred limits (Opened r) xs limit h = h.3
item_barred limits (GroupOpened r) xs limit h = h.3
item_barred limits (Transaction t) xs limit h = h.3
item_barred limits (GroupClosed r) xs limit h = h.3
item_barred limits Ended xs limit h = absurd h

-- it was refused, or the writer failed
pub put_fault : {W : Type 0} (contents : W → Option (List ℕ)) (failures : W → ℕ) (item : Item) (old new : Joined W)
    (other : EncodeFault) (fault : ToolFault)
    → ((start : Option (List ℕ)) (records : List RecordValue) → Encodes contents start records old.encoder
    → JudgesItem (encoder_limits old.encoder) item (map symbol_of records) (Err other))
    → AddsRecords contents failures (item_records item) (Err other) old.encoder new.encoder
    → encoder_limits new.encoder ≡ encoder_limits old.encoder → new.counts ≡ old.counts → is_fault_of other fault
    → AddsItems contents failures (item ∷ []) (Err fault) old new
put_fault {W = W} contents failures item old new (encode_faults.Limit limit) fault judged adds kept counts e =
    let same : new ≡ old = λ i. record { encoder = adds i; counts = counts i } in
    let barred : IsBarredAfter contents (encoder_limits old.encoder) (item ∷ []) limit old = λ start items h.
    subst (λ (ys : List Symbol). IsBarredFirst (encoder_limits old.encoder) (λ P. Continues P ys) (bars.Limit limit))
    (symbols_more items item)
    (item_barred (encoder_limits old.encoder) item (map symbol_of (records_in items)) limit
    (judged start (records_in items) h.encodes)) in
    subst (λ (f : ToolFault). AddsItems contents failures (item ∷ []) (Err f) old new) (sym e) (barred, same)
put_fault {W = W} contents failures item old new (encode_faults.Writer n) fault judged adds kept counts e =
    let fails : FailsOn contents failures (item ∷ []) n old new = record {
      more =
          λ start items h. subst (λ (l : List RecordValue). Encodes contents start l new.encoder) (sym (records_more items item))
          (adds.0 start (records_in items) h.encodes);
      counted = adds.2;
      failed = adds.3;
      limits = kept;
    } in
    subst (λ (f : ToolFault). AddsItems contents failures (item ∷ []) (Err f) old new) (sym e) fails
put_fault {W = W} contents failures item old new encode_faults.OutOfOrder fault judged adds kept counts e = absurd e
put_fault {W = W} contents failures item old new encode_faults.WrongKind fault judged adds kept counts e = absurd e
put_fault {W = W} contents failures item old new encode_faults.Incomplete fault judged adds kept counts e = absurd e

-- ---- no item

pub joins_none : {W : Type 0} (contents : W → Option (List ℕ)) (failures : W → ℕ) (j : Joined W) → is_stopped j.encoder ≡ false
    → JoinsOn contents failures [] j j
joins_none contents failures j unfailed = record {
  more = λ start items h. subst (λ (l : List Item). HasJoined contents start l j) (sym (append-nil items)) h;
  unfailed = unfailed;
  quiet = refl;
  limits = refl;
}
