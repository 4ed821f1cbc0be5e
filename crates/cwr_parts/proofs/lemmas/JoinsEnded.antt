-- After the last input TRL is written, which is no mistake, and what is written is the transmission to which the inputs are joined.
use Rattle.std.proofs.Common.{◌≡◌, ◌+◌, ◌<◌, ◌≤◌, ℕ, List, [], ◌∷◌, ◌++◌, length, map, Option, Some, refl, sym, ap, subst, ◌∙◌}
use Rattle.std.proofs.Common.{append_assoc, append-nil, arith}
use Rattle.std.specs.Prelude.{Result, Ok, Err, count_by, sum_by}
use Rattle.std.specs.List.{AllByRecursion, flat_map}
use Rattle.std.specs.Io.KnownBytes.{Appends}
use Rattle.std.proofs.lemmas.List.{map-append}
use Rattle.cwr_fields.specs.declared.kinds.Kind.TheVariants as kinds
use Rattle.cwr_lines.specs.Format.Records.{RecordValue}
use Rattle.cwr_shape.specs.declared.symbols.Symbol.{Symbol}
use Rattle.cwr_shape.specs.declared.symbols.Symbol.TheVariants.{Plain}
use Rattle.cwr_shape.specs.Format.Ranges.{LimitValues}
use Rattle.cwr_values.specs.declared.items.Item.{Item}
use Rattle.cwr_values.specs.declared.items.Item.TheVariants.{Opened, GroupOpened, Transaction, GroupClosed, Ended}
use Rattle.cwr_values.specs.Format.Values.{GroupValue, TransmissionValue, FitsIn, IsGroup, IsTransmission, symbol_of}
use Rattle.cwr_values.specs.Format.Rows.{canonical_text, rows}
use Rattle.cwr_values.proofs.lemmas.OneSpelling.{one_value}
use Rattle.cwr_judge.specs.Format.Items.{group_items, is_transaction, opens_group, records_in}
use Rattle.cwr_decode.proofs.lemmas.CountedItems.{all_given, groups_given, transactions_given}
use Rattle.cwr_encode.specs.declared.encoders.EncodeFault.{EncodeFault}
use Rattle.cwr_encode.specs.declared.encoders.EncodeFault.TheVariants as encode_faults
use Rattle.cwr_encode.specs.Format.Encoders.{IsNoMistake, IsUnlimited, reached, reached_by}
use Rattle.cwr_encode.specs.Steps.Encoders.{encoder_limits}
use Rattle.cwr_encode.specs.Format.Finishing.{Completes, HasFront, JudgesEnd, IsBeforeTrailer}
use Rattle.cwr_encode.specs.Steps.Finishing.{FinishesWriting}
use Rattle.cwr_encode.proofs.lemmas.Adding.{plain_symbol, reached-snoc}
use Rattle.cwr_parts.specs.declared.joined.Joined.{Joined}
use Rattle.cwr_tools.specs.declared.totals.Totals.{Totals}
use Rattle.cwr_tools.specs.declared.verdicts.JoinFault.{JoinFault}
use Rattle.cwr_tools.specs.declared.verdicts.JoinReport.{JoinReport}
use Rattle.cwr_tools.specs.declared.verdicts.ToolFault.{ToolFault}
use Rattle.cwr_tools.specs.declared.verdicts.ToolFault.TheVariants.{Writer}
use Rattle.cwr_parts.specs.Format.Joins.{AreJoined, CountsOutputFault, join_report, joined_inputs}
use Rattle.cwr_parts.specs.Steps.Joined.{AreCounted, EndsJoin, EndsWithAll, HasJoined, HasJoinedAll, IsAnswerOf, joined_writer}
use Rattle.cwr_parts.specs.Format.Splits.{join_of}
use Rattle.cwr_tools.proofs.lemmas.CountedTotals.{count_more}
use Rattle.cwr_parts.proofs.lemmas.ItemsAdded.{records_in-append, records_in_value}
use Rattle.cwr_parts.proofs.lemmas.JoinedItems.{joined_all, joined_whole}
use Rattle.cwr_parts.proofs.lemmas.JoiningOn.{few_records, is_count, records_more}

-- ---- the last record is GRT

-- groups end with one that closes
pub record AreClosed (items : List Item) : Type 0 where
  pub front : List Item
  pub foot : RecordValue
  pub foot_is : foot.kind ≡ kinds.Grt
  pub split : items ≡ front ++ GroupClosed foot ∷ []

groups_closed : (g : GroupValue) (gs : List GroupValue) → AllByRecursion IsGroup (g ∷ gs)
    → AreClosed (flat_map group_items (g ∷ gs))
groups_closed g [] h =
    record {
      front = GroupOpened g.head ∷ map Transaction g.transactions;
      foot = g.foot;
      foot_is = h.0.foot.0;
      split = append-nil (group_items g);
    }
groups_closed g (f ∷ gs) h =
    let c = groups_closed f gs h.1 in
    record {
      front = group_items g ++ c.front;
      foot = c.foot;
      foot_is = c.foot_is;
      split =
          ap (λ (l : List Item). group_items g ++ l) c.split
          ∙ sym (append_assoc (group_items g) c.front (GroupClosed c.foot ∷ []));
    }

pub closed_end : (gs : List GroupValue) → AllByRecursion IsGroup gs → 0 < length gs → AreClosed (flat_map group_items gs)
closed_end [] h some = absurd (omega (arith, some))
closed_end (g ∷ gs) h some = groups_closed g gs h

pub reached_foot : (items : List Item) → AreClosed items → (first : Item)
    → reached (map symbol_of (records_in (first ∷ items))) ≡ reached_by (Some (Plain kinds.Grt))
reached_foot items c first =
    let before : List RecordValue = records_in (first ∷ c.front) in
    let records : records_in (first ∷ items) ≡ before ++ c.foot ∷ [] =
    ap (λ (l : List Item). records_in (first ∷ l)) c.split ∙ records_more (first ∷ c.front) (GroupClosed c.foot) in
    let foot : symbol_of c.foot ≡ Plain kinds.Grt = plain_symbol c.foot kinds.Grt c.foot_is refl in
    ap (λ (l : List RecordValue). reached (map symbol_of l)) records ∙ ap reached (map-append symbol_of before (c.foot ∷ []))
    ∙ reached-snoc (map symbol_of before) (symbol_of c.foot)
    ∙ ap (λ (s : Symbol). reached_by (Some s)) foot

pub reached_end : (inputs : List TransmissionValue) → AllByRecursion IsTransmission inputs → 0 < length inputs
    → reached (map symbol_of (records_in (joined_inputs inputs))) ≡ reached_by (Some (Plain kinds.Grt))
reached_end [] each some = absurd (omega (arith, some))
reached_end (v ∷ others) each some =
    let whole = joined_whole (v ∷ others) (join_of v others) each refl in
    reached_foot (flat_map group_items (join_of v others).groups)
    (closed_end (join_of v others).groups whole.each whole.some_group) (Opened v.opening)

-- ---- so TRL is no mistake

pub right_end : (limits : LimitValues) (xs : List Symbol) (answer : Result ℕ EncodeFault)
    → reached xs ≡ reached_by (Some (Plain kinds.Grt)) → JudgesEnd limits xs answer → IsNoMistake answer
right_end limits xs (Ok n) e h = tt
right_end limits xs (Err encode_faults.OutOfOrder) e h = absurd (h (subst IsBeforeTrailer (sym e) tt))
right_end limits xs (Err encode_faults.WrongKind) e h = absurd (h.1 tt)
right_end limits xs (Err encode_faults.Incomplete) e h = absurd (h.2 e)
right_end limits xs (Err (encode_faults.Limit limit)) e h = tt
right_end limits xs (Err (encode_faults.Writer n)) e h = tt

pub no_mistake_at_end : {W : Type 0} (contents : W → Option (List ℕ)) (count : ℕ) (j : Joined W) (answer : Result ℕ EncodeFault)
    → (all : HasJoinedAll contents count j)
    → JudgesEnd (encoder_limits j.encoder) (map symbol_of (records_in (joined_inputs all.inputs))) answer → IsNoMistake answer
no_mistake_at_end contents count j answer all judged =
    right_end (encoder_limits j.encoder) (map symbol_of (records_in (joined_inputs all.inputs))) answer
    (reached_end all.inputs all.each (omega (arith, all.some, all.counted))) judged

-- and few records came before it
pub few_before_end : {W : Type 0} (contents : W → Option (List ℕ)) (count : ℕ) (j : Joined W) → HasJoinedAll contents count j
    → j.counts.records ≤ 99999999
few_before_end contents count j all =
    omega (
      arith,
      few_records j.encoder.tally (records_in (joined_inputs all.inputs)) all.joined.encodes.counted,
      all.joined.counted.records,
      all.range.most_records,
    )

-- ---- the transmission

some_joined : (inputs : List TransmissionValue) → 0 < length inputs → (joined : TransmissionValue) × AreJoined inputs joined
some_joined [] some = absurd (omega (arith, some))
some_joined (v ∷ others) some = (join_of v others, refl)

-- what completes the records of the inputs is the transmission to which they are joined
completes : (limits : LimitValues) (inputs : List TransmissionValue) (joined v : TransmissionValue) → IsTransmission joined
    → AreJoined inputs joined → Completes limits (records_in (joined_inputs inputs)) v → v ≡ joined
completes limits inputs joined v whole e c =
    one_value v joined c.whole whole
    (c.records_are ∙ sym (sym (records_in_value joined) ∙ ap records_in (joined_all inputs joined e)
    ∙ records_in-append (joined_inputs inputs) (Ended ∷ [])))

-- the numbers with TRL
reported : (c : Totals) (count : ℕ) (inputs : List TransmissionValue) (joined : TransmissionValue) → AreJoined inputs joined
    → AreCounted c (joined_inputs inputs)
    → (let r : JoinReport =
    record { inputs = count; groups = c.groups; transactions = c.transactions; records = c.records + 1 } in
    r ≡ join_report count joined)
reported c count inputs joined e h =
    let k = count_more c (joined_inputs inputs) Ended (is_count c (joined_inputs inputs) h) in
    let all = joined_all inputs joined e in
    let groups : c.groups ≡ length joined.groups = omega (arith, k.groups, ap (count_by opens_group) all, groups_given joined) in
    let transactions : c.transactions ≡ sum_by (λ (g : GroupValue). length g.transactions) joined.groups =
    omega (arith, k.transactions, ap (count_by is_transaction) all, transactions_given joined) in
    let records : c.records + 1 ≡ length (rows joined) =
    omega (arith, k.records, ap (λ (l : List Item). length (records_in l)) all, all_given joined) in
    λ i. record { inputs = count; groups = groups i; transactions = transactions i; records = records i }

-- ---- the answers

fits : (limits : LimitValues) (v joined : TransmissionValue) → v ≡ joined → FitsIn limits v → FitsIn limits joined
fits limits v joined e h = subst (FitsIn limits) e h

ended_well : {W : Type 0} (contents : W → Option (List ℕ)) (failures : W → ℕ) (count : ℕ) (old : Joined W) (new : W) (n : ℕ)
    → FinishesWriting contents failures old.encoder new (Ok n)
    → (start : Option (List ℕ)) (inputs : List TransmissionValue) → length inputs ≡ count → 0 < count
    → AllByRecursion IsTransmission inputs → HasJoined contents start (joined_inputs inputs) old
    → EndsWithAll contents count start inputs old new (Ok (record
    { inputs = count; groups = old.counts.groups; transactions = old.counts.transactions; records = old.counts.records + 1 }))
ended_well contents failures count old new n f start inputs many some each h =
    let j = some_joined inputs (omega (arith, some, many)) in
    let whole = joined_whole inputs j.0 each j.1 in
    let w = f.1 start (records_in (joined_inputs inputs)) h.encodes in
    let same = completes (encoder_limits old.encoder) inputs j.0 w.0 whole j.1 w.1 in
    record {
      joined = j.0;
      joined_of = j.1;
      whole = whole;
      within = fits (encoder_limits old.encoder) w.0 j.0 same w.1.within;
      ends = (
        reported old.counts count inputs j.0 j.1 h.counted,
        subst (λ (v : TransmissionValue). Appends start (contents new) (canonical_text v)) same w.2.appended,
      );
    }

ended_short : {W : Type 0} (contents : W → Option (List ℕ)) (failures : W → ℕ) (count : ℕ) (old : Joined W) (new : W) (n : ℕ)
    (fault : ToolFault) → FinishesWriting contents failures old.encoder new (Err (encode_faults.Writer n)) → fault ≡ Writer n
    → (start : Option (List ℕ)) (inputs : List TransmissionValue) → length inputs ≡ count → 0 < count
    → AllByRecursion IsTransmission inputs → HasJoined contents start (joined_inputs inputs) old
    → EndsWithAll contents count start inputs old new (Err (record { input = count; fault = fault }))
ended_short contents failures count old new n fault f e start inputs many some each h =
    let j = some_joined inputs (omega (arith, some, many)) in
    let whole = joined_whole inputs j.0 each j.1 in
    let w = f.1 start (records_in (joined_inputs inputs)) h.encodes in
    let same = completes (encoder_limits old.encoder) inputs j.0 w.0 whole j.1 w.1 in
    record {
      joined = j.0;
      joined_of = j.1;
      whole = whole;
      within = fits (encoder_limits old.encoder) w.0 j.0 same w.1.within;
      ends = (refl, n, e, subst (λ (v : TransmissionValue). HasFront contents start new (canonical_text v) n) same w.2);
    }

pub ends_join : {W : Type 0} (contents : W → Option (List ℕ)) (failures : W → ℕ) (count : ℕ) (old : Joined W) (new : W)
    (outcome : Result ℕ EncodeFault) (result : Result JoinReport JoinFault)
    → IsAnswerOf outcome old.counts count result → FinishesWriting contents failures old.encoder new outcome → IsUnlimited outcome
    → EndsJoin contents failures count old new result
ends_join contents failures count old new (Ok n) result a f u =
    subst (EndsJoin contents failures count old new) (sym a) (f.0, ended_well contents failures count old new n f)
ends_join contents failures count old new (Err (encode_faults.Writer n)) result a f u =
    let counts : CountsOutputFault a.0 (failures (joined_writer old)) (failures new) =
    subst (λ (fault : ToolFault). CountsOutputFault fault (failures (joined_writer old)) (failures new)) (sym a.1) f.0 in
    subst (EndsJoin contents failures count old new) (sym a.2) (counts, ended_short contents failures count old new n a.0 f a.1)
ends_join contents failures count old new (Err (encode_faults.Limit limit)) result a f u = absurd u
ends_join contents failures count old new (Err encode_faults.OutOfOrder) result a f u = absurd a.1
ends_join contents failures count old new (Err encode_faults.WrongKind) result a f u = absurd a.1
ends_join contents failures count old new (Err encode_faults.Incomplete) result a f u = absurd a.1
