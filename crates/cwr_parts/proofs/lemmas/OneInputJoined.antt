-- What was joined of one input goes on with each item, up to its end or a fault.
use Rattle.std.proofs.Common.{◌≡◌, ◌+◌, ◌≤◌, ℕ, Bool, List, [], ◌∷◌, ◌++◌, length, map, Option, false, refl, sym, ap, subst, ◌∙◌}
use Rattle.std.proofs.Common.{append_assoc, arith}
use Rattle.std.specs.Prelude.{Ok, Err, IfSome, Some, filter}
use Rattle.std.proofs.lemmas.List.{length-append}
use Rattle.std.proofs.lemmas.List.Elements.{filter-append}
use Rattle.cwr_devices.specs.Format.Failures.{one_more_failure}
use Rattle.cwr_shape.specs.declared.limits.Limits.{Limits}
use Rattle.cwr_shape.specs.declared.tallies.Bar.TheVariants as bars
use Rattle.cwr_shape.specs.Format.Outlines.{Continues}
use Rattle.cwr_shape.specs.Format.Ranges.{AreInRange, LimitValues}
use Rattle.cwr_shape.specs.Format.NextSymbols.{IsBarredFirst}
use Rattle.cwr_values.specs.declared.items.Item.{Item}
use Rattle.cwr_values.specs.Format.Values.{symbol_of}
use Rattle.cwr_judge.specs.Format.Items.{records_in}
use Rattle.cwr_decode.specs.declared.readings.ReadFault.{ReadFault}
use Rattle.cwr_decode.specs.declared.readings.ReadFault.TheVariants as faults
use Rattle.cwr_decode.specs.Steps.Machines.{Standing, again}
use Rattle.cwr_decode.specs.Steps.Readings.{answer_of, Reads}
use Rattle.cwr_decode.specs.Steps.Runs.{HasReadAll, IsReadingOn}
use Rattle.cwr_decode.proofs.lemmas.FirstItems.{first_items}
use Rattle.cwr_decode.proofs.lemmas.ItemsMakeOneTransmission.{items_once}
use Rattle.cwr_decode.proofs.lemmas.ItemsReadSoFar.{all_items, all_taken, fewer_left, some_read}
use Rattle.cwr_encode.specs.Steps.Encoders.{Encodes, is_stopped, encoder_limits}
use Rattle.cwr_parts.specs.declared.joined.Joined.{Joined}
use Rattle.cwr_tools.specs.declared.verdicts.ToolFault.{ToolFault}
use Rattle.cwr_tools.specs.declared.verdicts.ToolFault.TheVariants as tool_faults
use Rattle.cwr_tools.specs.Steps.Verdicts.{StopsAfter}
use Rattle.cwr_parts.specs.Format.Joins.{is_joined, joined_inputs, joined_items}
use Rattle.cwr_parts.specs.Steps.Joined.{AddsInput, AddsItems, FailsOn, HasJoined, IsBarredAfter, IsBetweenInputs, JoinsOn}
use Rattle.cwr_parts.specs.Steps.Joined.{MayAdd, reading_fault}
use Rattle.cwr_parts.proofs.lemmas.JoinedItems.{AreBegun, item_joined, joined_begin}
use Rattle.cwr_parts.proofs.lemmas.JoiningOn.{joins_none}

-- so many items of the input were handed out, and what is joined of them is
pub record IsJoining {W : Type 0} (limits : Limits) (first : Bool) (d : Standing) (before now : Option (List ℕ))
    (contents : W → Option (List ℕ)) (failures : W → ℕ) (count : ℕ) (old j : Joined W) : Type 0 where
  pub given : List Item
  pub reading : IsReadingOn limits d before now given
  pub counted : count ≡ length given
  pub on : JoinsOn contents failures (filter (is_joined first) given) old j

unfoldable pub none_yet : {W : Type 0} (limits : Limits) (first : Bool) (d : Standing) (before now : Option (List ℕ))
    (contents : W → Option (List ℕ)) (failures : W → ℕ) (j : Joined W) → IsReadingOn limits d before now []
    → is_stopped j.encoder ≡ false → IsJoining limits first d before now contents failures 0 j j
none_yet limits first d before now contents failures j reading unfailed =
    record { given = []; reading = reading; counted = refl; on = joins_none contents failures j unfailed }

-- ---- one item more

pub joins_more : {W : Type 0} (contents : W → Option (List ℕ)) (failures : W → ℕ) (added more : List Item) (old mid new : Joined W)
    → JoinsOn contents failures added old mid → JoinsOn contents failures more mid new
    → JoinsOn contents failures (added ++ more) old new
joins_more contents failures added more old mid new p q = record {
  more =
      λ start items h. subst (λ (l : List Item). HasJoined contents start l new) (append_assoc items added more)
      (q.more start (items ++ added) (p.more start items h));
  unfailed = q.unfailed;
  quiet = q.quiet ∙ p.quiet;
  limits = q.limits ∙ p.limits;
}

pub split_filter : (first : Bool) (given : List Item) (item : Item)
    → filter (is_joined first) given ++ filter (is_joined first) (item ∷ []) ≡ filter (is_joined first) (given ++ item ∷ [])
split_filter first given item = sym (filter-append (is_joined first) given (item ∷ []))

unfoldable pub item_added : {W : Type 0} (limits : Limits) (first : Bool) (d new : Standing) (before left after : Option (List ℕ))
    (contents : W → Option (List ℕ)) (failures : W → ℕ) (count : ℕ) (old j next : Joined W) (item : Item) (u : Unit {0})
    → (h : IsJoining limits first d before left contents failures count old j)
    → IsReadingOn limits new before after (h.given ++ item ∷ [])
    → AddsItems contents failures (filter (is_joined first) (item ∷ [])) (Ok u) j next
    → IsJoining limits first new before after contents failures (count + 1) old next
item_added limits first d new before left after contents failures count old j next item u h reading a = record {
  given = h.given ++ item ∷ [];
  reading = reading;
  counted = omega (arith, h.counted, length-append h.given (item ∷ []));
  on = subst (λ (l : List Item). JoinsOn contents failures l old next) (split_filter first h.given item)
      (joins_more contents failures (filter (is_joined first) h.given) (filter (is_joined first) (item ∷ [])) old j next h.on a);
}

-- the items that were handed out begin those of a transmission
begun_by : (limits : Limits) (d : Standing) (before now : Option (List ℕ)) (given : List Item)
    → IsReadingOn limits d before now given → AreBegun given
begun_by limits d before now given h =
    let f = first_items d h.read.input given h.read.stands in
    record { value = f.value; whole = f.whole; rest = f.rest; split = f.split }

-- so one more may be joined
pub may_add : {W : Type 0} (limits : Limits) (first : Bool) (d new : Standing) (before left after : Option (List ℕ))
    (contents : W → Option (List ℕ)) (failures : W → ℕ) (count : ℕ) (old j : Joined W) (item : Item)
    → IsBetweenInputs contents first old → encoder_limits old.encoder ≡ limits
    → (h : IsJoining limits first d before left contents failures count old j)
    → IsReadingOn limits new before after (h.given ++ item ∷ [])
    → MayAdd contents (filter (is_joined first) (item ∷ [])) j
may_add limits first d new before left after contents failures count old j item between same h reading =
    let own = filter (is_joined first) (item ∷ []) in
    let begun =
    joined_begin between.inputs (h.given ++ item ∷ []) between.each
    (begun_by limits new before after (h.given ++ item ∷ []) reading) in
    let added : List Item = joined_inputs between.inputs ++ filter (is_joined first) h.given in
    let parts : joined_items between.inputs (h.given ++ item ∷ []) ≡ added ++ own
    = item_joined between.inputs h.given item ∙ ap
    (λ (b : Bool). (joined_inputs between.inputs ++ filter (is_joined b) h.given) ++ filter (is_joined b) (item ∷ []))
    (sym between.first_is) in
    record {
      start = between.start;
      items = added;
      joined = h.on.more between.start (joined_inputs between.inputs) between.joined;
      range = subst AreInRange (reading.read.limits_are ∙ sym (h.on.limits ∙ same)) reading.read.stands.in_range;
      value = begun.value;
      whole = begun.whole;
      rest = begun.rest;
      split = begun.split ∙ ap (λ (l : List Item). l ++ begun.rest) parts;
    }

-- few items are handed out
pub few_handed_out : {W : Type 0} (limits : Limits) (first : Bool) (d new : Standing) (before left after : Option (List ℕ))
    (contents : W → Option (List ℕ)) (failures : W → ℕ) (count : ℕ) (old j : Joined W) (item : Item)
    → (h : IsJoining limits first d before left contents failures count old j)
    → IsReadingOn limits new before after (h.given ++ item ∷ []) → count + 1 ≤ 199999998
few_handed_out limits first d new before left after contents failures count old j item h reading =
    omega (arith, h.counted, length-append h.given (item ∷ []), fewer_left limits new before after (h.given ++ item ∷ []) reading)

-- one more was
pub next_handed_out : {W : Type 0} (limits : Limits) (first : Bool) (d new : Standing) (before left after : Option (List ℕ))
    (contents : W → Option (List ℕ)) (failures : W → ℕ) (count : ℕ) (old j : Joined W) (reported : Option Item) (item : Item)
    (B C : Type 0)
    → reported ≡ Some item → (h : IsJoining limits first d before left contents failures count old j)
    → Reads d left (Ok reported) new after → IfSome (again d.state) (λ o. (Some (Ok reported) ≡ answer_of o) × B × C)
    → IsReadingOn limits new before after (h.given ++ item ∷ [])
next_handed_out limits first d new before left after contents failures count old j reported item B C e h r same =
    some_read limits d new before left after h.given reported item B C e h.reading r same

-- ---- the ends

-- the item passes a limit, or the writer failed in it
pub item_refused : {W : Type 0} (limits : Limits) (first : Bool) (d new : Standing) (before left after : Option (List ℕ))
    (contents : W → Option (List ℕ)) (failures : W → ℕ) (count : ℕ) (old j next : Joined W) (item : Item) (fault : ToolFault)
    → encoder_limits old.encoder ≡ limits → (h : IsJoining limits first d before left contents failures count old j)
    → IsReadingOn limits new before after (h.given ++ item ∷ [])
    → AddsItems contents failures (filter (is_joined first) (item ∷ [])) (Err fault) j next
    → AddsInput limits contents failures first before after (Err fault) old next
item_refused limits first d new before left after contents failures count old j next item (tool_faults.Limit limit) same h reading
    a =
    let kept = filter (is_joined first) h.given in
    let own = filter (is_joined first) (item ∷ []) in
    let barred : IsBarredAfter contents limits (filter (is_joined first) (h.given ++ item ∷ [])) limit old = λ start items k.
    subst (λ (l : LimitValues). IsBarredFirst l
    (λ P. Continues P (map symbol_of (records_in (items ++ filter (is_joined first) (h.given ++ item ∷ [])))))
    (bars.Limit limit)) (h.on.limits ∙ same)
    (subst (λ (l : List Item). IsBarredFirst (encoder_limits j.encoder) (λ P. Continues P (map symbol_of (records_in l)))
    (bars.Limit limit)) (append_assoc items kept own ∙ ap (λ (l : List Item). items ++ l) (split_filter first h.given item))
    (a.0 start (items ++ kept) (h.on.more start items k))) in
    (h.given, item, (new, reading), subst (λ (x : Joined _). JoinsOn contents failures kept old x) (sym a.1) h.on, barred)
item_refused limits first d new before left after contents failures count old j next item (tool_faults.Writer n) same h reading
    a =
    let kept = filter (is_joined first) h.given in
    let own = filter (is_joined first) (item ∷ []) in
    let fails : FailsOn contents failures (filter (is_joined first) (h.given ++ item ∷ [])) n old next = record {
      more =
          λ start items k. subst (λ (l : List Item). Encodes contents start (records_in l) next.encoder)
          (append_assoc items kept own ∙ ap (λ (l : List Item). items ++ l) (split_filter first h.given item))
          (a.more start (items ++ kept) (h.on.more start items k));
      counted = a.counted;
      failed = a.failed ∙ ap one_more_failure h.on.quiet;
      limits = a.limits ∙ h.on.limits;
    } in
    (h.given ++ item ∷ [], (new, reading), fails)
item_refused limits first d new before left after contents failures count old j next item tool_faults.Reader same h reading a =
    absurd a
item_refused limits first d new before left after contents failures count old j next item tool_faults.Memory same h reading a =
    absurd a
item_refused limits first d new before left after contents failures count old j next item (tool_faults.Refused r) same h reading
    a =
    absurd a
item_refused limits first d new before left after contents failures count old j next item (tool_faults.Truncated r) same h reading
    a =
    absurd a
item_refused limits first d new before left after contents failures count old j next item tool_faults.Output same h reading a =
    absurd a

-- the reading stopped
pub reading_stopped : {W : Type 0} (limits : Limits) (first : Bool) (before after : Option (List ℕ))
    (contents : W → Option (List ℕ)) (failures : W → ℕ) (old j : Joined W) (given : List Item) (fault : ReadFault)
    → StopsAfter limits fault before after given → JoinsOn contents failures (filter (is_joined first) given) old j
    → AddsInput limits contents failures first before after (Err (reading_fault fault)) old j
reading_stopped limits first before after contents failures old j given faults.Reader stop on = (given, stop, on)
reading_stopped limits first before after contents failures old j given (faults.Refused refusal) stop on = (given, stop, on)
reading_stopped limits first before after contents failures old j given (faults.Truncated records) stop on = (given, stop, on)
reading_stopped limits first before after contents failures old j given faults.Memory stop on = (given, stop, on)

-- all was read
pub input_joined : {W : Type 0} (limits : Limits) (first : Bool) (before after : Option (List ℕ)) (contents : W → Option (List ℕ))
    (failures : W → ℕ) (old j : Joined W) (given : List Item) (u : Unit {0})
    → HasReadAll limits before after given → JoinsOn contents failures (filter (is_joined first) given) old j
    → AddsInput limits contents failures first before after (Ok u) old j
input_joined limits first before after contents failures old j given u h on =
    let all = all_items limits before after given h in (
      all.value,
      all_taken limits before after given all.value h (λ w whole are. items_once all.value w (sym all.given_are ∙ are)),
      subst (λ (l : List Item). JoinsOn contents failures (filter (is_joined first) l) old j) all.given_are on,
    )
