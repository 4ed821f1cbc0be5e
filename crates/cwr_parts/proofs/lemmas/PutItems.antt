-- An item is written to an output of a split: it is no mistake, no limit refuses it, and the output goes on with it.
use Rattle.std.proofs.Common.{◌≡◌, ℕ, false, List, [], ◌∷◌, ◌++◌, map, Option, refl, sym, ap, subst, ◌∙◌, append_assoc}
use Rattle.std.proofs.Common.{append-nil}
use Rattle.std.specs.Prelude.{Result, Ok, Err}
use Rattle.std.specs.List.{AllByRecursion}
use Rattle.cwr_lines.specs.Format.Records.{RecordValue}
use Rattle.cwr_shape.specs.declared.limits.LimitKind.{LimitKind}
use Rattle.cwr_shape.specs.Format.Outlines.{Continues, IsWithin}
use Rattle.cwr_shape.specs.Format.AnyTransmission.{Any}
use Rattle.cwr_values.specs.declared.items.Item.{Item}
use Rattle.cwr_values.specs.Format.Values.{TransmissionValue, symbol_of}
use Rattle.cwr_values.specs.Format.Rows.{records_of}
use Rattle.cwr_judge.specs.Format.Items.{AreFirstItems, item_records, records_in, value_items}
use Rattle.cwr_encode.specs.declared.encoders.Encoder.{Encoder}
use Rattle.cwr_encode.specs.declared.encoders.EncodeFault.{EncodeFault}
use Rattle.cwr_encode.specs.declared.encoders.EncodeFault.TheVariants as encode_faults
use Rattle.cwr_encode.specs.Format.Encoders.{IsNoMistake}
use Rattle.cwr_encode.specs.Steps.Encoders.{AddsRecords, Encodes, is_stopped, encoder_limits}
use Rattle.cwr_devices.specs.Format.Failures.{one_more_failure}
use Rattle.cwr_tools.specs.declared.verdicts.ToolFault.{ToolFault}
use Rattle.cwr_tools.specs.declared.verdicts.ToolFault.TheVariants as tool_faults
use Rattle.cwr_parts.specs.Steps.Joined.{JudgesItem, is_fault_of}
use Rattle.cwr_parts.specs.Steps.SplitOutputs.{MayPut, PutsItems, PutsOn}
use Rattle.cwr_parts.proofs.lemmas.BegunTransmissions.{begins_more, begins_more_within, never_barred}
use Rattle.cwr_parts.proofs.lemmas.ItemsAdded.{IsRight, all_first, all_second, no_mistake, own_item, records_in-append}
use Rattle.cwr_parts.proofs.lemmas.ItemsAdded.{records_in_value}
use Rattle.cwr_parts.proofs.lemmas.ItemsAdded.{right_items}
use Rattle.cwr_parts.proofs.lemmas.JoiningOn.{item_barred, records_more}

-- the records of the transmission that the items begin
records_split : (v : TransmissionValue) (items : List Item) (item : Item) (rest : List Item)
    → value_items v ≡ (items ++ item ∷ []) ++ rest → records_of v ≡ (records_in items ++ item_records item) ++ records_in rest
records_split v items item rest e =
    sym (records_in_value v) ∙ ap records_in e ∙ records_in-append (items ++ item ∷ []) rest
    ∙ ap (λ (l : List RecordValue). l ++ records_in rest) (records_more items item)

-- the answers for an item
abbrev pub Judged : {W : Type 0} → (W → Option (List ℕ)) → Item → Encoder W → Result (Unit {0}) EncodeFault → Type 0
Judged contents item e answer =
    (start : Option (List ℕ)) (records : List RecordValue) → Encodes contents start records e
    → JudgesItem (encoder_limits e) item (map symbol_of records) answer

-- it is no mistake
pub right_item : {W : Type 0} (contents : W → Option (List ℕ)) (item : Item) (e : Encoder W)
    (answer : Result (Unit {0}) EncodeFault) → MayPut contents (item ∷ []) e → Judged contents item e answer → IsNoMistake answer
right_item contents item e answer may judged =
    let first = may.first in
    let before = records_in may.items in
    let right = subst (AllByRecursion IsRight) first.split (right_items first.value first.whole) in
    let last = all_second may.items (item ∷ []) (all_first (may.items ++ item ∷ []) first.rest right) in
    let more : Continues Any (map symbol_of before ++ map symbol_of (item_records item)) =
    begins_more first.value before (item_records item) (records_in first.rest) first.whole
    (records_split first.value may.items item first.rest first.split) in
    no_mistake e.tally (map symbol_of before) item answer may.encodes.counted
    (own_item first.value may.items item first.rest first.whole first.split last.0) more (judged may.start before may.encodes)

-- no limit refuses it
within : {W : Type 0} (contents : W → Option (List ℕ)) (item : Item) (e : Encoder W) (limit : LimitKind)
    → MayPut contents (item ∷ []) e → Judged contents item e (Err (encode_faults.Limit limit)) → ⊥
within contents item e limit may judged =
    let first = may.first in
    let before = records_in may.items in
    let more : Continues (IsWithin (encoder_limits e)) (map symbol_of before ++ map symbol_of (item_records item))
    = begins_more_within (encoder_limits e) first.value before (item_records item) (records_in first.rest) first.whole
    first.within (records_split first.value may.items item first.rest first.split) in
    never_barred (encoder_limits e) (map symbol_of before ++ map symbol_of (item_records item)) limit more
    (item_barred (encoder_limits e) item (map symbol_of before) limit (judged may.start before may.encodes))

-- it was written
pub item_put : {W : Type 0} (contents : W → Option (List ℕ)) (failures : W → ℕ) (item : Item) (old new : Encoder W) (u : Unit {0})
    → AddsRecords contents failures (item_records item) (Ok u) old new → encoder_limits new ≡ encoder_limits old
    → PutsOn contents failures (item ∷ []) old new
item_put contents failures item old new u adds same = record {
  more =
      λ start items h. subst (λ (l : List RecordValue). Encodes contents start l new) (sym (records_more items item))
      (adds.0 start (records_in items) h);
  unfailed = adds.1;
  quiet = adds.2;
  limits = same;
}

-- or the writer failed
pub item_failed : {W : Type 0} (contents : W → Option (List ℕ)) (failures : W → ℕ) (item : Item) (old new : Encoder W)
    (other : EncodeFault) (fault : ToolFault) → MayPut contents (item ∷ []) old → Judged contents item old (Err other)
    → AddsRecords contents failures (item_records item) (Err other) old new → is_fault_of other fault
    → PutsItems contents failures (item ∷ []) (Err fault) old new
item_failed contents failures item old new (encode_faults.Limit limit) fault may judged adds e =
    absurd (within contents item old limit may judged)
item_failed contents failures item old new (encode_faults.Writer n) fault may judged adds e =
    subst (λ (f : ToolFault). PutsItems contents failures (item ∷ []) (Err f) old new) (sym e) adds.3
item_failed contents failures item old new encode_faults.OutOfOrder fault may judged adds e = absurd e
item_failed contents failures item old new encode_faults.WrongKind fault may judged adds e = absurd e
item_failed contents failures item old new encode_faults.Incomplete fault may judged adds e = absurd e

-- ---- items one after another

-- none are
pub puts_none : {W : Type 0} (contents : W → Option (List ℕ)) (failures : W → ℕ) (e : Encoder W) → is_stopped e ≡ false
    → PutsOn contents failures [] e e
puts_none contents failures e unfailed = record {
  more = λ start items h. subst (λ (l : List Item). Encodes contents start (records_in l) e) (sym (append-nil items)) h;
  unfailed = unfailed;
  quiet = refl;
  limits = refl;
}

pub puts_more : {W : Type 0} (contents : W → Option (List ℕ)) (failures : W → ℕ) (added more : List Item)
    (old mid new : Encoder W) → PutsOn contents failures added old mid → PutsOn contents failures more mid new
    → PutsOn contents failures (added ++ more) old new
puts_more contents failures added more old mid new p q = record {
  more =
      λ start items h. subst (λ (l : List Item). Encodes contents start (records_in l) new) (append_assoc items added more)
      (q.more start (items ++ added) (p.more start items h));
  unfailed = q.unfailed;
  quiet = q.quiet ∙ p.quiet;
  limits = q.limits ∙ p.limits;
}

-- the first of some items may be written
pub may_first : {W : Type 0} (contents : W → Option (List ℕ)) (added more : List Item) (e : Encoder W)
    → MayPut contents (added ++ more) e → MayPut contents added e
may_first contents added more e may = record {
  start = may.start;
  items = may.items;
  encodes = may.encodes;
  first = record {
    value = may.first.value;
    whole = may.first.whole;
    within = may.first.within;
    rest = more ++ may.first.rest;
    split =
        may.first.split ∙ ap (λ (l : List Item). l ++ may.first.rest) (sym (append_assoc may.items added more))
        ∙ append_assoc (may.items ++ added) more may.first.rest;
  };
}

-- and then the others
pub may_then : {W : Type 0} (contents : W → Option (List ℕ)) (failures : W → ℕ) (added more : List Item) (old new : Encoder W)
    → MayPut contents (added ++ more) old → PutsOn contents failures added old new → MayPut contents more new
may_then contents failures added more old new may p = record {
  start = may.start;
  items = may.items ++ added;
  encodes = p.more may.start may.items may.encodes;
  first =
      subst (λ (l : _). AreFirstItems l ((may.items ++ added) ++ more)) (sym p.limits)
      (subst (AreFirstItems (encoder_limits old)) (sym (append_assoc may.items added more)) may.first);
}

-- ---- faults

-- a fault says the same of whatever was to be written
pub fails_anyway : {W : Type 0} (contents : W → Option (List ℕ)) (failures : W → ℕ) (added others : List Item)
    (old new : Encoder W) (fault : ToolFault) → PutsItems contents failures added (Err fault) old new
    → PutsItems contents failures others (Err fault) old new
fails_anyway contents failures added others old new (tool_faults.Writer n) h = h
fails_anyway contents failures added others old new tool_faults.Reader h = absurd h
fails_anyway contents failures added others old new tool_faults.Memory h = absurd h
fails_anyway contents failures added others old new (tool_faults.Refused r) h = absurd h
fails_anyway contents failures added others old new (tool_faults.Truncated r) h = absurd h
fails_anyway contents failures added others old new tool_faults.Output h = absurd h
fails_anyway contents failures added others old new (tool_faults.Limit l) h = absurd h

-- also after items that were written
pub fails_then : {W : Type 0} (contents : W → Option (List ℕ)) (failures : W → ℕ) (added more others : List Item)
    (old mid new : Encoder W) (fault : ToolFault) → PutsOn contents failures added old mid
    → PutsItems contents failures more (Err fault) mid new → PutsItems contents failures others (Err fault) old new
fails_then contents failures added more others old mid new (tool_faults.Writer n) p h = h ∙ ap one_more_failure p.quiet
fails_then contents failures added more others old mid new tool_faults.Reader p h = absurd h
fails_then contents failures added more others old mid new tool_faults.Memory p h = absurd h
fails_then contents failures added more others old mid new (tool_faults.Refused r) p h = absurd h
fails_then contents failures added more others old mid new (tool_faults.Truncated r) p h = absurd h
fails_then contents failures added more others old mid new tool_faults.Output p h = absurd h
fails_then contents failures added more others old mid new (tool_faults.Limit l) p h = absurd h
