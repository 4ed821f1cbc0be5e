-- Items are written: each is no mistake, no limit refuses it, and a fault of the writer comes in one of them.
use Rattle.std.proofs.Common.{◌≡◌, ℕ, List, [], ◌∷◌, ◌++◌, Option, refl, sym, ap, subst, ◌∙◌, append_assoc, Bool, false}
use Rattle.std.specs.Prelude.{◌==◌, ◌≢◌, Result, Ok, Err, if◌then◌else◌}
use Rattle.std.specs.Option.{option_to_list}
use Rattle.std.proofs.lemmas.Bool.{eq-eqb, ne_eqb}
use Rattle.cwr_devices.specs.Format.Failures.{one_more_failure}
use Rattle.cwr_values.specs.declared.items.Item.{Item}
use Rattle.cwr_judge.specs.Format.Items.{item_records, records_in}
use Rattle.cwr_encode.specs.declared.encoders.Encoder.{Encoder}
use Rattle.cwr_encode.specs.declared.encoders.EncodeFault.{EncodeFault}
use Rattle.cwr_encode.specs.declared.encoders.EncodeFault.TheVariants as encode_faults
use Rattle.cwr_encode.specs.Steps.Encoders.{AddsRecords, Encodes, encoder_limits}
use Rattle.cwr_tools.specs.declared.verdicts.ToolFault.{ToolFault}
use Rattle.cwr_tools.specs.declared.verdicts.ToolFault.TheVariants as tool_faults
use Rattle.cwr_parts.specs.Steps.Joined.{is_fault_of}
use Rattle.cwr_parts.specs.Steps.SplitOutputs.{MayPut, PutsOn, blank_end}
use Rattle.cwr_parts.proofs.lemmas.JoiningOn.{records_more}
use Rattle.cwr_parts.proofs.lemmas.PutItems as puts
use Rattle.cwr_parts.proofs.lemmas.PutItems.{Judged, puts_more}
use Rattle.cwr_parts.proofs.lemmas.OutputAdded.{all_added}
use Rattle.cwr_select.specs.declared.held.Held.{Held}
use Rattle.cwr_select.specs.Steps.Held.{end_with}
use Rattle.cwr_select.specs.declared.changes.WorkKind.{WorkKind}
use Rattle.cwr_select.specs.Steps.Selecting.{FailsIn, TakesItem, WritesItems}

-- the writer failed in an item; there is no other fault of one
pub item_failed : (A : Type 0) {W : Type 0} (contents : W → Option (List ℕ)) (failures : W → ℕ) (item : Item)
    (old new : Encoder W)
    (other : EncodeFault) (fault : ToolFault) → MayPut contents (item ∷ []) old → Judged contents item old (Err other)
    → AddsRecords contents failures (item_records item) (Err other) old new → encoder_limits new ≡ encoder_limits old
    → is_fault_of other fault → WritesItems {A = A} contents failures (item ∷ []) (Err fault) old new
item_failed A contents failures item old new (encode_faults.Limit limit) fault may judged adds same e =
    absurd (puts.item_failed contents failures item old new (encode_faults.Limit limit) (tool_faults.Limit limit) may judged adds
    refl)
item_failed A contents failures item old new (encode_faults.Writer n) fault may judged adds same e =
    subst (λ (f : ToolFault). WritesItems {A = A} contents failures (item ∷ []) (Err f) old new) (sym e) (record {
      begun = item ∷ [];
      others = [];
      split = refl;
      more =
          λ start items h. subst (λ (l : List _). Encodes contents start l new) (sym (records_more items item))
          (adds.0 start (records_in items) h);
      counted = adds.2;
      failed = adds.3;
      limits = same;
    })
item_failed A contents failures item old new encode_faults.OutOfOrder fault may judged adds same e = absurd e
item_failed A contents failures item old new encode_faults.WrongKind fault may judged adds same e = absurd e
item_failed A contents failures item old new encode_faults.Incomplete fault may judged adds same e = absurd e

-- ---- items one after another

-- the writer failed in the first of some items
fails_first : {W : Type 0} (contents : W → Option (List ℕ)) (failures : W → ℕ) (added more : List Item) (written : ℕ)
    (old new : Encoder W) → FailsIn contents failures added written old new
    → FailsIn contents failures (added ++ more) written old new
fails_first contents failures added more written old new h = record {
  begun = h.begun;
  others = h.others ++ more;
  split = ap (λ (l : List Item). l ++ more) h.split ∙ append_assoc h.begun h.others more;
  more = h.more;
  counted = h.counted;
  failed = h.failed;
  limits = h.limits;
}

-- or in the others
pub fails_then : {W : Type 0} (contents : W → Option (List ℕ)) (failures : W → ℕ) (added more : List Item) (written : ℕ)
    (old mid new : Encoder W) → PutsOn contents failures added old mid → FailsIn contents failures more written mid new
    → FailsIn contents failures (added ++ more) written old new
fails_then contents failures added more written old mid new p h = record {
  begun = added ++ h.begun;
  others = h.others;
  split = ap (λ (l : List Item). added ++ l) h.split ∙ sym (append_assoc added h.begun h.others);
  more =
      λ start items e. subst (λ (l : List Item). Encodes contents start (records_in l) new) (append_assoc items added h.begun)
      (h.more start (items ++ added) (p.more start items e));
  counted = h.counted;
  failed = h.failed ∙ ap one_more_failure p.quiet;
  limits = h.limits ∙ p.limits;
}

-- so it is of whatever fault there is
pub first_failed : (A B : Type 0) {W : Type 0} (contents : W → Option (List ℕ)) (failures : W → ℕ) (added more : List Item)
    (old new : Encoder W) (fault : ToolFault) → WritesItems {A = A} contents failures added (Err fault) old new
    → WritesItems {A = B} contents failures (added ++ more) (Err fault) old new
first_failed A B contents failures added more old new (tool_faults.Writer n) h =
    fails_first contents failures added more n old new h
first_failed A B contents failures added more old new tool_faults.Reader h = absurd h
first_failed A B contents failures added more old new tool_faults.Memory h = absurd h
first_failed A B contents failures added more old new (tool_faults.Refused r) h = absurd h
first_failed A B contents failures added more old new (tool_faults.Truncated r) h = absurd h
first_failed A B contents failures added more old new tool_faults.Output h = absurd h
first_failed A B contents failures added more old new (tool_faults.Limit l) h = absurd h

pub then_failed : (A B : Type 0) {W : Type 0} (contents : W → Option (List ℕ)) (failures : W → ℕ) (added more : List Item)
    (old mid new : Encoder W) (fault : ToolFault) → PutsOn contents failures added old mid
    → WritesItems {A = A} contents failures more (Err fault) mid new
    → WritesItems {A = B} contents failures (added ++ more) (Err fault) old new
then_failed A B contents failures added more old mid new (tool_faults.Writer n) p h =
    fails_then contents failures added more n old mid new p h
then_failed A B contents failures added more old mid new tool_faults.Reader p h = absurd h
then_failed A B contents failures added more old mid new tool_faults.Memory p h = absurd h
then_failed A B contents failures added more old mid new (tool_faults.Refused r) p h = absurd h
then_failed A B contents failures added more old mid new (tool_faults.Truncated r) p h = absurd h
then_failed A B contents failures added more old mid new tool_faults.Output p h = absurd h
then_failed A B contents failures added more old mid new (tool_faults.Limit l) p h = absurd h

-- an answer of another type has the same fault
pub same_failed : (A B : Type 0) {W : Type 0} (contents : W → Option (List ℕ)) (failures : W → ℕ) (added : List Item)
    (old new : Encoder W)
    (fault : ToolFault) → WritesItems {A = A} contents failures added (Err fault) old new
    → WritesItems {A = B} contents failures added (Err fault) old new
same_failed A B contents failures added old new (tool_faults.Writer n) h = h
same_failed A B contents failures added old new tool_faults.Reader h = absurd h
same_failed A B contents failures added old new tool_faults.Memory h = absurd h
same_failed A B contents failures added old new (tool_faults.Refused r) h = absurd h
same_failed A B contents failures added old new (tool_faults.Truncated r) h = absurd h
same_failed A B contents failures added old new tool_faults.Output h = absurd h
same_failed A B contents failures added old new (tool_faults.Limit l) h = absurd h

-- what is written of an item, and no memory is refused
pub took : (A : Type 0) {W : Type 0} (contents : W → Option (List ℕ)) (failures : W → ℕ) (works : Option WorkKind)
    (added : List Item) (old new : Encoder W) (result : Result A ToolFault)
    → WritesItems contents failures added result old new → TakesItem contents failures works added result old new
took A contents failures works added old new (Ok x) h = h
took A contents failures works added old new (Err (tool_faults.Writer n)) h = h
took A contents failures works added old new (Err tool_faults.Reader) h = h
took A contents failures works added old new (Err tool_faults.Memory) h = absurd h
took A contents failures works added old new (Err (tool_faults.Refused r)) h = h
took A contents failures works added old new (Err (tool_faults.Truncated r)) h = h
took A contents failures works added old new (Err tool_faults.Output) h = h
took A contents failures works added old new (Err (tool_faults.Limit l)) h = h

-- an answer of another type has the same fault
pub took_not : (A B : Type 0) {W : Type 0} (contents : W → Option (List ℕ)) (failures : W → ℕ) (works : Option WorkKind)
    (added : List Item) (old new : Encoder W) (fault : ToolFault)
    → TakesItem {A = A} contents failures works added (Err fault) old new
    → TakesItem {A = B} contents failures works added (Err fault) old new
took_not A B contents failures works added old new (tool_faults.Writer n) h = h
took_not A B contents failures works added old new tool_faults.Reader h = h
took_not A B contents failures works added old new tool_faults.Memory h = h
took_not A B contents failures works added old new (tool_faults.Refused r) h = h
took_not A B contents failures works added old new (tool_faults.Truncated r) h = h
took_not A B contents failures works added old new tool_faults.Output h = h
took_not A B contents failures works added old new (tool_faults.Limit l) h = h

-- ---- HDR and GRH before a transaction

-- the items that are held, and a transaction
abbrev pub after_held : Option Item → Option Item → Item → List Item
after_held opening head transaction = option_to_list opening ++ option_to_list head ++ transaction ∷ []

pub may_held : {W : Type 0} (contents : W → Option (List ℕ)) (o p : Option Item) (h k : Option Item) (t : Item) (e : Encoder W)
    → p ≡ o → k ≡ h → MayPut contents (after_held o h t) e → MayPut contents (after_held p k t) e
may_held contents o p h k t e same alike may =
    subst (λ (x : Option Item). MayPut contents (after_held p x t) e) (sym alike)
    (subst (λ (x : Option Item). MayPut contents (after_held x h t) e) (sym same) may)

held_written : {W : Type 0} (contents : W → Option (List ℕ)) (failures : W → ℕ) (o p : Option Item) (h k : Option Item) (t : Item)
    (result : Result (Unit {0}) ToolFault) (old new : Encoder W) → p ≡ o → k ≡ h
    → WritesItems contents failures (after_held p k t) result old new
    → WritesItems contents failures (after_held o h t) result old new
held_written contents failures o p h k t result old new same alike w =
    subst (λ (x : Option Item). WritesItems contents failures (after_held o x t) result old new) alike
    (subst (λ (x : Option Item). WritesItems contents failures (after_held x k t) result old new) same w)

-- all are written
pub all_written : {W : Type 0} (contents : W → Option (List ℕ)) (failures : W → ℕ) (o p : Option Item) (h k : Option Item)
    (t : Item)
    (x : Unit {0}) (a b c d : Encoder W) → p ≡ o → k ≡ h → PutsOn contents failures (option_to_list p) a b
    → PutsOn contents failures (option_to_list k) b c → PutsOn contents failures (t ∷ []) c d
    → WritesItems contents failures (after_held o h t) (Ok x) a d
all_written contents failures o p h k t x a b c d same alike u v w =
    held_written contents failures o p h k t (Ok x) a d same alike
    (all_added contents failures (option_to_list p) (option_to_list k) (t ∷ []) a b c d u v w)

-- HDR isn't
pub opening_failed : {W : Type 0} (contents : W → Option (List ℕ)) (failures : W → ℕ) (o p : Option Item) (h : Option Item)
    (t : Item)
    (result : Result (Unit {0}) ToolFault) (fault : ToolFault) (a b : Encoder W) → p ≡ o → result ≡ Err fault
    → WritesItems {A = Unit {0}} contents failures (option_to_list p) (Err fault) a b
    → WritesItems contents failures (after_held o h t) result a b
opening_failed contents failures o p h t result fault a b same e w =
    subst (λ (r : Result (Unit {0}) ToolFault). WritesItems contents failures (after_held o h t) r a b) (sym e)
    (held_written contents failures o p h h t (Err fault) a b same refl
    (first_failed (Unit {0}) (Unit {0}) contents failures (option_to_list p ++ option_to_list h) (t ∷ []) a b fault
    (first_failed (Unit {0}) (Unit {0}) contents failures (option_to_list p) (option_to_list h) a b fault w)))

-- GRH isn't
pub head_failed : {W : Type 0} (contents : W → Option (List ℕ)) (failures : W → ℕ) (o p : Option Item) (h k : Option Item)
    (t : Item)
    (result : Result (Unit {0}) ToolFault) (fault : ToolFault) (a b c : Encoder W) → p ≡ o → k ≡ h → result ≡ Err fault
    → PutsOn contents failures (option_to_list p) a b
    → WritesItems {A = Unit {0}} contents failures (option_to_list k) (Err fault) b c
    → WritesItems contents failures (after_held o h t) result a c
head_failed contents failures o p h k t result fault a b c same alike e u w =
    subst (λ (r : Result (Unit {0}) ToolFault). WritesItems contents failures (after_held o h t) r a c) (sym e)
    (held_written contents failures o p h k t (Err fault) a c same alike
    (first_failed (Unit {0}) (Unit {0}) contents failures (option_to_list p ++ option_to_list k) (t ∷ []) a c fault
    (then_failed (Unit {0}) (Unit {0}) contents failures (option_to_list p) (option_to_list k) a b c fault u w)))

-- the transaction isn't
pub transaction_failed : {W : Type 0} (contents : W → Option (List ℕ)) (failures : W → ℕ) (o p : Option Item) (h k : Option Item)
    (t : Item) (result : Result (Unit {0}) ToolFault) (fault : ToolFault) (a b c d : Encoder W) → p ≡ o → k ≡ h
    → result ≡ Err fault
    → PutsOn contents failures (option_to_list p) a b → PutsOn contents failures (option_to_list k) b c
    → WritesItems {A = Unit {0}} contents failures (t ∷ []) (Err fault) c d
    → WritesItems contents failures (after_held o h t) result a d
transaction_failed contents failures o p h k t result fault a b c d same alike e u v w =
    subst (λ (r : Result (Unit {0}) ToolFault). WritesItems contents failures (after_held o h t) r a d) (sym e)
    (held_written contents failures o p h k t (Err fault) a d same alike
    (then_failed (Unit {0}) (Unit {0}) contents failures (option_to_list p ++ option_to_list k) (t ∷ []) a c d fault
    (puts_more contents failures (option_to_list p) (option_to_list k) a b c u v) w))

-- ---- the end of a group

ends_by : (b c : Bool) (foot : Item) → b ≡ false → (if b then [] else (if c then foot else blank_end) ∷ [])
    ≡ (if c then foot else blank_end) ∷ []
ends_by b c foot e = ap (λ (x : Bool). if x then [] else (if c then foot else blank_end) ∷ []) e

-- with its GRT where no transaction is left out
pub ends_own : (h : Held) (foot : Item) → h.selected ≢ 0 → h.selected ≡ h.transactions → end_with h foot ≡ foot ∷ []
ends_own h foot some all =
    ends_by (h.selected == 0) (h.selected == h.transactions) foot (ne_eqb h.selected 0 some)
    ∙ ap (λ (c : Bool). (if c then foot else blank_end) ∷ []) (eq-eqb h.selected h.transactions all)

-- with a blank one else
pub ends_blank : (h : Held) (foot : Item) → h.selected ≢ 0 → h.selected ≢ h.transactions → end_with h foot ≡ blank_end ∷ []
ends_blank h foot some other =
    ends_by (h.selected == 0) (h.selected == h.transactions) foot (ne_eqb h.selected 0 some)
    ∙ ap (λ (c : Bool). (if c then foot else blank_end) ∷ []) (ne_eqb h.selected h.transactions other)
