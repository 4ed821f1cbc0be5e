-- What is written where a run over lines stops.
use Rattle.std.proofs.Common.{◌≡◌, ◌≢◌, ℕ, ◌+◌, ◌-◌, false, List, [], ◌∷◌, ◌++◌, Option, Some, None, refl, sym, ap, ap₂}
use Rattle.std.proofs.Common.{subst, ◌∙◌, arith, append-nil}
use Rattle.std.specs.Prelude.{Result, Ok, Err, IfErr, IfSome}
use Rattle.std.specs.Io.KnownBytes.{Appends}
use Rattle.cwr_lines.specs.Format.Records.{RecordValue}
use Rattle.cwr_shape.specs.Format.Ranges.{LimitValues}
use Rattle.cwr_values.specs.declared.items.Item.{Item}
use Rattle.cwr_values.specs.declared.items.Item.TheVariants.{Opened, GroupOpened, Transaction, GroupClosed, Ended}
use Rattle.cwr_values.specs.Format.Rows.{canonical_text, trailer}
use Rattle.cwr_values.specs.Format.Values.{FitsIn}
use Rattle.cwr_judge.specs.Format.Items.{AreFirstItems, item_records, records_in}
use Rattle.cwr_encode.specs.declared.encoders.Encoder.{Encoder}
use Rattle.cwr_encode.specs.Format.Encoders.{part_of}
use Rattle.cwr_encode.specs.Format.Finishing.{HasFront}
use Rattle.cwr_encode.specs.Steps.Encoders.{Encodes, RepresentsMore, encoder_limits, is_stopped, target_of}
use Rattle.cwr_encode.proofs.lemmas.Ends.{text_completed}
use Rattle.cwr_json.specs.declared.encodings.Encoding.{Encoding}
use Rattle.cwr_write.specs.declared.items.ItemFault.{ItemFault}
use Rattle.cwr_write.specs.declared.items.ItemFault.TheVariants as item_faults
use Rattle.cwr_write.specs.declared.input_lines.ReadFault.{ReadFault}
use Rattle.cwr_write.specs.declared.input_lines.ReadFault.TheVariants as read_faults
use Rattle.cwr_write.specs.declared.refusals.LineFault.{LineFault}
use Rattle.cwr_write.specs.declared.writing.Reached.{Reached}
use Rattle.cwr_write.specs.declared.writing.Reached.TheVariants as reached_to
use Rattle.cwr_write.specs.declared.writing.Written.{Written}
use Rattle.cwr_write.specs.declared.writing.WriteFault.{WriteFault}
use Rattle.cwr_write.specs.declared.writing.WriteFault.TheVariants as write_faults
use Rattle.cwr_write.specs.Format.Imports.{SaysItems, given_in, given_records}
use Rattle.cwr_write.specs.Format.Endings.{LeavesAfter, LeavesBytes, LeavesLines, SaysFirst}
use Rattle.cwr_write.specs.Steps.Taking.{EndsWith, FinishesLines, IsCutShort, IsRefusedAt, IsRunFaultOf, IsUnreadFault, Stands}
use Rattle.cwr_write.specs.Steps.Taking.{StandsWhole, TakesLine}
use Rattle.cwr_write.proofs.lemmas.ItemsInOrder.{records_more}
use Rattle.cwr_write.proofs.lemmas.LinesTaken.{all_first}
use Rattle.cwr_write.proofs.lemmas.TakenItems.{none_after_end}

-- an encoder whose writer hasn't failed has written all that lines give
pub lines_left : {W : Type 0} (enc : Encoding) (n : ℕ) (left : Option (List ℕ)) (contents : W → Option (List ℕ))
    (items : List Item) (at : Reached) (old : W) (e : Encoder W) → Stands contents (contents old) items at e
    → is_stopped e ≡ false → IfSome left (λ text. SaysFirst enc text n items)
    → LeavesLines enc (encoder_limits e) left contents old (target_of e) n
lines_left enc n left contents items at old e s unfailed said =
    let w = s.encodes.written in
    let same : part_of (given_in items) ≡ w.bytes =
    w.split ∙ ap (λ (l : List ℕ). w.bytes ++ l) (w.whole unfailed) ∙ append-nil w.bytes in
    record {
      items = items;
      said = said;
      first = s.first;
      written = subst (Appends (contents old) (contents (target_of e))) (sym same) w.appended;
    }

left_refused : {W : Type 0} (enc : Encoding) (limits : LimitValues) (n : ℕ) (left : Option (List ℕ))
    (contents : W → Option (List ℕ)) (old new : W) (f : LineFault) (told : WriteFault) → IsRefusedAt (n + 1) f told
    → LeavesLines enc limits left contents old new n → LeavesAfter enc limits left contents old new told
left_refused enc limits n left contents old new f (write_faults.Refused r) t h =
    let same : n ≡ r.line - 1 = omega (arith, t.0) in subst (LeavesLines enc limits left contents old new) same h
left_refused enc limits n left contents old new f (write_faults.Early lines) t h = absurd t
left_refused enc limits n left contents old new f write_faults.Reader t h = absurd t
left_refused enc limits n left contents old new f (write_faults.Writer written) t h = absurd t
left_refused enc limits n left contents old new f write_faults.Memory t h = absurd t

-- where the next line can't be read
pub left_unread : {W : Type 0} (enc : Encoding) (limits : LimitValues) (n : ℕ) (left : Option (List ℕ))
    (contents : W → Option (List ℕ)) (old new : W) (fault : ReadFault) (told : WriteFault) → IsUnreadFault (n + 1) fault told
    → LeavesLines enc limits left contents old new n → LeavesAfter enc limits left contents old new told
left_unread enc limits n left contents old new read_faults.Reader told t h =
    subst (LeavesAfter enc limits left contents old new) (sym t) (n, h)
left_unread enc limits n left contents old new read_faults.Memory told t h =
    subst (LeavesAfter enc limits left contents old new) (sym t) (n, h)
left_unread enc limits n left contents old new read_faults.TooLong told t h =
    left_refused enc limits n left contents old new t.0 told t.3 h

-- where the lines are over
pub left_ended : {W : Type 0} (enc : Encoding) (limits : LimitValues) (n : ℕ) (at : Reached) (left : Option (List ℕ))
    (contents : W → Option (List ℕ)) (old new : W) (answer : Result ℕ WriteFault) → EndsWith n at answer
    → LeavesLines enc limits left contents old new n → IfErr answer (LeavesAfter enc limits left contents old new)
left_ended enc limits n at left contents old new (Ok lines) e h = tt
left_ended enc limits n at left contents old new (Err fault) e h =
    subst (LeavesAfter enc limits left contents old new) (sym e.1) h

not_trailer : (item : Item) → item ≢ Ended → item_records item ≡ given_records item
not_trailer (Opened r) n = refl
not_trailer (GroupOpened r) n = refl
not_trailer (Transaction t) n = refl
not_trailer (GroupClosed r) n = refl
not_trailer Ended n = absurd (n refl)

-- the records of items and of one more that isn't TRL
all_given : {W : Type 0} (contents : W → Option (List ℕ)) (start : Option (List ℕ)) (items : List Item) (item : Item)
    (at : Reached) (e : Encoder W) → Stands contents start items at e → item ≢ Ended
    → AreFirstItems (encoder_limits e) (items ++ item ∷ [])
    → records_in (items ++ item ∷ []) ≡ given_in items ++ given_records item
all_given contents start items item at e s n f =
    let on : at ≢ reached_to.End = λ h. none_after_end (encoder_limits e) items item (sym h ∙ s.reached_is) f in
    records_more items item
    ∙ ap₂ (λ (a b : List RecordValue). a ++ b) (s.given.begun on) (not_trailer item n)

-- where the next line stops the run
pub left_stopped : {W : Type 0} (enc : Encoding) (n : ℕ) (is : Item → Type 0)
    (reason : LimitValues → List Item → LineFault → Type 0) (at : Reached) (left : Option (List ℕ))
    (contents : W → Option (List ℕ)) (failures : W → ℕ) (items : List Item) (fault : ItemFault) (told : WriteFault) (old : W)
    (mid new : Encoder W) → TakesLine is reason at contents failures (Err fault) mid new → IsRunFaultOf (n + 1) fault told
    → Stands contents (contents old) items at mid → is_stopped mid ≡ false
    → IfSome left (λ text. SaysFirst enc text n items)
    → ((item : Item) → is item → IfSome left (λ text. SaysFirst enc text (n + 1) (items ++ item ∷ [])))
    → LeavesAfter enc (encoder_limits mid) left contents old (target_of new) told
left_stopped {W = W} enc n is reason at left contents failures items (item_faults.Line f) told old mid new t r s unfailed said
    more =
    subst (λ (e : Encoder W). LeavesAfter enc (encoder_limits mid) left contents old (target_of e) told) (sym t.0)
    (left_refused enc (encoder_limits mid) n left contents old (target_of mid) f told r
    (lines_left enc n left contents items at old mid s unfailed said))
left_stopped {W = W} enc n is reason at left contents failures items item_faults.Memory told old mid new t r s unfailed said
    more =
    subst (LeavesAfter enc (encoder_limits mid) left contents old (target_of new)) (sym r) (
      n,
      subst (λ (e : Encoder W). LeavesLines enc (encoder_limits mid) left contents old (target_of e) n) (sym t)
          (lines_left enc n left contents items at old mid s unfailed said),
    )
left_stopped {W = W} enc n is reason at left contents failures items (item_faults.Writer written) told old mid new t r s unfailed
    said
    more =
    let item : Item = t.1.0 in
    let next = t.1.4 (contents old) items s in
    let same = all_given contents (contents old) items item at mid s next.0 next.1 in
    let w = (t.1.2 (contents old) (given_in items) s.encodes).written in
    let bytes : LeavesBytes enc (encoder_limits mid) left contents old (target_of new) written = record {
      items = items ++ item ∷ [];
      said = with_number left (n + 1) (items ++ item ∷ []) (more item t.1.1);
      first = next.1;
      front =
          record {
            bytes = w.bytes;
            rest = w.rest;
            split = ap part_of same ∙ w.split;
            has = record { appended = w.appended; counted = t.1.3 ∙ w.counted };
          };
    } in
    subst (LeavesAfter enc (encoder_limits mid) left contents old (target_of new)) (sym r) bytes
  where
    with_number : (left : Option (List ℕ)) (m : ℕ) (all : List Item) → IfSome left (λ text. SaysFirst enc text m all)
        → IfSome left (λ text. (k : ℕ) × SaysFirst enc text k all)
    with_number None m all h = tt
    with_number (Some text) m all h = (m, h)

-- where the writer fails at the end, the first bytes of the whole transmission are written
pub left_cut : {W : Type 0} (enc : Encoding) (limits : LimitValues) (lines : ℕ) (left : Option (List ℕ))
    (contents : W → Option (List ℕ)) (failures : W → ℕ) (old new : W) (items : List Item) (first last : Encoder W)
    (answer : Result Written WriteFault) → Encodes contents (contents old) [] first
    → RepresentsMore contents (given_in items) first last → records_in items ≡ given_in items ++ trailer ∷ []
    → IfSome left (λ text. SaysItems enc text items) → StandsWhole contents items last → encoder_limits last ≡ limits
    → FinishesLines lines answer → IsCutShort contents failures last new answer
    → IfErr answer (LeavesAfter enc limits left contents old new)
left_cut enc limits lines left contents failures old new items first last (Ok w) h more all said whole same f cut = tt
left_cut enc limits lines left contents failures old new items first last (Err (write_faults.Writer written)) h more all said
    whole same f cut =
    let p = cut.1 (contents old) (given_in items) (more (contents old) [] h) in
    let text : part_of (records_in items) ≡ canonical_text p.0 =
    ap part_of all ∙ sym (text_completed (encoder_limits last) (given_in items) p.0 p.1) in
    record {
      items = items;
      said = all_first enc left items said;
      first =
          record {
            value = whole.value;
            whole = whole.whole;
            within = subst (λ (l : LimitValues). FitsIn l whole.value) same whole.within;
            rest = [];
            split = whole.items_are ∙ sym (append-nil items);
          };
      front = subst (λ (l : List ℕ). HasFront contents (contents old) new l written) (sym text) p.2;
    }
left_cut enc limits lines left contents failures old new items first last (Err (write_faults.Refused r)) h more all said whole
    same f cut = absurd f
left_cut enc limits lines left contents failures old new items first last (Err (write_faults.Early n)) h more all said whole same
    f cut = absurd f
left_cut enc limits lines left contents failures old new items first last (Err write_faults.Reader) h more all said whole same f
    cut = absurd f
left_cut enc limits lines left contents failures old new items first last (Err write_faults.Memory) h more all said whole same f
    cut = absurd f

-- what an encoder has left is in the writer that it gives back
pub left_back : {W : Type 0} (enc : Encoding) (limits : LimitValues) (left : Option (List ℕ)) (contents : W → Option (List ℕ))
    (writer back : W) (first last : Encoder W) (fault : WriteFault) → encoder_limits first ≡ limits → target_of first ≡ writer
    → back ≡ target_of last → LeavesAfter enc (encoder_limits first) left contents (target_of first) (target_of last) fault
    → LeavesAfter enc limits left contents writer back fault
left_back {W = W} enc limits left contents writer back first last fault same began gives h =
    subst (λ (w : W). LeavesAfter enc limits left contents writer w fault) (sym gives)
    (subst (λ (w : W). LeavesAfter enc limits left contents w (target_of last) fault) began
    (subst (λ (l : LimitValues). LeavesAfter enc l left contents (target_of first) (target_of last) fault) same h))
