-- How a run over lines ends, and what it has then written.
use Rattle.std.proofs.Common.{◌≡◌, ℕ, ◌-◌, ◌^◌, ◌<◌, ◌≤◌, false, List, [], ◌∷◌, ◌++◌, length, Option, Some, None, refl, sym}
use Rattle.std.proofs.Common.{subst, ◌∙◌, arith}
use Rattle.std.specs.Prelude.{Result, Ok, Err, IfOk, IfSome}
use Rattle.std.specs.List.{AllZip}
use Rattle.cwr_shape.specs.Format.Ranges.{LimitValues}
use Rattle.cwr_values.specs.declared.items.Item.{Item}
use Rattle.cwr_values.specs.Format.Values.{TransmissionValue, IsTransmission, FitsIn}
use Rattle.cwr_values.specs.Format.Rows.{canonical_text}
use Rattle.cwr_values.proofs.lemmas.OneSpelling.{one_value}
use Rattle.cwr_judge.specs.Format.Items.{AreFirstItems, records_in, value_items}
use Rattle.cwr_encode.specs.declared.encoders.Encoder.{Encoder}
use Rattle.cwr_encode.specs.Format.Finishing.{HasAll}
use Rattle.cwr_encode.specs.Steps.Encoders.{encoder_limits}
use Rattle.cwr_json.specs.declared.encodings.Encoding.{Encoding}
use Rattle.cwr_write.specs.Format.Faults.{IsOfLine}
use Rattle.cwr_write.specs.declared.items.ItemFault.{ItemFault}
use Rattle.cwr_write.specs.declared.items.ItemFault.TheVariants as item_faults
use Rattle.cwr_write.specs.declared.refusals.LineFault.{LineFault}
use Rattle.cwr_write.specs.declared.refusals.Why.TheVariants as whys
use Rattle.cwr_write.specs.declared.input_lines.ReadFault.{ReadFault}
use Rattle.cwr_write.specs.declared.input_lines.ReadFault.TheVariants as read_faults
use Rattle.cwr_write.specs.declared.writing.Reached.{Reached}
use Rattle.cwr_write.specs.declared.writing.Written.{Written}
use Rattle.cwr_write.specs.declared.writing.WriteFault.{WriteFault}
use Rattle.cwr_write.specs.declared.writing.WriteFault.TheVariants as write_faults
use Rattle.cwr_write.specs.Format.Endings.{EndsAtLine, EndsEarly, EndsWell, SaysTransmission, StopsAtLine, WritesTransmission}
use Rattle.cwr_write.specs.Format.Endings.{said_lines}
use Rattle.cwr_write.specs.Format.Imports.{SaysItem, WritesWhole}
use Rattle.cwr_write.specs.Steps.Lines.{TakesLineOf}
use Rattle.cwr_write.specs.Steps.Taking.{EndsLines, EndsWith, FinishesLines, IsRefusedAt, IsRunFaultOf, IsUnreadFault, SaidSoFar}
use Rattle.cwr_write.specs.Steps.Taking.{Stands, TakesLine}
use Rattle.cwr_write.proofs.lemmas.ItemsInOrder.{records_in_value}
use Rattle.cwr_write.proofs.lemmas.LinesTaken.{ends_early, ends_well, few_lines, lines_once, never_early, never_stops, same_records}
use Rattle.cwr_write.proofs.lemmas.TakenItems.{stands_whole}

ends_if : (left : Option (List ℕ)) (P Q : List ℕ → Type 0) → ((text : List ℕ) → P text → Q text) → IfSome left P
    → IfSome left (λ text. length text < 2 ^ 64 - 1 → Q text)
ends_if None P Q f h = tt
ends_if (Some text) P Q f h = λ _. f text h

abbrev pub RunEnds : Encoding → LimitValues → ℕ → Option (List ℕ) → Result ℕ WriteFault → Type 0
RunEnds enc limits most left answer = IfSome left (λ text. length text < 2 ^ 64 - 1 → EndsLines enc limits most text answer)

at_refused : (enc : Encoding) (limits : LimitValues) (most n : ℕ) (why : LineFault) (left : Option (List ℕ)) (told : WriteFault)
    → IsRefusedAt n why told → IfSome left (λ text. StopsAtLine enc limits most text n why)
    → RunEnds enc limits most left (Err told)
at_refused enc limits most n why left (write_faults.Refused r) t h =
    ends_if left (λ text. StopsAtLine enc limits most text n why) (λ text. StopsAtLine enc limits most text r.line r.fault)
    (λ text s. subst (λ (m : ℕ). StopsAtLine enc limits most text m r.fault) (sym t.0)
    (subst (λ (w : LineFault). StopsAtLine enc limits most text n w) (sym t.1) s)) h
at_refused enc limits most n why left (write_faults.Early lines) t h = absurd t
at_refused enc limits most n why left write_faults.Reader t h = absurd t
at_refused enc limits most n why left (write_faults.Writer written) t h = absurd t
at_refused enc limits most n why left write_faults.Memory t h = absurd t

anyhow : (enc : Encoding) (limits : LimitValues) (most : ℕ) (left : Option (List ℕ)) (told : WriteFault)
    → ((text : List ℕ) → EndsLines enc limits most text (Err told)) → RunEnds enc limits most left (Err told)
anyhow enc limits most None told h = tt
anyhow enc limits most (Some text) told h = λ _. h text

pub run_unread : (enc : Encoding) (limits : LimitValues) (most n : ℕ) (left : Option
    (List ℕ)) (fault : ReadFault) (told : WriteFault) → IsUnreadFault n fault told → ((f : LineFault) → f.why ≡ whys.TooLong
    → IsOfLine f → fault ≡ read_faults.TooLong → IfSome left (λ text. StopsAtLine enc limits most text n f))
    → RunEnds enc limits most left (Err told)
run_unread enc limits most n left read_faults.Reader told t h =
    subst (λ (f : WriteFault). RunEnds enc limits most left (Err f)) (sym t)
    (anyhow enc limits most left write_faults.Reader (λ text. tt))
run_unread enc limits most n left read_faults.Memory told t h =
    subst (λ (f : WriteFault). RunEnds enc limits most left (Err f)) (sym t)
    (anyhow enc limits most left write_faults.Memory (λ text. tt))
run_unread enc limits most n left read_faults.TooLong told t h =
    at_refused enc limits most n t.0 left told t.3 (h t.0 t.1 t.2 refl)

pub run_stopped : {W : Type 0} (enc : Encoding) (n most : ℕ) (is : Item → Type 0)
    (reason : LimitValues → List Item → LineFault → Type 0) (before : Reached) (left : Option (List ℕ))
    (contents : W → Option (List ℕ)) (failures : W → ℕ) (start : Option (List ℕ)) (items : List Item) (fault : ItemFault)
    (told : WriteFault) (old new : Encoder W)
    → TakesLine is reason before contents failures (Err fault) old new → IsRunFaultOf n fault told
    → Stands contents start items before old
    → ((why : LineFault) → ((i : Item) → is i → ¬ AreFirstItems (encoder_limits old) (items ++ i ∷ []))
    → reason (encoder_limits old) items why → IfSome left (λ text. StopsAtLine enc (encoder_limits old) most text n why))
    → RunEnds enc (encoder_limits old) most left (Err told)
run_stopped enc n most is reason before left contents failures start items (item_faults.Line f) told old new t r s h =
    at_refused enc (encoder_limits old) most n f left told r (h f (t.1 start items s) (t.2 start items s))
run_stopped enc n most is reason before left contents failures start items item_faults.Memory told old new t r s h =
    subst (λ (f : WriteFault). RunEnds enc (encoder_limits old) most left (Err f)) (sym r)
    (anyhow enc (encoder_limits old) most left write_faults.Memory (λ text. tt))
run_stopped enc n most is reason before left contents failures start items (item_faults.Writer written) told old new t r s h =
    subst (λ (f : WriteFault). RunEnds enc (encoder_limits old) most left (Err f)) (sym r)
    (anyhow enc (encoder_limits old) most left (write_faults.Writer written) (λ text. tt))

pub run_over : {W : Type 0} (enc : Encoding) (n most : ℕ) (reached : Reached) (left mid after : Option (List ℕ)) (line : List ℕ)
    (contents : W → Option (List ℕ)) (start : Option (List ℕ)) (items : List Item) (answer : Result ℕ WriteFault) (e : Encoder W)
    → EndsWith n reached answer
    → IfSome left (λ text. SaidSoFar enc most n text mid items) → TakesLineOf mid after line false
    → Stands contents start items reached e → RunEnds enc (encoder_limits e) most left answer
run_over enc n most reached left mid after line contents start items (Ok lines) e ends said t s =
    let w = stands_whole contents start items reached e s ends.0 in
    ends_if left (λ text. EndsWell enc (encoder_limits e) most text n) (λ text. EndsWell enc (encoder_limits e) most text lines)
    (λ text h. subst (EndsWell enc (encoder_limits e) most text) (sym ends.1) h)
    (ends_well enc (encoder_limits e) most n left mid after line items w.value said t w.whole w.within w.items_are)
run_over enc n most reached left mid after line contents start items (Err fault) e ends said t s =
    subst (λ (f : WriteFault). RunEnds enc (encoder_limits e) most left (Err f)) (sym ends.1)
    (ends_if left (λ text. EndsEarly enc (encoder_limits e) most text n) (λ text. EndsEarly enc (encoder_limits e) most text n)
    (λ text h. h)
    (ends_early enc (encoder_limits e) most n left mid after line items said t s.first (λ h. ends.0 (s.reached_is ∙ h))))

-- a text of so few bytes hasn't so many lines
pub run_full : (enc : Encoding) (limits : LimitValues) (most n : ℕ) (left mid : Option (List ℕ)) (items : List Item)
    (answer : Result ℕ WriteFault) → IfSome left (λ text. SaidSoFar enc most n text mid items) → 2 ^ 64 - 1 ≤ n → RunEnds enc
    limits most left answer
run_full enc limits most n None mid items answer said h = tt
run_full enc limits most n (Some text) mid items answer said h =
    λ few. absurd (omega (arith, few, h, few_lines enc most n text mid items said))

-- ---- what the whole run answers

abbrev pub Whole : Encoding → LimitValues → ℕ → Option (List ℕ) → Result Written WriteFault → Type 0
Whole enc limits most left answer = IfSome left (λ text. length text < 2 ^ 64 - 1 → EndsAtLine enc limits most text answer)

same_end : (enc : Encoding) (limits : LimitValues) (most : ℕ) (text : List ℕ) (fault : WriteFault)
    → EndsLines enc limits most text (Err fault) → EndsAtLine enc limits most text (Err fault)
same_end enc limits most text (write_faults.Refused r) h = h
same_end enc limits most text (write_faults.Early n) h = h
same_end enc limits most text write_faults.Reader h = tt
same_end enc limits most text (write_faults.Writer written) h = tt
same_end enc limits most text write_faults.Memory h = tt

pub whole_fault : (enc : Encoding) (limits : LimitValues) (most : ℕ) (left : Option (List ℕ)) (fault : WriteFault)
    → RunEnds enc limits most left (Err fault) → Whole enc limits most left (Err fault)
whole_fault enc limits most None fault h = tt
whole_fault enc limits most (Some text) fault h = λ few. same_end enc limits most text fault (h few)

finished : (enc : Encoding) (limits : LimitValues) (most n : ℕ) (text : List ℕ) (answer : Result Written WriteFault)
    → EndsWell enc limits most text n → FinishesLines n answer → EndsAtLine enc limits most text answer
finished enc limits most n text (Ok w) h f = subst (EndsWell enc limits most text) (sym f) h
finished enc limits most n text (Err (write_faults.Writer written)) h f = tt
finished enc limits most n text (Err (write_faults.Refused r)) h f = absurd f
finished enc limits most n text (Err (write_faults.Early lines)) h f = absurd f
finished enc limits most n text (Err write_faults.Reader) h f = absurd f
finished enc limits most n text (Err write_faults.Memory) h f = absurd f

pub whole_finished : (enc : Encoding) (limits : LimitValues) (most n : ℕ) (left : Option (List ℕ))
    (answer : Result Written WriteFault) → RunEnds enc limits most left (Ok n) → FinishesLines n answer → Whole enc limits most
    left answer
whole_finished enc limits most n None answer h f = tt
whole_finished enc limits most n (Some text) answer h f = λ few. finished enc limits most n text answer (h few) f

-- the transmission that the lines are data of is written
abbrev pub Takes : {W : Type 0} → Encoding → LimitValues → ℕ → Option (List ℕ) → (W → Option (List ℕ)) → W → W
    → Result Written WriteFault → Type 0
Takes enc limits most left contents old new answer =
    IfSome left (λ text. length text < 2 ^ 64 - 1 → (v : TransmissionValue) → IsTransmission v → FitsIn limits v
    → SaysTransmission enc most text v → WritesTransmission contents old new v answer)

one_written : {W : Type 0} (enc : Encoding) (limits : LimitValues) (most : ℕ) (text : List ℕ) (contents : W → Option (List ℕ))
    (old new : W) (w : Written) (v : TransmissionValue) → IsTransmission v → SaysTransmission enc most text v → WritesWhole enc
    limits (Some text) contents old new w.bytes
    → HasAll contents (contents old) new (canonical_text v) w.bytes
one_written enc limits most text contents old new w v whole s h =
    let lines : h.said.lines ≡ s.lines = lines_once h.said.lines s.lines text h.said.are s.are in
    let records : records_in h.items ≡ records_in (value_items v) =
    same_records enc (said_lines s.lines) h.items (value_items v)
    (subst (λ (l : List (List ℕ)). AllZip (SaysItem enc) (said_lines l) h.items) lines h.said.each) s.each in
    let same : h.value ≡ v = one_value h.value v h.whole whole (h.records_are ∙ records ∙ records_in_value v) in
    subst (λ (u : TransmissionValue). HasAll contents (contents old) new (canonical_text u) w.bytes) same h.written

takes_answer : {W : Type 0} (enc : Encoding) (limits : LimitValues) (most : ℕ) (text : List ℕ) (contents : W → Option (List ℕ))
    (old new : W) (answer : Result Written WriteFault) (v : TransmissionValue) → IsTransmission v → FitsIn limits v
    → SaysTransmission enc most text v
    → IfOk answer (λ w. WritesWhole enc limits (Some text) contents old new w.bytes) → EndsAtLine enc limits most text answer
    → WritesTransmission contents old new v answer
takes_answer enc limits most text contents old new (Ok w) v whole within s h e =
    one_written enc limits most text contents old new w v whole s h
takes_answer enc limits most text contents old new (Err (write_faults.Refused r)) v whole within s h e =
    never_stops enc limits most r.line text r.fault v whole within s e
takes_answer enc limits most text contents old new (Err (write_faults.Early n)) v whole within s h e =
    never_early enc limits most n text v whole s e
takes_answer enc limits most text contents old new (Err write_faults.Reader) v whole within s h e = tt
takes_answer enc limits most text contents old new (Err (write_faults.Writer written)) v whole within s h e = tt
takes_answer enc limits most text contents old new (Err write_faults.Memory) v whole within s h e = tt

pub takes_all : {W : Type 0} (enc : Encoding) (limits : LimitValues) (most : ℕ) (left : Option (List ℕ))
    (contents : W → Option (List ℕ)) (old new : W) (answer : Result Written WriteFault) → IfOk answer
    (λ w. WritesWhole enc limits left contents old new w.bytes) → Whole enc limits most left answer
    → Takes enc limits most left contents old new answer
takes_all enc limits most None contents old new answer h e = tt
takes_all enc limits most (Some text) contents old new answer h e =
    λ few v whole within s. takes_answer enc limits most text contents old new answer v whole within s h (e few)
