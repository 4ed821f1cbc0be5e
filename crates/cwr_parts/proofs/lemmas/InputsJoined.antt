-- Inputs are joined one after another, up to the last or a fault.
use Rattle.std.proofs.Common.{◌≡◌, ◌+◌, ◌<◌, ℕ, Bool, true, false, List, [], ◌∷◌, ◌++◌, length, map, get_or, Option, inl, refl, sym, ap}
use Rattle.std.proofs.Common.{subst, ◌∙◌, append_assoc, append-nil, arith}
use Rattle.std.specs.Prelude.{Ok, Err, filter, nat_eq, slice_set}
use Rattle.std.specs.List.{AllByRecursion}
use Rattle.std.specs.Io.KnownBytes.{Appends}
use Rattle.std.proofs.Math.Dec.{eqb-suc-zero}
use Rattle.std.proofs.Math.Seq.{get_or-append_seam, set-append_seam}
use Rattle.std.proofs.lemmas.List.{length-append}
use Rattle.cwr_lines.specs.Format.Records.{RecordValue}
use Rattle.cwr_shape.specs.declared.limits.Limits.{Limits}
use Rattle.cwr_shape.specs.Format.Outlines.{Continues, IsWithin}
use Rattle.cwr_shape.specs.Format.Ranges.{LimitValues}
use Rattle.cwr_values.specs.declared.items.Item.{Item}
use Rattle.cwr_values.specs.Format.Values.{TransmissionValue, IsTransmission, symbol_of}
use Rattle.cwr_judge.specs.Format.Items.{records_in}
use Rattle.cwr_devices.specs.declared.sinks.Sink.{Sink}
use Rattle.cwr_devices.specs.Steps.Sinks as sinks
use Rattle.cwr_devices.specs.Steps.Sinks.{HasWritten, has_failed}
use Rattle.cwr_encode.specs.Format.Written.{IsPart}
use Rattle.cwr_encode.specs.declared.encoders.Encoder.{Encoder}
use Rattle.cwr_encode.specs.Format.Encoders.{part_of}
use Rattle.cwr_encode.specs.Steps.Encoders.{Encodes, is_stopped, encoder_limits}
use Rattle.cwr_encode.proofs.lemmas.PartLaws.{has_part}
use Rattle.cwr_parts.specs.declared.joined.Joined.{Joined}
use Rattle.cwr_tools.specs.declared.verdicts.ToolFault.{ToolFault}
use Rattle.cwr_tools.specs.declared.verdicts.ToolFault.TheVariants.{Reader, Writer, Memory, Refused, Truncated, Limit, Output}
use Rattle.cwr_parts.specs.Format.Joins.{CountsInputFault, TakesInput, TakeInputs, is_first, is_joined, joined_inputs}
use Rattle.cwr_parts.specs.Format.Joins.{joined_records, WritesPart}
use Rattle.cwr_parts.specs.Steps.Joins.{StopsBy, StopsJoin}
use Rattle.cwr_parts.specs.Steps.Joined.{AddsAll, AddsInput, HasJoined, IsBetweenInputs, JoinsOn, joined_writer}
use Rattle.cwr_parts.proofs.lemmas.JoinedItems.{next_joined}

-- so many inputs were accepted and joined, and the others are as they were
pub record AreJoinedSoFar {R W : Type 0} (limits : Limits) (remaining : R → Option (List ℕ)) (failures : R → ℕ)
    (contents : W → Option (List ℕ)) (counts : W → ℕ) (count : ℕ) (before now : List R) (old j : Joined W) : Type 0 where
  pub earlier : List R
  pub finished : List R
  pub others : List R
  pub before_are : before ≡ earlier ++ others
  pub now_are : now ≡ finished ++ others
  pub counted : count ≡ length earlier
  pub finished_too : count ≡ length finished
  pub inputs : List TransmissionValue
  pub taken : TakeInputs limits remaining failures earlier inputs finished
  pub joined : HasJoined contents (contents (joined_writer old)) (joined_inputs inputs) j
  pub unfailed : is_stopped j.encoder ≡ false
  pub quiet : counts (joined_writer j) ≡ counts (joined_writer old)
  pub limits_are : encoder_limits j.encoder ≡ limits

unfoldable pub none_joined : {R W : Type 0} (limits : Limits) (remaining : R → Option (List ℕ)) (failures : R → ℕ)
    (contents : W → Option (List ℕ)) (counts : W → ℕ) (readers : List R) (j : Joined W)
    → HasJoined contents (contents (joined_writer j)) [] j → is_stopped j.encoder ≡ false → encoder_limits j.encoder ≡ limits
    → AreJoinedSoFar limits remaining failures contents counts 0 readers readers j j
none_joined limits remaining failures contents counts readers j joined unfailed same = record {
  earlier = [];
  finished = [];
  others = readers;
  before_are = refl;
  now_are = refl;
  counted = refl;
  finished_too = refl;
  inputs = [];
  taken = tt;
  joined = joined;
  unfailed = unfailed;
  quiet = refl;
  limits_are = same;
}

-- ---- the inputs that were taken

pub taken_many : {R : Type 0} (limits : Limits) (remaining : R → Option (List ℕ)) (failures : R → ℕ) (olds : List R)
    (vs : List TransmissionValue) (news : List R) → TakeInputs limits remaining failures olds vs news
    → length olds ≡ length vs
taken_many limits remaining failures [] [] [] h = refl
taken_many limits remaining failures (o ∷ olds) (v ∷ vs) (n ∷ news) h =
    omega (arith, taken_many limits remaining failures olds vs news h.1)
taken_many limits remaining failures olds vs news h = absurd h

pub taken_whole : {R : Type 0} (limits : Limits) (remaining : R → Option (List ℕ)) (failures : R → ℕ) (olds : List R)
    (vs : List TransmissionValue) (news : List R) → TakeInputs limits remaining failures olds vs news
    → AllByRecursion IsTransmission vs
taken_whole limits remaining failures [] [] [] h = tt
taken_whole limits remaining failures (o ∷ olds) (v ∷ vs) (n ∷ news) h =
    (h.0.takes.accepted.whole, taken_whole limits remaining failures olds vs news h.1)
taken_whole limits remaining failures olds vs news h = absurd h

pub take_more : {R : Type 0} (limits : Limits) (remaining : R → Option (List ℕ)) (failures : R → ℕ) (olds : List R)
    (vs : List TransmissionValue) (news : List R) (old : R) (v : TransmissionValue) (new : R)
    → TakeInputs limits remaining failures olds vs news → TakesInput limits remaining failures old v new
    → TakeInputs limits remaining failures (olds ++ old ∷ []) (vs ++ v ∷ []) (news ++ new ∷ [])
take_more limits remaining failures [] [] [] old v new h t = (t, tt)
take_more limits remaining failures (o ∷ olds) (w ∷ vs) (n ∷ news) old v new h t =
    (h.0, take_more limits remaining failures olds vs news old v new h.1 t)
take_more limits remaining failures olds vs news old v new h t = absurd h

pub first_is : (inputs : List TransmissionValue) (count : ℕ) → count ≡ length inputs → nat_eq count 0 ≡ is_first inputs
first_is [] count e = ap (λ (n : ℕ). nat_eq n 0) e
first_is (v ∷ others) count e = ap (λ (n : ℕ). nat_eq n 0) e ∙ eqb-suc-zero (length others)

-- the next one is the first where none was taken
pub between_inputs : {R W : Type 0} (limits : Limits) (remaining : R → Option (List ℕ)) (failures : R → ℕ)
    (contents : W → Option (List ℕ)) (counts : W → ℕ) (count : ℕ) (before now : List R) (old j : Joined W)
    → AreJoinedSoFar limits remaining failures contents counts count before now old j
    → IsBetweenInputs contents (nat_eq count 0) j
between_inputs limits remaining failures contents counts count before now old j h = record {
  start = contents (joined_writer old);
  inputs = h.inputs;
  each = taken_whole limits remaining failures h.earlier h.inputs h.finished h.taken;
  first_is = first_is h.inputs count (h.counted ∙ taken_many limits remaining failures h.earlier h.inputs h.finished h.taken);
  joined = h.joined;
}

-- ---- the one in hand

-- the reader in hand stands after those that are finished
pub record IsNext {R : Type 0} (others : List R) (hand : R) : Type 0 where
  pub later : List R
  pub others_are : others ≡ hand ∷ later

pub next_hand : {R : Type 0} (finished others now : List R) (count : ℕ) (hand : R) → now ≡ finished ++ others
    → count ≡ length finished → count < length now → hand ≡ get_or now count hand → IsNext others hand
next_hand {R = R} finished [] now count hand e n lt is = absurd (omega (arith, n, lt, ap length e, length-append finished []))
next_hand {R = R} finished (other ∷ later) now count hand e n lt is =
    let same : hand ≡ other =
    is ∙ ap (λ (l : List R). get_or l count hand) e ∙ ap (λ (k : ℕ). get_or (finished ++ other ∷ later) k hand) n
    ∙ get_or-append_seam finished other later hand in
    record { later = later; others_are = ap (λ (r : R). r ∷ later) (sym same) }

pub changed : {R : Type 0} (finished others later now : List R) (count : ℕ) (hand left : R) → now ≡ finished ++ others
    → count ≡ length finished → others ≡ hand ∷ later → slice_set now count left ≡ finished ++ left ∷ later
changed {R = R} finished others later now count hand left e n o =
    ap (λ (l : List R). slice_set l count left) (e ∙ ap (λ (l : List R). finished ++ l) o)
    ∙ ap (λ (k : ℕ). slice_set (finished ++ hand ∷ later) k left) n ∙ set-append_seam finished hand later left

-- one input more is joined
unfoldable pub one_joined : {R W : Type 0} (limits : Limits) (remaining : R → Option (List ℕ)) (failures : R → ℕ)
    (contents : W → Option (List ℕ)) (counts : W → ℕ) (count : ℕ) (before now : List R) (old j next : Joined W) (hand left : R)
    (u : Unit {0})
    → AreJoinedSoFar limits remaining failures contents counts count before now old j → count < length now
    → hand ≡ get_or now count hand
    → AddsInput limits contents counts (nat_eq count 0) (remaining hand) (remaining left) (Ok u) j next
    → failures left ≡ failures hand
    → AreJoinedSoFar limits remaining failures contents counts (count + 1) before (slice_set now count left) old next
one_joined {R = R} limits remaining failures contents counts count before now old j next hand left u h lt is a quiet =
    let at = next_hand h.finished h.others now count hand h.now_are h.finished_too lt is in
    let same = first_is h.inputs count (h.counted ∙ taken_many limits remaining failures h.earlier h.inputs h.finished h.taken) in
    let b =
    subst (λ (first : Bool). AddsInput limits contents counts first (remaining hand) (remaining left) (Ok u) j next) same a in
    record {
      earlier = h.earlier ++ hand ∷ [];
      finished = h.finished ++ left ∷ [];
      others = at.later;
      before_are =
          h.before_are ∙ ap (λ (l : List R). h.earlier ++ l) at.others_are ∙ sym (append_assoc h.earlier (hand ∷ []) at.later);
      now_are =
          changed h.finished h.others at.later now count hand left h.now_are h.finished_too at.others_are
          ∙ sym (append_assoc h.finished (left ∷ []) at.later);
      counted = omega (arith, h.counted, length-append h.earlier (hand ∷ []));
      finished_too = omega (arith, h.finished_too, length-append h.finished (left ∷ []));
      inputs = h.inputs ++ b.0 ∷ [];
      taken =
          take_more limits remaining failures h.earlier h.inputs h.finished hand b.0 left h.taken
          (record { takes = b.1; quiet = quiet });
      joined =
          subst (λ (l : List Item). HasJoined contents (contents (joined_writer old)) l next) (sym (next_joined h.inputs b.0))
          (b.2.more (contents (joined_writer old)) (joined_inputs h.inputs) h.joined);
      unfailed = b.2.unfailed;
      quiet = b.2.quiet ∙ h.quiet;
      limits_are = b.2.limits ∙ h.limits_are;
    }

-- the one input is joined
pub one_alone : {R W : Type 0} (limits : Limits) (remaining : R → Option (List ℕ)) (failures : R → ℕ)
    (contents : W → Option (List ℕ)) (counts : W → ℕ) (hand left : R) (old next : Joined W) (u : Unit {0})
    → HasJoined contents (contents (joined_writer old)) [] old → encoder_limits old.encoder ≡ limits
    → AddsInput limits contents counts true (remaining hand) (remaining left) (Ok u) old next → failures left ≡ failures hand
    → AddsAll limits remaining failures contents (hand ∷ []) (left ∷ []) old next
one_alone limits remaining failures contents counts hand left old next u joined same a quiet = record {
  inputs = a.0 ∷ [];
  taken = (record { takes = a.1; quiet = quiet }, tt);
  joined =
      subst (λ (l : List Item). HasJoined contents (contents (joined_writer old)) l next) (sym (next_joined [] a.0))
      (a.2.more (contents (joined_writer old)) [] joined);
  unfailed = a.2.unfailed;
  limits_are = a.2.limits ∙ same;
}

-- ---- the ends

written_whole : {W : Type 0} (contents : W → Option (List ℕ)) (start : Option (List ℕ)) (text : List ℕ) (sink : Sink W)
    → has_failed sink ≡ false → HasWritten contents start text sink → Appends start (contents (sinks.writer_of sink)) text
written_whole contents start text sink unfailed h =
    subst (Appends start (contents (sinks.writer_of sink)))
    (sym (h.split ∙ ap (λ (l : List ℕ). h.bytes ++ l) (h.whole unfailed) ∙ append-nil h.bytes)) h.appended

-- records that were accepted have a part
has_part_of : {W : Type 0} (limits : Limits) (contents : W → Option (List ℕ)) (start : Option (List ℕ))
    (records : List RecordValue) (e : Encoder W) → encoder_limits e ≡ limits → Encodes contents start records e → IsPart limits
    records (part_of records)
has_part_of limits contents start records e same h =
    has_part limits records h.in_order
    (subst (λ (l : LimitValues). Continues (IsWithin l) (map symbol_of records)) same h.counted.within)

-- which is written where the writer didn't fail
part_written : {W : Type 0} (limits : Limits) (contents : W → Option (List ℕ)) (counts : W → ℕ) (items added : List Item)
    (old j next : Joined W) → encoder_limits j.encoder ≡ limits → HasJoined contents (contents (joined_writer old)) items j
    → JoinsOn contents counts added j next
    → WritesPart limits contents (records_in (items ++ added)) (joined_writer old) (joined_writer next)
part_written limits contents counts items added old j next same h on =
    let start = contents (joined_writer old) in
    let records : List RecordValue = records_in (items ++ added) in
    let encodes = (on.more start items h).encodes in
    record {
      text = part_of records;
      part = has_part_of limits contents start records next.encoder (on.limits ∙ same) encodes;
      written = written_whole contents start (part_of records) next.encoder.sink on.unfailed encodes.written;
    }

stops_by : {R W : Type 0} (limits : Limits) (contents : W → Option (List ℕ)) (counts : W → ℕ) (inputs : List TransmissionValue)
    (before after : Option (List ℕ)) (later : List R) (old j next : Joined W) (fault : ToolFault) → encoder_limits j.encoder
    ≡ limits
    → HasJoined contents (contents (joined_writer old)) (joined_inputs inputs) j
    → AddsInput limits contents counts (is_first inputs) before after (Err fault) j next
    → StopsBy limits fault contents inputs before after later (joined_writer old) (joined_writer next)
stops_by limits contents counts inputs before after later old j next Reader same h a =
    record {
      given = a.0;
      stops = a.1;
      written =
          part_written limits contents counts (joined_inputs inputs) (filter (is_joined (is_first inputs)) a.0) old j next same h
          a.2;
    }
stops_by limits contents counts inputs before after later old j next Memory same h a =
    record {
      given = a.0;
      stops = a.1;
      written =
          part_written limits contents counts (joined_inputs inputs) (filter (is_joined (is_first inputs)) a.0) old j next same h
          a.2;
    }
stops_by limits contents counts inputs before after later old j next (Refused r) same h a =
    record {
      given = a.0;
      stops = a.1;
      written =
          part_written limits contents counts (joined_inputs inputs) (filter (is_joined (is_first inputs)) a.0) old j next same h
          a.2;
    }
stops_by limits contents counts inputs before after later old j next (Truncated r) same h a =
    record {
      given = a.0;
      stops = a.1;
      written =
          part_written limits contents counts (joined_inputs inputs) (filter (is_joined (is_first inputs)) a.0) old j next same h
          a.2;
    }
stops_by limits contents counts inputs before after later old j next (Limit limit) same h a = record {
  given = a.0;
  item = a.1;
  handed_out = a.2;
  barred = a.4 (contents (joined_writer old)) (joined_inputs inputs) h;
  written =
      part_written limits contents counts (joined_inputs inputs) (filter (is_joined (is_first inputs)) a.0) old j next same h a.3;
}
stops_by limits contents counts inputs before after later old j next (Writer n) same h a =
    let start = contents (joined_writer old) in
    let encodes = a.2.more start (joined_inputs inputs) h in
    let w = encodes.written in
    record {
      text = part_of (joined_records inputs a.0);
      text_is =
          inl (record {
            given = a.0;
            handed_out = a.1;
            part = has_part_of limits contents start (joined_records inputs a.0) next.encoder (a.2.limits ∙ same) encodes;
          });
      front =
          record {
            bytes = w.bytes;
            rest = w.rest;
            split = w.split;
            has = record { appended = w.appended; counted = a.2.counted ∙ w.counted };
          };
    }
stops_by limits contents counts inputs before after later old j next Output same h a = absurd a

pub stopped_in_hand : {R W : Type 0} (limits : Limits) (remaining : R → Option (List ℕ)) (failures : R → ℕ)
    (contents : W → Option (List ℕ)) (counts : W → ℕ) (count : ℕ) (before now : List R) (old j next : Joined W) (hand left : R)
    (fault : ToolFault)
    → AreJoinedSoFar limits remaining failures contents counts count before now old j → count < length now
    → hand ≡ get_or now count hand
    → AddsInput limits contents counts (nat_eq count 0) (remaining hand) (remaining left) (Err fault) j next
    → CountsInputFault fault (failures hand) (failures left)
    → StopsJoin limits remaining failures contents before (slice_set now count left) (joined_writer old) (joined_writer next)
    (record { input = count + 1; fault = fault })
stopped_in_hand {R = R} limits remaining failures contents counts count before now old j next hand left fault h lt is a quiet =
    let at = next_hand h.finished h.others now count hand h.now_are h.finished_too lt is in
    let same = first_is h.inputs count (h.counted ∙ taken_many limits remaining failures h.earlier h.inputs h.finished h.taken) in
    record {
      earlier = h.earlier;
      hand = hand;
      later = at.later;
      finished = h.finished;
      left = left;
      before_are = h.before_are ∙ ap (λ (l : List R). h.earlier ++ l) at.others_are;
      after_are = changed h.finished h.others at.later now count hand left h.now_are h.finished_too at.others_are;
      number = ap (λ (n : ℕ). n + 1) h.counted;
      inputs = h.inputs;
      taken = h.taken;
      stops =
          stops_by limits contents counts h.inputs (remaining hand) (remaining left) at.later old j next fault h.limits_are
          h.joined
          (subst (λ (first : Bool). AddsInput limits contents counts first (remaining hand) (remaining left) (Err fault) j next)
          same a);
      counts = quiet;
    }
