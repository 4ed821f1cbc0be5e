-- What an encoder has written once TRL came.
use Rattle.std.proofs.Common.{◌≡◌, ℕ, ◌-◌, ◌^◌, min, false, List, [], ◌∷◌, ◌++◌, length, map, Option, Some, None, refl, sym, ap}
use Rattle.std.proofs.Common.{subst, ◌∙◌, append-nil}
use Rattle.std.specs.Prelude.{Result, Ok, Err, IfOk, IfErr, unwrap_or}
use Rattle.std.specs.List.{AllByRecursion, flat_map}
use Rattle.std.specs.Io.KnownBytes.{Appends, Keeps}
use Rattle.cwr_fields.specs.declared.kinds.Kind.TheVariants as kinds
use Rattle.cwr_lines.specs.Format.Records.{RecordValue, IsRecord}
use Rattle.cwr_shape.specs.declared.symbols.Symbol.{Symbol}
use Rattle.cwr_shape.specs.declared.symbols.Symbol.TheVariants.{Plain}
use Rattle.cwr_shape.specs.declared.stages.Stage.{Stage}
use Rattle.cwr_shape.specs.declared.stages.Stage.TheVariants as stages
use Rattle.cwr_shape.specs.Format.Numbers.{number_in}
use Rattle.cwr_shape.specs.Format.Ranges.{LimitValues}
use Rattle.cwr_shape.specs.Format.Outlines.{symbols_of, IsWhole, IsWithin}
use Rattle.cwr_shape.specs.Steps.Left.{StandsAt}
use Rattle.cwr_shape.specs.Format.NextSymbols.{MayCome}
use Rattle.cwr_shape.specs.Steps.Tallies.{TallyValue, IsTallyOf}
use Rattle.cwr_shape.proofs.lemmas.PrefixFree.{prefix_free}
use Rattle.cwr_shape.proofs.lemmas.StageNames.{stage_after-snoc}
use Rattle.cwr_shape.proofs.lemmas.StageStands.{stands_leaves}
use Rattle.cwr_values.specs.Format.Values.{TransmissionValue, symbol_of}
use Rattle.cwr_values.specs.Format.Rows.{trailer, canonical_line, canonical_text}
use Rattle.cwr_values.specs.Format.Begins.{numbers_after, rows_so_far}
use Rattle.cwr_values.proofs.lemmas.OneTransmissionOfRecords.{Built, built}
use Rattle.cwr_values.proofs.lemmas.RowAt.{rows_whole}
use Rattle.cwr_encode.specs.declared.encoders.Encoder.{Encoder}
use Rattle.cwr_encode.specs.declared.encoders.Reached.{Reached}
use Rattle.cwr_encode.specs.declared.encoders.Reached.TheVariants as reached_to
use Rattle.cwr_encode.specs.declared.encoders.EncodeFault.{EncodeFault}
use Rattle.cwr_encode.specs.declared.encoders.EncodeFault.TheVariants.{OutOfOrder, WrongKind, Incomplete, Limit, Writer}
use Rattle.cwr_devices.specs.Format.Failures.{one_more_failure}
use Rattle.cwr_devices.specs.declared.sinks.Sink.{Sink}
use Rattle.cwr_devices.specs.Steps.Sinks.{HasWritten, has_failed, writer_of, written_of}
use Rattle.cwr_encode.specs.Format.Encoders.{part_of, reached}
use Rattle.cwr_encode.specs.Steps.Encoders.{Encodes, AddsRecords, end_fault, is_stopped, target_of, bytes_written}
use Rattle.cwr_encode.specs.Format.Finishing.{IsBeforeTrailer, JudgesEnd, Completes, HasAll, HasFront}
use Rattle.cwr_encode.specs.Steps.Finishing.{FinishesWriting}
use Rattle.cwr_encode.proofs.lemmas.Adding.{symbols_more, judged_taken}
use Rattle.cwr_encode.proofs.lemmas.Comes.{trailer_comes}

-- ---- numbers and faults

three_same : (a b d e m n : ℕ) → a ≡ b → d ≡ e → m ≡ n → a ∷ d ∷ m ∷ [] ≡ b ∷ e ∷ n ∷ []
three_same a b d e m n x y z = cc (x, y, z)

pub end_numbers : (xs : List Symbol) (a b d : ℕ) → a ≡ unwrap_or (number_in kinds.Trl 2 (numbers_after xs kinds.Trl)) 0
    → b ≡ unwrap_or (number_in kinds.Trl 3 (numbers_after xs kinds.Trl)) 0
    → d ≡ unwrap_or (number_in kinds.Trl 4 (numbers_after xs kinds.Trl)) 0 → a ∷ b ∷ d ∷ [] ≡ numbers_after xs kinds.Trl
end_numbers xs a b d x y z = three_same _ _ _ _ _ _ x y z

pub end_judged : (t : TallyValue) (xs : List Symbol) (at : Reached) → IsTallyOf t xs → at ≡ reached xs
    → ¬ MayCome t.limits xs (Plain kinds.Trl) → JudgesEnd {A = Unit {0}} t.limits xs (Err (end_fault at))
end_judged t xs at st e barred = by at e
  where
    by : (r : Reached) → r ≡ reached xs → JudgesEnd {A = Unit {0}} t.limits xs (Err (end_fault r))
    by reached_to.Opening h = (subst IsBeforeTrailer h tt, tt, λ k. absurd (cc (h ∙ k)))
    by reached_to.GroupFoot h = absurd (barred (trailer_comes t xs st (sym h)).0)
    by reached_to.Nothing h = λ k. subst IsBeforeTrailer (sym h) k
    by reached_to.GroupHead h = λ k. subst IsBeforeTrailer (sym h) k
    by reached_to.Inside h = λ k. subst IsBeforeTrailer (sym h) k
    by reached_to.End h = λ k. subst IsBeforeTrailer (sym h) k

-- ---- the whole transmission

ended_named : (xs : List Symbol) (stage : Stage) → StandsAt (xs ++ Plain kinds.Trl ∷ []) stage
    → StandsAt (xs ++ Plain kinds.Trl ∷ []) stages.Ended
ended_named xs stage st = record { begins = st.begins; named = sym (stage_after-snoc xs (Plain kinds.Trl) refl) }

all_whole : (xs : List Symbol) (stage : Stage) → StandsAt (xs ++ Plain kinds.Trl ∷ []) stage
    → IsWhole (xs ++ Plain kinds.Trl ∷ [])
all_whole xs stage st =
    let w = ((stands_leaves (xs ++ Plain kinds.Trl ∷ []) stages.Ended (ended_named xs stage st)).leaves []).1 ([], refl, tt) in
    subst IsWhole (append-nil (xs ++ Plain kinds.Trl ∷ [])) w

-- the records up to TRL are those of a transmission within the limits
pub completed : (t : TallyValue) (records : List RecordValue) → IsTallyOf t (map symbol_of (records ++ trailer ∷ []))
    → AllByRecursion IsRecord (records ++ trailer ∷ []) → (v : TransmissionValue) × Completes t.limits records v
completed t records st in_order =
    let all : List RecordValue = records ++ trailer ∷ [] in
    let xs : List Symbol = map symbol_of records in
    let same : map symbol_of all ≡ xs ++ Plain kinds.Trl ∷ [] = symbols_more records trailer (Plain kinds.Trl) refl in
    let w : IsWhole (xs ++ Plain kinds.Trl ∷ []) =
    all_whole xs t.stage (subst (λ (l : List Symbol). StandsAt l t.stage) same st.stands) in
    let g = st.within in
    let none : g.3.0 ≡ [] =
    prefix_free w.0 g.0 g.3.0 w.1 g.1 (ap (λ (l : List Symbol). l ++ g.3.0) (sym w.2 ∙ sym same) ∙ sym g.3.1) in
    let exact : map symbol_of all ≡ symbols_of g.0 =
    sym (append-nil (map symbol_of all)) ∙ ap (λ (l : List Symbol). map symbol_of all ++ l) (sym none) ∙ sym g.3.1 in
    let b : Built g.0 all = built g.0 all g.1 exact in_order in
    (b.value, record { whole = b.whole; within = subst (IsWithin t.limits) (sym b.outline) g.2; records_are = b.records_are })

-- its canonical text is their part
pub text_completed : (limits : LimitValues) (records : List RecordValue) (v : TransmissionValue) → Completes limits records v
    → canonical_text v ≡ part_of (records ++ trailer ∷ [])
unfolding canonical_text
text_completed limits records v c = ap (flat_map canonical_line) (rows_whole v c.whole ∙ ap rows_so_far c.records_are)

-- ---- what the writer has

pub appends_kept : (a b c : Option (List ℕ)) (xs : List ℕ) → Appends a b xs → Keeps b c → Appends a c xs
appends_kept None b c xs h k = tt
appends_kept (Some x) None c xs h k = absurd h
appends_kept (Some x) (Some y) None xs h k = absurd k
appends_kept (Some x) (Some y) (Some z) xs h k = k ∙ h

pub all_written : {W : Type 0} (contents : W → Option (List ℕ)) (start : Option (List ℕ)) (text other : List ℕ) (sink : Sink W)
    (writer : W) (n : ℕ) → text ≡ other → has_failed sink ≡ false → Keeps (contents (writer_of sink)) (contents writer)
    → n ≡ written_of sink → HasWritten contents start other sink → HasAll contents start writer text n
all_written contents start text other sink writer n e unfailed kept count h =
    let same : text ≡ h.bytes = e ∙ h.split ∙ ap (λ (l : List ℕ). h.bytes ++ l) (h.whole unfailed) ∙ append-nil h.bytes in
    record {
      appended =
          subst (Appends start (contents writer)) (sym same)
          (appends_kept start (contents (writer_of sink)) (contents writer) h.bytes h.appended kept);
      counted = count ∙ h.counted ∙ ap (λ (l : List ℕ). min (length l) (2 ^ 64 - 1)) (sym same);
    }

pub finished : {W : Type 0} (contents : W → Option (List ℕ)) (start : Option (List ℕ)) (records : List RecordValue)
    (limits : LimitValues) (new : Encoder W) (writer : W) (n : ℕ) → new.tally.limits ≡ limits → is_stopped new ≡ false
    → Keeps (contents (target_of new)) (contents writer) → n ≡ bytes_written new
    → Encodes contents start (records ++ trailer ∷ []) new
    → (v : TransmissionValue) × Completes limits records v × HasAll contents start writer (canonical_text v) n
finished contents start records limits new writer n same unfailed kept count e =
    let c = completed new.tally records e.counted e.in_order in (
      c.0,
      subst (λ (l : LimitValues). Completes l records c.0) same c.1,
      all_written contents start (canonical_text c.0) (part_of (records ++ trailer ∷ [])) new.sink writer n
          (text_completed new.tally.limits records c.0 c.1) unfailed kept count e.written,
    )

pub cut_short : {W : Type 0} (contents : W → Option (List ℕ)) (start : Option (List ℕ)) (records : List RecordValue)
    (limits : LimitValues) (new : Encoder W) (writer : W) (n : ℕ) → new.tally.limits ≡ limits
    → Keeps (contents (target_of new)) (contents writer) → n ≡ bytes_written new
    → Encodes contents start (records ++ trailer ∷ []) new
    → (v : TransmissionValue) × Completes limits records v × HasFront contents start writer (canonical_text v) n
cut_short contents start records limits new writer n same kept count e =
    let c = completed new.tally records e.counted e.in_order in (
      c.0,
      subst (λ (l : LimitValues). Completes l records c.0) same c.1,
      record {
        bytes = e.written.bytes;
        rest = e.written.rest;
        split = text_completed new.tally.limits records c.0 c.1 ∙ e.written.split;
        has = record {
          appended = appends_kept start (contents (target_of new)) (contents writer) e.written.bytes e.written.appended kept;
          counted = count ∙ e.written.counted;
        };
      },
    )

-- ---- what finishing does

pub kept_same : (a : Option (List ℕ)) → Keeps a a
kept_same None = tt
kept_same (Some x) = refl

-- TRL was written, and the writer handed on what it has, or failed to
pub finishes_flushed : {W : Type 0} (contents : W → Option (List ℕ)) (failures : W → ℕ) (old new : Encoder W) (writer : W)
    (result : Result ℕ EncodeFault) → new.tally.limits ≡ old.tally.limits
    → AddsRecords contents failures (trailer ∷ []) (Ok tt) old new → Keeps (contents (target_of new)) (contents writer)
    → IfOk result (λ n. (n ≡ bytes_written new) × (failures writer ≡ failures (target_of new)))
    → IfErr result (λ f. (f ≡ Writer (bytes_written new)) × (failures writer ≡ one_more_failure (failures (target_of new))))
    → FinishesWriting contents failures old writer result
finishes_flushed contents failures old new writer (Ok n) same a kept ok err = (
  ok.1 ∙ a.2,
  λ start records e. finished contents start records old.tally.limits new writer n same a.1 kept ok.0 (a.0 start records e),
)
finishes_flushed contents failures old new writer (Err f) same a kept ok err =
    subst (λ (x : EncodeFault). FinishesWriting contents failures old writer (Err x)) (sym err.0) (
      err.1 ∙ ap one_more_failure a.2,
      λ start records e. cut_short contents start records old.tally.limits new writer
          (bytes_written new) same kept refl (a.0 start records e),
    )

-- TRL wasn't written whole
pub finishes_refused : {W : Type 0} (contents : W → Option (List ℕ)) (failures : W → ℕ) (old new : Encoder W) (f : EncodeFault)
    → new.tally.limits ≡ old.tally.limits
    → AddsRecords contents failures (trailer ∷ []) (Err f) old new → FinishesWriting contents failures old (target_of new) (Err f)
finishes_refused contents failures old new (Writer n) same a = (
  a.3,
  λ start records e. cut_short contents start records old.tally.limits new (target_of new) n same
      (kept_same (contents (target_of new))) a.2 (a.0 start records e),
)
finishes_refused contents failures old new OutOfOrder same a = ap (λ (x : Encoder _). target_of x) a
finishes_refused contents failures old new WrongKind same a = ap (λ (x : Encoder _). target_of x) a
finishes_refused contents failures old new Incomplete same a = ap (λ (x : Encoder _). target_of x) a
finishes_refused contents failures old new (Limit limit) same a = ap (λ (x : Encoder _). target_of x) a

fault_only : (result : Result ℕ EncodeFault) (n : ℕ) (F : EncodeFault → Type 0) → IfErr result (λ f. (f ≡ Writer n) × F f)
    → IfErr result (λ f. f ≡ Writer n)
fault_only (Ok m) n F h = tt
fault_only (Err f) n F h = h.0

pub end_rejudged : (limits : LimitValues) (xs : List Symbol) (result : Result ℕ EncodeFault) (n : ℕ) (F : EncodeFault → Type 0)
    → JudgesEnd {A = Unit {0}} limits xs (Ok tt) → IfErr result (λ f. (f ≡ Writer n) × F f) → JudgesEnd limits xs result
end_rejudged limits xs result n F j h =
    judged_taken limits xs (Plain kinds.Trl ∷ []) result n (fault_only result n F h) j.0 j.1 j.2 j.3
