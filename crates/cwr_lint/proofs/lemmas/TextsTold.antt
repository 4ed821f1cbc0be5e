-- Texts that are put one after another, while bytes are taken from a reader.
use Rattle.std.proofs.Common.{◌≡◌, ℕ, ◌+◌, ◌-◌, false, List, [], ◌∷◌, ◌++◌, Option, refl, sym, ap, subst, ◌∙◌, append_assoc, append-nil}
use Rattle.std.specs.Prelude.{◌^◌, min, Result, Ok, Err, IfErr, IfOk, OnOk}
use Rattle.std.specs.Io.KnownBytes.{Appends, GrowsBy, Keeps}
use Rattle.cwr_devices.specs.Format.Failures.{one_more_failure}
use Rattle.cwr_devices.specs.declared.sinks.Sink.{Sink}
use Rattle.cwr_devices.specs.Steps.Sinks.{HasWritten, counted_up, has_failed, writer_of, written_of}
use Rattle.cwr_encode.proofs.lemmas.Ends.{all_written, appends_kept}
use Rattle.cwr_causes.specs.Format.Trailing.{TakesMore}
use Rattle.cwr_tools.specs.Format.Reports.{AddsWords, CountsAfter, CountsReaderFault, CountsWriterFault}
use Rattle.cwr_tools.specs.Format.Verdicts.{IsAnswerTo}
use Rattle.cwr_causes.proofs.lemmas.TakenPieces.{no_more, takes_both}
use Rattle.cwr_tools.specs.declared.verdicts.Verdict.{Verdict}
use Rattle.cwr_tools.specs.declared.verdicts.ToolFault.{ToolFault}
use Rattle.cwr_tools.specs.declared.verdicts.ToolFault.TheVariants as faults
use Rattle.cwr_lint.specs.Steps.CutShort.{UnlessWriter}
use Rattle.cwr_lint.specs.Steps.Lints.{AddsEnd, EndsRun, counted}
use Rattle.cwr_lint.specs.Steps.Puts.{CountsBoth, CountsPut, PutsAfter, PutsWith, ReadsAndPuts, ReadsAndPutsWith}

-- what is put counts for both
pub put_counts : {A : Type 0} (result : Result A ToolFault) (reader old new : ℕ) → CountsPut result old new
    → CountsBoth result reader reader old new
put_counts (Ok x) reader old new h = (refl, h)
put_counts (Err (faults.Writer written)) reader old new h = (refl, h)
put_counts (Err faults.Memory) reader old new h = (refl, h)
put_counts (Err faults.Reader) reader old new h = absurd h
put_counts (Err (faults.Refused refusal)) reader old new h = absurd h
put_counts (Err (faults.Truncated records)) reader old new h = absurd h
put_counts (Err faults.Output) reader old new h = absurd h
put_counts (Err (faults.Limit limit)) reader old new h = absurd h

-- two calls count one after the other
both_counts : {A B : Type 0} (x : A) (result : Result B ToolFault) (a b c d e f : ℕ) → CountsBoth (Ok x) a b d e
    → CountsBoth result b c e f → CountsBoth result a c d f
both_counts x result a b c d e f p q =
    subst (λ (n : ℕ). CountsBoth result n c d f) p.0 (subst (λ (n : ℕ). CountsBoth result b c n f) p.1 q)

-- nothing is put, and nothing read
pub nothing : {W A : Type 0} (left : Option (List ℕ)) (reader : ℕ) (contents : W → Option (List ℕ)) (failures : W → ℕ) (x : A)
    (sink : Sink W) → ReadsAndPuts left left reader reader contents failures [] (Ok x) sink sink
nothing left reader contents failures x sink = record {
  taken = no_more left;
  written = λ start before h. subst (λ (l : List ℕ). HasWritten contents start l sink) (sym (append-nil before)) h;
  unfailed = λ unfailed. unfailed;
  counts = λ unfailed. (refl, refl);
  again = λ failed. refl;
}

-- bytes are read alone
pub read_alone : {W A : Type 0} (left after : Option (List ℕ)) (reader read : ℕ) (contents : W → Option (List ℕ))
    (failures : W → ℕ) (x : A) (sink : Sink W) → TakesMore left after → read ≡ reader → ReadsAndPuts
    left after reader read contents failures [] (Ok x) sink sink
read_alone left after reader read contents failures x sink taken same = record {
  taken = taken;
  written = λ start before h. subst (λ (l : List ℕ). HasWritten contents start l sink) (sym (append-nil before)) h;
  unfailed = λ unfailed. unfailed;
  counts = λ unfailed. (same, refl);
  again = λ failed. refl;
}

-- the reader failed
pub read_failed : {W A : Type 0} (left after : Option (List ℕ)) (reader read : ℕ) (contents : W → Option (List ℕ))
    (failures : W → ℕ) (sink : Sink W) → TakesMore left after → read ≡ one_more_failure reader → ReadsAndPuts {A = A} left after
    reader read contents failures [] (Err faults.Reader) sink sink
read_failed left after reader read contents failures sink taken more = record {
  taken = taken;
  written = λ start before h. subst (λ (l : List ℕ). HasWritten contents start l sink) (sym (append-nil before)) h;
  unfailed = λ unfailed. tt;
  counts = λ unfailed. (more, refl);
  again = λ failed. refl;
}

-- a text is put alone
pub put_alone : {W A : Type 0} (left : Option (List ℕ)) (reader : ℕ) (contents : W → Option (List ℕ)) (failures : W → ℕ)
    (text : List ℕ) (result : Result A ToolFault) (old new : Sink W) → PutsAfter contents failures text result old new
    → ReadsAndPuts left left reader reader contents failures text result old new
put_alone left reader contents failures text result old new p =
    record {
      taken = no_more left;
      written = p.written;
      unfailed = p.unfailed;
      counts = λ unfailed. put_counts result reader _ _ (p.counts unfailed);
      again = p.again;
    }

-- bytes are read, and then a text is put
pub then_put : {W A : Type 0} (left after : Option (List ℕ)) (reader read : ℕ) (contents : W → Option (List ℕ)) (failures : W → ℕ)
    (text : List ℕ) (result : Result A ToolFault) (old new : Sink W) → TakesMore left after → read ≡ reader → PutsAfter contents
    failures text result old new
    → ReadsAndPuts left after reader read contents failures text result old new
then_put left after reader read contents failures text result old new taken same p = record {
  taken = taken;
  written = p.written;
  unfailed = p.unfailed;
  counts =
      λ unfailed. subst (λ (n : ℕ). CountsBoth result reader n (failures (writer_of old)) (failures (writer_of new))) (sym same)
      (put_counts result reader _ _ (p.counts unfailed));
  again = p.again;
}

-- one after the other
pub one_then : {W A B : Type 0} (left mid_left after : Option (List ℕ)) (reader mid_read read : ℕ)
    (contents : W → Option (List ℕ)) (failures : W → ℕ) (text more : List ℕ) (x : A) (result : Result B ToolFault)
    (old mid new : Sink W)
    → ReadsAndPuts left mid_left reader mid_read contents failures text (Ok x) old mid
    → ReadsAndPuts mid_left after mid_read read contents failures more result mid new
    → ReadsAndPuts left after reader read contents failures (text ++ more) result old new
one_then left mid_left after reader mid_read read contents failures text more x result old mid new p q = record {
  taken = takes_both left mid_left after p.taken q.taken;
  written =
      λ start before h. subst (λ (l : List ℕ). HasWritten contents start l new) (append_assoc before text more)
      (q.written start (before ++ text) (p.written start before h));
  unfailed = λ unfailed. q.unfailed (p.unfailed unfailed);
  counts = λ unfailed. both_counts x result reader mid_read read _ _ _ (p.counts unfailed) (q.counts (p.unfailed unfailed));
  again = λ failed. q.again (ap has_failed (p.again failed) ∙ failed) ∙ p.again failed;
}

-- the same with another answer
pub other_ok : {W A B : Type 0} (left after : Option (List ℕ)) (reader read : ℕ) (contents : W → Option (List ℕ))
    (failures : W → ℕ) (text : List ℕ) (x : A) (y : B) (old new : Sink W) → ReadsAndPuts left after reader read contents failures
    text (Ok x) old new → ReadsAndPuts left after reader read contents failures text (Ok y) old new
other_ok left after reader read contents failures text x y old new p =
    record { taken = p.taken; written = p.written; unfailed = p.unfailed; counts = p.counts; again = p.again }

err_counts : (A B : Type 0) (fault : ToolFault) (a b c d : ℕ) → CountsBoth {A = A} (Err fault) a b c d
    → CountsBoth {A = B} (Err fault) a b c d
err_counts A B (faults.Writer written) a b c d h = h
err_counts A B faults.Memory a b c d h = h
err_counts A B faults.Reader a b c d h = h
err_counts A B (faults.Refused refusal) a b c d h = absurd h
err_counts A B (faults.Truncated records) a b c d h = absurd h
err_counts A B faults.Output a b c d h = absurd h
err_counts A B (faults.Limit limit) a b c d h = absurd h

pub other_err : {W A B : Type 0} (left after : Option (List ℕ)) (reader read : ℕ) (contents : W → Option (List ℕ))
    (failures : W → ℕ) (text : List ℕ) (fault : ToolFault) (old new : Sink W) → ReadsAndPuts {A = A} left after reader read
    contents failures text (Err fault) old new → ReadsAndPuts {A = B} left after reader read contents failures text (Err fault)
    old new
other_err {A = A} {B = B} left after reader read contents failures text fault old new p =
    record {
      taken = p.taken;
      written = p.written;
      unfailed = λ unfailed. tt;
      counts = λ unfailed. err_counts A B fault _ _ _ _ (p.counts unfailed);
      again = p.again;
    }

-- ---- texts with an answer

pub reads_put : {W A : Type 0} (P : A → List ℕ → Type 0) (left : Option (List ℕ)) (reader : ℕ) (contents : W → Option (List ℕ))
    (failures : W → ℕ) (result : Result A ToolFault) (old new : Sink W) → PutsWith P contents failures result old new
    → ReadsAndPutsWith P left left reader reader contents failures result old new
reads_put P left reader contents failures result old new p =
    (p.0, put_alone left reader contents failures p.0 result old new p.1, p.2)

with_all : {A : Type 0} (P Q : A → List ℕ → Type 0) (result : Result A ToolFault) (text more : List ℕ)
    → ((x : A) → P x text → Q x more) → IfOk result (λ x. P x text) → IfOk result (λ x. Q x more)
with_all P Q (Ok x) text more f p = f x p
with_all P Q (Err fault) text more f p = tt

-- bytes are read, and then a text is put
pub reads_then : {W A : Type 0} (P Q : A → List ℕ → Type 0) (left after : Option (List ℕ)) (reader read : ℕ)
    (contents : W → Option (List ℕ)) (failures : W → ℕ) (result : Result A ToolFault) (old new : Sink W)
    → ((x : A) (text : List ℕ) → P x text → Q x text)
    → TakesMore left after → read ≡ reader → PutsWith P contents failures result old new
    → ReadsAndPutsWith Q left after reader read contents failures result old new
reads_then P Q left after reader read contents failures result old new f taken same p = (
  p.0,
  then_put left after reader read contents failures p.0 result old new taken same p.1,
  with_all P Q result p.0 p.0 (λ x h. f x p.0 h) p.2,
)

-- one after the other
pub reads_after : {W A B : Type 0} (P : A → List ℕ → Type 0) (Q R : B → List ℕ → Type 0) (left mid_left after : Option (List ℕ))
    (reader mid_read read : ℕ) (contents : W → Option (List ℕ)) (failures : W → ℕ) (x : A) (result : Result B ToolFault)
    (old mid new : Sink W)
    → ((text more : List ℕ) (y : B) → P x text → Q y more → R y (text ++ more))
    → ReadsAndPutsWith P left mid_left reader mid_read contents failures (Ok x) old mid
    → ReadsAndPutsWith Q mid_left after mid_read read contents failures result mid new
    → ReadsAndPutsWith R left after reader read contents failures result old new
reads_after P Q R left mid_left after reader mid_read read contents failures x result old mid new f p q = (
  p.0 ++ q.0,
  one_then left mid_left after reader mid_read read contents failures p.0 q.0 x result old mid new p.1 q.1,
  with_all Q R result q.0 (p.0 ++ q.0) (λ y h. f p.0 q.0 y p.2 h) q.2,
)

pub reads_err : {W A B : Type 0} (P : A → List ℕ → Type 0) (Q : B → List ℕ → Type 0) (left after : Option (List ℕ))
    (reader read : ℕ) (contents : W → Option (List ℕ)) (failures : W → ℕ) (fault : ToolFault) (old new : Sink W)
    → ReadsAndPutsWith P left after reader read contents failures (Err fault) old new
    → ReadsAndPutsWith Q left after reader read contents failures (Err fault) old new
reads_err {A = A} {B = B} P Q left after reader read contents failures fault old new p =
    (p.0, other_err {A = A} {B = B} left after reader read contents failures p.0 fault old new p.1, tt)

-- bytes are read first, and nothing is put
pub read_first : {W A : Type 0} (P Q : A → List ℕ → Type 0) (left mid_left after : Option (List ℕ)) (reader mid_read read : ℕ)
    (contents : W → Option (List ℕ)) (failures : W → ℕ) (result : Result A ToolFault) (old new : Sink W)
    → ((x : A) (text : List ℕ) → P x text → Q x text) → TakesMore left mid_left → mid_read ≡ reader
    → ReadsAndPutsWith P mid_left after mid_read read contents failures result old new
    → ReadsAndPutsWith Q left after reader read contents failures result old new
read_first P Q left mid_left after reader mid_read read contents failures result old new f taken same p = (
  p.0,
  one_then left mid_left after reader mid_read read contents failures [] p.0 (tt {0}) result old old new
      (read_alone left mid_left reader mid_read contents failures (tt {0}) old taken same) p.1,
  with_all P Q result p.0 p.0 (λ x h. f x p.0 h) p.2,
)

-- ---- the faults of a run, as those of a lint

reader_counts : (A : Type 0) (n : ℕ) (fault : ToolFault) (a b c d : ℕ) → CountsBoth {A = A} (Err fault) a b c d
    → CountsReaderFault (Err (counted n fault)) a b
reader_counts A n (faults.Writer written) a b c d h = h.0
reader_counts A n faults.Memory a b c d h = h.0
reader_counts A n faults.Reader a b c d h = h.0
reader_counts A n (faults.Refused refusal) a b c d h = absurd h
reader_counts A n (faults.Truncated records) a b c d h = absurd h
reader_counts A n faults.Output a b c d h = absurd h
reader_counts A n (faults.Limit limit) a b c d h = absurd h

writer_counts : (A : Type 0) (n : ℕ) (fault : ToolFault) (a b c d : ℕ) → CountsBoth {A = A} (Err fault) a b c d
    → CountsWriterFault (Err (counted n fault)) c d
writer_counts A n (faults.Writer written) a b c d h = h.1
writer_counts A n faults.Memory a b c d h = h.1
writer_counts A n faults.Reader a b c d h = h.1
writer_counts A n (faults.Refused refusal) a b c d h = absurd h
writer_counts A n (faults.Truncated records) a b c d h = absurd h
writer_counts A n faults.Output a b c d h = absurd h
writer_counts A n (faults.Limit limit) a b c d h = absurd h

answers : (A : Type 0) (n : ℕ) (verdict : Verdict) (fault : ToolFault) (a b c d : ℕ) → CountsBoth {A = A} (Err fault) a b c d
    → IsAnswerTo verdict (Err (counted n fault))
answers A n verdict (faults.Writer written) a b c d h = tt
answers A n verdict faults.Memory a b c d h = tt
answers A n verdict faults.Reader a b c d h = tt
answers A n verdict (faults.Refused refusal) a b c d h = absurd h
answers A n verdict (faults.Truncated records) a b c d h = absurd h
answers A n verdict faults.Output a b c d h = absurd h
answers A n verdict (faults.Limit limit) a b c d h = absurd h

-- ---- how a run ends

-- all that was told is written
pub ends_told : {W : Type 0} (P : List ℕ → Type 0) (contents : W → Option (List ℕ)) (start : Option (List ℕ)) (new : W)
    (found : Verdict) (n : ℕ) (text : List ℕ) (sink : Sink W) (told : Result (Unit {0}) ToolFault) (a b : ℕ)
    (result : Result Verdict ToolFault)
    → IfOk told (λ u. P text) → OnOk told (has_failed sink ≡ false) → Keeps (contents (writer_of sink)) (contents new)
    → HasWritten contents start text sink → EndsRun found n told a b result
    → OnOk result ((it : List ℕ) × P it × Appends start (contents new) it)
ends_told P contents start new found n text sink (Ok u) a b (Ok verdict) is unfailed kept h e =
    (text, is, (all_written contents start text text sink new (written_of sink) refl unfailed kept refl h).appended)
ends_told P contents start new found n text sink (Ok u) a b (Err fault) is unfailed kept h e = tt
ends_told P contents start new found n text sink (Err fault) a b result is unfailed kept h e =
    subst (λ (r : Result Verdict ToolFault). OnOk r ((it : List ℕ) × P it × Appends start (contents new) it)) (sym e.0) tt

-- some bytes are, however it ends
pub ends_words : {W : Type 0} (contents : W → Option (List ℕ)) (writer new : W) (text : List ℕ) (sink : Sink W)
    → Keeps (contents (writer_of sink)) (contents new) → HasWritten contents (contents writer) text sink
    → AddsWords contents writer new
ends_words contents writer new text sink kept h =
    (h.bytes, appends_kept (contents writer) (contents (writer_of sink)) (contents new) h.bytes h.appended kept)

pub ends_reader : (found : Verdict) (n : ℕ) (told : Result (Unit {0}) ToolFault) (result : Result Verdict ToolFault)
    (reader read a b d : ℕ) → CountsBoth told reader read a b → EndsRun found n told b d result → CountsReaderFault result reader
    read
ends_reader found n (Ok u) (Ok verdict) reader read a b d h e = h.0
ends_reader found n (Ok u) (Err (faults.Writer written)) reader read a b d h e = h.0
ends_reader found n (Ok u) (Err faults.Reader) reader read a b d h e = absurd e
ends_reader found n (Ok u) (Err faults.Memory) reader read a b d h e = absurd e
ends_reader found n (Ok u) (Err (faults.Refused other)) reader read a b d h e = absurd e
ends_reader found n (Ok u) (Err (faults.Truncated records)) reader read a b d h e = absurd e
ends_reader found n (Ok u) (Err faults.Output) reader read a b d h e = absurd e
ends_reader found n (Ok u) (Err (faults.Limit limit)) reader read a b d h e = absurd e
ends_reader found n (Err fault) result reader read a b d h e =
    subst (λ (r : Result Verdict ToolFault). CountsReaderFault r reader read) (sym e.0)
    (reader_counts (Unit {0}) n fault reader read a b h)

pub ends_writer : (found : Verdict) (n : ℕ) (told : Result (Unit {0}) ToolFault) (result : Result Verdict ToolFault)
    (reader read a b d : ℕ) → CountsBoth told reader read a b → EndsRun found n told b d result → CountsWriterFault result a d
ends_writer found n (Ok u) (Ok verdict) reader read a b d h e = e.1 ∙ h.1
ends_writer found n (Ok u) (Err (faults.Writer written)) reader read a b d h e = e.0 ∙ ap one_more_failure h.1
ends_writer found n (Ok u) (Err faults.Reader) reader read a b d h e = absurd e
ends_writer found n (Ok u) (Err faults.Memory) reader read a b d h e = absurd e
ends_writer found n (Ok u) (Err (faults.Refused other)) reader read a b d h e = absurd e
ends_writer found n (Ok u) (Err (faults.Truncated records)) reader read a b d h e = absurd e
ends_writer found n (Ok u) (Err faults.Output) reader read a b d h e = absurd e
ends_writer found n (Ok u) (Err (faults.Limit limit)) reader read a b d h e = absurd e
ends_writer found n (Err fault) result reader read a b d h e =
    subst (λ (r : Result Verdict ToolFault). CountsWriterFault r a d) (sym e.0)
    (subst (λ (k : ℕ). CountsWriterFault (Err (counted n fault)) a k) (sym e.1) (writer_counts (Unit {0}) n fault reader read a b h))

pub ends_answer : (found : Verdict) (n : ℕ) (told : Result (Unit {0}) ToolFault) (result : Result Verdict ToolFault)
    (reader read a b d : ℕ) → CountsBoth told reader read a b → EndsRun found n told b d result → IsAnswerTo found
    result
ends_answer found n (Ok u) (Ok verdict) reader read a b d h e = e.0
ends_answer found n (Ok u) (Err (faults.Writer written)) reader read a b d h e = tt
ends_answer found n (Ok u) (Err faults.Reader) reader read a b d h e = absurd e
ends_answer found n (Ok u) (Err faults.Memory) reader read a b d h e = absurd e
ends_answer found n (Ok u) (Err (faults.Refused other)) reader read a b d h e = absurd e
ends_answer found n (Ok u) (Err (faults.Truncated records)) reader read a b d h e = absurd e
ends_answer found n (Ok u) (Err faults.Output) reader read a b d h e = absurd e
ends_answer found n (Ok u) (Err (faults.Limit limit)) reader read a b d h e = absurd e
ends_answer found n (Err fault) result reader read a b d h e =
    subst (IsAnswerTo found) (sym e.0) (answers (Unit {0}) n found fault reader read a b h)

-- a fault of the writer has the number of all bytes
pub ends_counted : {W : Type 0} (found : Verdict) (contents : W → Option (List ℕ)) (writer new : W) (before : ℕ) (text : List ℕ)
    (sink : Sink W) (told : Result (Unit {0}) ToolFault) (a b : ℕ) (result : Result Verdict ToolFault)
    → Keeps (contents (writer_of sink)) (contents new) → HasWritten contents (contents writer) text sink
    → EndsRun found (counted_up before (written_of sink)) told a b result → CountsAfter contents before writer new result
ends_counted found contents writer new before text sink told a b result kept h e = by told result e
  where
    had : (more : ℕ) × GrowsBy (contents writer) (contents new) more
        × (counted_up before (written_of sink) ≡ min (before + more) (2 ^ 64 - 1))
    had = (
      written_of sink,
      (h.bytes, appends_kept (contents writer) (contents (writer_of sink)) (contents new) h.bytes h.appended kept, h.counted),
      refl,
    )

    at : (fault : ToolFault)
        → CountsAfter {A = Verdict} contents before writer new (Err (counted (counted_up before (written_of sink)) fault))
    at (faults.Writer written) = had
    at faults.Memory = tt
    at faults.Reader = tt
    at (faults.Refused other) = tt
    at (faults.Truncated records) = tt
    at faults.Output = tt
    at (faults.Limit limit) = tt

    by : (told : Result (Unit {0}) ToolFault) (result : Result Verdict ToolFault)
        → EndsRun found (counted_up before (written_of sink)) told a b result → CountsAfter contents before writer new result
    by (Ok u) (Ok verdict) e = tt
    by (Ok u) (Err (faults.Writer written)) e = (had.0, had.1, e.1 ∙ had.2)
    by (Ok u) (Err faults.Reader) e = tt
    by (Ok u) (Err faults.Memory) e = tt
    by (Ok u) (Err (faults.Refused other)) e = tt
    by (Ok u) (Err (faults.Truncated records)) e = tt
    by (Ok u) (Err faults.Output) e = tt
    by (Ok u) (Err (faults.Limit limit)) e = tt
    by (Err fault) result e =
        subst (CountsAfter contents before writer new) (sym e.0) (at fault)

-- the words on an end that comes too early
pub ends_early : {W : Type 0} (contents : W → Option (List ℕ)) (writer new : W) (found : Verdict) (n : ℕ) (text : List ℕ)
    (sink : Sink W) (told : Result (Unit {0}) ToolFault) (a b : ℕ) (result : Result Verdict ToolFault)
    → Keeps (contents (writer_of sink)) (contents new) → HasWritten contents (contents writer) text sink
    → IfErr told (λ fault. UnlessWriter fault (text ≡ [])) → EndsRun found n told a b result → AddsEnd contents writer new result
ends_early contents writer new found n text sink told a b result kept h none e =
    (words.0, words.1, by told result none e)
  where
    words : (it : List ℕ) × Appends (contents writer) (contents new) it
    words = (h.bytes, appends_kept (contents writer) (contents (writer_of sink)) (contents new) h.bytes h.appended kept)

    front_nil : (bytes rest : List ℕ) → [] ≡ bytes ++ rest → bytes ≡ []
    front_nil [] rest e = refl
    front_nil (x ∷ bytes) rest e = absurd (cc e)

    at : (fault : ToolFault) → UnlessWriter fault (text ≡ []) → UnlessWriter (counted n fault) (h.bytes ≡ [])
    at (faults.Writer written) p = tt
    at faults.Memory p = front_nil h.bytes h.rest (sym p ∙ h.split)
    at faults.Reader p = front_nil h.bytes h.rest (sym p ∙ h.split)
    at (faults.Refused other) p = front_nil h.bytes h.rest (sym p ∙ h.split)
    at (faults.Truncated records) p = front_nil h.bytes h.rest (sym p ∙ h.split)
    at faults.Output p = front_nil h.bytes h.rest (sym p ∙ h.split)
    at (faults.Limit limit) p = front_nil h.bytes h.rest (sym p ∙ h.split)

    by : (told : Result (Unit {0}) ToolFault) (result : Result Verdict ToolFault)
        → IfErr told (λ fault. UnlessWriter fault (text ≡ [])) → EndsRun found n told a b result
        → IfErr result (λ fault. UnlessWriter fault (h.bytes ≡ []))
    by (Ok u) (Ok verdict) p e = tt
    by (Ok u) (Err (faults.Writer written)) p e = tt
    by (Ok u) (Err faults.Reader) p e = absurd e
    by (Ok u) (Err faults.Memory) p e = absurd e
    by (Ok u) (Err (faults.Refused other)) p e = absurd e
    by (Ok u) (Err (faults.Truncated records)) p e = absurd e
    by (Ok u) (Err faults.Output) p e = absurd e
    by (Ok u) (Err (faults.Limit limit)) p e = absurd e
    by (Err fault) result p e =
        subst (λ (r : Result Verdict ToolFault). IfErr r (λ it. UnlessWriter it (h.bytes ≡ []))) (sym e.0) (at fault p)
