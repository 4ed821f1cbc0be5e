-- Texts that are put one after another.
use Rattle.std.proofs.Common.{◌≡◌, ℕ, true, List, [], ◌++◌, Option, refl, sym, ap, subst, ◌∙◌, inl, inr, append_assoc, append-nil}
use Rattle.std.specs.Prelude.{Bool, Result, Ok, Err, IfErr, IfOk, OnOk}
use Rattle.cwr_devices.specs.declared.pens.Pen.{Pen}
use Rattle.cwr_devices.specs.declared.sinks.Sink.{Sink}
use Rattle.cwr_devices.specs.declared.sinks.SinkFault.{SinkFault}
use Rattle.cwr_devices.specs.Steps.Pens.{Adds}
use Rattle.cwr_devices.specs.Steps.Sinks.{HasWritten, PutsText, has_failed, writer_of}
use Rattle.cwr_devices.proofs.lemmas.Adding.{adds_as, adds_nothing}
use Rattle.cwr_tools.specs.declared.verdicts.ToolFault.{ToolFault}
use Rattle.cwr_tools.specs.declared.verdicts.ToolFault.TheVariants as faults
use Rattle.cwr_tools.specs.Steps.Reports.{AddsLines, tool_result}
use Rattle.cwr_lint.specs.Steps.CutShort.{IsNoneOr, UnlessWriter}
use Rattle.cwr_lint.specs.Steps.Puts.{CountsPut, PutsAfter, PutsWith, told_so}

-- nothing is put
pub none_put : {W A : Type 0} (contents : W → Option (List ℕ)) (failures : W → ℕ) (x : A) (sink : Sink W)
    → PutsAfter contents failures [] (Ok x) sink sink
none_put contents failures x sink = record {
  written = λ start before h. subst (λ (l : List ℕ). HasWritten contents start l sink) (sym (append-nil before)) h;
  unfailed = λ unfailed. unfailed;
  counts = λ unfailed. refl;
  again = λ failed. refl;
}

-- one text after another
pub put_both : {W A B : Type 0} (contents : W → Option (List ℕ)) (failures : W → ℕ) (x : A) (result : Result B ToolFault)
    (text more : List ℕ) (old mid new : Sink W)
    → PutsAfter contents failures text (Ok x) old mid → PutsAfter contents failures more result mid new
    → PutsAfter contents failures (text ++ more) result old new
put_both contents failures x result text more old mid new p q = record {
  written =
      λ start before h. subst (λ (l : List ℕ). HasWritten contents start l new) (append_assoc before text more)
      (q.written start (before ++ text) (p.written start before h));
  unfailed = λ unfailed. q.unfailed (p.unfailed unfailed);
  counts =
      λ unfailed. subst (λ (n : ℕ). CountsPut result n (failures (writer_of new))) (p.counts unfailed)
      (q.counts (p.unfailed unfailed));
  again = λ failed. q.again (ap has_failed (p.again failed) ∙ failed) ∙ p.again failed;
}

-- the same, with another answer
pub put_ok : {W A B : Type 0} (contents : W → Option (List ℕ)) (failures : W → ℕ) (x : A) (y : B) (text : List ℕ)
    (old new : Sink W) → PutsAfter contents failures text (Ok x) old new → PutsAfter contents failures text (Ok y) old new
put_ok contents failures x y text old new p =
    record { written = p.written; unfailed = p.unfailed; counts = p.counts; again = p.again }

-- the same fault
err_counts : (A B : Type 0) (fault : ToolFault) (old new : ℕ) → CountsPut {A = A} (Err fault) old new
    → CountsPut {A = B} (Err fault) old new
err_counts A B (faults.Writer written) old new h = h
err_counts A B faults.Memory old new h = h
err_counts A B faults.Reader old new h = absurd h
err_counts A B (faults.Refused refusal) old new h = absurd h
err_counts A B (faults.Truncated records) old new h = absurd h
err_counts A B faults.Output old new h = absurd h
err_counts A B (faults.Limit limit) old new h = absurd h

pub put_err : {W A B : Type 0} (contents : W → Option (List ℕ)) (failures : W → ℕ) (fault : ToolFault) (text : List ℕ)
    (old new : Sink W) → PutsAfter {A = A} contents failures text (Err fault) old new → PutsAfter {A = B} contents failures text
    (Err fault) old new
put_err {A = A} {B = B} contents failures fault text old new p =
    record { written = p.written; unfailed = λ unfailed. tt; counts = λ unfailed. err_counts A B fault _ _ (p.counts unfailed); again = p.again }

-- where something is so, it is so of what is answered
pub always : {A E : Type 0} (result : Result A E) (P : Type 0) → P → OnOk result P
always (Ok x) P p = p
always (Err e) P p = tt

pub if_ok : {A E : Type 0} (result : Result A E) (P : Type 0) → P → IfOk result (λ x. P)
if_ok (Ok x) P p = p
if_ok (Err e) P p = tt

-- what was answered of a text that was put
pub text_puts : {W : Type 0} (contents : W → Option (List ℕ)) (failures : W → ℕ) (text : List ℕ)
    (put : Result (Unit {0}) SinkFault) (told : Result (Unit {0}) ToolFault) (old new : Sink W) → told ≡ tool_result put
    → PutsText contents failures text put old new → PutsAfter contents failures text told old new
text_puts contents failures text put told old new e p =
    subst (λ (r : Result (Unit {0}) ToolFault). PutsAfter contents failures text r old new) (sym e) (by put p)
  where
    by : (r : Result (Unit {0}) SinkFault) → PutsText contents failures text r old new
        → PutsAfter contents failures text (tool_result r) old new
    by (Ok u) p = record { written = p.written; unfailed = λ unfailed. p.failed; counts = p.failures_counted; again = p.again }
    by (Err fault) p = record { written = p.written; unfailed = λ unfailed. tt; counts = p.failures_counted; again = p.again }

-- the same where memory was refused for more of it
pub such_puts : {W E : Type 0} (P : List ℕ → Type 0) (contents : W → Option (List ℕ)) (failures : W → ℕ) (text : List ℕ)
    (put : Result (Unit {0}) SinkFault) (told : Result (Unit {0}) E) (result : Result (Unit {0}) ToolFault) (old new : Sink W)
    → result ≡ told_so put told → OnOk told (P text) → PutsText contents failures text put old new
    → PutsWith (λ (u : Unit {0}). P) contents failures result old new
such_puts {E = E} P contents failures text put told result old new e is p =
    subst (λ (r : Result (Unit {0}) ToolFault). PutsWith (λ (u : Unit {0}). P) contents failures r old new) (sym e) (by put told is p)
  where
    by : (r : Result (Unit {0}) SinkFault) (t : Result (Unit {0}) E) → OnOk t (P text) → PutsText contents failures text r old new
        → PutsWith (λ (u : Unit {0}). P) contents failures (told_so r t) old new
    by (Ok u) (Ok v) is p = (
      text,
      record { written = p.written; unfailed = λ unfailed. p.failed; counts = p.failures_counted; again = p.again },
      is,
    )
    by (Ok u) (Err fault) is p = (
      text,
      record { written = p.written; unfailed = λ unfailed. tt; counts = p.failures_counted; again = p.again },
      tt,
    )
    by (Err fault) t is p = (
      text,
      record { written = p.written; unfailed = λ unfailed. tt; counts = p.failures_counted; again = p.again },
      tt,
    )

-- the lines are these, and memory may be refused for them
pub lines_as : {W E : Type 0} (contents : W → Option (List ℕ)) (failures : W → ℕ) (takes_memory : Bool) (text wanted : List ℕ)
    (told : Result (Unit {0}) E) (old new : Pen W) → text ≡ wanted → AddsLines contents failures takes_memory text told old new
    → AddsLines contents failures true wanted told old new
lines_as contents failures takes_memory text wanted (Ok u) old new e a = adds_as e a
lines_as contents failures takes_memory text wanted (Err fault) old new e a = (refl, a.1)

-- lines that were added, or none
pub lines_such : {W E : Type 0} (contents : W → Option (List ℕ)) (failures : W → ℕ) (whole : List ℕ) (told : Result (Unit {0}) E)
    (old new : Pen W) → AddsLines contents failures true whole told old new
    → (text : List ℕ) × Adds contents failures text old new × OnOk told (text ≡ whole) × IsNoneOr whole text
lines_such {W = W} contents failures whole (Ok u) old new a = (whole, a, refl, inr refl)
lines_such {W = W} contents failures whole (Err fault) old new a =
    ([], subst (λ (p : Pen W). Adds contents failures [] old p) (sym a.1) adds_nothing, tt, inl refl)

-- a call that only the writer fails leaves nothing before another fault
pub none_unless : (put : Result (Unit {0}) SinkFault) (result : Result (Unit {0}) ToolFault) (P : Type 0) → result ≡ tool_result put
    → IfErr result (λ fault. UnlessWriter fault P)
none_unless (Ok u) result P e =
    subst (λ (r : Result (Unit {0}) ToolFault). IfErr r (λ fault. UnlessWriter fault P)) (sym e) tt
none_unless (Err fault) result P e =
    subst (λ (r : Result (Unit {0}) ToolFault). IfErr r (λ f. UnlessWriter f P)) (sym e) tt
