-- Texts that are added one after the other are added as one, and put as one.
use Rattle.std.proofs.Common.{◌≡◌, ℕ, zero, suc, ◌+◌, ◌≤◌, Bool, true, false, List, [], ◌∷◌, ◌++◌, length, take, Option, Some, None, refl, sym, ap, ap₂, subst}
use Rattle.std.proofs.Common.{true≢false, ◌∙◌, append_assoc, append-nil, arith}
use Rattle.std.specs.Borrow.{MutBor}
use Rattle.std.specs.Prelude.{Result, Ok, Err, IsErr, is_err, slice_get}
use Rattle.std.specs.List.{enumerate_from, flat_map}
use Rattle.std.proofs.lemmas.List.{take_all}
use Rattle.cwr_devices.specs.Format.Failures.{one_more_failure}
use Rattle.cwr_devices.specs.declared.pens.Pen.{Pen}
use Rattle.cwr_devices.specs.declared.sinks.Sink.{Sink}
use Rattle.cwr_devices.specs.declared.sinks.SinkFault.{SinkFault}
use Rattle.cwr_devices.specs.Steps.Pens.{Adds, HasTaken, PutsHeld, failures_after, held_of, sink_of}
use Rattle.cwr_devices.specs.Steps.Sinks.{CountsOn, HasWritten, Puts, PutsText, has_failed, writer_of}

-- ---- what calls add

-- the failures where the sink stayed
same_failures : (failed : Bool) (n : ℕ) → failed ≡ false → n ≡ failures_after failed n
same_failures failed n e = subst (λ (f : Bool). n ≡ failures_after f n) (sym e) refl

pub adds_nothing : {W : Type 0} {contents : W → Option (List ℕ)} {failures : W → ℕ} {pen : Pen W} → Adds contents failures [] pen pen
adds_nothing {contents = contents} {failures = failures} {pen = pen} = record {
  taken =
      λ start before h. subst (λ (l : List ℕ). HasTaken contents start l (sink_of pen) (held_of pen)) (sym (append-nil before)) h;
  again = λ e. refl;
  counts = λ unfailed. same_failures (has_failed (sink_of pen)) (failures (writer_of (sink_of pen))) unfailed;
  same_sink = refl;
}

pub adds_as : {W : Type 0} {contents : W → Option (List ℕ)} {failures : W → ℕ} {a b : List ℕ} {old new : Pen W} → a ≡ b
    → Adds contents failures a old new → Adds contents failures b old new
adds_as {contents = contents} {failures = failures} {old = old} {new = new} e h =
    subst (λ (l : List ℕ). Adds contents failures l old new) e h

pub adds_both : {W : Type 0} {contents : W → Option (List ℕ)} {failures : W → ℕ} {a b : List ℕ} {old mid new : Pen W}
    → Adds contents failures a old mid → Adds contents failures b mid new → Adds contents failures (a ++ b) old new
adds_both {W = W} {contents = contents} {failures = failures} {a = a} {b = b} {old = old} {mid = mid} {new = new} p q = record {
  taken =
      λ start before h. subst (λ (l : List ℕ). HasTaken contents start l (sink_of new) (held_of new)) (append_assoc before a b)
      (q.taken start (before ++ a) (p.taken start before h));
  again = λ e. q.again (subst (λ (s : Sink W). has_failed s ≡ true) (sym (p.again e)) e) ∙ p.again e;
  counts = λ unfailed. by (has_failed (sink_of mid)) refl (p.counts unfailed);
  same_sink = q.same_sink ∙ p.same_sink;
} where
  by : (f : Bool) → has_failed (sink_of mid) ≡ f
      → failures (writer_of (sink_of mid)) ≡ failures_after (has_failed (sink_of mid)) (failures (writer_of (sink_of old)))
      → failures (writer_of (sink_of new)) ≡ failures_after (has_failed (sink_of new)) (failures (writer_of (sink_of old)))
  by false e c =
      q.counts e ∙ ap (failures_after (has_failed (sink_of new))) (c ∙ ap (λ (f : Bool). failures_after f (failures (writer_of (sink_of old)))) e)
  by true e c =
      subst (λ (s : Sink W). failures (writer_of s) ≡ failures_after (has_failed s) (failures (writer_of (sink_of old)))) (sym (q.again e)) c

-- the same, the last first: so a search goes back from the end
pub adds_last : {W : Type 0} {contents : W → Option (List ℕ)} {failures : W → ℕ} {a b : List ℕ} {old mid new : Pen W}
    → Adds contents failures b mid new → Adds contents failures a old mid → Adds contents failures (a ++ b) old new
adds_last q p = adds_both p q

-- ---- a text for each of a list

with_next : {A : Type 0} (f : A → List ℕ) (xs : List A) (i : ℕ) (x : A) → Some x ≡ slice_get xs i
    → flat_map f (take i xs) ++ f x ≡ flat_map f (take (suc i) xs)
with_next f [] i x e = absurd (cc e)
with_next f (y ∷ xs) zero x e =
    let same : y ≡ x = cc e in
    ap f (sym same) ∙ sym (append-nil (f y))
with_next f (y ∷ xs) (suc i) x e =
    append_assoc (f y) (flat_map f (take i xs)) (f x) ∙ ap (λ (l : List ℕ). f y ++ l) (with_next f xs i x e)

suc_is : (i : ℕ) → suc i ≡ i + 1
suc_is i = omega arith

-- with the next one's
pub adds_next : {W A : Type 0} {contents : W → Option (List ℕ)} {failures : W → ℕ} {old mid new : Pen W} (f : A → List ℕ) (xs : List A)
    (i : ℕ) (x : A) → Some x ≡ slice_get xs i → Adds contents failures (flat_map f (take i xs)) old mid
    → Adds contents failures (f x) mid new → Adds contents failures (flat_map f (take (i + 1) xs)) old new
adds_next f xs i x e p q =
    adds_as (with_next f xs i x e ∙ ap (λ (n : ℕ). flat_map f (take n xs)) (suc_is i)) (adds_both p q)

none_within : {A : Type 0} (xs : List A) (i : ℕ) → None ≡ slice_get xs i → length xs ≤ i
none_within [] i e = omega arith
none_within (x ∷ xs) zero e = absurd (cc e)
none_within (x ∷ xs) (suc i) e = omega (arith, none_within xs i e)

-- with those of all
pub adds_all : {W A : Type 0} {contents : W → Option (List ℕ)} {failures : W → ℕ} {old new : Pen W} (f : A → List ℕ) (xs : List A)
    (i : ℕ) → None ≡ slice_get xs i → Adds contents failures (flat_map f (take i xs)) old new
    → Adds contents failures (flat_map f xs) old new
adds_all {A = A} f xs i e p = adds_as (ap (λ (l : List A). flat_map f l) (take_all i xs (none_within xs i e))) p

-- the elements of a list that is numbered on
pub numbered_there : {A : Type 0} (k i : ℕ) (xs : List A) (x : A) → Some x ≡ slice_get xs i
    → Some (k + i, x) ≡ slice_get (enumerate_from k xs) i
numbered_there k i [] x e = absurd (cc e)
numbered_there {A = A} k zero (y ∷ xs) x e =
    let same : x ≡ y = cc e in ap₂ (λ (n : ℕ) (z : A). Some (n, z)) (omega arith) same
numbered_there {A = A} k (suc i) (y ∷ xs) x e = ap (λ (n : ℕ). Some (n, x)) (omega arith) ∙ numbered_there (k + 1) i xs x e

pub numbered_none : {A : Type 0} (k i : ℕ) (xs : List A) → None ≡ slice_get xs i → None ≡ slice_get (enumerate_from k xs) i
numbered_none k i [] e = refl
numbered_none k zero (y ∷ xs) e = absurd (cc e)
numbered_none k (suc i) (y ∷ xs) e = numbered_none (k + 1) i xs e

-- ---- what is held

-- a text more is held
pub holds_more : {W : Type 0} (contents : W → Option (List ℕ)) (failures : W → ℕ) (text : List ℕ) (old new : Pen W)
    → new.sink ≡ old.sink → held_of new ≡ held_of old ++ text → Adds contents failures text old new
holds_more {W = W} contents failures text old new same more = record {
  taken = λ start before h. record {
    put = h.put;
    left = h.left ++ text;
    split = ap (λ (l : List ℕ). l ++ text) h.split ∙ append_assoc h.put h.left text;
    written = subst (λ (s : Sink W). HasWritten contents start h.put s) (sym same_sinks) h.written;
    holds = λ unfailed. ap (λ (l : List ℕ). l ++ text) (h.holds (ap has_failed (sym same_sinks) ∙ unfailed)) ∙ sym more;
  };
  again = λ e. same_sinks;
  counts = λ unfailed.
      subst (λ (s : Sink W). failures (writer_of s) ≡ failures_after (has_failed s) (failures (writer_of (sink_of old)))) (sym same_sinks)
      (same_failures (has_failed (sink_of old)) (failures (writer_of (sink_of old))) unfailed);
  same_sink = ap (λ (s : MutBor (Sink W)). s.ghost_name) same;
} where
  same_sinks : sink_of new ≡ sink_of old
  same_sinks = ap (λ (s : MutBor (Sink W)). s.now) same

-- ---- what is put

-- what a `put` says of a sink
pub record PutsOnce {W : Type 0} (contents : W → Option (List ℕ)) (failures : W → ℕ) (text : List ℕ)
    (result : Result (Unit {0}) SinkFault) (old new : Sink W) : Type 0 where
  pub written : (start : Option (List ℕ)) (before : List ℕ) → HasWritten contents start before old
      → HasWritten contents start (before ++ text) new
  pub failed : has_failed new ≡ is_err result
  pub counts : has_failed old ≡ false → CountsOn result (failures (writer_of old)) (failures (writer_of new))
  pub again : has_failed old ≡ true → IsErr result × (new ≡ old)

-- the failures after it
counted : {E : Type 0} (result : Result (Unit {0}) E) (failed : Bool) (old new : ℕ) → failed ≡ is_err result
    → CountsOn result old new → new ≡ failures_after failed old
counted (Ok u) failed old new e count = subst (λ (f : Bool). new ≡ failures_after f old) (sym e) count
counted (Err fault) failed old new e count = subst (λ (f : Bool). new ≡ failures_after f old) (sym e) count

-- what is held is put, and nothing is held any more
pub puts_held : {W : Type 0} (contents : W → Option (List ℕ)) (failures : W → ℕ) (held : List ℕ) (result : Result (Unit {0}) SinkFault)
    (old new : Sink W) → PutsOnce contents failures held result old new → (start : Option (List ℕ)) (text : List ℕ)
    → HasTaken contents start text old held → HasTaken contents start text new []
puts_held {W = W} contents failures held result old new p start text h = by (has_failed old) refl where
  by : (f : Bool) → has_failed old ≡ f → HasTaken contents start text new []
  by false e = record {
    put = h.put ++ held;
    left = [];
    split = h.split ∙ ap (λ (l : List ℕ). h.put ++ l) (h.holds e) ∙ sym (append-nil (h.put ++ held));
    written = p.written start h.put h.written;
    holds = λ unfailed. refl;
  }
  by true e =
      subst (λ (s : Sink W). HasTaken contents start text s []) (sym (p.again e).1)
      (record {
        put = h.put;
        left = h.left;
        split = h.split;
        written = h.written;
        holds = λ unfailed. absurd (true≢false (sym e ∙ unfailed));
      })

-- what is held and then a text more are put
pub puts_beyond : {W : Type 0} (contents : W → Option (List ℕ)) (failures : W → ℕ) (text : List ℕ) (first second : Result (Unit {0}) SinkFault)
    (old new : Pen W) (mid : Sink W) → held_of new ≡ [] → new.sink.ghost_name ≡ old.sink.ghost_name
    → PutsOnce contents failures (held_of old) first (sink_of old) mid → PutsOnce contents failures text second mid (sink_of new)
    → Adds contents failures text old new
puts_beyond {W = W} contents failures text first second old new mid none same p q = record {
  taken =
      λ start before h. subst (λ (l : List ℕ). HasTaken contents start (before ++ text) (sink_of new) l) (sym none)
      (puts_held contents failures text second mid (sink_of new) q start (before ++ text)
      (longer start before (puts_held contents failures (held_of old) first (sink_of old) mid p start before h)));
  again = λ e. let kept : mid ≡ sink_of old = (p.again e).1 in (q.again (ap has_failed kept ∙ e)).1 ∙ kept;
  counts = λ unfailed. by (has_failed mid) refl (counted first (has_failed mid) _ _ p.failed (p.counts unfailed));
  same_sink = same;
} where
  longer : (start : Option (List ℕ)) (before : List ℕ) → HasTaken contents start before mid []
      → HasTaken contents start (before ++ text) mid text
  longer start before h = record {
    put = h.put;
    left = h.left ++ text;
    split = ap (λ (l : List ℕ). l ++ text) h.split ∙ append_assoc h.put h.left text;
    written = h.written;
    holds = λ unfailed. ap (λ (l : List ℕ). l ++ text) (h.holds unfailed);
  }

  count_of : Sink W → ℕ
  count_of s = failures (writer_of s)

  by : (f : Bool) → has_failed mid ≡ f → count_of mid ≡ failures_after (has_failed mid) (count_of (sink_of old))
      → count_of (sink_of new) ≡ failures_after (has_failed (sink_of new)) (count_of (sink_of old))
  by false e c =
      counted second (has_failed (sink_of new)) (count_of mid) (count_of (sink_of new)) q.failed (q.counts e)
      ∙ ap (failures_after (has_failed (sink_of new))) (c ∙ ap (λ (f : Bool). failures_after f (count_of (sink_of old))) e)
  by true e c =
      subst (λ (s : Sink W). count_of s ≡ failures_after (has_failed s) (count_of (sink_of old))) (sym (q.again e).1) c

-- a sink whose writer failed has the first bytes of any longer text
longer_text : {W : Type 0} (contents : W → Option (List ℕ)) (start : Option (List ℕ)) (text more : List ℕ) (sink : Sink W)
    → has_failed sink ≡ true → HasWritten contents start text sink → HasWritten contents start (text ++ more) sink
longer_text contents start text more sink failed h = record {
  bytes = h.bytes;
  rest = h.rest ++ more;
  split = ap (λ (l : List ℕ). l ++ more) h.split ∙ append_assoc h.bytes h.rest more;
  appended = h.appended;
  counted = h.counted;
  whole = λ unfailed. absurd (true≢false (sym failed ∙ unfailed));
}

-- with what is held all that was added is put
pub all_put : {W : Type 0} (contents : W → Option (List ℕ)) (failures : W → ℕ) (held : List ℕ) (result : Result (Unit {0}) SinkFault)
    (old new : Sink W) → PutsOnce contents failures held result old new → (start : Option (List ℕ)) (text : List ℕ)
    → HasTaken contents start text old held → HasWritten contents start text new
all_put {W = W} contents failures held result old new p start text h = by (has_failed old) refl where
  by : (f : Bool) → has_failed old ≡ f → HasWritten contents start text new
  by false e =
      subst (λ (l : List ℕ). HasWritten contents start l new) (sym (h.split ∙ ap (λ (l : List ℕ). h.put ++ l) (h.holds e)))
      (p.written start h.put h.written)
  by true e =
      subst (λ (s : Sink W). HasWritten contents start text s) (sym (p.again e).1)
      (subst (λ (l : List ℕ). HasWritten contents start l old) (sym h.split) (longer_text contents start h.put h.left old e h.written))

-- what was added to a pen of that sink, which held nothing, is put
pub puts_added : {W : Type 0} {contents : W → Option (List ℕ)} {failures : W → ℕ} {text : List ℕ} {result : Result (Unit {0}) SinkFault}
    {fresh done : Pen W} {old new : Sink W} → sink_of fresh ≡ old → held_of fresh ≡ [] → Adds contents failures text fresh done
    → PutsHeld contents failures result (sink_of done) (held_of done) new → PutsText contents failures text result old new
puts_added {W = W} {contents = contents} {failures = failures} {text = text} {result = result} {fresh = fresh} {done = done} {old = old} {new = new}
    same none a p = record {
      written = λ start before h. p.written start (before ++ text) (a.taken start before (begun start before h));
      fault = p.fault;
      failed = p.failed;
      failures_counted = λ unfailed. by_failed (has_failed (sink_of done)) refl unfailed;
      again = λ failed.
          let kept : sink_of done ≡ old = a.again (ap has_failed same ∙ failed) ∙ same in
          p.again (ap has_failed kept ∙ failed) ∙ kept;
    }
  where
    begun : (start : Option (List ℕ)) (before : List ℕ) → HasWritten contents start before old
        → HasTaken contents start before (sink_of fresh) (held_of fresh)
    begun start before h = record {
      put = before;
      left = [];
      split = sym (append-nil before);
      written = subst (λ (s : Sink W). HasWritten contents start before s) (sym same) h;
      holds = λ unfailed. sym none;
    }

    count_of : Sink W → ℕ
    count_of s = failures (writer_of s)

    counted_so : has_failed old ≡ false → count_of (sink_of done) ≡ failures_after (has_failed (sink_of done)) (count_of old)
    counted_so unfailed =
        subst (λ (s : Sink W). count_of (sink_of done) ≡ failures_after (has_failed (sink_of done)) (count_of s)) same
        (a.counts (ap has_failed same ∙ unfailed))

    is_fault : (r : Result (Unit {0}) SinkFault) → true ≡ is_err r → count_of (sink_of done) ≡ one_more_failure (count_of old)
        → CountsOn r (count_of old) (count_of (sink_of done))
    is_fault (Ok u) e c = absurd (true≢false e)
    is_fault (Err fault) e c = c

    by_failed : (f : Bool) → has_failed (sink_of done) ≡ f → has_failed old ≡ false
        → CountsOn result (count_of old) (count_of new)
    by_failed false e unfailed =
        subst (λ (n : ℕ). CountsOn result n (count_of new))
        (counted_so unfailed ∙ ap (λ (f : Bool). failures_after f (count_of old)) e) (p.counts e)
    by_failed true e unfailed =
        subst (λ (s : Sink W). CountsOn result (count_of old) (count_of s)) (sym (p.again e))
        (is_fault result (sym e ∙ ap has_failed (sym (p.again e)) ∙ p.failed)
        (counted_so unfailed ∙ ap (λ (f : Bool). failures_after f (count_of old)) e))

-- a text that is put to a sink that hasn't failed
pub puts_unfailed : {W : Type 0} {contents : W → Option (List ℕ)} {failures : W → ℕ} {text : List ℕ} {result : Result (Unit {0}) SinkFault}
    {old new : Sink W} → has_failed old ≡ false → PutsText contents failures text result old new
    → Puts contents failures text result old new
puts_unfailed unfailed p = record { written = p.written; failed = p.failed; counts = p.failures_counted unfailed }

-- what puts a text puts an equal one
pub puts_same : {W : Type 0} {contents : W → Option (List ℕ)} {failures : W → ℕ} {text same : List ℕ} {result : Result (Unit {0}) SinkFault}
    {old new : Sink W} → text ≡ same → PutsText contents failures text result old new → PutsText contents failures same result old new
puts_same {contents = contents} {failures = failures} {result = result} {old = old} {new = new} e h =
    subst (λ (l : List ℕ). PutsText contents failures l result old new) e h
