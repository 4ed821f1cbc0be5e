-- What is added and put in turn, where memory can be refused too.
use Rattle.std.proofs.Common.{◌≡◌, ℕ, zero, suc, ◌+◌, ◌≤◌, List, [], ◌∷◌, ◌++◌, length, take, drop, Option, Some, refl}
use Rattle.std.proofs.Common.{false, true, true≢false, sym, ap, ap₂, subst, ◌∙◌, arith, append_assoc, append-nil}
use Rattle.std.specs.Prelude.{slice_get, Result, Ok, Err}
use Rattle.std.specs.Result.{IsErrAnd}
use Rattle.std.proofs.lemmas.List.{take_all}
use Rattle.cwr_devices.specs.declared.pens.Pen.{Pen}
use Rattle.cwr_devices.specs.declared.sinks.Sink.{Sink}
use Rattle.cwr_devices.specs.declared.sinks.SinkFault.{SinkFault}
use Rattle.cwr_devices.specs.Steps.Pens.{Adds}
use Rattle.cwr_devices.specs.Steps.Sinks.{HasWritten, PutsText, has_failed}
use Rattle.cwr_devices.proofs.lemmas.Adding.{adds_as, adds_both}
use Rattle.cwr_tools.proofs.lemmas.ReportSteps.{put_both}
use Rattle.cwr_state_rows.specs.declared.faults.RowFault.{RowFault}
use Rattle.cwr_state_rows.specs.declared.faults.RowFault.TheVariants.{Memory, Writer}
use Rattle.cwr_state_rows.specs.Steps.HeldRows.{numbered}
use Rattle.cwr_state_rows.specs.Steps.PutRows.{AddsPart, AddsRows, PutsRows, put_so}

-- ---- things that are numbered on

snoc : {A : Type 0} (f : ℕ → A → List ℕ) (k : ℕ) (xs : List A) (i : ℕ) (x : A) → Some x ≡ slice_get xs i
    → numbered f k (take (suc i) xs) ≡ numbered f k (take i xs) ++ f (k + i) x
snoc f k [] i x e = absurd (cc e)
snoc {A = A} f k (y ∷ xs) zero x e =
    let same : y ≡ x = cc e in
    append-nil (f k y) ∙ ap₂ (λ (n : ℕ) (z : A). f n z) (omega arith) same
snoc f k (y ∷ xs) (suc i) x e =
    ap (λ (l : List ℕ). f k y ++ l)
    (snoc f (k + 1) xs i x e ∙ ap (λ (n : ℕ). numbered f (k + 1) (take i xs) ++ f n x) (omega arith))
    ∙ sym (append_assoc (f k y) (numbered f (k + 1) (take i xs)) (f (k + suc i) x))

parts : {A : Type 0} (f : ℕ → A → List ℕ) (k n : ℕ) (xs : List A)
    → numbered f k xs ≡ numbered f k (take n xs) ++ numbered f (k + n) (drop n xs)
parts f k zero xs = ap (λ (m : ℕ). numbered f m xs) (omega arith)
parts f k (suc n) [] = refl
parts f k (suc n) (x ∷ xs) =
    ap (λ (l : List ℕ). f k x ++ l)
    (parts f (k + 1) n xs ∙ ap (λ (m : ℕ). numbered f (k + 1) (take n xs) ++ numbered f m (drop n xs)) (omega arith))
    ∙ sym (append_assoc (f k x) (numbered f (k + 1) (take n xs)) (numbered f (k + suc n) (drop n xs)))

suc_is : (i : ℕ) → suc i ≡ i + 1
suc_is i = omega arith

one_more : {A : Type 0} (f : ℕ → A → List ℕ) (k i n : ℕ) (xs : List A) (x : A) → Some x ≡ slice_get xs i → n ≡ k + i
    → numbered f k (take i xs) ++ f n x ≡ numbered f k (take (i + 1) xs)
one_more f k i n xs x e number =
    ap (λ (m : ℕ). numbered f k (take i xs) ++ f m x) number ∙ sym (snoc f k xs i x e)
    ∙ ap (λ (m : ℕ). numbered f k (take m xs)) (suc_is i)

-- with one more of them
pub rows_more : {W A : Type 0} {contents : W → Option (List ℕ)} {failures : W → ℕ} {old mid new : Pen W} (f : ℕ → A → List ℕ)
    (k i n : ℕ) (xs : List A) (x : A) → Some x ≡ slice_get xs i → n ≡ k + i
    → Adds contents failures (numbered f k (take i xs)) old mid → Adds contents failures (f n x) mid new
    → Adds contents failures (numbered f k (take (i + 1) xs)) old new
rows_more f k i n xs x e number p q = adds_as (one_more f k i n xs x e number) (adds_both p q)

-- all of them
pub rows_whole : {W A : Type 0} {contents : W → Option (List ℕ)} {failures : W → ℕ} {old new : Pen W} (f : ℕ → A → List ℕ)
    (k i : ℕ) (xs : List A) → length xs ≤ i → Adds contents failures (numbered f k (take i xs)) old new
    → Adds contents failures (numbered f k xs) old new
rows_whole {A = A} f k i xs h p = adds_as (ap (λ (l : List A). numbered f k l) (take_all i xs h)) p

-- those after one more
all_after : {A : Type 0} (f : ℕ → A → List ℕ) (k i n : ℕ) (xs : List A) (x : A) → Some x ≡ slice_get xs i → n ≡ k + i
    → (numbered f k (take i xs) ++ f n x) ++ numbered f (k + (i + 1)) (drop (i + 1) xs) ≡ numbered f k xs
all_after f k i n xs x e number =
    ap (λ (l : List ℕ). l ++ numbered f (k + (i + 1)) (drop (i + 1) xs)) (one_more f k i n xs x e number)
    ∙ sym (parts f k (i + 1) xs)

-- memory was refused for them
pub rows_refused : {W E : Type 0} (contents : W → Option (List ℕ)) (failures : W → ℕ) (text : List ℕ) (result : Result (Unit {0}) E)
    (fault : E) (old new : Pen W) → IsErrAnd result (λ e. e ≡ fault) → AddsPart contents failures text old new
    → AddsRows contents failures text result old new
rows_refused contents failures text (Ok u) fault old new is p = absurd is
rows_refused contents failures text (Err e) fault old new is p = p

-- in the one after these
pub rows_stopped : {W A : Type 0} (contents : W → Option (List ℕ)) (failures : W → ℕ) (f : ℕ → A → List ℕ) (k i n : ℕ) (xs : List A)
    (x : A) (old mid new : Pen W) → Some x ≡ slice_get xs i → n ≡ k + i
    → Adds contents failures (numbered f k (take i xs)) old mid → AddsPart contents failures (f n x) mid new
    → AddsPart contents failures (numbered f k xs) old new
rows_stopped contents failures f k i n xs x old mid new e number p q =
    let front = numbered f k (take i xs) in
    let left = numbered f (k + (i + 1)) (drop (i + 1) xs) in
    record {
      part = front ++ q.part;
      rest = q.rest ++ left;
      split =
          sym (all_after f k i n xs x e number)
          ∙ ap (λ (l : List ℕ). (front ++ l) ++ left) q.split
          ∙ ap (λ (l : List ℕ). l ++ left) (sym (append_assoc front q.part q.rest))
          ∙ append_assoc (front ++ q.part) q.rest left;
      adds = adds_both p q.adds;
    }

-- ---- what is put

-- a sink whose writer failed has the first bytes of any longer text
longer_text : {W : Type 0} (contents : W → Option (List ℕ)) (start : Option (List ℕ)) (text more : List ℕ) (sink : Sink W)
    → has_failed sink ≡ true → HasWritten contents start text sink → HasWritten contents start (text ++ more) sink
longer_text contents start text more sink failed h = record {
  bytes = h.bytes;
  rest = h.rest ++ more;
  split = ap (λ (l : List ℕ). l ++ more) h.split ∙ append_assoc h.bytes h.rest more;
  appended = h.appended;
  counted = h.counted;
  whole = λ unfailed. absurd (true≢false (sym failed ∙ unfailed));
}

-- where the writer failed it did in any longer text
longer_put : {W : Type 0} (contents : W → Option (List ℕ)) (failures : W → ℕ) (text more : List ℕ) (fault : SinkFault)
    (old new : Sink W) → PutsText contents failures text (Err fault) old new → PutsText contents failures (text ++ more) (Err fault) old new
longer_put contents failures text more fault old new p = record {
  written =
      λ start before h. subst (λ (l : List ℕ). HasWritten contents start l new) (append_assoc before text more)
      (longer_text contents start (before ++ text) more new p.failed (p.written start before h));
  fault = p.fault;
  failed = p.failed;
  failures_counted = p.failures_counted;
  again = p.again;
}

-- what was added is put
pub rows_put : {W E : Type 0} (contents : W → Option (List ℕ)) (failures : W → ℕ) (text : List ℕ) (put : Result (Unit {0}) SinkFault)
    (added : Result (Unit {0}) E) (result : Result (Unit {0}) RowFault) (fresh done : Pen W) (old new : Sink W)
    → result ≡ put_so put added → AddsRows contents failures text added fresh done
    → ((it : List ℕ) → Adds contents failures it fresh done → PutsText contents failures it put old new)
    → PutsRows contents failures text result old new
rows_put {E = E} contents failures text put added result fresh done old new e a puts =
    subst (λ (r : Result (Unit {0}) RowFault). PutsRows contents failures text r old new) (sym e) (by put added a puts)
  where
    by : (r : Result (Unit {0}) SinkFault) (t : Result (Unit {0}) E) → AddsRows contents failures text t fresh done
        → ((it : List ℕ) → Adds contents failures it fresh done → PutsText contents failures it r old new)
        → PutsRows contents failures text (put_so r t) old new
    by (Ok u) (Ok v) a puts = puts text a
    by (Ok u) (Err fault) a puts = record { part = a.part; rest = a.rest; split = a.split; puts = puts a.part a.adds }
    by (Err fault) (Ok v) a puts = puts text a
    by (Err fault) (Err refused) a puts =
        subst (λ (l : List ℕ). PutsText contents failures l (Err fault) old new) (sym a.split)
        (longer_put contents failures a.part a.rest fault old new (puts a.part a.adds))

-- the same text
pub rows_as : {W : Type 0} (contents : W → Option (List ℕ)) (failures : W → ℕ) (text other : List ℕ) (old new : Sink W)
    (result : Result (Unit {0}) RowFault) → text ≡ other
    → PutsRows contents failures text result old new → PutsRows contents failures other result old new
rows_as contents failures text other old new result e p = subst (λ (l : List ℕ). PutsRows contents failures l result old new) e p

-- after what stands before them, one more of those that are put in turn
pub put_more : {W A : Type 0} (contents : W → Option (List ℕ)) (failures : W → ℕ) (head : List ℕ) (f : ℕ → A → List ℕ) (k i n : ℕ)
    (xs : List A) (x : A) (old mid new : Sink W) → Some x ≡ slice_get xs i → n ≡ k + i
    → PutsText contents failures (head ++ numbered f k (take i xs)) (Ok tt) old mid → PutsText contents failures (f n x) (Ok tt) mid new
    → PutsText contents failures (head ++ numbered f k (take (i + 1) xs)) (Ok tt) old new
put_more contents failures head f k i n xs x old mid new e number p q =
    subst (λ (l : List ℕ). PutsText contents failures l (Ok tt) old new)
    (append_assoc head (numbered f k (take i xs)) (f n x) ∙ ap (λ (l : List ℕ). head ++ l) (one_more f k i n xs x e number))
    (put_both contents failures (head ++ numbered f k (take i xs)) (f n x) (Ok tt) old mid new p q)

-- the fault is that of a call
put_fault : {W : Type 0} (contents : W → Option (List ℕ)) (failures : W → ℕ) (text : List ℕ) (result : Result (Unit {0}) RowFault)
    (fault : RowFault) (old new : Sink W) → IsErrAnd result (λ e. e ≡ fault) → PutsRows contents failures text (Err fault) old new
    → PutsRows contents failures text result old new
put_fault contents failures text (Ok u) fault old new is p = absurd is
put_fault contents failures text (Err e) fault old new is p =
    subst (λ (f : RowFault). PutsRows contents failures text (Err f) old new) (sym is) p

-- it came in the second of two texts
then_stopped : {W : Type 0} (contents : W → Option (List ℕ)) (failures : W → ℕ) (front more left whole : List ℕ) (fault : RowFault)
    (old mid new : Sink W) → (front ++ more) ++ left ≡ whole → PutsText contents failures front (Ok tt) old mid
    → PutsRows contents failures more (Err fault) mid new → PutsRows contents failures whole (Err fault) old new
then_stopped contents failures front more left whole (Writer f) old mid new e p q =
    subst (λ (l : List ℕ). PutsText contents failures l (Err f) old new) e
    (longer_put contents failures (front ++ more) left f old new (put_both contents failures front more (Err f) old mid new p q))
then_stopped contents failures front more left whole Memory old mid new e p q = record {
  part = front ++ q.part;
  rest = q.rest ++ left;
  split =
      sym e ∙ ap (λ (l : List ℕ). (front ++ l) ++ left) q.split
      ∙ ap (λ (l : List ℕ). l ++ left) (sym (append_assoc front q.part q.rest))
      ∙ append_assoc (front ++ q.part) q.rest left;
  puts = put_both contents failures front q.part (Ok tt) old mid new p q.puts;
}

pub put_stopped : {W A : Type 0} (contents : W → Option (List ℕ)) (failures : W → ℕ) (head : List ℕ) (f : ℕ → A → List ℕ) (k i n : ℕ)
    (xs : List A) (x : A) (result : Result (Unit {0}) RowFault) (fault : RowFault) (old mid new : Sink W)
    → IsErrAnd result (λ e. e ≡ fault) → Some x ≡ slice_get xs i → n ≡ k + i
    → PutsText contents failures (head ++ numbered f k (take i xs)) (Ok tt) old mid
    → PutsRows contents failures (f n x) (Err fault) mid new → PutsRows contents failures (head ++ numbered f k xs) result old new
put_stopped contents failures head f k i n xs x result fault old mid new is e number p q =
    let front = numbered f k (take i xs) in
    let left = numbered f (k + (i + 1)) (drop (i + 1) xs) in
    put_fault contents failures (head ++ numbered f k xs) result fault old new is
    (then_stopped contents failures (head ++ front) (f n x) left (head ++ numbered f k xs) fault old mid new
    (ap (λ (l : List ℕ). l ++ left) (append_assoc head front (f n x)) ∙ append_assoc head (front ++ f n x) left
    ∙ ap (λ (l : List ℕ). head ++ l) (all_after f k i n xs x e number)) p q)

-- it came in what stands before them
pub head_stopped : {W : Type 0} (contents : W → Option (List ℕ)) (failures : W → ℕ) (head more : List ℕ)
    (result : Result (Unit {0}) RowFault) (fault : RowFault) (old new : Sink W) → IsErrAnd result (λ e. e ≡ fault)
    → PutsRows contents failures head (Err fault) old new → PutsRows contents failures (head ++ more) result old new
head_stopped {W = W} contents failures head more result fault old new is p =
    put_fault contents failures (head ++ more) result fault old new is (by fault p)
  where
    by : (f : RowFault) → PutsRows contents failures head (Err f) old new → PutsRows contents failures (head ++ more) (Err f) old new
    by (Writer f) p = longer_put contents failures head more f old new p
    by Memory p = record {
      part = p.part;
      rest = p.rest ++ more;
      split = ap (λ (l : List ℕ). l ++ more) p.split ∙ append_assoc p.part p.rest more;
      puts = p.puts;
    }
