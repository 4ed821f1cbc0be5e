-- What is put, one after another, of things that are numbered on.
use Rattle.std.proofs.Common.{◌≡◌, ℕ, zero, suc, ◌+◌, true, true≢false, List, [], ◌∷◌, ◌++◌, take, drop, Option, Some, None, refl}
use Rattle.std.proofs.Common.{sym, ap, ap₂, subst, ◌∙◌, arith, append_assoc, append-nil}
use Rattle.std.specs.Prelude.{slice_get, Result, Ok, Err, IsErr}
use Rattle.std.specs.List.{AllByRecursion, flat_map, enumerate_from}
use Rattle.std.proofs.lemmas.List.{take_all}
use Rattle.cwr_devices.specs.Format.Failures.{one_more_failure}
use Rattle.cwr_devices.specs.declared.sinks.Sink.{Sink}
use Rattle.cwr_devices.specs.Steps.Sinks.{writer_of, has_failed, HasWritten, Puts, CountsOn}
use Rattle.cwr_encode.proofs.lemmas.PutRows.{none_within, written_longer}

-- the texts of things that are numbered from k on
abbrev pub numbered : {A : Type 0} → (ℕ → A → List ℕ) → ℕ → List A → List ℕ
numbered f k xs = flat_map (λ p. f p.0 p.1) (enumerate_from k xs)

numbered-snoc : {A : Type 0} (f : ℕ → A → List ℕ) (k : ℕ) (xs : List A) (i : ℕ) (x : A) → Some x ≡ slice_get xs i
    → numbered f k (take (suc i) xs) ≡ numbered f k (take i xs) ++ f (k + i) x
numbered-snoc f k [] i x e = absurd (cc e)
numbered-snoc {A = A} f k (y ∷ xs) zero x e =
    let same : y ≡ x = cc e in
    append-nil (f k y) ∙ ap₂ (λ (n : ℕ) (z : A). f n z) (omega arith) same
numbered-snoc f k (y ∷ xs) (suc i) x e =
    ap (λ (l : List ℕ). f k y ++ l)
    (numbered-snoc f (k + 1) xs i x e ∙ ap (λ (n : ℕ). numbered f (k + 1) (take i xs) ++ f n x) (omega arith))
    ∙ sym (append_assoc (f k y) (numbered f (k + 1) (take i xs)) (f (k + suc i) x))

numbered-split : {A : Type 0} (f : ℕ → A → List ℕ) (k n : ℕ) (xs : List A)
    → numbered f k xs ≡ numbered f k (take n xs) ++ numbered f (k + n) (drop n xs)
numbered-split f k zero xs = ap (λ (m : ℕ). numbered f m xs) (omega arith)
numbered-split f k (suc n) [] = refl
numbered-split f k (suc n) (x ∷ xs) =
    ap (λ (l : List ℕ). f k x ++ l)
    (numbered-split f (k + 1) n xs ∙ ap (λ (m : ℕ). numbered f (k + 1) (take n xs) ++ numbered f m (drop n xs)) (omega arith))
    ∙ sym (append_assoc (f k x) (numbered f (k + 1) (take n xs)) (numbered f (k + suc n) (drop n xs)))

pub found_has : {A : Type 0} (P : A → Type 0) (xs : List A) (i : ℕ) (x : A) → AllByRecursion P xs → Some x ≡ slice_get xs i → P x
found_has P [] i x h e = absurd (cc e)
found_has P (y ∷ xs) zero x h e = let same : y ≡ x = cc e in subst P same h.0
found_has P (y ∷ xs) (suc i) x h e = found_has P xs i x h.1 e

suc_is : (i : ℕ) → suc i ≡ i + 1
suc_is i = omega arith

-- with one more of them
pub step_more : {W A : Type 0} (contents : W → Option (List ℕ)) (start : Option (List ℕ)) (before : List ℕ) (f : ℕ → A → List ℕ)
    (k i n : ℕ) (xs : List A) (x : A) (new : Sink W) → Some x ≡ slice_get xs i → n ≡ k + i
    → HasWritten contents start ((before ++ numbered f k (take i xs)) ++ f n x) new
    → HasWritten contents start (before ++ numbered f k (take (i + 1) xs)) new
step_more contents start before f k i n xs x new e number h =
    let one : numbered f k (take (suc i) xs) ≡ numbered f k (take i xs) ++ f n x
    = numbered-snoc f k xs i x e ∙ ap (λ (m : ℕ). numbered f k (take i xs) ++ f m x) (sym number) in
    let same : (before ++ numbered f k (take i xs)) ++ f n x ≡ before ++ numbered f k (take (i + 1) xs)
    = append_assoc before (numbered f k (take i xs)) (f n x)
    ∙ ap (λ (l : List ℕ). before ++ l) (sym one ∙ ap (λ (m : ℕ). numbered f k (take m xs)) (suc_is i)) in
    subst (λ (l : List ℕ). HasWritten contents start l new) same h

-- and once the writer failed there, with all of them
step_failed : {W A : Type 0} (contents : W → Option (List ℕ)) (start : Option (List ℕ)) (before : List ℕ) (f : ℕ → A → List ℕ)
    (k i n : ℕ) (xs : List A) (x : A) (new : Sink W) → Some x ≡ slice_get xs i → n ≡ k + i → has_failed new ≡ true
    → HasWritten contents start ((before ++ numbered f k (take i xs)) ++ f n x) new
    → HasWritten contents start (before ++ numbered f k xs) new
step_failed contents start before f k i n xs x new e number failed h =
    let longer =
    written_longer contents start (before ++ numbered f k (take (i + 1) xs)) (numbered f (k + (i + 1)) (drop (i + 1) xs)) new
    failed (step_more contents start before f k i n xs x new e number h) in
    subst (λ (l : List ℕ). HasWritten contents start l new)
    (append_assoc before (numbered f k (take (i + 1) xs)) (numbered f (k + (i + 1)) (drop (i + 1) xs))
    ∙ ap (λ (l : List ℕ). before ++ l) (sym (numbered-split f k (i + 1) xs))) longer

pub steps_whole : {W A : Type 0} (contents : W → Option (List ℕ)) (start : Option (List ℕ)) (before : List ℕ) (f : ℕ → A → List ℕ)
    (k i : ℕ) (xs : List A) (new : Sink W) → None ≡ slice_get xs i
    → HasWritten contents start (before ++ numbered f k (take i xs)) new
    → HasWritten contents start (before ++ numbered f k xs) new
steps_whole {A = A} contents start before f k i xs new e h =
    subst (λ (l : List A). HasWritten contents start (before ++ numbered f k l) new) (take_all i xs (none_within xs i e)) h

pub steps_refused : {W A E : Type 0} (contents : W → Option (List ℕ)) (failures : W → ℕ) (f : ℕ → A → List ℕ) (k i n : ℕ)
    (xs : List A) (x : A) (old mid new : Sink W) (fault : E) (result : Result (Unit {0}) E)
    → Some x ≡ slice_get xs i → n ≡ k + i → IsErr result → failures (writer_of mid) ≡ failures (writer_of old)
    → ((start : Option (List ℕ)) (before : List ℕ) → HasWritten contents start before old
    → HasWritten contents start (before ++ numbered f k (take i xs)) mid)
    → Puts contents failures (f n x) (Err fault) mid new → Puts contents failures (numbered f k xs) result old new
steps_refused contents failures f k i n xs x old mid new fault (Ok u) e number failed same so_far p =
    absurd (true≢false (sym failed))
steps_refused contents failures f k i n xs x old mid new fault (Err g) e number failed same so_far p = record {
  written =
      λ start before h. step_failed contents start before f k i n xs x new e number p.failed
      (p.written start _ (so_far start before h));
  failed = p.failed;
  counts = p.counts ∙ ap one_more_failure same;
}

-- ---- one text after another

-- both are put
pub puts_both : {W E : Type 0} (contents : W → Option (List ℕ)) (failures : W → ℕ) (one more : List ℕ) (old mid new : Sink W)
    (u : Unit {0}) (result : Result (Unit {0}) E)
    → Puts {E = E} contents failures one (Ok u) old mid → Puts contents failures more result mid new
    → Puts contents failures (one ++ more) result old new
puts_both contents failures one more old mid new u result p q = record {
  written =
      λ start before h. subst (λ (l : List ℕ). HasWritten contents start l new) (append_assoc before one more)
      (q.written start (before ++ one) (p.written start before h));
  failed = q.failed;
  counts = subst (λ (n : ℕ). CountsOn result n (failures (writer_of new))) p.counts q.counts;
}

-- the writer failed in the first
pub puts_cut : {W E : Type 0} (contents : W → Option (List ℕ)) (failures : W → ℕ) (one more : List ℕ) (old new : Sink W)
    (fault : E) (result : Result (Unit {0}) E)
    → IsErr result → Puts contents failures one (Err fault) old new → Puts contents failures (one ++ more) result old new
puts_cut contents failures one more old new fault (Ok u) failed p = absurd (true≢false (sym failed))
puts_cut contents failures one more old new fault (Err g) failed p = record {
  written =
      λ start before h. subst (λ (l : List ℕ). HasWritten contents start l new) (append_assoc before one more)
      (written_longer contents start (before ++ one) more new p.failed (p.written start before h));
  failed = p.failed;
  counts = p.counts;
}

-- the same text
pub puts_as : {W E : Type 0} (contents : W → Option (List ℕ)) (failures : W → ℕ) (text other : List ℕ) (old new : Sink W)
    (result : Result (Unit {0}) E) → text ≡ other
    → Puts contents failures text result old new → Puts contents failures other result old new
puts_as contents failures text other old new result e p = subst (λ (l : List ℕ). Puts contents failures l result old new) e p
