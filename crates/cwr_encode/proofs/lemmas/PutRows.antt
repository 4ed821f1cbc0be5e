-- What is put, row by row, of a transaction.
use Rattle.std.proofs.Common.{◌≡◌, ℕ, zero, suc, ◌+◌, ◌<◌, ◌≤◌, true, true≢false, List, [], ◌∷◌, ◌++◌, length, take, drop, Option}
use Rattle.std.proofs.Common.{Some, None, refl, sym, ap, subst, ◌∙◌, arith, append_assoc}
use Rattle.std.specs.Prelude.{slice_get, Result, Ok, Err, IsErr}
use Rattle.cwr_devices.specs.Format.Failures.{one_more_failure}
use Rattle.std.proofs.lemmas.List.{take_all}
use Rattle.cwr_lines.specs.Format.Records.{RecordValue, row_of}
use Rattle.cwr_values.specs.Format.Rows.{canonical_line}
use Rattle.cwr_devices.specs.declared.sinks.Sink.{Sink}
use Rattle.cwr_devices.specs.Steps.Sinks.{writer_of, has_failed, HasWritten, Puts}
use Rattle.cwr_encode.specs.Steps.Texts.{text_from}
use Rattle.cwr_encode.proofs.lemmas.TransactionTexts.{text-snoc}

pub found_within : {A : Type 0} (xs : List A) (i : ℕ) (x : A) → Some x ≡ slice_get xs i → i < length xs
found_within [] i x e = absurd (cc e)
found_within (y ∷ xs) zero x e = omega arith
found_within (y ∷ xs) (suc i) x e = omega (arith, found_within xs i x e)

pub none_within : {A : Type 0} (xs : List A) (i : ℕ) → None ≡ slice_get xs i → length xs ≤ i
none_within [] i e = omega arith
none_within (y ∷ xs) zero e = absurd (cc e)
none_within (y ∷ xs) (suc i) e = omega (arith, none_within xs i e)

-- after a fault whatever more was to be put isn't written
pub written_longer : {W : Type 0} (contents : W → Option (List ℕ)) (start : Option (List ℕ)) (text more : List ℕ) (sink : Sink W)
    → has_failed sink ≡ true → HasWritten contents start text sink
    → HasWritten contents start (text ++ more) sink
written_longer contents start text more sink failed h = record {
  bytes = h.bytes;
  rest = h.rest ++ more;
  split = ap (λ (l : List ℕ). l ++ more) h.split ∙ append_assoc h.bytes h.rest more;
  appended = h.appended;
  counted = h.counted;
  whole = λ e. absurd (true≢false (sym failed ∙ e));
}

text-split : (j k n : ℕ) (t : List RecordValue) → text_from j k t ≡ text_from j k (take n t) ++ text_from j (k + n) (drop n t)
text-split j k zero t = ap (λ (m : ℕ). text_from j m t) (omega arith)
text-split j k (suc n) [] = refl
text-split j k (suc n) (r ∷ t) =
    ap (λ (l : List ℕ). canonical_line (row_of (j ∷ k ∷ []) r) ++ l)
    (text-split j (k + 1) n t ∙ ap (λ (m : ℕ). text_from j (k + 1) (take n t) ++ text_from j m (drop n t)) (omega arith))
    ∙ sym (append_assoc (canonical_line (row_of (j ∷ k ∷ []) r)) (text_from j (k + 1) (take n t))
    (text_from j (k + suc n) (drop n t)))

zero_and : (i : ℕ) → 0 + i ≡ i
zero_and i = omega arith

suc_is : (i : ℕ) → suc i ≡ i + 1
suc_is i = omega arith

-- with the row of one more record
pub row_more : {W : Type 0} (contents : W → Option (List ℕ)) (start : Option (List ℕ)) (before : List ℕ) (j i : ℕ)
    (t : List RecordValue) (r : RecordValue) (new : Sink W) → Some r ≡ slice_get t i
    → HasWritten contents start ((before ++ text_from j 0 (take i t)) ++ canonical_line (row_of (j ∷ i ∷ []) r)) new
    → HasWritten contents start (before ++ text_from j 0 (take (i + 1) t)) new
row_more contents start before j i t r new e h =
    let one : text_from j 0 (take (suc i) t) ≡ text_from j 0 (take i t) ++ canonical_line (row_of (j ∷ i ∷ []) r)
    = text-snoc j 0 t i r (sym e)
    ∙ ap (λ (n : ℕ). text_from j 0 (take i t) ++ canonical_line (row_of (j ∷ n ∷ []) r)) (zero_and i) in
    let same : (before ++ text_from j 0 (take i t)) ++ canonical_line (row_of (j ∷ i ∷ []) r)
    ≡ before ++ text_from j 0 (take (i + 1) t)
    = append_assoc before (text_from j 0 (take i t)) (canonical_line (row_of (j ∷ i ∷ []) r))
    ∙ ap (λ (l : List ℕ). before ++ l) (sym one ∙ ap (λ (n : ℕ). text_from j 0 (take n t)) (suc_is i)) in
    subst (λ (l : List ℕ). HasWritten contents start l new) same h

-- and once the writer failed there, with all rows
pub rows_failed : {W : Type 0} (contents : W → Option (List ℕ)) (start : Option (List ℕ)) (before : List ℕ) (j i : ℕ)
    (t : List RecordValue) (r : RecordValue) (new : Sink W) → Some r ≡ slice_get t i → has_failed new ≡ true
    → HasWritten contents start ((before ++ text_from j 0 (take i t)) ++ canonical_line (row_of (j ∷ i ∷ []) r)) new
    → HasWritten contents start (before ++ text_from j 0 t) new
rows_failed contents start before j i t r new e failed h =
    let longer =
    written_longer contents start (before ++ text_from j 0 (take (i + 1) t)) (text_from j (0 + (i + 1)) (drop (i + 1) t)) new
    failed (row_more contents start before j i t r new e h) in
    subst (λ (l : List ℕ). HasWritten contents start l new)
    (append_assoc before (text_from j 0 (take (i + 1) t)) (text_from j (0 + (i + 1)) (drop (i + 1) t))
    ∙ ap (λ (l : List ℕ). before ++ l) (sym (text-split j 0 (i + 1) t))) longer

pub rows_whole : {W : Type 0} (contents : W → Option (List ℕ)) (start : Option (List ℕ)) (before : List ℕ) (j i : ℕ)
    (t : List RecordValue) (new : Sink W) → None ≡ slice_get t i
    → HasWritten contents start (before ++ text_from j 0 (take i t)) new
    → HasWritten contents start (before ++ text_from j 0 t) new
rows_whole contents start before j i t new e h =
    subst (λ (l : List RecordValue). HasWritten contents start (before ++ text_from j 0 l) new) (take_all i t (none_within t i e))
    h

pub rows_refused : {W E : Type 0} (contents : W → Option (List ℕ)) (failures : W → ℕ) (j i : ℕ) (t : List RecordValue)
    (r : RecordValue) (old mid new : Sink W) (f : E) (result : Result (Unit {0}) E)
    → Some r ≡ slice_get t i → IsErr result → failures (writer_of mid) ≡ failures (writer_of old)
    → ((start : Option (List ℕ)) (before : List ℕ) → HasWritten contents start before old
    → HasWritten contents start (before ++ text_from j 0 (take i t)) mid)
    → Puts contents failures (canonical_line (row_of (j ∷ i ∷ []) r)) (Err f) mid new
    → Puts contents failures (text_from j 0 t) result old new
rows_refused contents failures j i t r old mid new f (Ok x) e failed same so_far p = absurd (true≢false (sym failed))
rows_refused contents failures j i t r old mid new f (Err g) e failed same so_far p = record {
  written =
      λ start before h. rows_failed contents start before j i t r new e p.failed (p.written start _ (so_far start before h));
  failed = p.failed;
  counts = p.counts ∙ ap one_more_failure same;
}
