-- The last bytes that were read are held, however they are taken.
use Rattle.std.proofs.Common.{◌≡◌, ℕ, ◌+◌, ◌-◌, ◌≤◌, List, [], ◌++◌, length, take, drop, Option, sym, ap, subst, ◌∙◌}
use Rattle.std.proofs.Common.{arith, inr, append_assoc, append-nil, take_all, take-append-drop}
use Rattle.std.proofs.lemmas.Bool.{false≢true}
use Rattle.std.specs.Prelude.{◌^◌, min, Result, Ok, Err, IsOk, OnOk}
use Rattle.std.proofs.lemmas.List.{length-append, length-drop}
use Rattle.std.proofs.KnownBytes.{Consumes-trans}
use Rattle.std.specs.Io.KnownBytes.{Consumes}
use Rattle.cwr_decode.specs.declared.last_bytes.LastBytes.{LastBytes}
use Rattle.cwr_decode.specs.Steps.LastReads.{AreHeld, HoldsLast, ReadsLast, bytes_read, last_held}

-- an empty list was extended by a text for which there is room
pub filled_by : {T E : Type 0} (r : Result T E) (old new xs : List ℕ) → old ≡ [] → length xs ≤ 4096
    → (length old + length xs ≤ 4096 → IsOk r) → OnOk r (new ≡ old ++ xs) → new ≡ xs
filled_by (Ok x) old new xs none short v o = o ∙ ap (λ (l : List ℕ). l ++ xs) none
filled_by (Err x) old new xs none short v o = absurd (false≢true (v (omega (arith, ap length none))))

-- the end of a text, as a slice has it
pub end_slice : (k : ℕ) (xs : List ℕ) → take (length xs - k) (drop k xs) ≡ drop k xs
end_slice k xs = take_all (length xs - k) (drop k xs) (omega (arith, length-drop k xs))

-- a shorter end of what is held is held
pub holds_less : (read : List ℕ) (old new : LastBytes) (k : ℕ) → HoldsLast read old → last_held new ≡ drop k (last_held old)
    → 1025 ≤ length (last_held new) → bytes_read new ≡ bytes_read old → HoldsLast read new
holds_less read old new k h e enough same = record {
  before = h.before ++ take k (last_held old);
  split =
      h.split ∙ ap (λ (l : List ℕ). h.before ++ l) (sym (take-append-drop k (last_held old)))
      ∙ sym (append_assoc h.before (take k (last_held old)) (drop k (last_held old)))
      ∙ ap (λ (l : List ℕ). (h.before ++ take k (last_held old)) ++ l) (sym e);
  enough = inr enough;
  counted = same ∙ h.counted;
}

-- so is the end of what was read next
pub holds_end : (read bytes : List ℕ) (old new : LastBytes) (k : ℕ) → HoldsLast read old → last_held new ≡ drop k bytes
    → 1025 ≤ length (last_held new) → bytes_read new ≡ min (bytes_read old + length bytes) (2 ^ 64 - 1)
    → HoldsLast (read ++ bytes) new
holds_end read bytes old new k h e enough counted = record {
  before = read ++ take k bytes;
  split =
      ap (λ (l : List ℕ). read ++ l) (sym (take-append-drop k bytes)) ∙ sym (append_assoc read (take k bytes) (drop k bytes))
      ∙ ap (λ (l : List ℕ). (read ++ take k bytes) ++ l) (sym e);
  enough = inr enough;
  counted = omega (arith, counted, h.counted, length-append read bytes);
}

-- the length of an end
pub length_end : (xs ys : List ℕ) (k : ℕ) → ys ≡ drop (length xs - k) xs → k ≤ length xs → length ys ≡ k
length_end xs ys k e h = omega (arith, ap length e, length-drop (length xs - k) xs)

-- ---- what was read of a reader

-- no byte was read
pub reads_nothing : (left after : Option (List ℕ)) (last : Option LastBytes) → Consumes left after []
    → ReadsLast left after last last
reads_nothing left after last c =
    record { bytes = []; consumed = c; held = λ read. subst (λ (l : List ℕ). AreHeld l last) (sym (append-nil read)) }

-- bytes were read in two steps
pub reads_both : (left mid after : Option (List ℕ)) (old new last : Option LastBytes) → ReadsLast left mid old new
    → ReadsLast mid after new last → ReadsLast left after old last
reads_both left mid after old new last p q = record {
  bytes = p.bytes ++ q.bytes;
  consumed = Consumes-trans left mid after p.bytes q.bytes p.consumed q.consumed;
  held =
      λ read h. subst (λ (l : List ℕ). AreHeld l last) (append_assoc read p.bytes q.bytes)
      (q.held (read ++ p.bytes) (p.held read h));
}

-- bytes that a run had read, and those after them
pub reads_on : (before left after : Option (List ℕ)) (old new : Option LastBytes) (read : List ℕ) → Consumes before left read
    → AreHeld read old → (r : ReadsLast left after old new)
    → Consumes before after (read ++ r.bytes) × AreHeld (read ++ r.bytes) new
reads_on before left after old new read c h r = (Consumes-trans before left after read r.bytes c r.consumed, r.held read h)
