-- What a sink has written with one more text.
use Rattle.std.proofs.Common.{◌≡◌, ℕ, ◌+◌, ◌-◌, ◌≤◌, ◌^◌, min, false, List, [], ◌∷◌, ◌++◌, length, take, drop, Option, refl, sym}
use Rattle.std.proofs.Common.{ap, subst, ◌∙◌, arith, append_assoc, append-nil}
use Rattle.std.proofs.lemmas.List.{length-append, length-take-le, take-append-drop}
use Rattle.std.specs.Prelude.{Result, Ok, Err, OnOk}
use Rattle.std.specs.Io.KnownBytes.{Appends}
use Rattle.cwr_devices.specs.declared.sinks.Sink.{Sink}
use Rattle.cwr_devices.specs.Steps.Sinks.{written_of, writer_of, has_failed, counted_up, GrowsBy, HasWritten}
use Rattle.cwr_devices.proofs.lemmas.Moves.{appends_both}

-- a sink that hasn't failed has written all
nothing_left : {W : Type 0} (contents : W → Option (List ℕ)) (start : Option (List ℕ)) (before : List ℕ) (sink : Sink W)
    (h : HasWritten contents start before sink) → has_failed sink ≡ false → before ≡ h.bytes
nothing_left contents start before sink h e = h.split ∙ ap (λ (l : List ℕ). h.bytes ++ l) (h.whole e) ∙ append-nil h.bytes

pub written_more : {W : Type 0} (contents : W → Option (List ℕ)) (start : Option (List ℕ)) (before text : List ℕ)
    (old new : Sink W) (n : ℕ) → has_failed old ≡ false → n ≤ length text
    → Appends (contents (writer_of old)) (contents (writer_of new)) (take n text) → written_of new ≡ counted_up (written_of old) n
    → (has_failed new ≡ false → drop n text ≡ [])
    → HasWritten contents start before old → HasWritten contents start (before ++ text) new
written_more contents start before text old new n unfailed few more count all h =
    let same : before ≡ h.bytes = nothing_left contents start before old h unfailed in
    record {
      bytes = h.bytes ++ take n text;
      rest = drop n text;
      split =
          ap (λ (l : List ℕ). l ++ text) same ∙ ap (λ (l : List ℕ). h.bytes ++ l) (sym (take-append-drop n text))
          ∙ sym (append_assoc h.bytes (take n text) (drop n text));
      appended = appends_both start (contents (writer_of old)) (contents (writer_of new)) h.bytes (take n text) h.appended more;
      counted =
          count ∙ saturated (written_of old) (length h.bytes) n (length (h.bytes ++ take n text)) h.counted
          (omega (arith, length-append h.bytes (take n text), length-take-le n text few));
      whole = all;
    }
  where
    saturated : (a b m c : ℕ) → a ≡ min b (2 ^ 64 - 1) → c ≡ b + m → counted_up a m ≡ min c (2 ^ 64 - 1)
    saturated a b m c e f = omega (arith, e, f)

taken_whole : (xs : List ℕ) → take (length xs) xs ≡ xs
taken_whole [] = refl
taken_whole (x ∷ xs) = ap (λ (l : List ℕ). x ∷ l) (taken_whole xs)

dropped_whole : (xs : List ℕ) → drop (length xs) xs ≡ []
dropped_whole [] = refl
dropped_whole (x ∷ xs) = dropped_whole xs

-- what holds anyhow holds of a success
on_ok : {E : Type 0} (result : Result (Unit {0}) E) {P : Type 0} → P → OnOk result P
on_ok (Ok x) p = p
on_ok (Err e) p = tt

pub grown_whole : {W E : Type 0} (contents : W → Option (List ℕ)) (text : List ℕ) (result : Result (Unit {0}) E)
    (old new : Sink W) → Appends (contents (writer_of old)) (contents (writer_of new)) text
    → written_of new ≡ counted_up (written_of old) (length text) → GrowsBy contents text result old new
grown_whole contents text result old new more count = record {
  taken = length text;
  within = omega arith;
  whole = on_ok result refl;
  appended = subst (Appends (contents (writer_of old)) (contents (writer_of new))) (sym (taken_whole text)) more;
  counted = count;
}

pub written_all : {W : Type 0} (contents : W → Option (List ℕ)) (start : Option (List ℕ)) (before text : List ℕ)
    (old new : Sink W) → has_failed old ≡ false
    → Appends (contents (writer_of old)) (contents (writer_of new)) text
    → written_of new ≡ counted_up (written_of old) (length text) → HasWritten contents start before old
    → HasWritten contents start (before ++ text) new
written_all contents start before text old new unfailed more count h =
    written_more contents start before text old new (length text) unfailed (omega arith)
    (subst (Appends (contents (writer_of old)) (contents (writer_of new))) (sym (taken_whole text)) more) count
    (λ e. dropped_whole text) h
