-- The line that was read last, and what the reader has of it.
use Rattle.std.proofs.Common.{◌≡◌, ◌≢◌, ℕ, ◌≤◌, Bool, true, false, true≢false, List, [], ◌∷◌, ◌++◌, length, drop, Option, None, Some, refl}
use Rattle.std.proofs.Common.{sym, ap, subst, ◌∙◌, arith, inl, inr, append_assoc, append-nil}
use Rattle.std.specs.Prelude.{◌⊎◌, IsFalse}
use Rattle.std.specs.List.{list_any}
use Rattle.std.specs.Io.KnownBytes.{Keeps}
use Rattle.std.proofs.KnownBytes.{Consumes-kept, Consumes-nil, Consumes-trans}
use Rattle.std.proofs.lemmas.List.{length-append}
use Rattle.std.proofs.Math.Seq.{drop-append-le, drop-append_seam}
use Rattle.cwr_lines.specs.Format.Lines.{is_lf}
use Rattle.cwr_decode.specs.declared.last_bytes.LastBytes.{LastBytes}
use Rattle.cwr_decode.specs.Steps.LastReads.{HoldsLast, last_held}
use Rattle.cwr_causes.specs.declared.lines_at_end.LineAtEnd.{LineAtEnd}
use Rattle.cwr_causes.specs.Steps.LinesAtEnd.{EndsWithLine, IsFound}
use Rattle.cwr_causes.proofs.lemmas.LastLines.{starts_later}
use Rattle.cwr_lint.specs.declared.raw_lines.RawLine.{RawLine}
use Rattle.cwr_lint.specs.Steps.LinesRead.{HoldsRaw, IsAllRead, IsOfLine, ReadsLast, ReadsRest, spelled}

-- a line feed was read
ended_split : (read front line text : List ℕ) (last : LastBytes) → HoldsLast read last → EndsWithLine read front line
    → last_held last ≡ text ++ 10 ∷ [] → read ≡ (front ++ line) ++ 10 ∷ []
ended_split read front line text last held ends whole = by ends.split
  where
    read_is : read ≡ (held.before ++ text) ++ 10 ∷ []
    read_is = held.split ∙ ap (λ (l : List ℕ). held.before ++ l) whole ∙ sym (append_assoc held.before text (10 ∷ []))

    by : (read ≡ (front ++ line) ++ 10 ∷ []) ⊎ ((read ≡ front ++ line) × (1 ≤ length line)) → read ≡ (front ++ line) ++ 10 ∷ []
    by (inl e) = e
    by (inr (e, some)) =
        let none =
        starts_later front line ((held.before ++ text) ++ 10 ∷ []) []
        (sym e ∙ read_is ∙ sym (append-nil ((held.before ++ text) ++ 10 ∷ []))) ends.no_lf (held.before ++ text, refl) in
        absurd (omega (arith, none, some))

-- or none was
open_split : (read front line : List ℕ) (last : LastBytes) → HoldsLast read last → EndsWithLine read front line
    → ((xs : List ℕ) → last_held last ≢ xs ++ 10 ∷ []) → read ≡ front ++ line
open_split read front line last held ends other = by ends.split
  where
    room : (held.before ≡ []) ⊎ (1025 ≤ length (last_held last)) → read ≡ (front ++ line) ++ 10 ∷ []
        → length held.before ≤ length (front ++ line)
    room (inl x) e = omega (arith, ap length x)
    room (inr x) e =
        omega (
          arith,
          x,
          ap length held.split,
          length-append held.before (last_held last),
          ap length e,
          length-append (front ++ line) (10 ∷ []),
        )

    by : (read ≡ (front ++ line) ++ 10 ∷ []) ⊎ ((read ≡ front ++ line) × (1 ≤ length line)) → read ≡ front ++ line
    by (inl e) = absurd (other (drop (length held.before) (front ++ line))
        (sym (drop-append_seam held.before (last_held last)) ∙ ap (drop (length held.before)) (sym held.split ∙ e)
        ∙ drop-append-le (length held.before) (front ++ line) (10 ∷ []) (room held.enough e)))
    by (inr (e, some)) = e

-- what is held of the bytes that were found
held_line : (read front line shown : List ℕ) (found : LineAtEnd) (raw : RawLine) → EndsWithLine read front line
    → IsFound read front line found → (IsFalse (list_any is_lf found.bytes.now) → shown ≡ found.bytes.now) → HoldsRaw shown raw
    → HoldsRaw line raw
held_line read front line shown found raw ends is same h =
    let none : IsFalse (list_any is_lf found.bytes.now) =
    subst (λ (l : List ℕ). IsFalse (list_any is_lf l)) (sym is.bytes) ends.no_lf in
    subst (λ (l : List ℕ). HoldsRaw l raw) (same none ∙ is.bytes) h

-- it has its line feed
pub last_ended : (left : Option (List ℕ)) (last : LastBytes) (shown : List ℕ) (found : LineAtEnd) (raw : RawLine)
    → raw.ended ≡ true → (text : List ℕ) × (last_held last ≡ text ++ 10 ∷ [])
    → ((read front line : List ℕ) → HoldsLast read last → EndsWithLine read front line → IsFound read front line found)
    → (IsFalse (list_any is_lf found.bytes.now) → shown ≡ found.bytes.now) → HoldsRaw shown raw → ReadsLast left left last raw
last_ended left last shown found raw ended feed finds same h = record {
  bytes = [];
  taken = Consumes-nil left;
  all = λ e. absurd (true≢false (sym ended ∙ e));
  line = λ read front line held ends. (
    [],
    subst (λ (l : List ℕ). HoldsRaw l raw) (sym (append-nil line))
        (held_line read front line shown found raw ends (finds read front line held ends) same h),
    append-nil read ∙ ended_split read front line feed.0 last held ends feed.1 ∙ append_assoc front line (10 ∷ [])
        ∙ ap (λ (l : List ℕ). front ++ (l ++ 10 ∷ [])) (sym (append-nil line))
        ∙ ap (λ (b : Bool). front ++ spelled b (line ++ [])) (sym ended),
  );
}

longer : (b : Bool) (bytes : List ℕ) → length bytes ≤ length (spelled b bytes)
longer true bytes = omega (arith, length-append bytes (10 ∷ []))
longer false bytes = omega arith

-- the rest of it was read
pub last_open : (left after : Option (List ℕ)) (last : LastBytes) (shown : List ℕ) (found : LineAtEnd) (old raw : RawLine)
    → ((text : List ℕ) → last_held last ≢ text ++ 10 ∷ [])
    → ((read front line : List ℕ) → HoldsLast read last → EndsWithLine read front line → IsFound read front line found)
    → (IsFalse (list_any is_lf found.bytes.now) → shown ≡ found.bytes.now) → HoldsRaw shown old → ReadsRest left after old raw
    → ReadsLast left after last raw
last_open left after last shown found old raw other finds same h r = record {
  bytes = spelled raw.ended r.more.bytes;
  taken = r.more.taken;
  all = λ e. all_of (r.all e);
  line = λ read front line held ends. (
    r.more.bytes,
    r.more.grown line (held_line read front line shown found old ends (finds read front line held ends) same h),
    ap (λ (l : List ℕ). l ++ spelled raw.ended r.more.bytes) (open_split read front line last held ends other)
        ∙ joined raw.ended front line r.more.bytes,
  );
} where
  all_of : IsAllRead left after r.more.bytes → IsAllRead left after (spelled raw.ended r.more.bytes)
  all_of (inl e) = inl e
  all_of (inr n) = inr (omega (arith, n, longer raw.ended r.more.bytes))

  joined : (b : Bool) (front line more : List ℕ) → (front ++ line) ++ spelled b more ≡ front ++ spelled b (line ++ more)
  joined true front line more =
      append_assoc front line (more ++ 10 ∷ []) ∙ ap (λ (l : List ℕ). front ++ l) (sym (append_assoc line more (10 ∷ [])))
  joined false front line more = append_assoc front line more

-- some line is held
pub some_line : (left after : Option (List ℕ)) (shown : List ℕ) (old raw : RawLine) → HoldsRaw shown old
    → ReadsRest left after old raw → IsOfLine raw
some_line left after shown old raw h r = record { line = shown ++ r.more.bytes; holds = r.more.grown shown h }

-- ---- where the reader shows its bytes before they are read

kept_end : (left mid after : Option (List ℕ)) (bytes : List ℕ) → Keeps left mid → IsAllRead mid after bytes
    → IsAllRead left after bytes
kept_end None mid after bytes k (inl e) = inl tt
kept_end None mid after bytes k (inr n) = inr n
kept_end (Some xs) None after bytes k e = absurd k
kept_end (Some xs) (Some ys) after bytes k (inl e) = inl e
kept_end (Some xs) (Some ys) after bytes k (inr n) = inr n

pub reads_kept : (left mid after : Option (List ℕ)) (last : LastBytes) (raw : RawLine) → Keeps left mid
    → ReadsLast mid after last raw → ReadsLast left after last raw
reads_kept left mid after last raw k r = record {
  bytes = r.bytes;
  taken = Consumes-trans left mid after [] r.bytes (Consumes-kept left left mid [] (Consumes-nil left) k) r.taken;
  all = λ e. kept_end left mid after r.bytes k (r.all e);
  line = r.line;
}
