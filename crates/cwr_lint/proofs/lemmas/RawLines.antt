-- Lines that are held as they are read.
use Rattle.std.proofs.Common.{◌≡◌, ℕ, zero, suc, ◌+◌, ◌-◌, ◌<◌, ◌≤◌, min, Bool, true, false, cond, ◌||◌, true≢false, List, []}
use Rattle.std.proofs.Common.{◌∷◌, ◌++◌, length, take, drop, Option, Some, None, refl, sym, ap, subst, ◌∙◌, arith, inl, inr}
use Rattle.std.proofs.Common.{add-one, append_assoc, append-nil, take-append-drop}
use Rattle.std.specs.Prelude.{◌^◌, ◌==◌, nat_lt, not, slice_index, IsFalse, IsOk, IfSome, OnOk, Result, Ok, Err}
use Rattle.std.specs.List.{list_any}
use Rattle.std.specs.Io.{StartsWith}
use Rattle.std.specs.Io.KnownBytes.{Consumes, IsAtEnd, Keeps}
use Rattle.std.proofs.KnownBytes.{Consumes-nil, Consumes-trans}
use Rattle.std.proofs.lemmas.Bool.{eqb-true, false≢true, le-ltb, lt-ltb, ltb-false, ltb-true, or_from, or_parts}
use Rattle.std.proofs.lemmas.List.{length-append, length-take, take_all, take_min}
use Rattle.std.proofs.lemmas.List.Folds.{list_any-append}
use Rattle.std.proofs.Math.Seq.{take-suc}
use Rattle.cwr_fields.specs.Format.Bytes.{is_spaces}
use Rattle.cwr_lines.specs.Format.Lines.{is_lf, is_too_long, line_body, longest_line, without_cr}
use Rattle.cwr_lines.specs.Steps.Held.{FillsLongest, HoldsBy, IsHeld, held_body}
use Rattle.cwr_lines.proofs.lemmas.HeldLaws.{held_line_is_cut}
use Rattle.cwr_decode.proofs.lemmas.ClosedTexts.{text_of-push}
use Rattle.cwr_decode.proofs.lemmas.FromReader.{consumes_taken}
use Rattle.cwr_lint.specs.declared.raw_lines.RawLine.{RawLine}
use Rattle.cwr_lint_lines.specs.Format.FaultsAtFields.{LineCut, cut_of}
use Rattle.cwr_lint_lines.specs.Steps.Cells.{held_cut}
use Rattle.cwr_lint.specs.Steps.LinesRead.{AddsPiece, GoesOn, HoldsRaw, IsAllRead, IsTextOf, ReadsLineIf, ReadsMore, ReadsPiece}
use Rattle.cwr_lint.specs.Steps.LinesRead.{ReadsRest, end_by, held_raw, spelled}

-- ---- the bytes that are held

take_more : (n : ℕ) (xs ys : List ℕ) → take n (xs ++ ys) ≡ take n xs ++ take (n - length (take n xs)) ys
take_more zero xs ys = refl
take_more (suc n) [] ys = let e : suc n ≡ suc n - 0 = omega arith in ap (λ (k : ℕ). take k ys) e
take_more (suc n) (x ∷ xs) ys =
    let e : n - length (take n xs) ≡ suc n - length (x ∷ take n xs) = omega arith in
    ap (λ (l : List ℕ). x ∷ l) (take_more n xs ys ∙ ap (λ (k : ℕ). take n xs ++ take k ys) e)

pub holds_none : (raw : RawLine) → raw.bytes.items ≡ [] → raw.is_too_long ≡ false → HoldsRaw [] raw
holds_none raw e f = record { held = e; longer = f; no_lf = refl }

longer_more : (a b room : ℕ) (c : Bool) → room ≡ 1024 - min 1024 a → c ≡ nat_lt 1024 a
    → (c || nat_lt room b) ≡ nat_lt 1024 (a + b)
longer_more a b room true r e = let more : 1024 < a = ltb-true 1024 a (sym e) in sym (lt-ltb 1024 (a + b) (omega (arith, more)))
longer_more a b room false r e = let few : a ≤ 1024 = ltb-false 1024 a (sym e) in by few (nat_lt room b) refl
  where
    by : a ≤ 1024 → (d : Bool) → nat_lt room b ≡ d → nat_lt room b ≡ nat_lt 1024 (a + b)
    by few true d = let more : room < b = ltb-true room b d in d ∙ sym (lt-ltb 1024 (a + b) (omega (arith, more, r, few)))
    by few false d = let less : b ≤ room = ltb-false room b d in d ∙ sym (le-ltb 1024 (a + b) (omega (arith, less, r, few)))

pub holds_more : (line bytes : List ℕ) (old new : RawLine) (room : ℕ) → room ≡ 1024 - length old.bytes.items
    → new.bytes.items ≡ old.bytes.items ++ take room bytes → new.is_too_long ≡ (old.is_too_long || nat_lt room (length bytes))
    → IsFalse (list_any is_lf bytes) → HoldsRaw line old → HoldsRaw (line ++ bytes) new
holds_more line bytes old new room free grown longer none h =
    let before : length old.bytes.items ≡ min 1024 (length line) = ap length h.held ∙ length-take 1024 line in
    let left : room ≡ 1024 - length (take 1024 line) = free ∙ ap (λ (l : List ℕ). 1024 - length l) h.held in record {
      held =
          grown ∙ ap (λ (l : List ℕ). l ++ take room bytes) h.held ∙ ap (λ (n : ℕ). take 1024 line ++ take n bytes) left
          ∙ sym (take_more 1024 line bytes);
      longer =
          longer ∙ longer_more (length line) (length bytes) room old.is_too_long (omega (arith, free, before)) h.longer
          ∙ ap (nat_lt 1024) (sym (length-append line bytes));
      no_lf = list_any-append is_lf line bytes ∙ or_from (list_any is_lf line) (list_any is_lf bytes) h.no_lf none;
    }

-- how much of them
pub extended : {T E : Type 0} (r : Result T E) (old bytes new : List ℕ) (room count : ℕ) → length old + room ≤ 1024
    → count ≡ min room (length bytes) → (length old + length (take count bytes) ≤ 1024 → IsOk r)
    → OnOk r (new ≡ old ++ take count bytes) → new ≡ old ++ take room bytes
extended (Ok x) old bytes new room count fit is v o =
    o ∙ ap (λ (k : ℕ). old ++ take k bytes) is ∙ ap (λ (l : List ℕ). old ++ l) (take_min room bytes)
extended (Err x) old bytes new room count fit is v o =
    let size : length (take count bytes) ≤ room =
    omega (arith, length-take count bytes, is) in absurd (false≢true (v (omega (arith, fit, size))))

pub full_length : (line : List ℕ) (raw : RawLine) → HoldsRaw line raw → raw.is_too_long ≡ true → length raw.bytes.items ≡ 1024
full_length line raw h long =
    let more : 1024 < length line =
    ltb-true 1024 (length line) (sym h.longer ∙ long) in omega (arith, more, ap length h.held, length-take 1024 line)

-- ---- as it is cut

none_in_front : (n : ℕ) (line : List ℕ) → IsFalse (list_any is_lf line) → IsFalse (list_any is_lf (take n line))
none_in_front n line none =
    (or_parts (list_any is_lf (take n line)) (list_any is_lf (drop n line))
    (sym (list_any-append is_lf (take n line) (drop n line)) ∙ ap (list_any is_lf) (take-append-drop n line) ∙ none)).0

fills : (b : Bool) (line bytes : List ℕ) → bytes ≡ take longest_line line → b ≡ is_too_long line
    → FillsLongest (end_by b) (length bytes)
fills true line bytes e l =
    let more : 1024 < length line = ltb-true 1024 (length line) (sym l) in omega (arith, more, ap length e, length-take 1024 line)
fills false line bytes e l = tt

holds_by : (b : Bool) (line bytes : List ℕ) → bytes ≡ take longest_line line → b ≡ is_too_long line
    → HoldsBy (end_by b) bytes line
holds_by true line bytes e l = (ltb-true 1024 (length line) (sym l), e)
holds_by false line bytes e l = e ∙ take_all 1024 line (ltb-false 1024 (length line) (sym l))

pub raw_held : (line : List ℕ) (raw : RawLine) → HoldsRaw line raw → IsHeld (held_raw raw)
raw_held line raw h = record {
  no_lf = subst (λ (l : List ℕ). IsFalse (list_any is_lf l)) (sym h.held) (none_in_front 1024 line h.no_lf);
  short = omega (arith, ap length h.held, length-take 1024 line);
  full = fills raw.is_too_long line raw.bytes.items h.held h.longer;
}

same_cut : (a b : LineCut) → a.kind ≡ b.kind → a.cells ≡ b.cells → a.excess ≡ b.excess → a.blank ≡ b.blank → a ≡ b
same_cut a b p q r s = λ i. record { kind = p i; cells = q i; excess = r i; blank = s i }

-- the bytes that are judged
body_by : (b : Bool) (line bytes : List ℕ) → bytes ≡ take longest_line line → b ≡ is_too_long line
    → held_body (record { bytes = bytes; ended = end_by b }) ≡ line_body line
body_by true line bytes e l = e ∙ ap (λ (b : Bool). cond b (take longest_line line) (without_cr line)) l
body_by false line bytes e l =
    ap without_cr (e ∙ take_all 1024 line (ltb-false 1024 (length line) (sym l)))
    ∙ ap (λ (b : Bool). cond b (take longest_line line) (without_cr line)) l

pub raw_cut : (line : List ℕ) (raw : RawLine) → HoldsRaw line raw → held_cut (held_raw raw) ≡ cut_of line
raw_cut line raw h =
    let cut =
    held_line_is_cut (held_raw raw) line (raw_held line raw h)
    (holds_by raw.is_too_long line raw.bytes.items h.held h.longer) in
    same_cut (held_cut (held_raw raw)) (cut_of line) cut.kind cut.cells cut.excess
    (ap is_spaces (body_by raw.is_too_long line raw.bytes.items h.held h.longer))

-- ---- lines one after another

pub goes_none : (ended : Bool) → GoesOn ended [] [] ended
goes_none ended text before is =
    subst (λ (l : List (List ℕ)). IsTextOf ended (text ++ []) l) (sym (append-nil before))
    (subst (λ (t : List ℕ). IsTextOf ended t before) (sym (append-nil text)) is)

pub goes_line : (line : List ℕ) (last : Bool) → GoesOn true (spelled last line) (line ∷ []) last
goes_line line true text before is = ap (λ (t : List ℕ). t ++ (line ++ 10 ∷ [])) is ∙ sym (text_of-push before line)
goes_line line false text before is =
    append_assoc text line (10 ∷ []) ∙ ap (λ (t : List ℕ). t ++ (line ++ 10 ∷ [])) is ∙ sym (text_of-push before line)

pub goes_both : (a b c : Bool) (bytes more : List ℕ) (lines others : List (List ℕ)) → GoesOn a bytes lines b
    → GoesOn b more others c → GoesOn a (bytes ++ more) (lines ++ others) c
goes_both a b c bytes more lines others p q text before is =
    subst (λ (l : List (List ℕ)). IsTextOf c (text ++ (bytes ++ more)) l) (append_assoc before lines others)
    (subst (λ (t : List ℕ). IsTextOf c t ((before ++ lines) ++ others)) (append_assoc text bytes more)
    (q (text ++ bytes) (before ++ lines) (p text before is)))

-- ---- what is read

pub ends_with : (left mid after : Option (List ℕ)) (more : List ℕ) → Consumes left mid more → IfSome mid (λ known. IsAtEnd after)
    → IfSome left (λ known. IsAtEnd after)
ends_with None mid after more c h = tt
ends_with (Some xs) None after more c h = absurd c
ends_with (Some xs) (Some ys) after more c h = h

-- nothing more is left where the reader shows nothing
pub shows_none : (left mid after : Option (List ℕ)) (piece : List ℕ) (count : ℕ) → Keeps left mid
    → IfSome left (λ xs. length piece ≡ 0 → xs ≡ []) → IfSome mid (λ xs. after ≡ Some (drop count xs)) → piece ≡ []
    → IfSome left (λ known. IsAtEnd after)
shows_none None mid after piece count kept end lost e = tt
shows_none (Some xs) None after piece count kept end lost e = absurd kept
shows_none (Some xs) (Some ys) after piece count kept end lost e =
    subst IsAtEnd (sym (lost ∙ ap (λ (l : List ℕ). Some (drop count l)) (kept ∙ end (ap length e)))) (drop_none count)
  where
    drop_none : (n : ℕ) → drop {A = ℕ} n [] ≡ []
    drop_none zero = refl
    drop_none (suc n) = refl

-- an open line of which nothing was read so far
pub reads_none : (left : Option (List ℕ)) (raw : RawLine) → raw.ended ≡ false → ReadsMore left left raw raw
reads_none left raw e = record {
  bytes = [];
  taken = subst (λ (b : Bool). Consumes left left (spelled b [])) (sym e) (Consumes-nil left);
  grown = λ line h. subst (λ (l : List ℕ). HoldsRaw l raw) (sym (append-nil line)) h;
}

spelled-append : (b : Bool) (xs ys : List ℕ) → xs ++ spelled b ys ≡ spelled b (xs ++ ys)
spelled-append true xs ys = sym (append_assoc xs ys (10 ∷ []))
spelled-append false xs ys = refl

pub reads_both : (left mid after : Option (List ℕ)) (old between new : RawLine) → between.ended ≡ false
    → (p : ReadsMore left mid old between) → (q : ReadsMore mid after between new) → ReadsMore left after old new
reads_both left mid after old between new e p q = record {
  bytes = p.bytes ++ q.bytes;
  taken = subst (Consumes left after) (spelled-append new.ended p.bytes q.bytes)
      (Consumes-trans left mid after p.bytes (spelled new.ended q.bytes)
      (subst (λ (b : Bool). Consumes left mid (spelled b p.bytes)) e p.taken) q.taken);
  grown =
      λ line h. subst (λ (l : List ℕ). HoldsRaw l new) (append_assoc line p.bytes q.bytes)
      (q.grown (line ++ p.bytes) (p.grown line h));
}

-- so many pieces of an open line were read
pub record ReadsOpen (left after : Option (List ℕ)) (old new : RawLine) (count : ℕ) : Type 0 where
  pub more : ReadsMore left after old new
  pub unended : new.ended ≡ false
  pub many : count ≤ length more.bytes

pub open_first : (left : Option (List ℕ)) (raw : RawLine) → raw.ended ≡ false → ReadsOpen left left raw raw 0
unfolding reads_none
open_first left raw e = record { more = reads_none left raw e; unended = e; many = omega arith }

pub open_more : (left mid after : Option (List ℕ)) (old between new : RawLine) (count : ℕ) → ReadsOpen left mid old between count
    → ReadsPiece mid after between new false → ReadsOpen left after old new (count + 1)
unfolding reads_both
open_more left mid after old between new count p q = record {
  more = reads_both left mid after old between new p.unended p.more q.more;
  unended = (q.goes_on refl).0;
  many = omega (arith, p.many, (q.goes_on refl).1, length-append p.more.bytes q.more.bytes);
}

pub open_last : (left mid after : Option (List ℕ)) (old between new : RawLine) (count : ℕ) → ReadsOpen left mid old between count
    → ReadsPiece mid after between new true → ReadsRest left after old new
unfolding reads_both
open_last left mid after old between new count p q = record {
  more = reads_both left mid after old between new p.unended p.more q.more;
  all = λ e. inl (ends_with left mid after (spelled between.ended p.more.bytes) p.more.taken (q.all refl e));
}

pub open_many : (left after : Option (List ℕ)) (old new : RawLine) (count : ℕ) → 2 ^ 64 - 1 ≤ count
    → ReadsOpen left after old new count → ReadsRest left after old new
open_many left after old new count n p = record { more = p.more; all = λ e. inr (omega (arith, n, p.many)) }

pub open_taken : (left after : Option (List ℕ)) (old new : RawLine) (count : ℕ) → ReadsOpen left after old new count
    → (more : List ℕ) × Consumes left after more
open_taken left after old new count p = (spelled new.ended p.more.bytes, p.more.taken)

-- ---- a piece

take_one_more : (at : ℕ) (piece : List ℕ) → at < length piece → slice_index piece at ≡ 10
    → take (at + 1) piece ≡ take at piece ++ 10 ∷ []
take_one_more at piece within feed =
    ap (λ (k : ℕ). take k piece) (add-one at) ∙ take-suc piece at 0 within ∙ ap (λ (b : ℕ). take at piece ++ b ∷ []) feed

-- with its line feed
pub piece_ended : (old mid new : RawLine) (piece : List ℕ) (at : ℕ) → at < length piece → IsFalse (list_any is_lf (take at piece))
    → slice_index piece at ≡ 10
    → ((line : List ℕ) → IsFalse (list_any is_lf (take at piece)) → HoldsRaw line old → HoldsRaw (line ++ take at piece) mid)
    → ((line : List ℕ) → HoldsRaw line mid → HoldsRaw line new) → new.ended ≡ true → AddsPiece old new piece (at + 1) true
piece_ended old mid new piece at within none feed added kept ended = record {
  bytes = take at piece;
  taken = take_one_more at piece within feed ∙ ap (λ (b : Bool). spelled b (take at piece)) (sym ended);
  grown = λ line h. kept (line ++ take at piece) (added line none h);
  all = λ d e. absurd (true≢false (sym ended ∙ e));
  goes_on = λ d. absurd (true≢false d);
}

-- what the reader showed of it was taken
pub piece_read : (left mid after : Option (List ℕ)) (old new : RawLine) (piece : List ℕ) (count : ℕ) (done : Bool)
    → Keeps left mid → IfSome left (λ xs. StartsWith xs piece) → IfSome left (λ xs. length piece ≡ 0 → xs ≡ [])
    → count ≤ length piece
    → IfSome mid (λ xs. after ≡ Some (drop count xs)) → AddsPiece old new piece count done → ReadsPiece left after old new done
piece_read left mid after old new piece count done kept front end within lost a = record {
  more =
      record {
        bytes = a.bytes;
        taken = subst (Consumes left after) a.taken (consumes_taken left mid after piece count kept front within lost);
        grown = a.grown;
      };
  all = λ d e. shows_none left mid after piece count kept end lost (a.all d e);
  goes_on = a.goes_on;
}

-- a whole line, or none
pub reads_line : (left after : Option (List ℕ)) (old new : RawLine) (found : Bool) → HoldsRaw [] old
    → ReadsRest left after old new → (found ≡ true → 1 ≤ length (spelled new.ended new.bytes.items))
    → (found ≡ false → (new.ended ≡ false) × (new.bytes.items ≡ []))
    → ReadsLineIf left after new found
reads_line left after old new true h r some none =
    let line : HoldsRaw r.more.bytes new = r.more.grown [] h in record {
      line = r.more.bytes;
      holds = line;
      taken = r.more.taken;
      some = by new.ended (some refl) (omega (arith, ap length line.held, length-take 1024 r.more.bytes));
      all = r.all;
    }
  where
    by : (b : Bool) → 1 ≤ length (spelled b new.bytes.items) → length new.bytes.items ≤ length r.more.bytes
        → 1 ≤ length (spelled b r.more.bytes)
    by true s l = omega (arith, length-append r.more.bytes (10 ∷ []))
    by false s l = omega (arith, s, l)
reads_line left after old new false h r some none = (
  subst (Consumes left after) empty
      (subst (λ (b : Bool). Consumes left after (spelled b r.more.bytes)) (none refl).0 r.more.taken),
  by (r.all (none refl).0),
) where
  length_is : length new.bytes.items ≡ min 1024 (length r.more.bytes)
  length_is = ap length (r.more.grown [] h).held ∙ length-take 1024 r.more.bytes

  few : length r.more.bytes ≡ 0
  few = omega (arith, length_is, ap length (none refl).1)

  nil_of : (xs : List ℕ) → length xs ≡ 0 → xs ≡ []
  nil_of [] e = refl
  nil_of (x ∷ xs) e = absurd (omega (arith, e))

  empty : r.more.bytes ≡ []
  empty = nil_of r.more.bytes few

  by : IsAllRead left after r.more.bytes → IfSome left (λ known. IsAtEnd after)
  by (inl e) = e
  by (inr n) = absurd (omega (arith, n, few))

pub reads_ended : (left after : Option (List ℕ)) (old new : RawLine) (found : Bool) → found ≡ true → new.ended ≡ true
    → HoldsRaw [] old → ReadsRest left after old new → ReadsLineIf left after new found
unfolding reads_line
reads_ended left after old new true f ended h r =
    reads_line left after old new true h r (λ _. by new.ended ended) (λ e. absurd (true≢false e))
  where
    by : (b : Bool) → b ≡ true → 1 ≤ length (spelled b new.bytes.items)
    by true e = omega (arith, length-append new.bytes.items (10 ∷ []))
    by false e = absurd (true≢false (sym e))
reads_ended left after old new false f ended h r = absurd (true≢false (sym f))

pub reads_open : (left after : Option (List ℕ)) (old new : RawLine) (empty : Bool) → new.ended ≡ false
    → empty ≡ (length new.bytes.items == 0) → HoldsRaw [] old → ReadsRest left after old new
    → ReadsLineIf left after new (not empty)
reads_open left after old new true open_yet is h r =
    reads_line left after old new false h r (λ e. absurd (true≢false (sym e)))
    (λ _. (open_yet, nil_of new.bytes.items (eqb-true (length new.bytes.items) 0 (sym is))))
  where
    nil_of : (xs : List ℕ) → length xs ≡ 0 → xs ≡ []
    nil_of [] e = refl
    nil_of (x ∷ xs) e = absurd (omega (arith, e))
reads_open left after old new false open_yet is h r =
    reads_line left after old new true h r (λ _. by new.ended (some new.bytes.items (sym is))) (λ e. absurd (true≢false e))
  where
    some : (xs : List ℕ) → (length xs == 0) ≡ false → 1 ≤ length xs
    some [] e = absurd (true≢false e)
    some (x ∷ xs) e = omega arith

    by : (b : Bool) → 1 ≤ length new.bytes.items → 1 ≤ length (spelled b new.bytes.items)
    by true s = omega (arith, s, length-append new.bytes.items (10 ∷ []))
    by false s = s
