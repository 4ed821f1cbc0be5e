-- Texts of whole lines, and what closing does to a text.
use Rattle.std.proofs.Common.{◌≡◌, ℕ, ◌-◌, ◌<◌, Bool, true, false, cond, ◌&&◌, ◌||◌, List, [], ◌∷◌, ◌++◌, length, drop, refl, sym}
use Rattle.std.proofs.Common.{ap, ap₂, subst, ◌∙◌, arith, append_assoc, append-nil}
use Rattle.std.specs.Prelude.{◌==◌}
use Rattle.std.specs.List.{list_any}
use Rattle.std.specs.Str.{bytes_eq}
use Rattle.std.proofs.lemmas.Bool.{ne_eqb, or_parts}
use Rattle.std.proofs.lemmas.List.{length_push}
use Rattle.std.proofs.lemmas.Grind.{flat_map-append}
use Rattle.std.proofs.Math.Seq.{drop-append_seam}
use Rattle.cwr_fields.proofs.lemmas.LineFeeds.{NoLf}
use Rattle.cwr_lines.specs.Format.Lines.{closed}
use Rattle.cwr_decode.specs.Steps.Represents.{text_of}

-- one more line
pub text_of-push : (lines : List (List ℕ)) (line : List ℕ) → text_of (lines ++ line ∷ []) ≡ text_of lines ++ (line ++ 10 ∷ [])
text_of-push lines line =
    flat_map-append (λ l. l ++ 10 ∷ []) lines (line ∷ []) ∙ ap (λ (t : List ℕ). text_of lines ++ t) (append-nil (line ++ 10 ∷ []))

-- ---- closing a text that isn't empty looks at its last byte

-- a text that isn't empty, by its last byte
record Snoc (text : List ℕ) : Type 0 where
  front : List ℕ
  last : ℕ
  whole : text ≡ front ++ last ∷ []

snoc : (b : ℕ) (text : List ℕ) → Snoc (b ∷ text)
snoc b [] = record { front = []; last = b; whole = refl }
snoc b (c ∷ text) =
    let s = snoc c text in record { front = b ∷ s.front; last = s.last; whole = ap (λ (t : List ℕ). b ∷ t) s.whole }

-- the text is closed by its last byte
abbrev closed_by : List ℕ → ℕ → List ℕ
closed_by text last = cond (bytes_eq (last ∷ []) (10 ∷ []) || false) text (text ++ 10 ∷ [])

closed_last : (front : List ℕ) (last : ℕ) → closed (front ++ last ∷ []) ≡ closed_by (front ++ last ∷ []) last
closed_last front last =
    let text : List ℕ = front ++ last ∷ [] in
    let before : length text - 1 ≡ length front = omega (arith, length_push front last) in
    let some : (length text == 0) ≡ false = ne_eqb (length text) 0 (omega (arith, length_push front last)) in
    let end : drop (length text - 1) text ≡ last ∷ [] = ap (λ (n : ℕ). drop n text) before ∙ drop-append_seam front (last ∷ []) in
    ap₂ (λ (l : List ℕ) (b : Bool). cond (bytes_eq l (10 ∷ []) || b) text (text ++ 10 ∷ [])) end some

closed_by-append : (front text : List ℕ) (last : ℕ) → closed_by (front ++ text) last ≡ front ++ closed_by text last
closed_by-append front text last = by (bytes_eq (last ∷ []) (10 ∷ []) || false)
  where
    by : (b : Bool) → cond b (front ++ text) ((front ++ text) ++ 10 ∷ []) ≡ front ++ cond b text (text ++ 10 ∷ [])
    by true = refl
    by false = append_assoc front text (10 ∷ [])

closed_append : (front : List ℕ) (b : ℕ) (text : List ℕ) → closed (front ++ b ∷ text) ≡ front ++ closed (b ∷ text)
closed_append front b text =
    let s = snoc b text in
    let end : List ℕ = s.front ++ s.last ∷ [] in
    let whole : front ++ b ∷ text ≡ (front ++ s.front) ++ s.last ∷ [] =
    ap (λ (t : List ℕ). front ++ t) s.whole ∙ sym (append_assoc front s.front (s.last ∷ [])) in
    let here : closed (front ++ b ∷ text) ≡ closed_by (front ++ end) s.last
    = ap closed whole ∙ closed_last (front ++ s.front) s.last
    ∙ ap (λ (t : List ℕ). closed_by t s.last) (append_assoc front s.front (s.last ∷ [])) in
    let alone : closed (b ∷ text) ≡ closed_by end s.last = ap closed s.whole ∙ closed_last s.front s.last in
    here ∙ closed_by-append front end s.last ∙ ap (λ (t : List ℕ). front ++ t) (sym alone)

-- ---- whole lines

closed_after : (line text : List ℕ) → closed text ≡ text → closed ((line ++ 10 ∷ []) ++ text) ≡ (line ++ 10 ∷ []) ++ text
closed_after line [] h = ap closed (append-nil (line ++ 10 ∷ [])) ∙ closed_last line 10 ∙ sym (append-nil (line ++ 10 ∷ []))
closed_after line (b ∷ text) h = closed_append (line ++ 10 ∷ []) b text ∙ ap (λ (t : List ℕ). (line ++ 10 ∷ []) ++ t) h

-- whole lines are closed
pub closed_text : (lines : List (List ℕ)) → closed (text_of lines) ≡ text_of lines
closed_text [] = refl
closed_text (line ∷ lines) = closed_after line (text_of lines) (closed_text lines)

-- what stands after whole lines is closed alone
pub closed_more : (lines : List (List ℕ)) (rest : List ℕ) → closed (text_of lines ++ rest) ≡ text_of lines ++ closed rest
closed_more lines [] = ap closed (append-nil (text_of lines)) ∙ closed_text lines ∙ sym (append-nil (text_of lines))
closed_more lines (b ∷ rest) = closed_append (text_of lines) b rest

-- ---- a last line with no line feed

no_lf_last : (front : List ℕ) (last : ℕ) → NoLf (front ++ last ∷ []) → (last == 10) ≡ false
no_lf_last [] last h = (or_parts (last == 10) false h).0
no_lf_last (b ∷ front) last h = no_lf_last front last (or_parts (b == 10) (list_any (λ x. x == 10) (front ++ last ∷ [])) h).1

-- a line with no line feed gets one
pub closed_line : (bytes : List ℕ) → NoLf bytes → 0 < length bytes → closed bytes ≡ bytes ++ 10 ∷ []
closed_line [] h some = absurd (omega arith)
closed_line (b ∷ bytes) h some =
    let s = snoc b bytes in
    let other : (s.last == 10) ≡ false = no_lf_last s.front s.last (subst NoLf s.whole h) in
    let open_end : bytes_eq (s.last ∷ []) (10 ∷ []) ≡ false = ap (λ (x : Bool). x && true) other in
    ap closed s.whole ∙ closed_last s.front s.last
    ∙ ap₂ (λ (x : Bool) (t : List ℕ). cond (x || false) t (t ++ 10 ∷ [])) open_end (sym s.whole)

pub closed_open : (lines : List (List ℕ)) (bytes : List ℕ) → NoLf bytes → 0 < length bytes
    → closed (text_of lines ++ bytes) ≡ text_of lines ++ (bytes ++ 10 ∷ [])
closed_open lines bytes h some = closed_more lines bytes ∙ ap (λ (t : List ℕ). text_of lines ++ t) (closed_line bytes h some)

-- ---- closing twice
