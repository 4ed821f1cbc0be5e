-- Characters stand for one text, and those that bytes are shown as stand for these.
use Rattle.std.proofs.Common.{◌≡◌, ℕ, suc, ◌+◌, ◌-◌, ◌/◌, ◌%◌, ◌<◌, ◌≤◌, Bool, true, false, not, cond, ◌&&◌, List, [], ◌∷◌, ◌++◌}
use Rattle.std.proofs.Common.{length, drop, get_or, refl, sym, ap, ap₂, ◌∙◌, arith, true≢false, ltb-true}
use Rattle.std.specs.Prelude.{◌||◌, nat_lt}
use Rattle.std.specs.Prelude.{MatchResult, Result, Ok, Err, is_ok}
use Rattle.std.specs.Str.{IsUtf8, is_utf8}
use Rattle.std.proofs.lemmas.Str.{IsUtf8-from_is_utf8, is_utf8-from_IsUtf8}
use Rattle.std.proofs.lemmas.Bool.{and_parts, ltb-false, or_parts}
use Rattle.std.proofs.lemmas.List.{drop_more}
use Rattle.cwr_json.specs.declared.encodings.Encoding.{Encoding}
use Rattle.cwr_json.specs.declared.encodings.Encoding.TheVariants.{Latin1, Utf8}
use Rattle.cwr_json.specs.Format.Encodings.{StandFor, are_read_as_is, begins_escape, byte_by_byte, characters, has_escape}
use Rattle.cwr_json.specs.Format.Encodings.{high_character}
use Rattle.cwr_json.specs.Format.Laws.{BytesReadBack, OneText}

-- ---- one byte

abbrev escape_if : Bool → ℕ → List ℕ
escape_if x b = cond x (239 ∷ 158 ∷ b ∷ []) (239 ∷ 159 ∷ (b - 64) ∷ [])

one_escape : (x y : Bool) (b c : ℕ) (xs ys : List ℕ) → nat_lt b 192 ≡ x → nat_lt c 192 ≡ y
    → escape_if x b ++ xs ≡ escape_if y c ++ ys → (b ≡ c) × (xs ≡ ys)
one_escape true true b c xs ys l m e = (ap (λ (l : List ℕ). get_or l 2 0) e, ap (λ (l : List ℕ). drop 3 l) e)
one_escape true false b c xs ys l m e =
    let second : 158 ≡ 159 = ap (λ (l : List ℕ). get_or l 1 0) e in absurd (omega (arith, second))
one_escape false true b c xs ys l m e =
    let second : 159 ≡ 158 = ap (λ (l : List ℕ). get_or l 1 0) e in absurd (omega (arith, second))
one_escape false false b c xs ys l m e =
    let third : b - 64 ≡ c - 64 = ap (λ (l : List ℕ). get_or l 2 0) e in
    (omega (arith, third, ltb-false b 192 l, ltb-false c 192 m), ap (λ (l : List ℕ). drop 3 l) e)

one_high : (enc : Encoding) (b c : ℕ) (xs ys : List ℕ) → high_character enc b ++ xs ≡ high_character enc c ++ ys
    → (b ≡ c) × (xs ≡ ys)
one_high Latin1 b c xs ys e =
    let first : 192 + b / 64 ≡ 192 + c / 64 = ap (λ (l : List ℕ). get_or l 0 0) e in
    let second : 128 + b % 64 ≡ 128 + c % 64 = ap (λ (l : List ℕ). get_or l 1 0) e in
    (omega (arith, first, second), ap (λ (l : List ℕ). drop 2 l) e)
one_high Utf8 b c xs ys e = one_escape (nat_lt b 192) (nat_lt c 192) b c xs ys refl refl e

first_high : (enc : Encoding) (b : ℕ) (xs : List ℕ) → 192 ≤ get_or (high_character enc b ++ xs) 0 0
first_high Latin1 b xs = omega arith
first_high Utf8 b xs = by (nat_lt b 192)
  where
    by : (x : Bool) → 192 ≤ get_or (escape_if x b ++ xs) 0 0
    by true = omega arith
    by false = omega arith

abbrev pub character_if : Encoding → Bool → ℕ → List ℕ
character_if enc x b = cond x (b ∷ []) (high_character enc b)

pub one_if : (enc : Encoding) (x y : Bool) (b c : ℕ) (xs ys : List ℕ) → nat_lt b 128 ≡ x → nat_lt c 128 ≡ y
    → character_if enc x b ++ xs ≡ character_if enc y c ++ ys → (b ≡ c) × (xs ≡ ys)
one_if enc true true b c xs ys l m e = (ap (λ (l : List ℕ). get_or l 0 0) e, ap (λ (l : List ℕ). drop 1 l) e)
one_if enc true false b c xs ys l m e =
    let first : b ≡ get_or (high_character enc c ++ ys) 0 0 = ap (λ (l : List ℕ). get_or l 0 0) e in
    absurd (omega (arith, ltb-true b 128 l, first, first_high enc c ys))
one_if enc false true b c xs ys l m e =
    let first : get_or (high_character enc b ++ xs) 0 0 ≡ c = ap (λ (l : List ℕ). get_or l 0 0) e in
    absurd (omega (arith, ltb-true c 128 m, first, first_high enc b xs))
one_if enc false false b c xs ys l m e = one_high enc b c xs ys e

pub none_if : (enc : Encoding) (x : Bool) (c : ℕ) (xs : List ℕ) → [] ≡ character_if enc x c ++ xs → ⊥
none_if enc true c xs e = absurd (cc e)
none_if enc false c xs e =
    let first : 0 ≡ get_or (high_character enc c ++ xs) 0 0 = ap (λ (l : List ℕ). get_or l 0 0) e in
    omega (arith, first, first_high enc c xs)

-- ---- texts

pub one_bytes : (enc : Encoding) (text other : List ℕ) → byte_by_byte enc text ≡ byte_by_byte enc other → text ≡ other
unfolding byte_by_byte
one_bytes enc [] [] e = refl
one_bytes enc [] (c ∷ other) e = absurd (none_if enc (nat_lt c 128) c (byte_by_byte enc other) e)
one_bytes enc (b ∷ text) [] e = absurd (none_if enc (nat_lt b 128) b (byte_by_byte enc text) (sym e))
one_bytes enc (b ∷ text) (c ∷ other) e =
    let p = one_if enc (nat_lt b 128) (nat_lt c 128) b c (byte_by_byte enc text) (byte_by_byte enc other) refl refl e in
    ap₂ (λ (x : ℕ) (l : List ℕ). x ∷ l) p.0 (one_bytes enc text other p.1)

pub one_text : OneText
one_text enc shown bytes others p q = by (are_read_as_is enc shown) p q
  where
    by : (x : Bool) → cond x bytes (byte_by_byte enc bytes) ≡ shown → cond x others (byte_by_byte enc others) ≡ shown
        → bytes ≡ others
    by true h k = h ∙ sym k
    by false h k = one_bytes enc bytes others (h ∙ sym k)

-- ---- what is shown

-- bytes whose characters have no escape are below 128
no_escapes : (bytes : List ℕ) → has_escape (byte_by_byte Utf8 bytes) ≡ false → byte_by_byte Utf8 bytes ≡ bytes
unfolding byte_by_byte has_escape
no_escapes [] h = refl
no_escapes (b ∷ bytes) h = by (nat_lt b 128) (no_escapes bytes) h
  where
    escaped : (y : Bool) (xs : List ℕ) → has_escape (escape_if y b ++ xs) ≡ true
    escaped true xs = refl
    escaped false xs = refl

    by : (x : Bool) → (has_escape (byte_by_byte Utf8 bytes) ≡ false → byte_by_byte Utf8 bytes ≡ bytes)
        → has_escape (character_if Utf8 x b ++ byte_by_byte Utf8 bytes) ≡ false
        → character_if Utf8 x b ++ byte_by_byte Utf8 bytes ≡ b ∷ bytes
    by true more k =
        ap (λ (l : List ℕ). b ∷ l)
        (more (or_parts (begins_escape b (byte_by_byte Utf8 bytes)) (has_escape (byte_by_byte Utf8 bytes)) k).1)
    by false more k = absurd (true≢false (sym (escaped (nat_lt b 192) (byte_by_byte Utf8 bytes)) ∙ k))

pub read_back : BytesReadBack
unfolding characters
read_back Latin1 bytes = refl
read_back Utf8 bytes = by (is_utf8 bytes && not (has_escape bytes)) refl
  where
    each : List ℕ
    each = byte_by_byte Utf8 bytes

    one_by_one : (x : Bool) → has_escape each ≡ x → cond (not x) bytes each ≡ each
    one_by_one true h = refl
    one_by_one false h = sym (no_escapes bytes h)

    by : (w : Bool) → (is_utf8 bytes && not (has_escape bytes)) ≡ w → StandFor Utf8 (cond w bytes each) bytes
    by true e = ap (λ (x : Bool). cond x bytes each) (and_parts (is_utf8 bytes) (not (has_escape bytes)) e).1
    by false e = one_by_one (has_escape each) refl

-- ---- the test of UTF-8

pub is_ok_utf8 : {A E : Type 0} (P : A → Type 0) (Q : E → Type 0) (r : Result A E) (bytes : List ℕ)
    → MatchResult r (λ s. P s × IsUtf8 bytes) (λ e. ¬ IsUtf8 bytes × Q e) → is_ok r ≡ is_utf8 bytes
is_ok_utf8 P Q (Ok s) bytes h = sym (is_utf8-from_IsUtf8 bytes h.1)
is_ok_utf8 P Q (Err e) bytes h = by (is_utf8 bytes) refl
  where
    by : (x : Bool) → is_utf8 bytes ≡ x → false ≡ x
    by true t = absurd (h.0 (IsUtf8-from_is_utf8 bytes t))
    by false t = refl

-- ---- escapes, from a byte on

-- at a byte that begins none
pub escape_later : (text : List ℕ) (i : ℕ) → suc i < length text
    → begins_escape (get_or text i 0) (get_or text (i + 1) 0 ∷ []) ≡ false
    → has_escape (drop i text) ≡ has_escape (drop (i + 1) text)
unfolding has_escape
escape_later text i h e =
    let here : drop i text ≡ get_or text i 0 ∷ get_or text (i + 1) 0 ∷ drop (i + 1 + 1) text
    = drop_more text i 0 (omega arith) ∙ ap (λ (l : List ℕ). get_or text i 0 ∷ l) (drop_more text (i + 1) 0 (omega arith)) in
    ap has_escape here
    ∙ ap (λ (x : Bool). x || has_escape (get_or text (i + 1) 0 ∷ drop (i + 1 + 1) text)) e
    ∙ ap has_escape (sym (drop_more text (i + 1) 0 (omega arith)))

pub escape_here : (text : List ℕ) (i : ℕ) → suc i < length text
    → begins_escape (get_or text i 0) (get_or text (i + 1) 0 ∷ []) ≡ true → has_escape (drop i text) ≡ true
unfolding has_escape
escape_here text i h e =
    let here : drop i text ≡ get_or text i 0 ∷ get_or text (i + 1) 0 ∷ drop (i + 1 + 1) text
    = drop_more text i 0 (omega arith) ∙ ap (λ (l : List ℕ). get_or text i 0 ∷ l) (drop_more text (i + 1) 0 (omega arith)) in
    ap has_escape here
    ∙ ap (λ (x : Bool). x || has_escape (get_or text (i + 1) 0 ∷ drop (i + 1 + 1) text)) e

-- a text of one byte at most has none
pub escape_nowhere : (text : List ℕ) → length text ≤ 1 → has_escape text ≡ false
unfolding has_escape
escape_nowhere [] h = refl
escape_nowhere (b ∷ []) h = refl
escape_nowhere (b ∷ c ∷ text) h = absurd (omega arith)
