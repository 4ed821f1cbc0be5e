-- Bytes as they stand between quotes, one by one.
use Rattle.std.proofs.Common.{◌≡◌, ◌⊎◌, ℕ, ◌+◌, ◌-◌, ◌/◌, ◌%◌, ◌<◌, ◌≤◌, Bool, true, false, cond, List, [], ◌∷◌, ◌++◌}
use Rattle.std.proofs.Common.{length, take, get_or, refl, sym, subst, ap, ap₂, ◌∙◌, inl, inr, arith, append-nil, lt-ltb, le-ltb}
use Rattle.std.specs.Prelude.{nat_lt}
use Rattle.std.proofs.lemmas.List.{take_more}
use Rattle.std.proofs.lemmas.Grind.{flat_map-append}
use Rattle.std.proofs.lemmas.Bool.{ltb-false}
use Rattle.json.specs.Print.{escape, escape_byte}
use Rattle.json.proofs.Printed.Strings.{escape_byte_plain}
use Rattle.cwr_json.specs.declared.encodings.Encoding.{Encoding}
use Rattle.cwr_json.specs.declared.encodings.Encoding.TheVariants.{Latin1, Utf8}
use Rattle.cwr_json.specs.Format.Encodings.{are_shown_as_is, byte_by_byte, character, characters, high_character}
use Rattle.cwr_json.specs.Steps.FormTexts.{IsSimple, spelled, spelled_byte, spelled_bytes}

-- ---- one byte

pub escaped_mark : (b : ℕ) → (b ≡ 34) ⊎ (b ≡ 92) → escape_byte b ≡ 92 ∷ b ∷ []
unfolding escape_byte
escaped_mark b (inl e) = subst (λ (x : ℕ). escape_byte x ≡ 92 ∷ x ∷ []) (sym e) refl
escaped_mark b (inr e) = subst (λ (x : ℕ). escape_byte x ≡ 92 ∷ x ∷ []) (sym e) refl

pub escaped_same : (b : ℕ) → 32 ≤ b → (b ≡ 34 → ⊥) → (b ≡ 92 → ⊥) → escape_byte b ≡ b ∷ []
escaped_same b low q s = escape_byte_plain b q s low

escaped_above : (b : ℕ) → 128 ≤ b → escape_byte b ≡ b ∷ []
escaped_above b h = escape_byte_plain b (λ e. omega (arith, e)) (λ e. omega (arith, e)) (omega arith)

-- bytes from 128 on
escaped_two : (b c : ℕ) → 128 ≤ b → 128 ≤ c → escape (b ∷ c ∷ []) ≡ b ∷ c ∷ []
escaped_two b c h k = ap₂ (λ (x y : List ℕ). x ++ (y ++ [])) (escaped_above b h) (escaped_above c k)

escaped_three : (b c d : ℕ) → 128 ≤ b → 128 ≤ c → 128 ≤ d → escape (b ∷ c ∷ d ∷ []) ≡ b ∷ c ∷ d ∷ []
escaped_three b c d h k l = ap₂ (λ (x y : List ℕ). x ++ y) (escaped_above b h) (escaped_two c d k l)

pub escaped_high : (enc : Encoding) (b : ℕ) → 128 ≤ b → escape (high_character enc b) ≡ high_character enc b
escaped_high Latin1 b h = escaped_two (192 + b / 64) (128 + b % 64) (omega arith) (omega arith)
escaped_high Utf8 b h = by (nat_lt b 192) refl
  where
    by : (x : Bool) → nat_lt b 192 ≡ x → escape (cond x (239 ∷ 158 ∷ b ∷ []) (239 ∷ 159 ∷ (b - 64) ∷ []))
        ≡ cond x (239 ∷ 158 ∷ b ∷ []) (239 ∷ 159 ∷ (b - 64) ∷ [])
    by true e = escaped_three 239 158 b (omega arith) (omega arith) h
    by false e = escaped_three 239 159 (b - 64) (omega arith) (omega arith) (omega (arith, ltb-false b 192 e))

pub spelled_low : (enc : Encoding) (b : ℕ) → b < 128 → spelled_byte enc b ≡ escape_byte b
spelled_low enc b h =
    ap (λ (x : Bool). escape (cond x (b ∷ []) (high_character enc b))) (lt-ltb b 128 h) ∙ append-nil (escape_byte b)

pub spelled_high : (enc : Encoding) (b : ℕ) → 128 ≤ b → spelled_byte enc b ≡ high_character enc b
spelled_high enc b h = ap (λ (x : Bool). escape (cond x (b ∷ []) (high_character enc b))) (le-ltb b 128 h) ∙ escaped_high enc b h

-- ---- a byte that stands for itself

pub simple_byte : (b : ℕ) → 32 ≤ b → b < 128 → (b ≡ 34 → ⊥) → (b ≡ 92 → ⊥) → IsSimple (b ∷ [])
unfolding byte_by_byte
simple_byte b low high q s = record {
  marks = ap (λ (l : List ℕ). l ++ []) (escape_byte_plain b q s low);
  low = λ enc. ap (λ (x : Bool). cond x (b ∷ []) (high_character enc b) ++ []) (lt-ltb b 128 high);
}

simple_both : (xs ys : List ℕ) → IsSimple xs → IsSimple ys → IsSimple (xs ++ ys)
unfolding byte_by_byte
simple_both xs ys p q = record {
  marks = flat_map-append escape_byte xs ys ∙ ap₂ (λ (x y : List ℕ). x ++ y) p.marks q.marks;
  low = λ enc. flat_map-append (character enc) xs ys ∙ ap₂ (λ (x y : List ℕ). x ++ y) (p.low enc) (q.low enc);
}

pub simple_none : IsSimple []
unfolding byte_by_byte
simple_none = record { marks = refl; low = λ enc. refl }

pub simple_more : (text : List ℕ) (i : ℕ) → i < length text → IsSimple (take i text) → IsSimple (get_or text i 0 ∷ [])
    → IsSimple (take (i + 1) text)
simple_more text i h p q = subst IsSimple (sym (take_more text i 0 h)) (simple_both (take i text) (get_or text i 0 ∷ []) p q)

-- ---- a whole cell

pub spelled_simple : (enc : Encoding) (text : List ℕ) → IsSimple text → spelled enc text ≡ text
unfolding characters
spelled_simple enc text p = by (are_shown_as_is enc text)
  where
    by : (x : Bool) → escape (cond x text (byte_by_byte enc text)) ≡ text
    by true = p.marks
    by false = ap escape (p.low enc) ∙ p.marks

pub spelled_as_is : (enc : Encoding) (text : List ℕ) → are_shown_as_is enc text ≡ true → spelled enc text ≡ escape text
unfolding characters
spelled_as_is enc text e = ap (λ (x : Bool). escape (cond x text (byte_by_byte enc text))) e

escaped_bytes : (enc : Encoding) (text : List ℕ) → escape (byte_by_byte enc text) ≡ spelled_bytes enc text
unfolding byte_by_byte
escaped_bytes enc [] = refl
escaped_bytes enc (b ∷ text) =
    flat_map-append escape_byte (character enc b) (byte_by_byte enc text)
    ∙ ap (λ (l : List ℕ). spelled_byte enc b ++ l) (escaped_bytes enc text)

pub spelled_each : (enc : Encoding) (text : List ℕ) → are_shown_as_is enc text ≡ false → spelled enc text ≡ spelled_bytes enc text
unfolding characters
spelled_each enc text e = ap (λ (x : Bool). escape (cond x text (byte_by_byte enc text))) e ∙ escaped_bytes enc text

-- ---- with one byte more

pub escaped_more : (text : List ℕ) (i : ℕ) → i < length text
    → escape (take (i + 1) text) ≡ escape (take i text) ++ escape_byte (get_or text i 0)
escaped_more text i h =
    ap escape (take_more text i 0 h) ∙ flat_map-append escape_byte (take i text) (get_or text i 0 ∷ [])
    ∙ ap (λ (l : List ℕ). escape (take i text) ++ l) (append-nil (escape_byte (get_or text i 0)))

pub spelled_more : (enc : Encoding) (text : List ℕ) (i : ℕ) → i < length text
    → spelled_bytes enc (take (i + 1) text) ≡ spelled_bytes enc (take i text) ++ spelled_byte enc (get_or text i 0)
spelled_more enc text i h =
    ap (spelled_bytes enc) (take_more text i 0 h) ∙ flat_map-append (spelled_byte enc) (take i text) (get_or text i 0 ∷ [])
    ∙ ap (λ (l : List ℕ). spelled_bytes enc (take i text) ++ l) (append-nil (spelled_byte enc (get_or text i 0)))
