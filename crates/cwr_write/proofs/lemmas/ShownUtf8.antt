-- What bytes are shown as is in UTF-8.
use Rattle.std.proofs.Common.{◌≡◌, ℕ, ◌+◌, ◌-◌, ◌/◌, ◌%◌, ◌<◌, ◌≤◌, Bool, true, false, not, cond, ◌&&◌, List, [], ◌∷◌, IsUtf8}
use Rattle.std.proofs.Common.{refl, ap, ap₂, subst, ◌∙◌, arith, leb, ltb, ltb-true}
use Rattle.std.specs.Prelude.{nat_lt}
use Rattle.std.specs.List.{list_all}
use Rattle.std.specs.Str.{is_utf8}
use Rattle.std.proofs.lemmas.Bool.{and_parts, le-leb, le-ltb, lt-ltb, ltb-false}
use Rattle.std.proofs.lemmas.Str.{IsUtf8-append, IsUtf8-encode, IsUtf8-from_is_utf8, IsUtf8-nil}
use lib.Utf8.{encode, low_scalar, scalar}
use Rattle.cwr_json.specs.declared.encodings.Encoding.{Encoding}
use Rattle.cwr_json.specs.declared.encodings.Encoding.TheVariants.{Latin1, Utf8}
use Rattle.cwr_json.specs.Format.Encodings.{byte_by_byte, character, characters, has_escape, high_character}
use Rattle.cwr_json.proofs.lemmas.Encoded.{character_if}
use Rattle.cwr_write.specs.Format.Faults.{AreBytes}

-- ---- characters of one byte, of two and of three

one_byte : (c : ℕ) → c < 128 → encode c ≡ c ∷ []
unfolding encode
one_byte c h = let low : ltb c 128 ≡ true = lt-ltb c 128 h in rw low refl

two_bytes : (c : ℕ) → 128 ≤ c → c < 2048 → encode c ≡ (192 + c / 64) ∷ (128 + c % 64) ∷ []
unfolding encode
two_bytes c h k =
    let first : ltb c 128 ≡ false = le-ltb c 128 h in
    let second : ltb c 2048 ≡ true = lt-ltb c 2048 k in
    rw (first, second) refl

three_bytes : (c : ℕ) → 2048 ≤ c → c < 65536 → encode c ≡ (224 + c / 4096) ∷ (128 + c / 64 % 64) ∷ (128 + c % 64) ∷ []
unfolding encode
three_bytes c h k =
    let first : ltb c 128 ≡ false = le-ltb c 128 (omega arith) in
    let second : ltb c 2048 ≡ false = le-ltb c 2048 h in
    let third : ltb c 65536 ≡ true = lt-ltb c 65536 k in
    rw (first, second, third) refl

three_are : (a b c x y z : ℕ) → a ≡ x → b ≡ y → c ≡ z → a ∷ b ∷ c ∷ [] ≡ x ∷ y ∷ z ∷ []
three_are a b c x y z e f g =
    ap₂ (λ (k : ℕ) (l : List ℕ). k ∷ l) e (ap₂ (λ (k : ℕ) (l : List ℕ). k ∷ l) f (ap (λ (k : ℕ). k ∷ []) g))

-- ---- bytes

high_scalar : (c : ℕ) → 57344 ≤ c → c < 1114112 → scalar c ≡ true
high_scalar c h k = by (ltb c 55296)
  where
    rest : (leb 57344 c && ltb c 1114112) ≡ true
    rest = ap₂ (λ (x y : Bool). x && y) (le-leb 57344 c h) (lt-ltb c 1114112 k)

    by : (x : Bool) → cond x true (leb 57344 c && ltb c 1114112) ≡ true
    by true = refl
    by false = rest

low_utf8 : (b : ℕ) → b < 128 → IsUtf8 (b ∷ [])
low_utf8 b h = subst IsUtf8 (one_byte b h) (IsUtf8-encode b (low_scalar b (omega arith)))

escape_utf8 : (b c : ℕ) (x : Bool) → c ≡ 63232 + b → 128 ≤ b → b < 256 → nat_lt b 192 ≡ x
    → IsUtf8 (cond x (239 ∷ 158 ∷ b ∷ []) (239 ∷ 159 ∷ (b - 64) ∷ []))
escape_utf8 b c true e h k l =
    let low : b < 192 = ltb-true b 192 l in
    subst IsUtf8 (three_bytes c (omega arith) (omega arith) ∙ three_are _ _ _ 239 158 b (omega (arith, e, h, low))
    (omega (arith, e, h, low)) (omega (arith, e, h, low))) (IsUtf8-encode c (high_scalar c (omega arith) (omega arith)))
escape_utf8 b c false e h k l =
    let high : 192 ≤ b = ltb-false b 192 l in
    subst IsUtf8 (three_bytes c (omega arith) (omega arith) ∙ three_are _ _ _ 239 159 (b - 64) (omega (arith, e, k, high))
    (omega (arith, e, k, high)) (omega (arith, e, k, high))) (IsUtf8-encode c (high_scalar c (omega arith) (omega arith)))

high_utf8 : (enc : Encoding) (b : ℕ) → 128 ≤ b → b < 256 → IsUtf8 (high_character enc b)
high_utf8 Latin1 b h k = subst IsUtf8 (two_bytes b h (omega arith)) (IsUtf8-encode b (low_scalar b (omega arith)))
high_utf8 Utf8 b h k = escape_utf8 b (63232 + b) (nat_lt b 192) refl h k refl

character_utf8 : (enc : Encoding) (b : ℕ) → b < 256 → IsUtf8 (character enc b)
character_utf8 enc b h = by (nat_lt b 128) refl
  where
    by : (x : Bool) → nat_lt b 128 ≡ x → IsUtf8 (character_if enc x b)
    by true e = low_utf8 b (ltb-true b 128 e)
    by false e = high_utf8 enc b (ltb-false b 128 e) h

each_utf8 : (enc : Encoding) (text : List ℕ) → AreBytes text → IsUtf8 (byte_by_byte enc text)
unfolding byte_by_byte
each_utf8 enc [] h = IsUtf8-nil
each_utf8 enc (b ∷ text) h =
    let parts = and_parts (nat_lt b 256) (list_all (λ c. nat_lt c 256) text) h in
    IsUtf8-append (character enc b) (byte_by_byte enc text) (character_utf8 enc b (ltb-true b 256 parts.0))
    (each_utf8 enc text parts.1)

pub characters_utf8 : (enc : Encoding) (text : List ℕ) → AreBytes text → IsUtf8 (characters enc text)
unfolding characters
characters_utf8 Latin1 text h = each_utf8 Latin1 text h
characters_utf8 Utf8 text h = by (is_utf8 text && not (has_escape text)) refl
  where
    by : (x : Bool) → (is_utf8 text && not (has_escape text)) ≡ x → IsUtf8 (cond x text (byte_by_byte Utf8 text))
    by true e = IsUtf8-from_is_utf8 text (and_parts (is_utf8 text) (not (has_escape text)) e).0
    by false e = each_utf8 Utf8 text h
