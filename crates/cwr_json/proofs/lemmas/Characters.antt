-- Bytes as characters, one by one.
use Rattle.std.proofs.Common.{◌≡◌, ℕ, ◌+◌, ◌<◌, ◌≤◌, Bool, true, false, cond, List, [], ◌∷◌, ◌++◌, length, take, get_or, refl, ap, ◌∙◌}
use Rattle.std.proofs.Common.{append-nil, lt-ltb, le-ltb}
use Rattle.std.proofs.lemmas.List.{take_more}
use Rattle.std.proofs.lemmas.Grind.{flat_map-append}
use Rattle.cwr_json.specs.declared.encodings.Encoding.{Encoding}
use Rattle.cwr_json.specs.Format.Encodings.{are_shown_as_is, byte_by_byte, character, characters, high_character}

pub character_low : (enc : Encoding) (b : ℕ) → b < 128 → character enc b ≡ b ∷ []
character_low enc b h = ap (λ (x : Bool). cond x (b ∷ []) (high_character enc b)) (lt-ltb b 128 h)

pub character_high : (enc : Encoding) (b : ℕ) → 128 ≤ b → character enc b ≡ high_character enc b
character_high enc b h = ap (λ (x : Bool). cond x (b ∷ []) (high_character enc b)) (le-ltb b 128 h)

-- ---- each byte as a character of its own

pub each_none : (enc : Encoding) → byte_by_byte enc [] ≡ []
unfolding byte_by_byte
each_none enc = refl

pub each_more : (enc : Encoding) (text : List ℕ) (i : ℕ) → i < length text
    → byte_by_byte enc (take (i + 1) text) ≡ byte_by_byte enc (take i text) ++ character enc (get_or text i 0)
unfolding byte_by_byte
each_more enc text i h =
    ap (byte_by_byte enc) (take_more text i 0 h) ∙ flat_map-append (character enc) (take i text) (get_or text i 0 ∷ [])
    ∙ ap (λ (l : List ℕ). byte_by_byte enc (take i text) ++ l) (append-nil (character enc (get_or text i 0)))

-- ---- a whole cell

pub characters_as_is : (enc : Encoding) (text : List ℕ) → are_shown_as_is enc text ≡ true → characters enc text ≡ text
unfolding characters
characters_as_is enc text e = ap (λ (x : Bool). cond x text (byte_by_byte enc text)) e

pub characters_each : (enc : Encoding) (text : List ℕ) → are_shown_as_is enc text ≡ false
    → characters enc text ≡ byte_by_byte enc text
unfolding characters
characters_each enc text e = ap (λ (x : Bool). cond x text (byte_by_byte enc text)) e

-- where each byte is the character that it is, so are all
pub characters_same : (enc : Encoding) (text : List ℕ) → byte_by_byte enc text ≡ text → characters enc text ≡ text
unfolding characters
characters_same enc text e = by (are_shown_as_is enc text)
  where
    by : (x : Bool) → cond x text (byte_by_byte enc text) ≡ text
    by true = refl
    by false = e
