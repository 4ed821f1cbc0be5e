-- The characters that bytes are shown as call for quotes where the bytes do, and of these only a quote stands twice.
use Rattle.std.proofs.Common.{◌≡◌, ℕ, ◌+◌, ◌-◌, ◌/◌, ◌%◌, ◌<◌, ◌≤◌, zero, suc, Bool, true, false, cond, List, [], ◌∷◌, ◌++◌, replicate}
use Rattle.std.proofs.Common.{refl, sym, ap, ap₂, ◌∙◌, arith, append-nil}
use Rattle.std.specs.Prelude.{codes, nat_eq, nat_lt, ◌||◌}
use Rattle.std.specs.List.{flat_map, list_any}
use Rattle.std.proofs.lemmas.Bool.{and_parts, eqb-true, ltb-false}
use Rattle.std.proofs.lemmas.Bool.Decides.{nat_tests}
use Rattle.std.proofs.lemmas.Grind.{flat_map-append}
use Rattle.std.proofs.lemmas.List.Folds.{list_any-append}
use Rattle.cwr_fields.specs.Format.Bytes.{is_spaces, trimmed}
use Rattle.cwr_fields.proofs.lemmas.TrimmedTexts.{spaces_after}
use Rattle.cwr_json.specs.declared.encodings.Encoding.{Encoding}
use Rattle.cwr_json.specs.declared.encodings.Encoding.TheVariants.{Latin1, Utf8}
use Rattle.cwr_json.specs.Format.Encodings.{are_shown_as_is, byte_by_byte, character, characters, high_character}
use Rattle.cwr_json.proofs.lemmas.Characters.{character_high, character_low}
use Rattle.cwr_tables.specs.Format.Tables.{calls_for_quotes, doubled}
use Rattle.cwr_tables.specs.Format.RecordTables.{shown_cell}
use Rattle.cwr_tables.proofs.lemmas.PlainTexts.{plain_above}

abbrev quotes_in : List ℕ → Bool
quotes_in text = list_any calls_for_quotes text

or_false : (a : Bool) → (a || false) ≡ a
or_false true = refl
or_false false = refl

-- ---- a byte from 128 on

once : (b : ℕ) → 128 ≤ b → doubled b ≡ b ∷ []
once b h = ap (λ (x : Bool). cond x (34 ∷ 34 ∷ []) (b ∷ [])) (apart b h)
  where
    apart : (a : ℕ) → 128 ≤ a → nat_eq a 34 ≡ false
    apart a k = grind (arith, nat_tests, k)

-- bytes from 128 on have no quote, and call for none
pub record StaysPlain (text : List ℕ) : Type 0 where
  pub once : flat_map doubled text ≡ text
  pub unquoted : quotes_in text ≡ false

two : (b c : ℕ) → 128 ≤ b → 128 ≤ c → StaysPlain (b ∷ c ∷ [])
two b c h k = record {
  once = ap₂ (λ (x y : List ℕ). x ++ (y ++ [])) (once b h) (once c k);
  unquoted = ap₂ (λ (x y : Bool). x || (y || false)) (plain_above b (omega arith)) (plain_above c (omega arith));
}

three : (b c d : ℕ) → 128 ≤ b → 128 ≤ c → 128 ≤ d → StaysPlain (b ∷ c ∷ d ∷ [])
three b c d h k l =
    let rest = two c d k l in
    record {
      once = ap₂ (λ (x y : List ℕ). x ++ y) (once b h) rest.once;
      unquoted = ap₂ (λ (x y : Bool). x || y) (plain_above b (omega arith)) rest.unquoted;
    }

high_plain : (enc : Encoding) (b : ℕ) → 128 ≤ b → StaysPlain (high_character enc b)
high_plain Latin1 b h = two (192 + b / 64) (128 + b % 64) (omega arith) (omega arith)
high_plain Utf8 b h = by (nat_lt b 192) refl
  where
    by : (x : Bool) → nat_lt b 192 ≡ x → StaysPlain (cond x (239 ∷ 158 ∷ b ∷ []) (239 ∷ 159 ∷ (b - 64) ∷ []))
    by true e = three 239 158 b (omega arith) (omega arith) h
    by false e = three 239 159 (b - 64) (omega arith) (omega arith) (omega (arith, ltb-false b 192 e))

-- ---- one character

pub doubled_low : (enc : Encoding) (b : ℕ) → b < 128 → doubled b ≡ flat_map doubled (character enc b)
doubled_low enc b h = sym (ap (flat_map doubled) (character_low enc b h) ∙ append-nil (doubled b))

pub doubled_high : (enc : Encoding) (b : ℕ) → 128 ≤ b → character enc b ≡ flat_map doubled (character enc b)
doubled_high enc b h =
    let same = character_high enc b h in same ∙ sym (ap (flat_map doubled) same ∙ (high_plain enc b h).once)

quotes_character : (enc : Encoding) (b : ℕ) → quotes_in (character enc b) ≡ calls_for_quotes b
quotes_character enc b = by (nat_lt b 128) refl
  where
    by : (x : Bool) → nat_lt b 128 ≡ x → quotes_in (cond x (b ∷ []) (high_character enc b)) ≡ calls_for_quotes b
    by true e = or_false (calls_for_quotes b)
    by false e =
        let high : 128 ≤ b = ltb-false b 128 e in (high_plain enc b high).unquoted ∙ sym (plain_above b (omega (arith, high)))

-- ---- all of them

quotes_each : (enc : Encoding) (text : List ℕ) → quotes_in (byte_by_byte enc text) ≡ quotes_in text
unfolding byte_by_byte
quotes_each enc [] = refl
quotes_each enc (b ∷ text) =
    list_any-append calls_for_quotes (character enc b) (byte_by_byte enc text)
    ∙ ap₂ (λ (x y : Bool). x || y) (quotes_character enc b) (quotes_each enc text)

pub quotes_characters : (enc : Encoding) (text : List ℕ) → quotes_in (characters enc text) ≡ quotes_in text
unfolding characters
quotes_characters enc text = by (are_shown_as_is enc text)
  where
    by : (x : Bool) → quotes_in (cond x text (byte_by_byte enc text)) ≡ quotes_in text
    by true = refl
    by false = quotes_each enc text

pub doubled_by_bytes : (enc : Encoding) (text : List ℕ)
    → flat_map (λ b. flat_map doubled (character enc b)) text ≡ flat_map doubled (byte_by_byte enc text)
unfolding byte_by_byte
doubled_by_bytes enc [] = refl
doubled_by_bytes enc (b ∷ text) =
    ap (λ (l : List ℕ). flat_map doubled (character enc b) ++ l) (doubled_by_bytes enc text)
    ∙ sym (flat_map-append doubled (character enc b) (byte_by_byte enc text))

-- ---- a cell of a record

quotes_replicate : (n : ℕ) → quotes_in (replicate n 32) ≡ false
quotes_replicate zero = refl
quotes_replicate (suc n) = quotes_replicate n

quotes_trimmed : (cell : List ℕ) → quotes_in (trimmed cell) ≡ quotes_in cell
quotes_trimmed cell =
    let p = spaces_after cell in
    sym (ap quotes_in p.1 ∙ list_any-append calls_for_quotes (trimmed cell) (replicate p.0 32)
    ∙ ap (λ (x : Bool). quotes_in (trimmed cell) || x) (quotes_replicate p.0) ∙ or_false (quotes_in (trimmed cell)))

pub quotes_shown : (enc : Encoding) (cell : List ℕ) → quotes_in (shown_cell enc cell) ≡ quotes_in cell
quotes_shown enc cell = quotes_characters enc (trimmed cell) ∙ quotes_trimmed cell

quotes_spaces : (cell : List ℕ) → is_spaces cell ≡ true → quotes_in cell ≡ false
quotes_spaces [] h = refl
quotes_spaces (b ∷ cell) h =
    let parts = and_parts (nat_eq b 32) (is_spaces cell) h in
    ap₂ (λ (x y : Bool). x || y) (ap calls_for_quotes (eqb-true b 32 parts.0)) (quotes_spaces cell parts.1)

-- two cells with a space between them, unless the second is blank
pub quotes_in_both : (enc : Encoding) (last first : List ℕ)
    → quotes_in (shown_cell enc last ++ cond (is_spaces first) [] (codes " " ++ shown_cell enc first))
    ≡ (quotes_in last || quotes_in first)
quotes_in_both enc last first =
    list_any-append calls_for_quotes (shown_cell enc last) (cond (is_spaces first) [] (codes " " ++ shown_cell enc first))
    ∙ ap₂ (λ (x y : Bool). x || y) (quotes_shown enc last) (by (is_spaces first) refl)
  where
    by : (b : Bool) → is_spaces first ≡ b → quotes_in (cond b [] (codes " " ++ shown_cell enc first)) ≡ quotes_in first
    by true e = sym (quotes_spaces first e)
    by false e = quotes_shown enc first
