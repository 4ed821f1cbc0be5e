-- Bytes from the characters that stand for them.
use Rattle.std.proofs.Common.{◌≡◌, ℕ, suc, ◌+◌, ◌<◌, ◌≤◌, Bool, true, false, cond, List, [], ◌∷◌, ◌++◌, length, take, drop}
use Rattle.std.proofs.Common.{get_or, Some, refl, sym, ap, ap₂, subst, ◌∙◌, append_assoc, append-nil, arith, length-drop}
use Rattle.std.proofs.Common.{ltb-true}
use Rattle.std.specs.Prelude.{◌&&◌, flat_map, nat_lt}
use Rattle.std.specs.List.{list_all}
use Rattle.std.specs.Str.{IsAscii}
use Rattle.std.proofs.lemmas.Bool.{and_parts, lt-ltb}
use Rattle.std.proofs.lemmas.List.Folds.{list_all-append}
use Rattle.std.proofs.Math.Seq.{take-add}
use Rattle.std.proofs.lemmas.List.{length-append, length-take, take_all, take-append-drop, take-take}
use Rattle.std.proofs.lemmas.Grind.{flat_map-append}
use Rattle.json.specs.Json.{Json, null, boolean, number, string, array, object}
use Rattle.json.specs.Find.{as_str}
use Rattle.cwr_json.specs.declared.encodings.Encoding.{Encoding}
use Rattle.cwr_json.specs.Format.Encodings.{StandFor, are_read_as_is, byte_by_byte, character}
use Rattle.cwr_json.proofs.lemmas.Encoded.{character_if, none_if, one_if}
use Rattle.cwr_write.specs.Format.Faults.{AreBytes}

pub characters_none : (enc : Encoding) (cell : List ℕ) → cell ≡ [] → byte_by_byte enc cell ≡ []
unfolding byte_by_byte
characters_none enc cell e = ap (λ (l : List ℕ). flat_map (character enc) l) e

characters_last : (enc : Encoding) (cell : List ℕ) (b : ℕ)
    → byte_by_byte enc (cell ++ b ∷ []) ≡ byte_by_byte enc cell ++ character enc b
unfolding byte_by_byte
characters_last enc cell b =
    flat_map-append (character enc) cell (b ∷ [])
    ∙ ap (λ (l : List ℕ). flat_map (character enc) cell ++ l) (append-nil (character enc b))

-- one byte more
pub characters_more : (enc : Encoding) (text cell new : List ℕ) (i b n : ℕ) → byte_by_byte enc cell ≡ take i text
    → new ≡ cell ++ b ∷ [] → character enc b ≡ take n (drop i text) → byte_by_byte enc new ≡ take (i + n) text
characters_more enc text cell new i b n h e k =
    ap (byte_by_byte enc) e ∙ characters_last enc cell b ∙ ap₂ (λ (x y : List ℕ). x ++ y) h k ∙ sym (take-add i n text)

pub bytes_more : (cell : List ℕ) (b : ℕ) → AreBytes cell → b < 256 → AreBytes (cell ++ b ∷ [])
bytes_more cell b h k =
    list_all-append (λ c. nat_lt c 256) cell (b ∷ [])
    ∙ ap₂ (λ (x y : Bool). x && y) h (ap (λ (x : Bool). x && true) (lt-ltb b 256 k))

pub string_of : (j : Json) (s : List ℕ) → as_str j ≡ Some s → j ≡ string s
string_of null s e = absurd (cc e)
string_of (boolean b) s e = absurd (cc e)
string_of (number n) s e = absurd (cc e)
string_of (string t) s e = let same : t ≡ s = cc e in ap string same
string_of (array js) s e = absurd (cc e)
string_of (object ms) s e = absurd (cc e)

-- what begins a part begins the whole
pub more_within : (text : List ℕ) (i n m : ℕ) → i ≤ length text → n ≤ length (take m (drop i text)) → i + n ≤ length text
more_within text i n m h k = omega (arith, length-take m (drop i text), length-drop i text)

pub front_of : (text : List ℕ) (n m : ℕ) → n ≤ length (take m text) → take n (take m text) ≡ take n text
front_of text n m h = take-take n m text (omega (arith, length-take m text))

pub front_all : (text : List ℕ) (m : ℕ) → length text ≤ m → take m text ≡ text
front_all text m h = take_all m text h

-- ---- what no characters are

-- what begins with the characters of some bytes begins with those bytes
pub characters_cut : (enc : Encoding) (cell tail other : List ℕ) → byte_by_byte enc cell ++ tail ≡ byte_by_byte enc other
    → (rest : List ℕ) × (other ≡ cell ++ rest) × (byte_by_byte enc rest ≡ tail)
unfolding byte_by_byte
characters_cut enc [] tail other e = (other, refl, sym e)
characters_cut enc (b ∷ cell) tail [] e =
    absurd (none_if enc (nat_lt b 128) b (byte_by_byte enc cell ++ tail)
    (sym e ∙ append_assoc (character enc b) (byte_by_byte enc cell) tail))
characters_cut enc (b ∷ cell) tail (c ∷ other) e =
    let whole : character enc b ++ (byte_by_byte enc cell ++ tail) ≡ character enc c ++ byte_by_byte enc other =
    sym (append_assoc (character enc b) (byte_by_byte enc cell) tail) ∙ e in
    let one =
    one_if enc (nat_lt b 128) (nat_lt c 128) b c (byte_by_byte enc cell ++ tail) (byte_by_byte enc other) refl refl whole in
    let more = characters_cut enc cell tail other one.1 in
    (more.0, ap₂ (λ (x : ℕ) (l : List ℕ). x ∷ l) (sym one.0) more.1, more.2)

one_byte : (rest : List ℕ) (c : ℕ) → AreBytes (c ∷ rest) → c < 256
one_byte rest c h = ltb-true c 256 (and_parts (nat_lt c 256) (list_all (λ b. nat_lt b 256) rest) h).0

pub bytes_after : (cell rest : List ℕ) → AreBytes (cell ++ rest) → AreBytes rest
bytes_after [] rest h = h
bytes_after (b ∷ cell) rest h = bytes_after cell rest (and_parts (nat_lt b 256) (list_all (λ c. nat_lt c 256) (cell ++ rest)) h).1

split_at : (text : List ℕ) (i : ℕ) → text ≡ take i text ++ drop i text
split_at text i = sym (take-append-drop i text)

-- where no character comes, the text is that of no bytes
pub no_first : (enc : Encoding) (text cell other : List ℕ) (i : ℕ) → byte_by_byte enc cell ≡ take i text → i < length text
    → ((b : ℕ) (rest : List ℕ) → b < 256 → ¬ (drop i text ≡ character enc b ++ rest)) → AreBytes other
    → byte_by_byte enc other ≡ text → ⊥
unfolding byte_by_byte
no_first enc text cell other i so_far less none bytes e =
    let c =
    characters_cut enc cell (drop i text) other
    (ap (λ (l : List ℕ). l ++ drop i text) so_far ∙ sym (split_at text i) ∙ sym e) in
    by c.0 (bytes_after cell c.0 (subst AreBytes c.1 bytes)) c.2
  where
    by : (rest : List ℕ) → AreBytes rest → byte_by_byte enc rest ≡ drop i text → ⊥
    by [] h k = omega (arith, ap length k, length-drop i text, less)
    by (b ∷ rest) h k = none b (byte_by_byte enc rest) (one_byte rest b h) (sym k)

-- nor where there is no room for another byte
pub no_room : (enc : Encoding) (text cell other : List ℕ) (i n : ℕ) → byte_by_byte enc cell ≡ take i text → i < length text
    → n ≤ length cell → length other ≤ n → byte_by_byte enc other ≡ text → ⊥
unfolding byte_by_byte
no_room enc text cell other i n so_far less full fits e =
    let c =
    characters_cut enc cell (drop i text) other
    (ap (λ (l : List ℕ). l ++ drop i text) so_far ∙ sym (split_at text i) ∙ sym e) in
    by c.0 (omega (arith, ap length c.1, length-append cell c.0)) c.2
  where
    by : (rest : List ℕ) → length rest ≡ 0 → byte_by_byte enc rest ≡ drop i text → ⊥
    by [] h k = omega (arith, ap length k, length-drop i text, less)
    by (b ∷ rest) h k = omega (arith, h)

-- ---- which bytes they stand for

pub stand_as_is : (enc : Encoding) (text : List ℕ) → are_read_as_is enc text ≡ true → StandFor enc text text
stand_as_is enc text e = ap (λ (x : Bool). cond x text (byte_by_byte enc text)) e

-- bytes below 128 are characters of their own
ascii_each : (enc : Encoding) (text : List ℕ) → IsAscii text → byte_by_byte enc text ≡ text
unfolding byte_by_byte
ascii_each enc [] h = refl
ascii_each enc (b ∷ text) h =
    let low : b < 128 = h 0 in
    ap₂ (λ (x : Bool) (l : List ℕ). character_if enc x b ++ l) (lt-ltb b 128 low) (ascii_each enc text (λ i. h (suc i)))

pub stand_ascii : (enc : Encoding) (text : List ℕ) → IsAscii text → StandFor enc text text
stand_ascii enc text h = by (are_read_as_is enc text)
  where
    by : (x : Bool) → cond x text (byte_by_byte enc text) ≡ text
    by true = refl
    by false = ascii_each enc text h

pub stand_each : (enc : Encoding) (text cell : List ℕ) → are_read_as_is enc text ≡ false → byte_by_byte enc cell ≡ text
    → StandFor enc text cell
stand_each enc text cell e h = ap (λ (x : Bool). cond x cell (byte_by_byte enc cell)) e ∙ h

pub each_stands : (enc : Encoding) (text cell : List ℕ) → are_read_as_is enc text ≡ false → StandFor enc text cell
    → byte_by_byte enc cell ≡ text
each_stands enc text cell e h = sym (ap (λ (x : Bool). cond x cell (byte_by_byte enc cell)) e) ∙ h

-- the bytes of a slice
pub slice_bytes : (text : List ℕ) → ((k : ℕ) → get_or text k 0 < 256) → AreBytes text
slice_bytes [] h = refl
slice_bytes (b ∷ text) h = ap₂ (λ (x y : Bool). x && y) (lt-ltb b 256 (h 0)) (slice_bytes text (λ k. h (suc k)))
