-- What stands for a number in what was sent, where it isn't blank.
use Rattle.std.proofs.Common.{◌≡◌, ℕ, ◌-◌, Bool, true, false, List, [], ◌∷◌, ◌++◌, length, refl, sym, ap, subst, ◌∙◌, arith}
use Rattle.std.specs.Prelude.{◌==◌, nat_lt, codes, if◌then◌else◌}
use Rattle.std.specs.List.{flat_map}
use Rattle.cwr_fields.specs.Format.Bytes.{trimmed}
use Rattle.cwr_fields.proofs.lemmas.Trims.{blank_when_trimmed}
use Rattle.cwr_json.specs.declared.encodings.Encoding.{Encoding}
use Rattle.cwr_json.specs.declared.encodings.Encoding.TheVariants.{Latin1, Utf8}
use Rattle.cwr_json.specs.Format.Encodings.{are_shown_as_is, byte_by_byte, character, characters, escape_character, high_character}
use Rattle.cwr_acks.specs.declared.forms.Cells.{Cells}
use Rattle.cwr_acks.specs.declared.forms.Cells.TheVariants.{Bytes, Characters}
use Rattle.cwr_acks.specs.Format.AckTexts.{cell_part, shown_as, value_part}

-- it has a byte
record IsSome (text : List ℕ) : Type 0 where
  pub first : ℕ
  pub rest : List ℕ
  pub is : text ≡ first ∷ rest

some_as : (a b : List ℕ) → a ≡ b → IsSome a → IsSome b
some_as a b e h = subst IsSome e h

escape_some : (b : ℕ) → IsSome (escape_character b)
escape_some b = by (nat_lt b 192)
  where
    by : (c : Bool) → IsSome (if c then 239 ∷ 158 ∷ b ∷ [] else 239 ∷ 159 ∷ (b - 64) ∷ [])
    by true = record { first = 239; rest = 158 ∷ b ∷ []; is = refl }
    by false = record { first = 239; rest = 159 ∷ (b - 64) ∷ []; is = refl }

high_some : (enc : Encoding) (b : ℕ) → IsSome (high_character enc b)
high_some Latin1 b = record { first = _; rest = _; is = refl }
high_some Utf8 b = escape_some b

character_some : (enc : Encoding) (b : ℕ) → IsSome (character enc b)
character_some enc b = by (nat_lt b 128)
  where
    by : (c : Bool) → IsSome (if c then b ∷ [] else high_character enc b)
    by true = record { first = b; rest = []; is = refl }
    by false = high_some enc b

appended_some : (a b : List ℕ) → IsSome a → IsSome (a ++ b)
appended_some a b h = record { first = h.first; rest = h.rest ++ b; is = ap (λ (l : List ℕ). l ++ b) h.is }

characters_some : (enc : Encoding) (x : ℕ) (xs : List ℕ) → IsSome (characters enc (x ∷ xs))
unfolding characters byte_by_byte
characters_some enc x xs = by (are_shown_as_is enc (x ∷ xs))
  where
    by : (b : Bool) → IsSome (if b then x ∷ xs else character enc x ++ flat_map (character enc) xs)
    by true = record { first = x; rest = xs; is = refl }
    by false = appended_some (character enc x) (flat_map (character enc) xs) (character_some enc x)

abbrev no_text : List ℕ
no_text = []

characters_none : (enc : Encoding) → characters enc [] ≡ []
unfolding characters byte_by_byte
characters_none enc = by (are_shown_as_is enc [])
  where
    by : (b : Bool) → (if b then no_text else no_text) ≡ no_text
    by true = refl
    by false = refl

-- a text after the word, where it has a byte
valued : (text : List ℕ) → IsSome text → codes " sent " ++ text ≡ value_part text
valued text h = ap (λ (l : List ℕ). codes " sent " ++ l) h.is ∙ ap value_part (sym h.is)

trimmed_value : (cells : Cells) (number text : List ℕ) → trimmed number ≡ text
    → (if length text == 0 then [] else codes " sent " ++ shown_as cells number) ≡ value_part (shown_as cells number)
trimmed_value Bytes number [] e = ap value_part (sym e)
trimmed_value (Characters enc) number [] e = ap value_part (sym (ap (characters enc) e ∙ characters_none enc))
trimmed_value Bytes number (x ∷ xs) e =
    let some : (length (x ∷ xs) == 0) ≡ false = grind arith in
    rw some (valued (trimmed number) (some_as (x ∷ xs) (trimmed number) (sym e) (record { first = x; rest = xs; is = refl })))
trimmed_value (Characters enc) number (x ∷ xs) e =
    let some : (length (x ∷ xs) == 0) ≡ false = grind arith in
    rw some (valued (characters enc (trimmed number))
    (some_as (characters enc (x ∷ xs)) (characters enc (trimmed number)) (ap (characters enc) (sym e)) (characters_some enc x xs)))

pub sent_value : (cells : Cells) (number : List ℕ) → cell_part cells (codes " sent ") number ≡ value_part (shown_as cells number)
sent_value cells number =
    ap (λ (b : Bool). if b then [] else codes " sent " ++ shown_as cells number) (blank_when_trimmed number)
    ∙ trimmed_value cells number (trimmed number) refl
