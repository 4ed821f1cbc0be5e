-- The letters of the kinds and the words of constant cells are in UTF-8.
use Rattle.std.proofs.Common.{◌≡◌, ℕ, zero, suc, ◌<◌, Bool, true, nat_lt, List, [], ◌∷◌, refl, arith}
use Rattle.std.specs.Prelude.{slice_index}
use Rattle.std.specs.List.{list_all}
use Rattle.std.specs.Str.{IsUtf8}
use Rattle.std.proofs.lemmas.Bool.{and_parts, ltb-true}
use Rattle.std.proofs.lemmas.Str.{IsUtf8-from_ascii}
use Rattle.cwr_fields.specs.declared.kinds.Kind.{Kind}
use Rattle.cwr_fields.specs.declared.kinds.Kind.TheVariants as kinds
use Rattle.cwr_fields.specs.declared.cell_types.Word.{Word}
use Rattle.cwr_fields.specs.declared.cell_types.Word.TheVariants as words
use Rattle.cwr_fields.specs.Format.Kinds.{letters}
use Rattle.cwr_fields.specs.Format.Codes.{word_text}

-- each byte is one of ASCII
are_low : List ℕ → Bool
are_low text = list_all (λ b. nat_lt b 128) text

low_bytes : (bs : List ℕ) → are_low bs ≡ true → (i : ℕ) → slice_index bs i < 128
unfolding are_low
low_bytes [] h zero = omega arith
low_bytes [] h (suc i) = omega arith
low_bytes (b ∷ bs) h zero = ltb-true b 128 (and_parts (nat_lt b 128) (are_low bs) h).0
low_bytes (b ∷ bs) h (suc i) = low_bytes bs (and_parts (nat_lt b 128) (are_low bs) h).1 i

utf8 : (bs : List ℕ) → are_low bs ≡ true → IsUtf8 bs
utf8 bs h = IsUtf8-from_ascii bs (low_bytes bs h)

low_letters : (kind : Kind) → are_low (letters kind) ≡ true
unfolding are_low
low_letters kinds.Hdr = refl
low_letters this_kind = refl

pub letters_utf8 : (kind : Kind) → IsUtf8 (letters kind)
letters_utf8 kind = utf8 (letters kind) (low_letters kind)

low_word : (word : Word) → are_low (word_text word) ≡ true
unfolding are_low
low_word words.Edi = refl
low_word words.Group = refl

pub word_utf8 : (word : Word) → IsUtf8 (word_text word)
word_utf8 word = utf8 (word_text word) (low_word word)
