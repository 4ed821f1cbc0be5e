-- Trailing spaces, from the end of a text.
use Rattle.std.specs.Int.{from_le_bytes, to_le_bytes}
use Rattle.std.proofs.lemmas.List.{take_more, take_all, take-append-drop, get_or-drop, length-drop}
use Rattle.std.proofs.lemmas.Nat.{le_bytes_2, le_bytes_4}
use Rattle.std.proofs.Common.{◌≡◌, ◌≢◌, ℕ, zero, suc, ◌+◌, ◌-◌, ◌<◌, ◌≤◌, length, take, drop, get_or, replicate, sym, true, false, Bool, ◌&&◌, ◌==◌, if◌then◌else◌, eqb, List, [], ◌∷◌, ◌++◌, refl}
use Rattle.std.proofs.Common.{ap, ◌∙◌, arith, Fits, w8, w16, w32}
use Rattle.std.proofs.lemmas.Bool.{ne_eqb}
use Rattle.cwr_fields.specs.Format.Bytes.{trimmed, before_trimmed, is_spaces}

-- a space at the end goes
pub trimmed-space : (text : List ℕ) → trimmed (text ++ 32 ∷ []) ≡ trimmed text
unfolding trimmed
trimmed-space [] = refl
trimmed-space (b ∷ text) = ap (before_trimmed b) (trimmed-space text)

longer : (b c : ℕ) (text : List ℕ) → before_trimmed b (text ++ c ∷ []) ≡ b ∷ text ++ c ∷ []
longer b c [] = refl
longer b c (d ∷ text) = refl

-- another byte at the end stays, and so does all before it
pub trimmed-other : (text : List ℕ) (b : ℕ) → b ≢ 32 → trimmed (text ++ b ∷ []) ≡ text ++ b ∷ []
unfolding trimmed
trimmed-other [] b h = let e : eqb b 32 ≡ false = ne_eqb b 32 h in rw e
trimmed-other (c ∷ text) b h = ap (before_trimmed c) (trimmed-other text b h) ∙ longer c b text

-- a text that isn't empty is its front and its last byte
pub ends_in : (text : List ℕ) → 1 ≤ length text → text ≡ take (length text - 1) text ++ get_or text (length text - 1) 0 ∷ []
ends_in text some =
    let there : length text - 1 < length text = omega arith in
    let whole : length text - 1 + 1 ≡ length text = omega arith in
    sym (take_all (length text) text (omega arith)) ∙ ap (λ n. take n text) (sym whole) ∙ take_more text (length text - 1) 0 there

pub trimmed-front : (text : List ℕ) (last : ℕ) → 1 ≤ length text → last ≡ get_or text (length text - 1) 0 → last ≡ 32
    → trimmed (take (length text - 1) text) ≡ trimmed text
trimmed-front text last some is space =
    sym (trimmed-space (take (length text - 1) text)) ∙ ap (λ b. trimmed (take (length text - 1) text ++ b ∷ [])) (sym space ∙ is)
    ∙ ap trimmed (sym (ends_in text some))

pub trimmed-stays : (text : List ℕ) (last : ℕ) → 1 ≤ length text → last ≡ get_or text (length text - 1) 0 → last ≢ 32
    → trimmed text ≡ text
trimmed-stays text last some is other =
    ap trimmed (ends_in text some)
    ∙ ap (λ b. trimmed (take (length text - 1) text ++ b ∷ [])) (sym is)
    ∙ trimmed-other (take (length text - 1) text) last other
    ∙ ap (λ b. take (length text - 1) text ++ b ∷ []) is
    ∙ sym (ends_in text some)

pub trimmed-none : (text : List ℕ) → length text < 1 → text ≡ trimmed text
unfolding trimmed
trimmed-none [] h = refl
trimmed-none (b ∷ text) h = absurd (omega arith)

-- spaces alone are trimmed away
all_trimmed : (n : ℕ) → trimmed (replicate n 32) ≡ []
unfolding trimmed
all_trimmed zero = refl
all_trimmed (suc n) = ap (before_trimmed 32) (all_trimmed n)

trimmed-spaces : (text : List ℕ) (n : ℕ) → trimmed (text ++ replicate n 32) ≡ trimmed text
unfolding trimmed
trimmed-spaces [] n = all_trimmed n
trimmed-spaces (b ∷ text) n = ap (before_trimmed b) (trimmed-spaces text n)

-- some spaces at the end go
pub trimmed-many : (n : ℕ) (text front last : List ℕ) → front ≡ take (length text - n) text → last ≡ drop (length text - n) text
    → last ≡ replicate n 32 → trimmed front ≡ trimmed text
trimmed-many n text front last before after spaces =
    sym (trimmed-spaces front n)
    ∙ ap (λ (xs : List ℕ). trimmed (front ++ xs)) (sym spaces ∙ after)
    ∙ ap (λ (xs : List ℕ). trimmed (xs ++ drop (length text - n) text)) before
    ∙ ap trimmed (take-append-drop (length text - n) text)

-- what stands at the end of a text, in so many bytes
bytes_at_end : (n : ℕ) (text last : List ℕ) → ((i : ℕ) → Fits w8 (get_or text i 0)) → last ≡ drop (length text - n) text
    → (i : ℕ) → get_or last i 0 < 256
bytes_at_end n text last fits after i =
    let at : get_or last i 0 ≡ get_or text (length text - n + i) 0 =
    ap (λ (l : List ℕ). get_or l i 0) after ∙ get_or-drop (length text - n) text i 0 in
    omega (arith, at, (fits (length text - n + i)).fits)

long_at_end : (n : ℕ) (text last : List ℕ) → n ≤ length text → last ≡ drop (length text - n) text → length last ≡ n
long_at_end n text last h after = omega (arith, ap length after, length-drop (length text - n) text, h)

-- four bytes that are the number of four spaces, and two
pub trimmed-four : (text front last : List ℕ) (number : ℕ) → 4 ≤ length text → ((i : ℕ) → Fits w8 (get_or text i 0))
    → front ≡ take (length text - 4) text → last ≡ drop (length text - 4) text → number ≡ from_le_bytes w32 last
    → number ≡ 538976288 → trimmed front ≡ trimmed text
trimmed-four text front last number long fits before after is blank =
    trimmed-many 4 text front last before after
    (sym (le_bytes_4 last number (long_at_end 4 text last long after) (bytes_at_end 4 text last fits after) is)
    ∙ ap (to_le_bytes w32) blank)

pub trimmed-two : (text front last : List ℕ) (number : ℕ) → 2 ≤ length text → ((i : ℕ) → Fits w8 (get_or text i 0))
    → front ≡ take (length text - 2) text → last ≡ drop (length text - 2) text → number ≡ from_le_bytes w16 last
    → number ≡ 8224 → trimmed front ≡ trimmed text
trimmed-two text front last number long fits before after is blank =
    trimmed-many 2 text front last before after
    (sym (le_bytes_2 last number (long_at_end 2 text last long after) (bytes_at_end 2 text last fits after) is)
    ∙ ap (to_le_bytes w16) blank)

-- a text with a byte isn't empty
some : (b : ℕ) (text : List ℕ) → (length (b ∷ text) == 0) ≡ false
some b text = ne_eqb (length (b ∷ text)) 0 (λ e. omega (arith, e))

-- a text of spaces alone is one of which trimming leaves nothing
pub blank_when_trimmed : (text : List ℕ) → is_spaces text ≡ (length (trimmed text) == 0)
unfolding trimmed
blank_when_trimmed [] = refl
blank_when_trimmed (b ∷ text) = by (trimmed text) (blank_when_trimmed text)
  where
    by : (rest : List ℕ) → is_spaces text ≡ (length rest == 0) → is_spaces (b ∷ text) ≡ (length (before_trimmed b rest) == 0)
    by [] e = one (b == 32) refl e
      where
        one : (c : Bool) → (b == 32) ≡ c → is_spaces text ≡ true → (c && is_spaces text) ≡ (length (if c then [] else b ∷ []) == 0)
        one true is e = e
        one false is e = sym (some b [])
    by (c ∷ rest) e = ap (λ (x : Bool). (b == 32) && x) (e ∙ some c rest) ∙ never (b == 32) ∙ sym (some b (c ∷ rest))
      where
        never : (x : Bool) → (x && false) ≡ false
        never true = refl
        never false = refl
