-- The lines of a list, one by one.
use Rattle.std.proofs.Common.{◌≡◌, ◌==◌, ltb-true, ℕ, ◌+◌, ◌-◌, Bool, true, false, ltb, List, [], ◌∷◌, length, take, drop, Option, Some, None, refl, sym, ap, subst, ◌∙◌, arith, take_all}
use Rattle.std.specs.Prelude.{nat_lt, option_map, if◌then◌else◌}
use Rattle.std.specs.List.{position, position_or_len, slice_split}
use Rattle.std.proofs.lemmas.List.{length-drop}
use Rattle.std.proofs.lemmas.List.Splits.{slice_split_first, slice_split_none}
use Rattle.std.proofs.lemmas.List.Sums.{fails_before_first}
use Rattle.std.proofs.lemmas.Option.{cond_some}
use Rattle.cwr_files.proofs.lemmas.Taken.{none_found}
use Rattle.cwr_transform.specs.Format.Lists.{all_read, entries_of, entry_of, read_before}
use Rattle.cwr_transform.specs.Steps.Lists.{line_read}

-- ---- where a line ends

pub line_found : (text : List ℕ) (at : ℕ) → position (λ b. b == 10) text ≡ Some at
    → slice_split (λ b. b == 10) text
    ≡ take at text ∷ slice_split (λ b. b == 10) (take (length text - (at + 1)) (drop (at + 1) text))
line_found text at e =
    let found = cond_some (ltb (position_or_len (λ b. b == 10) text) (length text)) (position_or_len (λ b. b == 10) text) at e in
    subst
    (λ (n : ℕ). slice_split (λ b. b == 10) text ≡ take n text ∷ slice_split (λ b. b == 10) (take (length text - (n + 1)) (drop (n + 1) text)))
    found.1
    (slice_split_first (λ b. b == 10) text 0 (ltb-true _ _ found.0)
    ∙ ap (λ (rest : List ℕ). take (position_or_len (λ b. b == 10) text) text ∷ slice_split (λ b. b == 10) rest)
    (sym (take_all (length text - (position_or_len (λ b. b == 10) text + 1)) (drop (position_or_len (λ b. b == 10) text + 1) text)
    (omega (arith, length-drop (position_or_len (λ b. b == 10) text + 1) text)))))

pub last_line : (text : List ℕ) → position (λ b. b == 10) text ≡ None → slice_split (λ b. b == 10) text ≡ text ∷ []
last_line text e =
    let past = none_found (λ b. b == 10) text e in
    slice_split_none (λ b. b == 10) text (λ k d l. fails_before_first (λ b. b == 10) text k d (omega (arith, past, l)))

-- ---- what lines say

-- of a line and others, by what it says
abbrev pub with_line : {A : Type 0} → Option (Option A) → Option (List A) → Option (List A)
with_line None rest = None
with_line (Some None) rest = rest
with_line (Some (Some a)) rest = read_before (Some a) rest

none_before : {A : Type 0} (rest : Option (List A)) → read_before None rest ≡ None
none_before None = refl
none_before (Some values) = refl

pub line_first : {A : Type 0} (reads : List ℕ → Option A) (line : List ℕ) (lines : List (List ℕ))
    → all_read reads (entries_of (line ∷ lines)) ≡ with_line (line_read reads line) (all_read reads (entries_of lines))
line_first {A} reads line lines = by (nat_lt 0 (length (entry_of line))) refl where
  by : (b : Bool) → nat_lt 0 (length (entry_of line)) ≡ b
      → all_read reads (entries_of (line ∷ lines)) ≡ with_line (line_read reads line) (all_read reads (entries_of lines))
  by false e =
      ap (λ (b : Bool). all_read reads (if b then entry_of line ∷ entries_of lines else entries_of lines)) e
      ∙ sym (ap (λ (b : Bool). with_line (if b then option_map (λ a. Some a) (reads (entry_of line)) else Some None) (all_read reads (entries_of lines))) e)
  by true e =
      ap (λ (b : Bool). all_read reads (if b then entry_of line ∷ entries_of lines else entries_of lines)) e
      ∙ told (reads (entry_of line))
      ∙ sym (ap (λ (b : Bool). with_line (if b then option_map (λ a. Some a) (reads (entry_of line)) else Some None) (all_read reads (entries_of lines))) e)
    where
      told : (o : Option A) → read_before o (all_read reads (entries_of lines))
          ≡ with_line (option_map (λ a. Some a) o) (all_read reads (entries_of lines))
      told None = none_before (all_read reads (entries_of lines))
      told (Some a) = refl
