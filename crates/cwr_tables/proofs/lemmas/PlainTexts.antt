-- Numbers, the letters of kinds and the keys of fields don't call for quotes.
use Rattle.std.proofs.Common.{◌≡◌, ℕ, zero, suc, ◌+◌, ◌/◌, ◌%◌, ◌<◌, ◌≤◌, ◌^◌, Bool, true, false, not, List, [], ◌∷◌, ◌++◌, Some, refl, sym, ap, ap₂}
use Rattle.std.proofs.Common.{◌∙◌, arith}
use Rattle.std.specs.Prelude.{codes, decimal, nat_eq, option_map, slice_get, ◌||◌}
use Rattle.std.specs.List.{list_all, list_any}
use Rattle.std.proofs.lemmas.Bool.{and_parts, not-true}
use Rattle.std.proofs.lemmas.Bool.Decides.{nat_tests}
use Rattle.std.proofs.lemmas.Fmt.{decimal_by_steps}
use Rattle.std.proofs.lemmas.List.Folds.{list_any-append}
use Rattle.cwr_fields.specs.declared.kinds.Kind.{Kind}
use Rattle.cwr_fields.specs.declared.kinds.Kind.TheVariants.{Hdr}
use Rattle.cwr_fields.specs.Format.Kinds.{letters}
use Rattle.cwr_fields.specs.Format.Layouts.{FieldLayout, layout, field_at, field_with_start}
use Rattle.cwr_fields.proofs.lemmas.FieldStarts.{field_at-start}
use Rattle.cwr_json.specs.Format.Forms.{key_of}
use Rattle.cwr_tables.specs.Format.Tables.{calls_for_quotes, cell_text}
use Rattle.cwr_tables.specs.Format.WorkTables.{percent}
use Rattle.cwr_tables.proofs.lemmas.CellTexts.{cell_plain}

-- ---- numbers

apart : (a b : ℕ) → b < a → nat_eq a b ≡ false
apart a b h = grind (arith, nat_tests, h)

pub plain_above : (b : ℕ) → 45 ≤ b → calls_for_quotes b ≡ false
plain_above b h =
    ap₂ (λ (x y : Bool). ((x || y) || nat_eq b 13) || nat_eq b 10) (apart b 44 (omega arith)) (apart b 34 (omega arith))
    ∙ ap₂ (λ (x y : Bool). x || y) (apart b 13 (omega arith)) (apart b 10 (omega arith))

one_plain : (b : ℕ) → 45 ≤ b → list_any calls_for_quotes (b ∷ []) ≡ false
one_plain b h = ap (λ (x : Bool). x || false) (plain_above b h)

both_plain : (xs ys : List ℕ) → list_any calls_for_quotes xs ≡ false → list_any calls_for_quotes ys ≡ false
    → list_any calls_for_quotes (xs ++ ys) ≡ false
both_plain xs ys h k = list_any-append calls_for_quotes xs ys ∙ ap₂ (λ (x y : Bool). x || y) h k

number_plain : (n : ℕ) → n < 2 ^ 64 → list_any calls_for_quotes (decimal n) ≡ false
number_plain n h =
    decimal_by_steps (λ m ds. list_any calls_for_quotes ds ≡ false) (λ m k. one_plain (48 + m) (omega arith))
    (λ m ds k e. both_plain ds ((48 + m % 10) ∷ []) e (one_plain (48 + m % 10) (omega arith))) n h

pub number_cell : (n : ℕ) → n < 2 ^ 64 → decimal n ≡ cell_text (decimal n)
number_cell n h = sym (cell_plain (decimal n) (number_plain n h))

pub percent_cell : (n : ℕ) → n < 2 ^ 64 → percent (Some n) ≡ cell_text (percent (Some n))
percent_cell n h =
    sym (cell_plain (percent (Some n)) (both_plain (decimal (n / 100) ++ codes ".") ((48 + n / 10 % 10) ∷ (48 + n % 10) ∷ [])
    (both_plain (decimal (n / 100)) (codes ".") (number_plain (n / 100) (omega arith)) refl)
    (both_plain ((48 + n / 10 % 10) ∷ []) ((48 + n % 10) ∷ []) (one_plain (48 + n / 10 % 10) (omega arith))
    (one_plain (48 + n % 10) (omega arith)))))

-- ---- kinds and fields

letters_plain : (this_kind : Kind) → list_any calls_for_quotes (letters this_kind) ≡ false
letters_plain Hdr = refl
letters_plain this_kind = refl

pub letters_cell : (this_kind : Kind) → letters this_kind ≡ cell_text (letters this_kind)
letters_cell this_kind = sym (cell_plain (letters this_kind) (letters_plain this_kind))

abbrev has_plain_key : FieldLayout → Bool
has_plain_key f = not (list_any calls_for_quotes (key_of f.name))

all_plain : (this_kind : Kind) → list_all has_plain_key (layout this_kind) ≡ true
all_plain Hdr = refl
all_plain this_kind = refl

found_passes : (p : FieldLayout → Bool) (fields : List FieldLayout) (i : ℕ) (f : FieldLayout) → list_all p fields ≡ true
    → slice_get fields i ≡ Some f → p f ≡ true
found_passes p [] i f h e = absurd (cc e)
found_passes p (g ∷ fields) zero f h e = let same : g ≡ f = cc e in ap p (sym same) ∙ (and_parts (p g) (list_all p fields) h).0
found_passes p (g ∷ fields) (suc i) f h e = found_passes p fields i f (and_parts (p g) (list_all p fields) h).1 e

key_plain : (this_kind : Kind) (j : ℕ) (f : FieldLayout) → field_at this_kind j ≡ Some f → list_any calls_for_quotes (key_of f.name) ≡ false
key_plain this_kind zero f e = absurd (cc e)
key_plain this_kind (suc i) f e =
    not-true (list_any calls_for_quotes (key_of f.name)) (found_passes has_plain_key (layout this_kind) i f (all_plain this_kind) e)

pub key_cell : (this_kind : Kind) (j : ℕ) (p : ℕ × FieldLayout) → Some p ≡ field_with_start this_kind j
    → key_of p.1.name ≡ cell_text (key_of p.1.name)
key_cell this_kind j p e =
    sym (cell_plain (key_of p.1.name)
    (key_plain this_kind j p.1 (sym (field_at-start this_kind j) ∙ ap (option_map (λ (q : ℕ × FieldLayout). q.1)) (sym e))))
