-- What the rules ask of a header's numbers, by the cells that it shows.
use Rattle.std.proofs.Common.{◌≡◌, ℕ, ◌<◌, ◌≤◌, Bool, true, false, not, List, [], ◌∷◌, length, refl, sym, ap, ap₂, ◌∙◌, arith, inl, inr, nat_eq, eq-eqb, ne_eqb}
use Rattle.std.specs.Prelude.{◌&&◌, ◌==◌, ◌^◌, nat_lt}
use Rattle.std.proofs.lemmas.Bool.{cases_eq, cases_lt, le-ltb}
use Rattle.cwr_fields.specs.Format.Bytes.{is_spaces, number_of}
use Rattle.cwr_fields.specs.declared.kinds.Kind.TheVariants as kinds
use Rattle.cwr_lines.specs.Format.Records.{RecordValue, IsRecord, cell_named}
use Rattle.cwr_findings.specs.Format.Findings.{is_work, is_agreement, counts_others, ends_before_start}
use Rattle.cwr_findings.specs.Steps.Walks.{capped}
use Rattle.cwr_findings.proofs.lemmas.NamedCells.{named_cell, cell_width}
use Rattle.cwr_findings.proofs.lemmas.NumberCells.{day_is_number}
use Rattle.cwr_findings.proofs.lemmas.RuleFields.{count_of_nwr, count_of_rev, start_of_agr, end_of_agr}
use Rattle.cwr_findings.proofs.lemmas.RuleTests.{cell_of_field, header_of_work, header_of_agreement}

-- ---- the number of components

count_cell : (r : RecordValue) → is_work (r ∷ []) ≡ true → IsRecord r → cell_of_field r 23 ≡ cell_named "composite component count" r
count_cell r h fits = elim (header_of_work r h) [ inl e ↦ named_cell "composite component count" kinds.Nwr 23 3 r count_of_nwr e fits | inr e ↦ named_cell "composite component count" kinds.Rev 23 3 r count_of_rev e fits ]

pub count_is_short : (r : RecordValue) (cell : List ℕ) → cell ≡ cell_of_field r 23 → is_work (r ∷ []) ≡ true → IsRecord r → length cell ≤ 8
count_is_short r cell e h fits =
    let wide : length (cell_of_field r 23) ≡ 3 = elim (header_of_work r h) [ inl e ↦ cell_width "composite component count" kinds.Nwr 23 3 r count_of_nwr e fits | inr e ↦ cell_width "composite component count" kinds.Rev 23 3 r count_of_rev e fits ] in
    omega (arith, ap length e, wide)

-- a small number is compared with a capped one as with the whole one
same_test : (x c n : ℕ) → x < 10 ^ 10 → c ≡ capped n → nat_eq x c ≡ nat_eq x n
same_test x c n small e = elim (cases_eq x n) [
  | inl same ↦ eq-eqb x c (omega (arith, small, e, same)) ∙ sym (eq-eqb x n same)
  | inr other ↦ ne_eqb x c (λ q. other (omega (arith, small, e, q))) ∙ sym (ne_eqb x n other)
]

others_by : (b : Bool) (x c n : ℕ) → x < 10 ^ 10 → c ≡ capped n → b ≡ false → not (nat_eq x c) ≡ (not b && not (x == n))
others_by false x c n small e h = ap not (same_test x c n small e)
others_by true x c n small e h = absurd (cc h)

pub counts_others_filled : (r : RecordValue) (cell : List ℕ) (x c n : ℕ) → cell ≡ cell_of_field r 23 → is_work (r ∷ []) ≡ true → IsRecord r → is_spaces cell ≡ false → x ≡ number_of cell → x < 10 ^ 10 → c ≡ capped n
    → not (nat_eq x c) ≡ counts_others r n
counts_others_filled r cell x c n e h fits filled number small total =
    others_by (is_spaces cell) x c n small total filled
    ∙ ap (λ (m : ℕ). not (is_spaces cell) && not (m == n)) number
    ∙ ap (λ (text : List ℕ). not (is_spaces text) && not (number_of text == n)) (e ∙ count_cell r h fits)

blank_by : (b d : Bool) → b ≡ true → not b ≡ (not b && d)
blank_by true d h = refl
blank_by false d h = absurd (cc h)

pub counts_others_blank : (r : RecordValue) (cell : List ℕ) (n : ℕ) → cell ≡ cell_of_field r 23 → is_work (r ∷ []) ≡ true → IsRecord r → is_spaces cell ≡ true → not (is_spaces cell) ≡ counts_others r n
counts_others_blank r cell n e h fits blank =
    blank_by (is_spaces cell) (not (number_of cell == n)) blank
    ∙ ap (λ (text : List ℕ). not (is_spaces text) && not (number_of text == n)) (e ∙ count_cell r h fits)

-- ---- dates

pub start_is_short : (r : RecordValue) (cell : List ℕ) → cell ≡ cell_of_field r 7 → is_agreement (r ∷ []) ≡ true → IsRecord r → length cell ≤ 8
start_is_short r cell e h fits = omega (arith, ap length e, cell_width "start date" kinds.Agr 7 8 r start_of_agr (header_of_agreement r h) fits)

pub end_is_short : (r : RecordValue) (cell : List ℕ) → cell ≡ cell_of_field r 8 → is_agreement (r ∷ []) ≡ true → IsRecord r → length cell ≤ 8
end_is_short r cell e h fits = omega (arith, ap length e, cell_width "end date" kinds.Agr 8 8 r end_of_agr (header_of_agreement r h) fits)

-- what is asked of both dates, by their numbers
abbrev pub in_wrong_order : ℕ → ℕ → Bool
in_wrong_order start end = not (start == 0) && not (end == 0) && nat_lt end start

pub order_of_dates : (r : RecordValue) (from to : List ℕ) (start end : ℕ) → from ≡ cell_of_field r 7 → to ≡ cell_of_field r 8 → is_agreement (r ∷ []) ≡ true → IsRecord r → start ≡ number_of from → end ≡ number_of to
    → in_wrong_order start end ≡ ends_before_start r
order_of_dates r from to start end e f h fits s t =
    let kind = header_of_agreement r h in
    ap₂ in_wrong_order (s ∙ ap number_of (e ∙ named_cell "start date" kinds.Agr 7 8 r start_of_agr kind fits)) (t ∙ ap number_of (f ∙ named_cell "end date" kinds.Agr 8 8 r end_of_agr kind fits))
    ∙ sym (ap₂ (λ (a b : Bool). a && b && nat_lt (number_of (cell_named "end date" r)) (number_of (cell_named "start date" r))) (day_is_number (cell_named "start date" r)) (day_is_number (cell_named "end date" r)))

pub order_with_end : (start end : ℕ) → (end ≡ 0 → ⊥) → nat_lt end start ≡ in_wrong_order start end
order_with_end start end some = elim (cases_lt end start) [
  | inl below ↦ let there : nat_eq start 0 ≡ false = ne_eqb start 0 (λ q. omega (arith, q, below)) in let late : nat_eq end 0 ≡ false = ne_eqb end 0 some in rw (there, late) refl
  | inr above ↦ let none : nat_lt end start ≡ false = le-ltb end start above in rw none (neither (not (nat_eq start 0)) (not (nat_eq end 0)))
]
  where
    neither : (a b : Bool) → false ≡ (a && b && false)
    neither true true = refl
    neither true false = refl
    neither false b = refl

pub order_without_end : (start end : ℕ) → end ≡ 0 → not (nat_eq end 0) ≡ in_wrong_order start end
order_without_end start end none = let late : nat_eq end 0 ≡ true = eq-eqb end 0 none in rw late (neither (not (nat_eq start 0)) (nat_lt end start))
  where
    neither : (a b : Bool) → false ≡ (a && false && b)
    neither true b = refl
    neither false b = refl
