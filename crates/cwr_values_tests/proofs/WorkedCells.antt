-- Worked cells: what each type holds, and the fault of what it doesn't.
use Rattle.std.proofs.Common.{◌≡◌, ℕ, ◌<◌, true, false, List, [], ◌∷◌, refl, inl, inr, arith, lit<, lit≤, ap, ◌∙◌, sym}
use Rattle.std.proofs.Common.{true≢false, ◌+◌, ◌%◌, zero, suc}
use Rattle.std.specs.Prelude.{codes, ◌⊎◌, slice_index, slice_index_or}
use Rattle.std.proofs.lemmas.Int.{ints}
use Rattle.cwr_fields.specs.declared.cell_types.CellType.TheVariants.{Text, Required, Date, OptDate, Time, OptDuration, Share}
use Rattle.cwr_fields.specs.declared.cell_types.CellType.TheVariants.{Flag}
use Rattle.cwr_fields.specs.declared.cell_types.CellFault.TheVariants.{Blank, Control, NotADate, NotATime, OverShare, NotDigits}
use Rattle.cwr_fields.specs.declared.cell_types.CellFault.TheVariants.{NotACode}
use Rattle.cwr_fields.specs.Format.Bytes.{digits, number_of}
use Rattle.cwr_fields.specs.Format.Cells.{Allows, HasFault}
use Rattle.cwr_fields.specs.Format.Iswc.{is_iswc}
use Rattle.cwr_fields.proofs.lemmas.Digits.{number_of-digits}
use Rattle.cwr_fields.proofs.lemmas.NumbersInParts.{day_of_parts, time_of_parts}

-- two texts that differ at a place
apart : (k : ℕ) (xs ys : List ℕ) → (slice_index xs k < slice_index ys k) ⊎ (slice_index ys k < slice_index xs k) → xs ≡ ys → ⊥
apart k xs ys differ e = let same : slice_index xs k ≡ slice_index ys k = ap (λ (c : List ℕ). slice_index c k) e in omega arith

leap_day : Allows OptDate (codes "20240229")
unfolding digits
leap_day = inr (inr (2024, 2, 29, lit< tt, omega (arith, ints), refl))

no_leap_day : HasFault OptDate (codes "20230229") NotADate
no_leap_day = (outside, refl)
  where
    outside : ¬ Allows OptDate (codes "20230229")
    outside (inl e) = apart 0 _ _ (inr (lit< tt)) e
    outside (inr (inl e)) = apart 0 _ _ (inr (lit< tt)) e
    outside (inr (inr s)) = let parts = day_of_parts (codes "20230229") s in omega (arith, ints, parts.1)

zeros : Allows OptDate (codes "00000000")
zeros = inr (inl refl)

spaces : Allows OptDate (codes "        ")
spaces = inl refl

no_zeros : HasFault Date (codes "00000000") NotADate
no_zeros = ((λ s. let parts = day_of_parts (codes "00000000") s in omega (arith, parts.0)), refl)

last_second : Allows Time (codes "235959")
unfolding digits
last_second = (23, 59, 59, lit< tt, lit< tt, lit< tt, refl)

no_hour : HasFault Time (codes "240000") NotATime
no_hour = ((λ s. let parts = time_of_parts 24 (codes "240000") (lit≤ tt) s in omega (arith, parts.0)), refl)

longest : Allows OptDuration (codes "995959")
unfolding digits
longest = inr (99, 59, 59, lit< tt, lit< tt, lit< tt, refl)

whole_share : Allows Share (codes "10000")
unfolding digits
whole_share = inr (10000, lit≤ tt, refl)

over_share : HasFault Share (codes "10001") OverShare
over_share = (outside, refl)
  where
    outside : ¬ Allows Share (codes "10001")
    outside (inl e) = apart 0 _ _ (inr (lit< tt)) e
    outside (inr s) =
        let n : number_of (codes "10001") ≡ s.0 = ap number_of s.2 ∙ number_of-digits 5 s.0 (omega arith) in omega (arith, n)

share_with_space : HasFault Share (codes "1000 ") NotDigits
unfolding digits
share_with_space = (outside, refl)
  where
    outside : ¬ Allows Share (codes "1000 ")
    outside (inl e) = apart 0 _ _ (inr (lit< tt)) e
    outside (inr s) = let last : 32 ≡ 48 + s.0 % 10 = ap (λ (c : List ℕ). slice_index c 4) s.2 in omega (arith, last)

not_a_flag : (i : ℕ) → i < 4 → codes "X" ≡ slice_index_or (codes "Y" ∷ codes "N" ∷ codes "U" ∷ codes " " ∷ []) i (codes "X") → ⊥
not_a_flag zero h e = apart 0 _ _ (inl (lit< tt)) e
not_a_flag (suc zero) h e = apart 0 _ _ (inr (lit< tt)) e
not_a_flag (suc (suc zero)) h e = apart 0 _ _ (inr (lit< tt)) e
not_a_flag (suc (suc (suc zero))) h e = apart 0 _ _ (inr (lit< tt)) e
not_a_flag (suc (suc (suc (suc i)))) h e = omega arith

no_flag : HasFault Flag (codes "X") NotACode
no_flag = ((λ s. not_a_flag s.0 s.1.0 s.1.1), refl)

required_spaces : HasFault Required (codes "   ") Blank
required_spaces = ((λ s. absurd (true≢false s.1)), refl)

text_tab : HasFault Text (9 ∷ []) Control
text_tab = ((λ s. absurd (true≢false (sym s))), refl)

-- check digits
iswc_right : (is_iswc (codes "T0345246801") ≡ true) × (is_iswc (codes "T0000000009") ≡ true)
    × (is_iswc (codes "T0000000010") ≡ true)
iswc_right = (refl, refl, refl)

iswc_wrong : (is_iswc (codes "T0345246802") ≡ false) × (is_iswc (codes "T0000000000") ≡ false) × (is_iswc [] ≡ false)
iswc_wrong = (refl, refl, refl)
