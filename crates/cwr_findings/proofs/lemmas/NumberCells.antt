-- Blank cells write no number, and so count as 0.
use Rattle.std.proofs.Common.{◌≡◌, ℕ, ◌+◌, ◌-◌, ◌*◌, Bool, true, false, cond, not, List, [], ◌∷◌, refl, sym, ap, ◌∙◌, arith}
use Rattle.std.proofs.Common.{nat_eq}
use Rattle.std.specs.Prelude.{◌&&◌, ◌==◌}
use Rattle.std.specs.List.{fold}
use Rattle.std.proofs.lemmas.Bool.{and_parts, eqb-true}
use Rattle.cwr_fields.specs.Format.Bytes.{is_spaces, number_of}
use Rattle.cwr_findings.specs.Format.Findings.{is_day}

pub spaces_are_zero : (cell : List ℕ) → is_spaces cell ≡ true → number_of cell ≡ 0
spaces_are_zero [] h = refl
spaces_are_zero (b ∷ cell) h =
    let p = and_parts (nat_eq b 32) (is_spaces cell) h in
    let space : b ≡ 32 = eqb-true b 32 p.0 in
    let none : 10 * 0 + (b - 48) ≡ 0 = omega arith in
    ap (λ (n : ℕ). fold (λ (m c : ℕ). 10 * m + (c - 48)) n cell) none ∙ spaces_are_zero cell p.1

number_by : (cell : List ℕ) (b : Bool) → is_spaces cell ≡ b → number_of cell ≡ cond b 0 (number_of cell)
number_by cell true e = spaces_are_zero cell e
number_by cell false e = refl

-- a share is the number of its cell
pub share_is_number : (cell : List ℕ) → number_of cell ≡ cond (is_spaces cell) 0 (number_of cell)
share_is_number cell = number_by cell (is_spaces cell) refl

day_by : (cell : List ℕ) (b : Bool) → is_spaces cell ≡ b → (not b && not (number_of cell == 0)) ≡ not (number_of cell == 0)
day_by cell true e = sym (ap (λ (n : ℕ). not (n == 0)) (spaces_are_zero cell e))
day_by cell false e = refl

-- a date is there where its number isn't 0
pub day_is_number : (cell : List ℕ) → is_day cell ≡ not (number_of cell == 0)
day_is_number cell = day_by cell (is_spaces cell) refl
