-- The codes of a list of members are those of the members.
use Rattle.std.proofs.Common.{◌≡◌, List, [], ◌∷◌, ◌++◌, ℕ, refl, ◌∙◌, ap, Bor}
use Rattle.std.specs.Prelude.{flat_map, map}
use Rattle.cwr_fields.specs.Format.Members.{coded}
use Rattle.cwr_fields.specs.Steps.Members.{listed}
use Rattle.cwr_causes.specs.Format.Expected.{spaced, spaced_code}

of_list : {C : Type 0} (xs : List (C × Bor (List ℕ)))
    → flat_map spaced_code xs ≡ flat_map (λ (q : C × List ℕ). spaced q.1) (map listed xs)
of_list [] = refl
of_list (x ∷ xs) = ap (λ ys. spaced x.1.now ++ ys) (of_list xs)

of_members : {C : Type 0} (code : C → List ℕ) (ms : List C)
    → flat_map (λ (q : C × List ℕ). spaced q.1) (map (coded code) ms) ≡ flat_map spaced (map code ms)
of_members code [] = refl
of_members code (m ∷ ms) = ap (λ ys. spaced (code m) ++ ys) (of_members code ms)

pub listed_codes : {C : Type 0} (code : C → List ℕ) (xs : List (C × Bor (List ℕ))) (ms : List C)
    → map listed xs ≡ map (coded code) ms → flat_map spaced_code xs ≡ flat_map spaced (map code ms)
listed_codes {C} code xs ms e =
    of_list xs ∙ ap (λ ys. flat_map (λ (q : C × List ℕ). spaced q.1) ys) e ∙ of_members code ms
