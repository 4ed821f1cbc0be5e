use Rattle.std.proofs.Common.{◌≡◌, ℕ, arith, List, [], ◌∷◌, Bor, refl, ap, sym, ◌∙◌, option_map, slice_get, map}
use Rattle.std.specs.Option.{option_copied}
use Rattle.std.proofs.lemmas.Option.{slice_get-map, gets}
use Rattle.std.proofs.lemmas.Grind.{common_steps}
use Rattle.cwr_fields.specs.Format.Members.{coded}
use Rattle.cwr_fields.specs.Steps.Members.{listed}
use Rattle.cwr_calls.proofs.codes.code_at.Goals as goal

of_list : {C : Type 0} (xs : List (C × Bor (List ℕ)))
    → map (λ (p : C × Bor (List ℕ)). p.1.now) xs ≡ map (λ (q : C × List ℕ). q.1) (map listed xs)
of_list [] = refl
of_list (x ∷ xs) = ap (λ ys. x.1.now ∷ ys) (of_list xs)

of_members : {C : Type 0} (code : C → List ℕ) (ms : List C) → map (λ (q : C × List ℕ). q.1) (map (coded code) ms) ≡ map code ms
of_members code [] = refl
of_members code (m ∷ ms) = ap (λ ys. code m ∷ ys) (of_members code ms)

nth : {C : Type 0} (code : C → List ℕ) (xs : List (C × Bor (List ℕ))) (ms : List C) (i : ℕ) → map listed xs ≡ map (coded code) ms
    → option_map (λ (p : C × Bor (List ℕ)). p.1.now) (slice_get xs i) ≡ slice_get (map code ms) i
nth {C} code xs ms i e =
    sym (slice_get-map (λ (p : C × Bor (List ℕ)). p.1.now) xs i)
    ∙ ap (λ ys. slice_get ys i) (of_list xs ∙ ap (map (λ (q : C × List ℕ). q.1)) e ∙ of_members code ms)

pub returns-in-Some : goal.returns-in-Some
returns-in-Some g c =
    let found : option_copied c.get.result ≡ slice_get c.list.result.now c.args.i = grind (arith, common_steps, gets) in
    ap (option_map (λ p. p.1.now)) (ap option_copied (sym c.in-Some.is) ∙ found)
    ∙ nth g.C.Coded.code c.list.result.now g.C.Coded.members c.args.i c.list.ensures

pub returns-in-None : goal.returns-in-None
returns-in-None g c =
    let found : option_copied c.get.result ≡ slice_get c.list.result.now c.args.i = grind (arith, common_steps, gets) in
    ap (option_map (λ p. p.1.now)) (ap option_copied (sym c.in-None.is) ∙ found)
    ∙ nth g.C.Coded.code c.list.result.now g.C.Coded.members c.args.i c.list.ensures
