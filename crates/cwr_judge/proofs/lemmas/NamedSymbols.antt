-- Which symbols a line's first cells name, with and without the last of these cells.
use Rattle.std.proofs.Common.{◌≡◌, ℕ, suc, ◌<◌, ◌≤◌, Bool, true, false, cond, List, [], ◌∷◌, take, option_map, refl, sym, ap}
use Rattle.std.proofs.Common.{subst, ◌∙◌, arith, ltb-true, ltb-false}
use Rattle.std.specs.Prelude.{Option, Some, None, slice_get, nat_lt, option_and_then, ◌==◌}
use Rattle.std.specs.List.{IsAmong}
use Rattle.std.proofs.lemmas.Bool.{eqb-true}
use Rattle.cwr_fields.specs.declared.codes.Role.{Role}
use Rattle.cwr_fields.specs.declared.codes.TransactionType.{TransactionType}
use Rattle.cwr_fields.specs.declared.kinds.Kind.{Kind}
use Rattle.cwr_fields.specs.declared.kinds.Kind.TheVariants as kinds
use Rattle.cwr_shape.specs.declared.symbols.Symbol.{Symbol}
use Rattle.cwr_shape.specs.declared.symbols.Symbol.TheVariants.{Ipa, Grh}
use Rattle.cwr_shape.specs.Format.Candidates.{candidates, role_in, type_in, parties_of, groups_of}
use Rattle.cwr_judge.specs.Steps.Judged.{named_symbol}
use Rattle.cwr_judge.proofs.lemmas.FrontCells.{among_itself}
use Rattle.cwr_judge.proofs.lemmas.MixedCells.{taken_at, taken_none}

-- the record type names a symbol by its kind alone
pub first_names : (kind : Kind) (cells : List (List ℕ)) → candidates (Some kind) (take 1 cells) ≡ candidates (Some kind) []
first_names kinds.Ipa cells =
    ap (λ (o : Option (List ℕ)). parties_of (option_and_then role_in o)) (taken_none 1 3 cells (omega arith))
first_names kinds.Grh cells =
    ap (λ (o : Option (List ℕ)). groups_of (option_and_then type_in o)) (taken_none 1 1 cells (omega arith))
first_names kind cells = refl

no_cell : {A : Type 0} (f : List ℕ → Option A) (o : Option (List ℕ)) (c : List ℕ) → o ≡ Some c → f c ≡ None
    → option_and_then f o ≡ option_and_then f None
no_cell f o c e n = ap (option_and_then f) e ∙ n

none_of : {A B : Type 0} (f : A → B) (o : Option A) → option_map f o ≡ None → o ≡ None
none_of f None e = refl
none_of f (Some a) e = absurd (cc e)

-- what stands at a place of the first cells, where the last of them is another or f finds nothing in it
same_there : {A : Type 0} (f : List ℕ → Option A) (place i : ℕ) (cells : List (List ℕ)) (c : List ℕ) → slice_get cells i ≡ Some c
    → (i ≡ place → f c ≡ None)
    → option_and_then f (slice_get (take (suc i) cells) place) ≡ option_and_then f (slice_get (take i cells) place)
same_there f place i cells c there n = by (nat_lt place i) refl
  where
    at_it : (b : Bool) → (i == place) ≡ b → i ≤ place
        → option_and_then f (slice_get (take (suc i) cells) place) ≡ option_and_then f (slice_get (take i cells) place)
    at_it true e past =
        let same : i ≡ place = eqb-true i place e in
        let found : slice_get (take (suc i) cells) place ≡ Some c =
        taken_at (suc i) place cells (omega (arith, same)) ∙ ap (λ (k : ℕ). slice_get cells k) (sym same) ∙ there in
        no_cell f (slice_get (take (suc i) cells) place) c found (n same)
        ∙ ap (option_and_then f) (sym (taken_none i place cells past))
    at_it false e past =
        let beyond : suc i ≤ place = not_at e past in
        ap (option_and_then f) (taken_none (suc i) place cells beyond ∙ sym (taken_none i place cells past))
      where
        not_at : (i == place) ≡ false → i ≤ place → suc i ≤ place
        not_at e past = grind (arith, e, past)

    by : (b : Bool) → nat_lt place i ≡ b
        → option_and_then f (slice_get (take (suc i) cells) place) ≡ option_and_then f (slice_get (take i cells) place)
    by true e =
        let inside : place < i = ltb-true place i e in
        ap (option_and_then f) (taken_at (suc i) place cells (omega (arith, inside)) ∙ sym (taken_at i place cells inside))
    by false e = at_it (i == place) refl (ltb-false place i e)

-- a cell that names no symbol changes nothing in what the cells before it name
pub names_no_more : (kind : Kind) (i : ℕ) (cells : List (List ℕ)) (c : List ℕ) → slice_get cells i ≡ Some c
    → named_symbol kind (suc i) c ≡ None
    → candidates (Some kind) (take (suc i) cells) ≡ candidates (Some kind) (take i cells)
names_no_more kinds.Ipa i cells c there n =
    ap parties_of (same_there role_in 3 i cells c there (λ e. none_of Ipa (role_in c) (sym (by e) ∙ n)))
  where
    by : i ≡ 3 → named_symbol kinds.Ipa (suc i) c ≡ option_map Ipa (role_in c)
    by e = ap (λ (k : ℕ). named_symbol kinds.Ipa (suc k) c) e
names_no_more kinds.Grh i cells c there n =
    ap groups_of (same_there type_in 1 i cells c there (λ e. none_of Grh (type_in c) (sym (by e) ∙ n)))
  where
    by : i ≡ 1 → named_symbol kinds.Grh (suc i) c ≡ option_map Grh (type_in c)
    by e = ap (λ (k : ℕ). named_symbol kinds.Grh (suc k) c) e
names_no_more kind i cells c there n = refl

-- the symbol that a cell names is among those that the cells up to it name
pub named_among : (kind : Kind) (i : ℕ) (cells : List (List ℕ)) (c : List ℕ) (s : Symbol) → slice_get cells i ≡ Some c
    → named_symbol kind (suc i) c ≡ Some s
    → IsAmong (candidates (Some kind) (take (suc i) cells)) s
named_among kinds.Ipa i cells c s there t = by (suc i == 4) refl t
  where
    role : slice_get (take (suc i) cells) 3 ≡ Some c → (o : Option Role) → role_in c ≡ o → option_map Ipa o ≡ Some s
        → IsAmong (parties_of (option_and_then role_in (slice_get (take (suc i) cells) 3))) s
    role at None e q = absurd (cc q)
    role at (Some r) e q =
        let same : Ipa r ≡ s = cc q in
        subst (λ (o : Option Role). IsAmong (parties_of o) s) (sym (ap (option_and_then role_in) at ∙ e))
        (subst (IsAmong (Ipa r ∷ [])) same (among_itself (Ipa r)))

    by : (b : Bool) → (suc i == 4) ≡ b → cond b (option_map Ipa (role_in c)) None ≡ Some s
        → IsAmong (parties_of (option_and_then role_in (slice_get (take (suc i) cells) 3))) s
    by true e q =
        let at : suc i ≡ 4 = eqb-true (suc i) 4 e in
        let index : i ≡ 3 = omega (arith, at) in
        role (taken_at (suc i) 3 cells (omega (arith, at)) ∙ ap (λ (j : ℕ). slice_get cells j) (sym index) ∙ there) (role_in c)
        refl q
    by false e q = absurd (cc q)
named_among kinds.Grh i cells c s there t = by (suc i == 2) refl t
  where
    type_by : slice_get (take (suc i) cells) 1 ≡ Some c → (o : Option TransactionType) → type_in c ≡ o → option_map Grh o ≡ Some s
        → IsAmong (groups_of (option_and_then type_in (slice_get (take (suc i) cells) 1))) s
    type_by at None e q = absurd (cc q)
    type_by at (Some ty) e q =
        let same : Grh ty ≡ s = cc q in
        subst (λ (o : Option TransactionType). IsAmong (groups_of o) s) (sym (ap (option_and_then type_in) at ∙ e))
        (subst (IsAmong (Grh ty ∷ [])) same (among_itself (Grh ty)))

    by : (b : Bool) → (suc i == 2) ≡ b → cond b (option_map Grh (type_in c)) None ≡ Some s
        → IsAmong (groups_of (option_and_then type_in (slice_get (take (suc i) cells) 1))) s
    by true e q =
        let at : suc i ≡ 2 = eqb-true (suc i) 2 e in
        let index : i ≡ 1 = omega (arith, at) in
        type_by (taken_at (suc i) 1 cells (omega (arith, at)) ∙ ap (λ (j : ℕ). slice_get cells j) (sym index) ∙ there) (type_in c)
        refl q
    by false e q = absurd (cc q)
named_among kind i cells c s there t = absurd (cc t)
