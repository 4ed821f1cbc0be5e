-- What stands in a room once elements are put in their places.
use Rattle.std.proofs.Common.{◌≡◌, ℕ, suc, ◌+◌, ◌<◌, List, [], ◌∷◌, ◌++◌, length, take, drop, refl, sym, ap, subst, ◌∙◌, arith}
use Rattle.std.proofs.Common.{append_assoc, inl, inr}
use Rattle.std.specs.Prelude.{min, set}
use Rattle.std.proofs.Math.Seq.{take-append_seam, drop-append_seam}
use Rattle.std.proofs.lemmas.List.{drop-drop, length-append, length-drop, length-take-le, set_split, take_all, take-append-le}
use Rattle.cwr_calls.specs.Format.Copies.{CopiesOut}
use Rattle.cwr_decode.specs.Steps.TakenLines.{PutsAt}

-- nothing was put
pub copies_nothing : {X : Type 0} (old : List X) (count : ℕ) → count ≡ 0 → CopiesOut [] old old count
copies_nothing old count e = record { counted = e; copied = none (min 0 (length old)) (omega arith) }
  where
    none : (n : ℕ) → n ≡ 0 → old ≡ take n [] ++ drop n old
    none n e = subst (λ (m : ℕ). old ≡ take m [] ++ drop m old) (sym e) refl

-- the element is put behind those that are all there
put_behind : {X : Type 0} (all old : List X) (x : X) (n : ℕ) → n ≡ length all → n < length old
    → set (all ++ drop n old) n x ≡ (all ++ x ∷ []) ++ drop (n + 1) old
put_behind {X = X} all old x n e few =
    let mid : List X = all ++ drop n old in
    let within : n < length mid = omega (arith, e, few, length-append all (drop n old), length-drop n old) in
    let front : take n mid ≡ all = ap (λ (k : ℕ). take k mid) e ∙ take-append_seam all (drop n old) in
    let left : drop n mid ≡ drop n old = ap (λ (k : ℕ). drop k mid) e ∙ drop-append_seam all (drop n old) in
    let next : suc n ≡ n + 1 = omega arith in
    let back : drop (suc n) mid ≡ drop (n + 1) old =
    ap (λ (k : ℕ). drop k mid) next ∙ sym (drop-drop 1 n mid) ∙ ap (drop 1) left ∙ drop-drop 1 n old in
    set_split mid n x within ∙ ap (λ (l : List X). l ++ x ∷ drop (suc n) mid) front ∙ ap (λ (l : List X). all ++ x ∷ l) back
    ∙ sym (append_assoc all (x ∷ []) (drop (n + 1) old))

-- one more is put
pub copies_more : {X : Type 0} (all old mid new : List X) (count next : ℕ) (x : X) → CopiesOut all old mid count
    → PutsAt count x mid new → next ≡ count + 1 → CopiesOut (all ++ x ∷ []) old new next
copies_more {X = X} all old mid new count next x h p e =
    record { counted = omega (arith, e, h.counted, length-append all (x ∷ [])); copied = by p }
  where
    more : List X
    more = all ++ x ∷ []

    long : length more ≡ length all + 1
    long = length-append all (x ∷ [])

    same : length mid ≡ length old
    same =
        let m : ℕ = min (length all) (length old) in
        omega (
          arith,
          ap length h.copied,
          length-append (take m all) (drop m old),
          length-take-le m all (omega arith),
          length-drop m old,
        )

    by : PutsAt count x mid new → new ≡ take (min (length more) (length old)) more ++ drop (min (length more) (length old)) old
    by (inl q) =
        let few : count < length old = omega (arith, q.0, same) in
        let all_fit : min (length all) (length old) ≡ count = omega (arith, few, h.counted) in
        let more_fit : min (length more) (length old) ≡ count + 1 = omega (arith, few, h.counted, long) in
        let held : mid ≡ all ++ drop count old =
        h.copied ∙ ap (λ (k : ℕ). take k all ++ drop k old) all_fit
        ∙ ap (λ (l : List X). l ++ drop count old) (take_all count all (omega (arith, h.counted))) in
        let put : new ≡ more ++ drop (count + 1) old =
        q.1 ∙ ap (λ (l : List X). set l count x) held ∙ put_behind all old x count h.counted few in
        let whole : take (count + 1) more ≡ more = take_all (count + 1) more (omega (arith, h.counted, long)) in
        subst (λ (k : ℕ). new ≡ take k more ++ drop k old) (sym more_fit)
        (put ∙ ap (λ (l : List X). l ++ drop (count + 1) old) (sym whole))
    by (inr q) =
        let all_full : min (length all) (length old) ≡ length old = omega (arith, q.0, same, h.counted) in
        let more_full : min (length more) (length old) ≡ length old = omega (arith, q.0, same, h.counted, long) in
        let front : take (length old) more ≡ take (length old) all =
        take-append-le (length old) all (x ∷ []) (omega (arith, q.0, same, h.counted)) in
        let held : new ≡ take (length old) all ++ drop (length old) old =
        q.1 ∙ h.copied ∙ ap (λ (k : ℕ). take k all ++ drop k old) all_full in
        subst (λ (k : ℕ). new ≡ take k more ++ drop k old) (sym more_full)
        (held ∙ ap (λ (l : List X). l ++ drop (length old) old) (sym front))
