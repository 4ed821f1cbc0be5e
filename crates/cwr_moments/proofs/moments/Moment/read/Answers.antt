use Rattle.std.proofs.Common.{◌≡◌, ◌∷◌, ◌++◌, ◌-◌, ◌<◌, ℕ, List, ap, ap₂, sym, ◌∙◌, arith, length}
use Rattle.std.specs.Prelude.{take, drop}
use Rattle.std.proofs.lemmas.List.{length-drop, take-append-drop, take_all}
use Rattle.std.proofs.Math.Seq.{drop-cons}
use Rattle.std.proofs.Math.ListN.{get_or}
use Rattle.cwr_moments.proofs.moments.Moment.read.Goals as goal

-- a text of fifteen bytes whose ninth is T
parted : (text : List ℕ) → length text ≡ 15 → get_or text 8 0 ≡ 84
    → take 8 text ++ 84 ∷ take (length text - 9) (drop 9 text) ≡ text
parted text long mark =
    let nine : 8 < length text = omega (arith, long) in
    ap (λ (ys : List ℕ). take 8 text ++ 84 ∷ ys)
    (take_all (length text - 9) (drop 9 text) (omega (arith, long, length-drop 9 text)))
    ∙ ap (λ (x : ℕ). take 8 text ++ x ∷ drop 9 text) (sym mark)
    ∙ ap (λ (ys : List ℕ). take 8 text ++ ys) (sym (drop-cons text 8 0 nine)) ∙ take-append-drop 8 text

pub returns : goal.returns
returns c =
    let bytes : List ℕ = c.as_bytes-bytes.result.now in
    ap₂ (λ (xs ys : List ℕ). xs ++ 84 ∷ ys) c.in_ok-read.ensures.value c.in_ok-read-2.ensures.value
    ∙ parted bytes c.if-bytes-ne15.false c.if-bytes-ne84.false ∙ c.as_bytes-bytes.ensures.value
