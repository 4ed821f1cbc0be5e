use Rattle.std.proofs.Common.{◌≡◌, ◌+◌, ◌≤◌, ◌++◌, ℕ, List, length, min, take, sym, ap, ◌∙◌, arith, true≢false}
use Rattle.std.specs.Prelude.{Result, Ok, Err, IsOk, OnOk}
use Rattle.std.proofs.lemmas.List.{length-take, take_min}
use Rattle.cwr_write.proofs.refusals.text_key.Goals as goal

on_ok : {A E : Type 0} (r : Result A E) (P : Type 0) → IsOk r → OnOk r P → P
on_ok (Ok x) P h p = p
on_ok (Err e) P h p = absurd (true≢false (sym h))

swapped : (n m : ℕ) → min n m ≡ min m n
swapped n m = omega arith

pub returns : goal.returns
returns c =
    let front : List ℕ = take c.min-count.result c.as_bytes-bytes.result.now in
    let fits : length c.new-text.result.items + length front ≤ 40 =
    omega
    (arith, ap length c.new-text.ensures, length-take c.min-count.result c.as_bytes-bytes.result.now, c.min-count.ensures) in
    on_ok c.try_extend_from_slice-fits.result _ (c.try_extend_from_slice-fits.ensures.variant.1 fits)
    c.try_extend_from_slice-fits.ensures.ok
    ∙ ap (λ (l : List ℕ). l ++ front) c.new-text.ensures
    ∙ ap (λ (n : ℕ). take n c.as_bytes-bytes.result.now) (c.min-count.ensures ∙ swapped (length c.as_bytes-bytes.result.now) 40)
    ∙ take_min 40 c.as_bytes-bytes.result.now
    ∙ ap (λ (l : List ℕ). take 40 l) c.as_bytes-bytes.ensures.value
