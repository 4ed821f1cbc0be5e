use Rattle.std.proofs.Common.{ℕ, ◌-◌, replicate, take, ap, ◌∙◌, arith}
use Rattle.std.proofs.lemmas.List.{drop-replicate, length-replicate, take_all}
use Rattle.cwr_summary_rows.proofs.cells.padding.Goals as goal

pub returns : goal.returns
returns c =
    let r : ℕ = c.min.result in
    ap (take {A = ℕ} (21 - r)) (drop-replicate r 21 32)
    ∙ take_all (21 - r) (replicate {A = ℕ} (21 - r) 32) (omega (arith, length-replicate {A = ℕ} (21 - r) 32))
    ∙ ap (λ (k : ℕ). replicate {A = ℕ} k 32) (omega (arith, c.min.ensures))
