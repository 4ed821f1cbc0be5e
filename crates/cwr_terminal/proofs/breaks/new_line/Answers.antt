use Rattle.std.proofs.Common.{◌≡◌, ℕ, ◌+◌, ◌≤◌, List, ◌∷◌, replicate, take, ap, ◌∙◌, add-one}
use Rattle.std.proofs.lemmas.List.{take-replicate}
use Rattle.cwr_terminal.proofs.breaks.new_line.Goals as goal

-- a front of a line feed and spaces
front : (n : ℕ) → n ≤ 48 → take {A = ℕ} (n + 1) (10 ∷ replicate 48 32) ≡ 10 ∷ replicate n 32
front n h =
    ap (λ (m : ℕ). take {A = ℕ} m (10 ∷ replicate 48 32)) (add-one n) ∙ ap (λ (l : List ℕ). 10 ∷ l) (take-replicate n 48 32 h)

pub returns-clause-value : goal.returns-clause-value
returns-clause-value c = front c.args.indent c.requires
