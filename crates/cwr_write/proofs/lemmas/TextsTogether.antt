-- Texts that are added one after another are their list, put together.
use Rattle.std.proofs.Common.{◌≡◌, ℕ, List, [], ◌∷◌, ◌++◌, sym, ap, ◌∙◌, append_assoc, append-nil}
use Rattle.std.specs.List.{concat}

pub two_together : (a b : List ℕ) → a ++ b ≡ concat (a ∷ b ∷ [])
two_together a b = ap (λ (l : List ℕ). a ++ l) (sym (append-nil b))

pub three_together : (a b c : List ℕ) → (a ++ b) ++ c ≡ concat (a ∷ b ∷ c ∷ [])
three_together a b c = append_assoc a b c ∙ ap (λ (l : List ℕ). a ++ l) (two_together b c)

pub five_together : (a b c d e : List ℕ) → (((a ++ b) ++ c) ++ d) ++ e ≡ concat (a ∷ b ∷ c ∷ d ∷ e ∷ [])
five_together a b c d e = simp (append_assoc, append-nil)
