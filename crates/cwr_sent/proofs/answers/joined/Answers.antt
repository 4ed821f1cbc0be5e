use Rattle.std.proofs.Common.{◌≡◌, ℕ, zero, suc, List, [], ◌∷◌, ◌++◌, length, refl, sym, ap, ap₂, ◌∙◌, arith, append-nil}
use borrow.Rule.Slice.PartMut.{put_mid}
use Rattle.cwr_sent.proofs.answers.joined.Goals as goal

abbrev rest : List ℕ
rest = 32 ∷ 32 ∷ 32 ∷ 32 ∷ 32 ∷ 32 ∷ 32 ∷ 32 ∷ 32 ∷ []

put_after : (a b : List ℕ) → length a ≡ 2 → put_mid 2 9 (a ++ rest) b ≡ a ++ b
put_after [] b h = absurd (omega (arith, h))
put_after (x ∷ []) b h = absurd (omega (arith, h))
put_after (x ∷ y ∷ []) b h = ap (λ (l : List ℕ). x ∷ y ∷ l) (append-nil b)
put_after (x ∷ y ∷ z ∷ a) b h = absurd (omega (arith, h))

pub returns : goal.returns
returns c =
    let one = c.copy_from_slice.ensures.after in
    let two = c.copy_from_slice-2.ensures.after in
    put_after c.copy_from_slice.new.self c.copy_from_slice-2.new.self c.copy_from_slice.ensures.len
    ∙ ap₂ (λ (a b : List ℕ). a ++ b) one two
