-- Transactions that a reading passes over are read: what was read so far continues with them.
use Rattle.std.proofs.Common.{◌≡◌, ℕ, List, [], ◌++◌, length, map, append-nil, Option, sym, ap, subst, ◌∙◌, inl}
use Rattle.std.proofs.Common.{inr}
use Rattle.std.specs.Prelude.{◌⊎◌}
use Rattle.std.proofs.KnownBytes.{Consumes-trans}
use Rattle.cwr_lines.specs.Format.Records.{RecordValue}
use Rattle.cwr_shape.specs.Format.Ranges.{LimitValues}
use Rattle.cwr_values.specs.declared.items.Item.{Item}
use Rattle.cwr_values.specs.declared.items.Item.TheVariants as items
use Rattle.cwr_decode.specs.declared.machine.Passed.{Passed}
use Rattle.cwr_decode.specs.declared.machine.State.{State}
use Rattle.cwr_decode.specs.Steps.Calls.{IsLive}
use Rattle.cwr_decode.specs.Steps.Machines.{Standing}
use Rattle.cwr_decode.specs.Steps.Passing.{PassesOver}
use Rattle.cwr_decode.specs.Steps.Runs.{EndsWhole, IsReadingOn}
use Rattle.cwr_decode.proofs.lemmas.ItemsReadSoFar.{spent_on}

pub read_passing : (P : List RecordValue → Type 0) (limits : LimitValues) (old new : Standing)
    (before left after : Option (List ℕ)) (given : List Item) (passed : Passed) → IsReadingOn limits old before left given
    → (p : PassesOver P old left passed new after)
    → IsReadingOn limits new before after (given ++ map items.Transaction p.wholes)
read_passing P limits old new before left after given passed h p = record {
  read = record {
    input = h.read.input ++ p.bytes;
    stands = p.stands h.read.input given h.read.stands;
    consumed = Consumes-trans before left after h.read.input p.bytes h.read.consumed p.consumed;
    spent = spent_on before left after h.read.input old new h.read.consumed h.read.spent p.spent;
    limits_are = p.limits ∙ h.read.limits_are;
  };
  here = by h.here p.live;
} where
  by : IsLive old.state ⊎ EndsWhole limits old.state before (length h.read.input) given
      → IsLive new.state ⊎ ((new.state ≡ old.state) × (p.bytes ≡ []) × (p.wholes ≡ []))
      → IsLive new.state
      ⊎ EndsWhole limits new.state before (length (h.read.input ++ p.bytes)) (given ++ map items.Transaction p.wholes)
  by here (inl live) = inl live
  by (inl live) (inr same) = inl (subst IsLive (sym same.0) live)
  by (inr ended) (inr same) =
      let no_more : length h.read.input ≡ length (h.read.input ++ p.bytes) =
      ap length (sym (append-nil h.read.input) ∙ ap (λ (b : List ℕ). h.read.input ++ b) (sym same.1)) in
      let no_items : given ≡ given ++ map items.Transaction p.wholes =
      sym (append-nil given) ∙ ap (λ (w : List (List RecordValue)). given ++ map items.Transaction w) (sym same.2) in
      inr (subst
      (λ (s : State). EndsWhole limits s before (length (h.read.input ++ p.bytes)) (given ++ map items.Transaction p.wholes))
      (sym same.0)
      (subst (λ (n : ℕ). EndsWhole limits old.state before n (given ++ map items.Transaction p.wholes)) no_more
      (subst (λ (is : List Item). EndsWhole limits old.state before (length h.read.input) is) no_items ended)))
