use Rattle.std.proofs.Common.{◌≡◌, ◌-◌, true, false, ℕ, List, ltb, length, sym, ap, ap₂, subst, ◌∙◌, arith, rules}
use Rattle.std.specs.List.Sorted.{IsNonDecreasingBy, IsPartitionPoint}
use Rattle.std.proofs.lemmas.List.{get_or_read}
use Rattle.std.proofs.lemmas.List.Sorted.{IsPartitionedBy-ltb, IsPartitionPoint-from_clause}
use Rattle.cwr_transform.specs.Steps.Found.{place_at}
use Rattle.cwr_transform.proofs.lemmas.FoundPlaces.{placed_at}
use Rattle.cwr_transform.proofs.sought.SoughtNumbers.place.Goals as goal
use Rattle.cwr_transform.proofs.sought.SoughtNumbers.place.Goals.{then-group-gt0, else-group-gt0}

pub returns : goal.returns
returns c = λ up few.
    let starts : List ℕ = c.args.self.now.starts.items in
    let shown : List ℕ = c.deref.result.now in
    let rises : IsNonDecreasingBy (λ (s : ℕ). s) shown =
    subst (λ (l : List ℕ). IsNonDecreasingBy (λ (s : ℕ). s) l) (sym c.deref.ensures.value) up in
    let found : IsPartitionPoint (λ (s : ℕ). ltb s c.args.count ≡ true) (λ s. ltb s c.args.count ≡ false) shown c.partition_point-group.result =
    IsPartitionPoint-from_clause (λ (s : ℕ). ltb s c.args.count) shown c.partition_point-group.result
    c.partition_point-group.ensures.partitioned (IsPartitionedBy-ltb (λ (s : ℕ). s) shown c.args.count rises)
    (λ a r q k. search rules) in
    let last : place_at starts c.args.count ≡ (c.partition_point-group.result, c.args.count - c.if-group-gt0.before - 1) =
    placed_at c.args.count starts c.partition_point-group.result c.if-group-gt0.before
    (omega (arith, c.partition_point-group.ensures.bound, ap length c.deref.ensures.value))
    (subst (λ (l : List ℕ). IsPartitionPoint (λ (s : ℕ). ltb s c.args.count ≡ true) (λ s. ltb s c.args.count ≡ false) l
    c.partition_point-group.result) c.deref.ensures.value found)
    (λ none. elim c.if-group-gt0.branch [
      | then-group-gt0 w ↦ absurd (omega (arith, w.if-group-gt0, none))
      | else-group-gt0 w ↦ w.before-is
    ])
    (λ some. elim c.if-group-gt0.branch [
      | then-group-gt0 w ↦ w.before-is ∙ get_or_read starts (c.partition_point-group.result - 1) w.index.result.now
          (omega (arith, some, c.partition_point-group.ensures.bound, ap length c.deref.ensures.value)) w.index.ensures 0
      | else-group-gt0 w ↦ absurd (omega (arith, w.if-group-gt0, some))
    ]) in
    ap₂ (λ (a b : ℕ). (a, b))
    (omega (arith, c.min.ensures, c.partition_point-group.ensures.bound, ap length c.deref.ensures.value, few))
    (c.saturating_sub-2.ensures ∙ ap (λ (n : ℕ). n - 1) c.saturating_sub.ensures) ∙ sym last
