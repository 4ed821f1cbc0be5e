use Rattle.std.proofs.Common.{◌≡◌, ◌≤◌, ◌-◌, ℕ, true, false, ltb, leb, length, drop, take, sym, ap, subst, ◌∙◌, List, arith, rules}
use Rattle.std.specs.List.Sorted.{IsNonDecreasingBy, IsPartitionPoint, IsPartitionedBy}
use Rattle.std.proofs.lemmas.List.{length-drop, take_all}
use Rattle.std.proofs.lemmas.List.Sorted.{IsNonDecreasingBy-drop, IsPartitionedBy-leb, IsPartitionedBy-ltb, IsPartitionPoint-from_clause}
use Rattle.cwr_transform.specs.declared.sought.Further.{Further}
use Rattle.cwr_transform.specs.Steps.Found.{further_of}
use Rattle.cwr_transform.proofs.lemmas.FoundPlaces.{stand_together}
use Rattle.cwr_transform.proofs.sought.SoughtNumbers.further.Goals as goal

pub returns : goal.returns
returns c = λ can.
    let xs : List Further = c.deref.result.now in
    let ys : List Further = c.deref-2.result.now in
    let i : ℕ = c.partition_point-first.result in
    let same : xs ≡ ys = c.deref.ensures.value ∙ sym c.deref-2.ensures.value in
    let rises : IsNonDecreasingBy (λ (f : Further). f.number) ys =
    subst (λ (l : List Further). IsNonDecreasingBy (λ (f : Further). f.number) l) (sym c.deref-2.ensures.value) can.sorted in
    let within : i ≤ length ys = omega (arith, c.partition_point-first.ensures.bound, ap length same) in
    let rest : take (length ys - i) (drop i ys) ≡ drop i ys = take_all (length ys - i) (drop i ys) (omega (arith, length-drop i ys)) in
    let before : IsPartitionPoint (λ (f : Further). ltb f.number c.args.at ≡ true) (λ f. ltb f.number c.args.at ≡ false) ys i =
    subst (λ (l : List Further). IsPartitionPoint (λ (f : Further). ltb f.number c.args.at ≡ true) (λ f. ltb f.number c.args.at ≡ false) l i) same
    (IsPartitionPoint-from_clause (λ (f : Further). ltb f.number c.args.at) xs i c.partition_point-first.ensures.partitioned
    (subst (λ (l : List Further). IsPartitionedBy (λ (f : Further). ltb f.number c.args.at) l) (sym same)
    (IsPartitionedBy-ltb (λ (f : Further). f.number) ys c.args.at rises))
    (λ a r q k. search rules)) in
    let until : IsPartitionPoint (λ (f : Further). leb f.number c.args.at ≡ true) (λ f. leb f.number c.args.at ≡ false) (drop i ys)
    c.partition_point-count.result =
    subst (λ (l : List Further). IsPartitionPoint (λ (f : Further). leb f.number c.args.at ≡ true) (λ f. leb f.number c.args.at ≡ false) l
    c.partition_point-count.result) rest
    (IsPartitionPoint-from_clause (λ (f : Further). leb f.number c.args.at) (take (length ys - i) (drop i ys)) c.partition_point-count.result
    c.partition_point-count.ensures.partitioned
    (subst (λ (l : List Further). IsPartitionedBy (λ (f : Further). leb f.number c.args.at) l) (sym rest)
    (IsPartitionedBy-leb (λ (f : Further). f.number) (drop i ys) c.args.at (IsNonDecreasingBy-drop (λ (f : Further). f.number) i ys rises)))
    (λ a r q k. search rules)) in
    ap (take c.partition_point-count.result) rest
    ∙ stand_together c.args.at i c.partition_point-count.result ys within
    (omega (arith, c.partition_point-count.ensures.bound, ap length rest, length-drop i ys)) rises before until
    ∙ ap (further_of c.args.at) c.deref-2.ensures.value
