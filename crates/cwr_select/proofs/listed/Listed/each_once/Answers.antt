use Rattle.std.proofs.Common.{◌≡◌, List, sym, ap, subst, ◌∙◌}
use Rattle.std.specs.Prelude.{IsSorted}
use Rattle.std.specs.List.{IsDistinct, dedup, list_any}
use Rattle.std.proofs.lemmas.List.Filters.{dedup_is}
use Rattle.std.proofs.lemmas.List.Sorted.{list_any-IsPermutation}
use Rattle.cwr_select.proofs.lemmas.DistinctValues.{kept_once, kept_same, kept_sorted}
use Rattle.cwr_select.proofs.listed.Listed.each_once.Goals as goal

pub invariant_of-result : goal.invariant_of-result
invariant_of-result g c =
    subst (λ (l : List g.row.T.Denot). IsSorted g.T.Ord.cmp l)
    (sym (dedup_is g.T.PartialEq.eq c.sort_unstable.new.self.items c.dedup.new.self.items c.dedup.ensures.filtered))
    (kept_sorted g.met.T.Ord.total g.met.T.Ord.matches_eq c.sort_unstable.new.self.items c.sort_unstable.ensures.sorted)

pub returns : goal.returns
returns g c =
    let is : c.dedup.new.self.items ≡ dedup g.T.PartialEq.eq c.sort_unstable.new.self.items
    = dedup_is g.T.PartialEq.eq c.sort_unstable.new.self.items c.dedup.new.self.items c.dedup.ensures.filtered in
    record {
      same = λ x. ap (list_any (λ (y : g.row.T.Denot). g.T.PartialEq.eq y x)) is
          ∙ kept_same g.met.T.Eq.laws c.sort_unstable.new.self.items x
          ∙ sym (list_any-IsPermutation (λ (y : g.row.T.Denot). g.T.PartialEq.eq y x) c.args.values.items c.sort_unstable.new.self.items
          c.sort_unstable.ensures.permutation);
      distinct = subst (λ (l : List g.row.T.Denot). IsDistinct g.T.PartialEq.eq l) (sym is)
          (kept_once g.met.T.Ord.total g.met.T.Ord.matches_eq c.sort_unstable.new.self.items c.sort_unstable.ensures.sorted);
    }
