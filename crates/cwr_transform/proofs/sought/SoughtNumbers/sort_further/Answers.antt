use Rattle.std.proofs.Common.{◌≡◌, rules}
use Rattle.std.proofs.lemmas.Fn.{always_returns_same}
use Rattle.std.proofs.lemmas.List.Sorted.{IsNonDecreasingBy-from_sort_by_key}
use Rattle.cwr_transform.specs.declared.sought.Further.{Further}
use Rattle.cwr_transform.proofs.lemmas.FoundPlaces.{stays}
use Rattle.cwr_transform.proofs.sought.SoughtNumbers.sort_further.Goals as goal

pub returns-in-Ok-clause-sorted : goal.returns-in-Ok-clause-sorted
returns-in-Ok-clause-sorted c = λ kept.
    IsNonDecreasingBy-from_sort_by_key (λ (f : Further). f.number) c.sort_by_key.new.self.items c.in-Ok.ensures.sorted
    (λ a r q k. search rules)

pub returns-in-Ok-clause-further : goal.returns-in-Ok-clause-further
returns-in-Ok-clause-further c =
    stays c.args.self.now.further.items c.sort_by_key.new.self.items
    (c.sort_by_key.ensures.stable (λ (f : Further). f.number)
    (always_returns_same _ (λ a r. r ≡ a.0.now.number) _ (λ a r q k. search rules)))
