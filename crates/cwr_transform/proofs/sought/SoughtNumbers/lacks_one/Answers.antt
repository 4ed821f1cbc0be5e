use Rattle.std.proofs.Common.{◌==◌, ℕ, ap, ◌∙◌}
use Rattle.std.specs.List.{list_any}
use Rattle.cwr_transform.proofs.lemmas.SoughtValues.{lacks_zero}
use Rattle.cwr_transform.proofs.sought.SoughtNumbers.lacks_one.Goals as goal

pub returns : goal.returns
returns c =
    c.has_zero.ensures ∙ ap (list_any (λ (count : ℕ). count == 0)) c.as_slice.ensures.value ∙ lacks_zero c.args.self.now.firsts.items
