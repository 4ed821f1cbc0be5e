use Rattle.std.proofs.Common.{refl, sym, ◌∙◌, inl, inr}
use Rattle.std.proofs.lemmas.Bool.{or_left}
use Rattle.cwr_advice.proofs.kept.AdviceSums.begin.Goals as goal

pub returns-then-is_of : goal.returns-then-is_of
returns-then-is_of c = λ yes. inl (refl, or_left _ _ (sym c.is_of.ensures ∙ c.if-is_of.true))

pub returns : goal.returns
returns c = λ yes. inr (c.add_to_work.ensures.same ∙ c.new.ensures.work, c.add_to_work.ensures.kept _ c.new.ensures.none yes)
