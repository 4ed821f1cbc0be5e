use Rattle.std.proofs.Common.{List, [], ◌∷◌, ◌∙◌, ap, sym, subst}
use Rattle.cwr_values.specs.declared.items.Item.{Item}
use Rattle.cwr_parts.specs.Steps.SplitOutputs.{MayPut}
use Rattle.cwr_select.proofs.lemmas.ItemsWritten.{ends_blank, ends_own}
use Rattle.cwr_select.proofs.selecting.Selecting.end_group.Goals as goal

pub put-requires-clause-may : goal.put-requires-clause-may
put-requires-clause-may g c =
    subst (λ (l : List Item). MayPut g.W.Target.contents l c.args.self.now.encoder)
    (ends_own c.args.self.now.held c.args.foot.now c.if-self-eq0.false c.if-self.true) c.requires.may

pub put-requires-2-clause-may : goal.put-requires-2-clause-may
put-requires-2-clause-may g c =
    subst (λ (l : List Item). MayPut g.W.Target.contents l c.args.self.now.encoder)
    (ends_blank c.args.self.now.held c.args.foot.now c.if-self-eq0.false c.if-self.false
    ∙ ap (λ (i : Item). i ∷ []) (sym c.blank_foot.ensures)) c.requires.may
