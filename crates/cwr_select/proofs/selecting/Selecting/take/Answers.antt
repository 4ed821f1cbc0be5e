use Rattle.std.proofs.Common.{◌≡◌, List, sym, ap, subst, ◌∙◌}
use Rattle.cwr_values.specs.declared.items.Item.{Item}
use Rattle.cwr_parts.specs.Steps.SplitOutputs.{MayPut, PutsOn}
use Rattle.cwr_select.specs.Steps.Held.{end_with}
use Rattle.cwr_select.specs.Steps.Sent.{sent_with}
use Rattle.cwr_select.proofs.lemmas.SentItems.{end_as}
use Rattle.cwr_select.proofs.selecting.Selecting.take.Goals as goal

pub end_group-requires-clause-may : goal.end_group-requires-clause-may
end_group-requires-clause-may g c =
    let same : sent_with c.args.works (g.C.Chooses.choice c.args.choice.now) c.args.self.now.held c.args.item
    ≡ end_with c.args.self.now.held c.args.item =
    ap (sent_with c.args.works (g.C.Chooses.choice c.args.choice.now) c.args.self.now.held) c.in-GroupClosed.is
    ∙ end_as c.args.works c.args.self.now.held c.in-GroupClosed.field-0
    ∙ ap (end_with c.args.self.now.held) (sym c.in-GroupClosed.is) in
    subst (λ (l : List Item). MayPut g.W.Target.contents l c.args.self.now.encoder) same c.requires.may

pub returns-in_ok-end_group-in-GroupClosed-clause-writes : goal.returns-in_ok-end_group-in-GroupClosed-clause-writes
returns-in_ok-end_group-in-GroupClosed-clause-writes g c =
    let same : sent_with c.args.works (g.C.Chooses.choice c.args.choice.now) c.args.self.now.held c.args.item
    ≡ end_with c.args.self.now.held c.args.item =
    ap (sent_with c.args.works (g.C.Chooses.choice c.args.choice.now) c.args.self.now.held) c.in-GroupClosed.is
    ∙ end_as c.args.works c.args.self.now.held c.in-GroupClosed.field-0
    ∙ ap (end_with c.args.self.now.held) (sym c.in-GroupClosed.is) in
    subst (λ (l : List Item). PutsOn g.W.Target.contents g.W.Target.failures l c.args.self.now.encoder c.end_group.new.self.encoder)
    (sym same) c.in_ok-end_group-in-GroupClosed.ensures.writes
