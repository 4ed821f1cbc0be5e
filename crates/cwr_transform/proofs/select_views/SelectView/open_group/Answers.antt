use Rattle.cwr_transform.proofs.lemmas.SelectionsSeen.{seen_head}
use Rattle.cwr_transform.proofs.select_views.SelectView.open_group.Goals as goal

pub returns : goal.returns
returns g c = λ first items h.
    seen_head g.C.Chooses.choice first c.args.self.now items c.args.head.now c.saturating_add-self.result _ c.open_group.new.self
    c.saturating_add-self.ensures c.open_group.ensures h
