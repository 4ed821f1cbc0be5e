use Rattle.std.proofs.Common.{◌++◌, ◌∷◌, [], sym, subst}
use Rattle.std.specs.Prelude.{if◌then◌else◌}
use Rattle.cwr_values.specs.declared.items.Item.{Item}
use Rattle.cwr_transform.specs.declared.select_views.SelectView.{SelectView}
use Rattle.cwr_transform.specs.Steps.SelectViews.{HasSeenFindings, has_seen}
use Rattle.cwr_transform.proofs.lemmas.SelectionsSeen.{seen_transaction}
use Rattle.cwr_transform.proofs.select_views.SelectView.take.Goals as goal

pub returns : goal.returns
returns g c = λ first items h.
    let now : SelectView g.row.C.Denot = record c.args.self.now {
      transactions = c.saturating_add-self.result;
      blanked = c.count.new.self;
      sought = c.take.new.self;
      findings = c.see_where_chosen.new.findings;
    } in
    subst (λ (item : Item). has_seen g.C.Chooses.choice first now (items ++ item ∷ [])) (sym c.requires)
    (seen_transaction g.C.Chooses.choice first c.args.self.now items c.args.transaction.now c.saturating_add-self.result
    c.chooses-is_chosen.result c.count.new.self c.take.new.self c.see_where_chosen.new.findings c.saturating_add-self.ensures
    c.chooses-is_chosen.ensures c.take.ensures
    (λ seen k. subst
    (λ (item : Item). HasSeenFindings (seen ++ (if c.chooses-is_chosen.result then item ∷ [] else [])) c.see_where_chosen.new.findings)
    c.requires (c.see_where_chosen.ensures seen k)) h)
