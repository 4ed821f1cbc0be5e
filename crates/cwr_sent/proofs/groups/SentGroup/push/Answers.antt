use Rattle.std.proofs.Common.{◌≡◌, [], List, refl, sym, ap, ◌∙◌, subst}
use Rattle.cwr_sent.specs.declared.groups.Entry.{Entry}
use Rattle.cwr_sent.specs.Format.GroupRows.{GroupRows}
use Rattle.cwr_sent.specs.Steps.Links.{AreLinked, shown_links}
use Rattle.cwr_sent.proofs.lemmas.MoreLinks.{with_entry}
use Rattle.cwr_sent.proofs.groups.SentGroup.push.Goals as goal

pub invariant_of-self-2 : goal.invariant_of-self-2
invariant_of-self-2 c =
    let none : shown_links c.self.inside.links.items ≡ [] = ap (λ (g : GroupRows). g.answers) c.self.view_is ∙ c.requires in
    let Good : List Entry → Type 0 = λ es. AreLinked es c.self.inside.links.items in
    subst Good (sym c.in_ok-push.ensures.items)
    (with_entry c.self.inside.entries.items _ c.self.inside.links.items none refl c.self.invariant)
