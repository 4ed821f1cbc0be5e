use Rattle.std.proofs.Common.{◌≡◌, ◌<◌, ap, sym, ◌∙◌, refl, length}
use Rattle.std.specs.Prelude.{nat_lt}
use Rattle.std.specs.List.{list_any}
use Rattle.cwr_sent.specs.Format.GroupRows.{GroupRows}
use Rattle.cwr_sent.specs.Steps.Links.{is_for}
use Rattle.cwr_sent.proofs.lemmas.Linked.{any_for}
use Rattle.cwr_sent.proofs.lemmas.MoreLinks.{entry_there, within_entries}
use Rattle.cwr_sent.proofs.groups.SentGroup.is_answered.Goals as goal

pub returns : goal.returns
returns c =
    let within = within_entries c.self.inside.entries.items c.self.inside.links.items c.args.self.now c.args.t c.self.view_is c.requires in
    let there = entry_there c.self.inside.entries.items c.args.t c.index.result.now within c.index.ensures in
    ap (nat_lt 0) (c.self.invariant.last c.args.t c.index.result.now there)
    ∙ sym (any_for c.args.t c.self.inside.links.items)
    ∙ ap (λ (g : GroupRows). list_any (is_for c.args.t) g.answers) c.self.view_is
