use Rattle.std.proofs.Common.{◌≡◌, ◌<◌, ℕ, suc, List, ◌++◌, ◌∷◌, [], arith, refl, ap, sym, ◌∙◌, subst, length, rules}
use Rattle.cwr_sent.specs.declared.groups.Entry.{Entry}
use Rattle.cwr_sent.specs.declared.links.Link.{Link}
use Rattle.cwr_sent.specs.Format.GroupRows.{GroupRows}
use Rattle.cwr_sent.specs.Steps.Links.{AreLinked, shown_group}
use Rattle.std.specs.Prelude.{slice_set}
use Rattle.cwr_sent.proofs.lemmas.MoreLinks.{entry_there, linked_with, shown_with, within_entries}
use Rattle.cwr_sent.proofs.groups.SentGroup.append.Goals as goal

pub invariant_of-self-2 : goal.invariant_of-self-2
invariant_of-self-2 c =
    let within = within_entries c.self.inside.entries.items c.self.inside.links.items c.args.self.now c.args.t c.self.view_is c.requires in
    let there = entry_there c.self.inside.entries.items c.args.t c.index.result.now within c.index.ensures in
    let own : c.in-Ok-Ok.transaction ≡ c.args.t = search rules in
    let last : c.in-Ok-Ok.last ≡ suc (length c.self.inside.links.items) = search rules in
    let Good : List Link → Type 0 = λ ls. AreLinked (slice_set c.self.inside.entries.items c.args.t
    (record { facts = c.index_mut.result.now.facts; last = c.in-Ok-Ok.last })) ls in
    subst Good (sym c.in_ok-push.ensures.items)
    (linked_with c.self.inside.entries.items c.self.inside.links.items c.args.t c.index.result.now
    (record { facts = c.index_mut.result.now.facts; last = c.in-Ok-Ok.last })
    (record { answer = c.args.new.now; transaction = c.in-Ok-Ok.transaction; before = c.index.result.now.last })
    c.self.invariant there refl own last)

pub returns-clause-added : goal.returns-clause-added
returns-clause-added c =
    let within = within_entries c.self.inside.entries.items c.self.inside.links.items c.args.self.now c.args.t c.self.view_is c.requires in
    let there = entry_there c.self.inside.entries.items c.args.t c.index_mut.result.now within c.index_mut.ensures.value in
    let own : c.in-Ok-Ok.transaction ≡ c.args.t = search rules in
    let y : Entry = record { facts = c.index_mut.result.now.facts; last = c.in-Ok-Ok.last } in
    let l : Link =
    record { answer = c.args.new.now; transaction = c.in-Ok-Ok.transaction; before = c.index.result.now.last } in
    ap (λ (ls : List Link). shown_group (slice_set c.self.inside.entries.items c.args.t y) ls) c.in_ok-push.ensures.items
    ∙ shown_with c.self.inside.entries.items c.self.inside.links.items c.args.self.now c.args.t c.index_mut.result.now y l
    c.self.view_is there refl own
