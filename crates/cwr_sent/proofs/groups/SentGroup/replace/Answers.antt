use Rattle.std.proofs.Common.{◌≡◌, ℕ, List, arith, refl, ap, sym, ◌∙◌, subst, length, rules}
use Rattle.std.specs.Prelude.{map}
use Rattle.std.specs.List.{list_any}
use Rattle.cwr_sent.specs.declared.links.Link.{Link}
use Rattle.cwr_sent.specs.Format.GroupRows.{GroupRows, KeptFor}
use Rattle.cwr_sent.specs.Steps.Links.{AreLinked, counted, is_same, is_same_link, shown_links, with_counting}
use Rattle.cwr_sent.proofs.lemmas.ReplacedLinks.{counting_keeps, found_shown, shown_replaced, still_linked, written_back}
use Rattle.cwr_sent.proofs.groups.SentGroup.replace.Goals as goal

pub invariant_of-self : goal.invariant_of-self
invariant_of-self c =
    let was = c.deref_mut.ensures.value in
    let back = written_back c.replace_answer.new.links c.self.inside.links.items c.self.inside.links.len
    (c.replace_answer.auto.links ∙ ap length was) (sym c.deref_mut.ensures.len ∙ ap length was) in
    let f : Link → Link = with_counting c.args.files.now c.args.t c.args.new.now in
    let now = back ∙ c.replace_answer.ensures.replaced ∙ ap (map f) was in
    let Good : List Link → Type 0 = λ ls. AreLinked c.self.inside.entries.items ls in
    subst Good (sym now)
    (still_linked (with_counting c.args.files.now c.args.t c.args.new.now) c.self.inside.entries.items c.self.inside.links.items
    (counting_keeps c.args.files.now c.args.t c.args.new.now) c.self.invariant)

pub returns-clause-answers : goal.returns-clause-answers
returns-clause-answers c =
    let was = c.deref_mut.ensures.value in
    let back = written_back c.replace_answer.new.links c.self.inside.links.items c.self.inside.links.len
    (c.replace_answer.auto.links ∙ ap length was) (sym c.deref_mut.ensures.len ∙ ap length was) in
    let f : Link → Link = with_counting c.args.files.now c.args.t c.args.new.now in
    let now = back ∙ c.replace_answer.ensures.replaced ∙ ap (map f) was in
    ap shown_links now
    ∙ shown_replaced c.args.files.now c.args.t c.args.new.now c.self.inside.links.items
    ∙ ap (λ (g : GroupRows). map (counted c.args.files.now c.args.t c.args.new.now) g.answers) c.self.view_is

pub returns-clause-found : goal.returns-clause-found
returns-clause-found c =
    c.replace_answer.ensures.found
    ∙ ap (list_any (is_same_link c.args.files.now c.args.t c.args.new.now)) c.deref_mut.ensures.value ∙ found_shown c.args.files.now c.args.t c.args.new.now c.self.inside.links.items
    ∙ ap (λ (g : GroupRows). list_any (is_same c.args.files.now c.args.t c.args.new.now) g.answers) c.self.view_is
