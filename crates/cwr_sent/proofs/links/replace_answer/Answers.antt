use Rattle.std.proofs.Common.{◌≡◌, ℕ, Bool, false, List, sym, subst, ap, ◌∙◌, refl}
use Rattle.cwr_sent.proofs.lemmas.Linked.{Walked, step_on, walk}
use Rattle.cwr_sent.proofs.links.replace_answer.Goals as goal

pub links-init : goal.links-init
links-init c =
    let Good : ℕ → Type 0 =
    λ at. Walked c.args.files.now c.args.t c.args.new.now c.args.links.now c.args.links.now false at in
    subst Good (sym c.requires.last) (walk c.args.files.now c.args.t c.args.new.now c.args.links.now)

pub links-preserved : goal.links-preserved
links-preserved c =
    let h = step_on c.args.files.now c.args.t c.args.new.now c.args.links.now c.links.links c.links.found c.links.at _ _ _ _
    c.requires.linked c.links-test.true c.links.invariant c.replace_one-found.ensures.replaced c.replace_one-found.ensures.found in
    h.walked

pub links-smaller : goal.links-smaller
links-smaller c =
    let h = step_on c.args.files.now c.args.t c.args.new.now c.args.links.now c.links.links c.links.found c.links.at _ _ _ _
    c.requires.linked c.links-test.true c.links.invariant c.replace_one-found.ensures.replaced c.replace_one-found.ensures.found in
    h.less
