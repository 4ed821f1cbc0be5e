use Rattle.std.proofs.Common.{◌≡◌, ℕ, suc, ◌-◌, [], ◌∷◌, ◌++◌, List, None, arith, sym, ap, subst, ◌∙◌, drop, get_or}
use Rattle.cwr_fields.specs.declared.message_codes.TransactionStatus.TheVariants as status
use Rattle.cwr_sent.specs.declared.answers.KeptAnswer.{KeptAnswer}
use Rattle.cwr_sent.specs.declared.links.Link.{Link}
use Rattle.cwr_sent.specs.Steps.Links.{last_first, shown_links}
use Rattle.cwr_sent.proofs.lemmas.Linked.{IsOwnPlace, collect_step, last_own, none_collected}
use Rattle.cwr_sent.proofs.links.collect_answers.Goals as goal

abbrev no_link : Link
no_link = record {
  answer = record { file = 0; processed = 0; status = status.Conflict; level = None; recipient = [] };
  transaction = 0;
  before = 0;
}

pub links-init : goal.links-init
links-init c = record {
  place = subst (λ (at : ℕ). IsOwnPlace c.args.links.now c.args.t at) (sym c.requires.last) (last_own c.args.links.now c.args.t);
  collected = c.requires.empty ∙ none_collected c.args.t c.args.links.now
      ∙ ap (λ (at : ℕ). last_first c.args.t (shown_links (drop at c.args.links.now))) (sym c.requires.last);
}

pub links-preserved : goal.links-preserved
links-preserved c =
    let h = collect_step c.args.t c.args.links.now c.links.at no_link c.requires.linked c.links-test.true c.links.invariant.place in
    let at : suc (c.links.at - 1) ≡ c.links.at = omega (arith, c.links-test.true) in
    record {
      place = h.place;
      collected = c.in_ok-push.ensures.items
          ∙ ap (λ (x : List KeptAnswer). x ++ (get_or c.args.links.now (c.links.at - 1) no_link).answer ∷ [])
          (c.links.invariant.collected
          ∙ ap (λ (n : ℕ). last_first c.args.t (shown_links (drop n c.args.links.now))) (sym at))
          ∙ sym h.more;
    }

pub links-smaller : goal.links-smaller
links-smaller c =
    let h = collect_step c.args.t c.args.links.now c.links.at no_link c.requires.linked c.links-test.true c.links.invariant.place in
    omega (arith, h.less, c.links-test.true)
