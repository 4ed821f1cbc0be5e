use Rattle.std.proofs.Common.{◌≡◌, List, [], ◌∷◌, ◌++◌, Option, true, sym, ap, subst, ◌∙◌}
use Rattle.std.specs.Prelude.{unwrap_or}
use Rattle.cwr_lines.specs.Format.Records.{RecordValue}
use Rattle.cwr_values.specs.declared.items.Item.{Item}
use Rattle.cwr_values.specs.declared.items.Item.TheVariants.{Transaction}
use Rattle.cwr_parts.specs.Steps.SplitOutputs.{MayPut}
use Rattle.cwr_select.specs.Steps.Sent.{sent_before, sent_transaction, sent_with}
use Rattle.cwr_select.proofs.lemmas.SentItems.{chosen_sent}
use Rattle.cwr_select.proofs.selecting.Selecting.weigh.Goals as goal

pub select-requires-clause-may : goal.select-requires-clause-may
select-requires-clause-may g c =
    let held = c.args.self.now.held in
    let chosen : g.C.Chooses.choice c.args.choice.now held.group held.transactions c.args.transaction.now ≡ true =
    sym c.chooses.ensures ∙ c.if-not-chooses.false in
    let sent : c.in-Some.sent ≡ sent_transaction c.args.works c.args.transaction.now =
    ap (λ (o : Option (List RecordValue)). unwrap_or o c.args.transaction.now) (sym c.in-Some.is) ∙ c.in_ok-sent.ensures.ok in
    subst (λ (l : List Item). MayPut g.W.Target.contents l c.args.self.now.encoder)
    (ap (sent_with c.args.works (g.C.Chooses.choice c.args.choice.now) held) c.requires.same
    ∙ chosen_sent c.args.works (g.C.Chooses.choice c.args.choice.now) held c.args.transaction.now chosen
    ∙ ap (λ (t : List RecordValue). sent_before c.args.works held ++ Transaction t ∷ []) (sym sent)) c.requires.may.may

pub select-requires-in-None-clause-may : goal.select-requires-in-None-clause-may
select-requires-in-None-clause-may g c =
    let held = c.args.self.now.held in
    let chosen : g.C.Chooses.choice c.args.choice.now held.group held.transactions c.args.transaction.now ≡ true =
    sym c.chooses.ensures ∙ c.if-not-chooses.false in
    let sent : c.args.transaction.now ≡ sent_transaction c.args.works c.args.transaction.now =
    ap (λ (o : Option (List RecordValue)). unwrap_or o c.args.transaction.now) (sym c.in-None.is) ∙ c.in_ok-sent.ensures.ok in
    subst (λ (l : List Item). MayPut g.W.Target.contents l c.args.self.now.encoder)
    (ap (sent_with c.args.works (g.C.Chooses.choice c.args.choice.now) held) c.requires.same
    ∙ chosen_sent c.args.works (g.C.Chooses.choice c.args.choice.now) held c.args.transaction.now chosen
    ∙ ap (λ (t : List RecordValue). sent_before c.args.works held ++ Transaction t ∷ []) (sym sent)
    ∙ ap (λ (i : Item). sent_before c.args.works held ++ i ∷ []) (sym c.requires.same)) c.requires.may.may
