use Rattle.std.proofs.Common.{◌≡◌, ◌≤◌, List, [], ◌∷◌, Some, sym, ap, subst, ◌∙◌}
use Rattle.cwr_fields.specs.declared.codes.Role.{Role}
use Rattle.cwr_fields.specs.declared.codes.TransactionType.TheVariants.{Acknowledgement}
use Rattle.cwr_fields.specs.declared.kinds.Kind.{Kind}
use Rattle.cwr_shape.specs.declared.symbols.Symbol.{Symbol}
use Rattle.cwr_shape.specs.declared.symbols.Symbol.TheVariants.{Plain, Ipa, Grh}
use Rattle.cwr_shape.specs.Format.Candidates.{candidates}
use Rattle.cwr_shape.specs.Steps.Counting.{wanted_role}
use Rattle.cwr_shape.specs.Format.NextSymbols.{Answers, AnswersAmong}
use Rattle.cwr_shape.specs.Steps.Tallies.{TallyValue}
use Rattle.cwr_shape.proofs.lemmas.FirstBarsOfKinds.{answers_best, best_one, best_party, best_group, one_symbol, parties}
use Rattle.cwr_shape.proofs.tallies.Tally.admits_kind.Goals as goal

pub returns-in_default : goal.returns-in_default
returns-in_default c =
    λ xs st. subst (λ (ss : List Symbol). AnswersAmong c.args.self.now.limits xs ss c.admits-in_default.result)
    (sym (one_symbol c.args.kind c.in_default.not-Ipa c.in_default.not-Grh))
    (answers_best c.args.self.now xs (Plain c.args.kind ∷ []) (Plain c.args.kind) c.admits-in_default.result
    (best_one c.args.self.now.limits xs (Plain c.args.kind)) (c.admits-in_default.ensures.answer xs st))

pub returns-in-Ipa : goal.returns-in-Ipa
returns-in-Ipa c = λ xs st.
    let t : TallyValue = c.args.self.now in
    let role : c.wanted_role.result ≡ wanted_role t.stage =
    c.wanted_role.ensures ∙ ap (λ (v : TallyValue). wanted_role v.stage) c.self.view_is in
    subst (λ (kind : Kind). AnswersAmong t.limits xs (candidates (Some kind) []) c.admits.result) (sym c.in-Ipa.is)
    (answers_best t xs parties (Ipa (wanted_role t.stage)) c.admits.result
    (best_party t xs st
    (subst (λ (v : TallyValue). 1 ≤ v.limits.transaction) c.self.view_is c.self.invariant.counts.in_range.least_transaction))
    (subst (λ (r : Role). Answers t.limits xs (Ipa r) c.admits.result) role (c.admits.ensures.answer xs st)))

pub returns-in-Grh : goal.returns-in-Grh
returns-in-Grh c = λ xs st.
    let t : TallyValue = c.args.self.now in
    subst (λ (kind : Kind). AnswersAmong t.limits xs (candidates (Some kind) []) c.admits-in-Grh.result) (sym c.in-Grh.is)
    (answers_best t xs _ (Grh Acknowledgement) c.admits-in-Grh.result
    (best_group t xs st
    (subst (λ (v : TallyValue). 1 ≤ v.limits.transaction) c.self.view_is c.self.invariant.counts.in_range.least_transaction))
    (c.admits-in-Grh.ensures.answer xs st))
