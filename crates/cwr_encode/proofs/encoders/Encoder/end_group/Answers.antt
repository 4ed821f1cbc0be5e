use Rattle.std.proofs.Common.{List, [], ◌∷◌, ◌++◌, map, refl, sym, subst, ◌∙◌}
use Rattle.cwr_fields.specs.declared.kinds.Kind.TheVariants.{Grt}
use Rattle.cwr_shape.specs.declared.symbols.Symbol.{Symbol}
use Rattle.cwr_shape.specs.declared.symbols.Symbol.TheVariants.{Plain}
use Rattle.cwr_shape.specs.Format.Outlines.{IsWithin, Continues}
use Rattle.cwr_shape.specs.Steps.Tallies as tallies
use Rattle.cwr_shape.proofs.lemmas.WhatMayCome.{comes_any}
use Rattle.cwr_values.specs.Format.Values.{symbol_of}
use Rattle.cwr_encode.proofs.lemmas.Adding.{adds_one, judged_taken, admitted, refused, right_kind, plain_symbol}
use Rattle.cwr_encode.proofs.lemmas.Comes.{foot_inside}
use Rattle.cwr_encode.proofs.lemmas.Groups.{foot_numbers, foot_incomplete, in_group}
use Rattle.cwr_encode.proofs.encoders.Encoder.end_group.Goals as goal

pub put-requires : goal.put-requires
put-requires g c = sym c.is_stopped.ensures ∙ c.if-is_stopped.false

pub returns-then-is_err-clause-judged : goal.returns-then-is_err-clause-judged
returns-then-is_err-clause-judged g c = λ unfailed start records e.
    let xs : List Symbol = map symbol_of records in
    let kind =
    right_kind c.args.foot.now c.view-shown.result Grt c.is_of.result c.view-shown.ensures.value c.is_of.ensures
    c.if-not-is_of.false in
    foot_incomplete c.args.self.now.tally xs c.args.foot.now e.counted e.between (in_group xs c.reached.result
    c.is_in_group.result (c.reached.ensures xs e.counted) c.is_in_group.ensures c.if-not-is_in_group.false) kind
    (refused _ xs _ _ _ c.is_err.ensures.value c.if-is_err.true (c.admits.ensures.answer xs e.counted))

pub returns-clause-judged : goal.returns-clause-judged
returns-clause-judged g c = λ unfailed start records e.
    let xs : List Symbol = map symbol_of records in
    let may = admitted _ xs _ _ _ c.is_err.ensures.value c.if-is_err.false (c.admits.ensures.answer xs e.counted) in
    let kind =
    right_kind c.args.foot.now c.view-shown.result Grt c.is_of.result c.view-shown.ensures.value c.is_of.ensures
    c.if-not-is_of.false in
    judged_taken c.args.self.now.tally.limits xs (symbol_of c.args.foot.now ∷ []) c.put.result _ c.put.ensures.fault
    (in_group xs c.reached.result c.is_in_group.result (c.reached.ensures xs e.counted) c.is_in_group.ensures
    c.if-not-is_in_group.false) kind (foot_inside c.args.self.now.tally xs e.counted (comes_any _ xs _ may))
    (subst (λ (s : Symbol). Continues (IsWithin c.args.self.now.tally.limits) (xs ++ s ∷ []))
    (sym (plain_symbol c.args.foot.now Grt kind refl)) may)

pub returns-clause-adds : goal.returns-clause-adds
returns-clause-adds g c = λ unfailed.
    let kind =
    right_kind c.args.foot.now c.view-shown.result Grt c.is_of.result c.view-shown.ensures.value c.is_of.ensures
    c.if-not-is_of.false in
    adds_one g.W.Target.contents g.W.Target.failures c.args.foot.now c.view-shown.result (Plain Grt)
    (c.number-group.result ∷ c.number-transactions.result ∷ c.number-records.result ∷ []) c.args.self.now c.put.new.self
    c.put.result
    c.view-shown.ensures.value (plain_symbol c.args.foot.now Grt kind refl) c.view-shown.ensures.fits (λ h. absurd (cc h))
    (λ xs st. let goes =
    comes_any _ xs _ (admitted _ xs _ _ _ c.is_err.ensures.value c.if-is_err.false (c.admits.ensures.answer xs st)) in
    foot_numbers xs c.args.foot.now c.number-group.result c.number-transactions.result c.number-records.result kind
    (c.number-group.ensures xs (Plain Grt) st refl goes) (c.number-transactions.ensures xs (Plain Grt) st refl goes)
    (c.number-records.ensures xs (Plain Grt) st refl goes))
    (λ xs st. subst (λ (t : tallies.TallyValue). tallies.IsTallyOf t (xs ++ Plain Grt ∷ [])) (sym c.put.ensures.tally)
    (c.step.ensures.stands xs st)) c.put.ensures.puts c.put.ensures.fault
