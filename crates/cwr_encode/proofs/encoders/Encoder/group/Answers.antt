use Rattle.std.proofs.Common.{List, [], ◌∷◌, ◌++◌, map, sym, ap, subst, ◌∙◌}
use Rattle.std.specs.Prelude.{Some, Err}
use Rattle.cwr_fields.specs.declared.kinds.Kind.TheVariants.{Grh}
use Rattle.cwr_shape.specs.declared.symbols.Symbol.{Symbol}
use Rattle.cwr_shape.specs.Format.Outlines.{IsWithin, Continues}
use Rattle.cwr_shape.specs.Format.Numbers.{symbol_kind}
use Rattle.cwr_shape.specs.Steps.Tallies as tallies
use Rattle.cwr_shape.proofs.lemmas.WhatMayCome.{comes_any}
use Rattle.cwr_values.specs.Format.Values.{symbol_of}
use Rattle.cwr_encode.specs.declared.encoders.EncodeFault.{EncodeFault}
use Rattle.cwr_encode.specs.Format.Encoders.{JudgesGroup, reached_by}
use Rattle.cwr_encode.proofs.lemmas.Adding.{adds_one, judged_taken, right_kind}
use Rattle.cwr_encode.proofs.lemmas.Groups.{head_barred, head_numbers, head_symbol, may_begin}
use Rattle.cwr_encode.proofs.encoders.Encoder.group.Goals as goal

pub put-requires : goal.put-requires
put-requires g c = sym c.is_stopped.ensures ∙ c.if-is_stopped.false

pub returns-in-Err-clause-judged : goal.returns-in-Err-clause-judged
returns-in-Err-clause-judged g c = λ unfailed start records e.
    let xs : List Symbol = map symbol_of records in
    let kind =
    right_kind c.args.head.now c.view-shown.result Grh c.is_of.result c.view-shown.ensures.value c.is_of.ensures
    c.if-not-is_of.false in
    let may =
    may_begin xs c.reached.result c.may_begin_group.result (c.reached.ensures xs e.counted) c.may_begin_group.ensures
    c.if-not-may_begin_group.false in
    subst (λ (f : EncodeFault). JudgesGroup c.args.self.now.tally.limits c.args.head.now xs (Err f)) (sym c.fault_of_bar.ensures)
    (head_barred c.args.self.now.tally xs c.args.head.now c.symbol_of-symbol.result c.in-Err.bar e.counted may kind
    (c.symbol_of-symbol.ensures ∙ ap symbol_of c.view-shown.ensures.value) (c.in-Err.ensures.answer xs e.counted))

pub returns-in-Ok-clause-judged : goal.returns-in-Ok-clause-judged
returns-in-Ok-clause-judged g c = λ unfailed start records e.
    let xs : List Symbol = map symbol_of records in
    let kind =
    right_kind c.args.head.now c.view-shown.result Grh c.is_of.result c.view-shown.ensures.value c.is_of.ensures
    c.if-not-is_of.false in
    let may =
    may_begin xs c.reached.result c.may_begin_group.result (c.reached.ensures xs e.counted) c.may_begin_group.ensures
    c.if-not-may_begin_group.false in
    judged_taken c.args.self.now.tally.limits xs (symbol_of c.args.head.now ∷ []) c.put.result _ c.put.ensures.fault may kind tt
    (subst (λ (s : Symbol). Continues (IsWithin c.args.self.now.tally.limits) (xs ++ s ∷ []))
    (c.symbol_of-symbol.ensures ∙ ap symbol_of c.view-shown.ensures.value) (c.in-Ok.ensures.answer xs e.counted))

pub returns-in-Ok-clause-adds : goal.returns-in-Ok-clause-adds
returns-in-Ok-clause-adds g c = λ unfailed.
    let kind =
    right_kind c.args.head.now c.view-shown.result Grh c.is_of.result c.view-shown.ensures.value c.is_of.ensures
    c.if-not-is_of.false in
    let symbol = c.symbol_of-symbol.ensures ∙ ap symbol_of c.view-shown.ensures.value in
    let named = symbol ∙ head_symbol c.args.head.now kind in
    adds_one g.W.Target.contents g.W.Target.failures c.args.head.now c.view-shown.result c.symbol_of-symbol.result
    (c.number-number.result ∷ []) c.args.self.now c.put.new.self c.put.result c.view-shown.ensures.value
    (sym symbol) c.view-shown.ensures.fits (λ h. absurd (cc (sym (ap (λ (s : Symbol). reached_by (Some s)) named) ∙ h)))
    (λ xs st. head_numbers xs c.args.head.now c.number-number.result kind (c.number-number.ensures xs c.symbol_of-symbol.result st
    (ap symbol_kind named) (comes_any _ xs _ (c.in-Ok.ensures.answer xs st))))
    (λ xs st. subst (λ (t : tallies.TallyValue). tallies.IsTallyOf t (xs ++ c.symbol_of-symbol.result ∷ []))
    (sym c.put.ensures.tally) (c.step.ensures.stands xs st)) c.put.ensures.puts c.put.ensures.fault
