use Rattle.std.proofs.Common.{List, ◌∷◌, [], ◌++◌, map, refl, sym, subst, ◌∙◌}
use Rattle.std.specs.Prelude.{Err}
use Rattle.cwr_fields.specs.declared.kinds.Kind.TheVariants.{Trl}
use Rattle.cwr_shape.specs.declared.symbols.Symbol.{Symbol}
use Rattle.cwr_shape.specs.declared.symbols.Symbol.TheVariants.{Plain}
use Rattle.cwr_shape.specs.Steps.Tallies as tallies
use Rattle.cwr_shape.proofs.lemmas.WhatMayCome.{comes_any}
use Rattle.cwr_values.specs.Format.Values.{symbol_of}
use Rattle.cwr_values.specs.Format.Rows.{trailer}
use Rattle.cwr_encode.specs.declared.encoders.EncodeFault.{EncodeFault}
use Rattle.cwr_encode.specs.Format.Finishing.{JudgesEnd, IsBeforeTrailer}
use Rattle.cwr_encode.proofs.lemmas.Adding.{adds_one, judged_taken, admitted, refused}
use Rattle.cwr_encode.proofs.lemmas.Comes.{trailer_last}
use Rattle.cwr_encode.proofs.lemmas.Ends.{end_numbers, end_judged}
use Rattle.cwr_encode.proofs.encoders.Encoder.end.Goals as goal

pub put-requires : goal.put-requires
put-requires g c = sym c.is_stopped.ensures ∙ c.if-is_stopped.false

pub returns-then-is_err-clause-judged : goal.returns-then-is_err-clause-judged
returns-then-is_err-clause-judged g c = λ unfailed start records e.
    let xs : List Symbol = map symbol_of records in
    subst (λ (f : EncodeFault). JudgesEnd {A = Unit {0}} c.args.self.now.tally.limits xs (Err f)) (sym c.end_fault.ensures)
    (end_judged c.args.self.now.tally xs c.reached.result e.counted (c.reached.ensures xs e.counted)
    (refused _ xs _ _ _ c.is_err.ensures.value c.if-is_err.true (c.admits.ensures.answer xs e.counted)))

pub returns-clause-judged : goal.returns-clause-judged
returns-clause-judged g c = λ unfailed start records e.
    let xs : List Symbol = map symbol_of records in
    let may = admitted _ xs _ _ _ c.is_err.ensures.value c.if-is_err.false (c.admits.ensures.answer xs e.counted) in
    let last = trailer_last c.args.self.now.tally xs e.counted may in
    judged_taken c.args.self.now.tally.limits xs (Plain Trl ∷ []) c.put.result _ c.put.ensures.fault
    (subst IsBeforeTrailer (sym last) tt) tt last may

pub returns-clause-adds : goal.returns-clause-adds
returns-clause-adds g c = λ unfailed.
    adds_one g.W.Target.contents g.W.Target.failures trailer c.view.result (Plain Trl)
    (c.number-groups.result ∷ c.number-transactions.result ∷ c.number-records.result ∷ []) c.args.self.now c.put.new.self
    c.put.result
    (c.view.ensures.value ∙ c.trailer-last.ensures) refl tt (λ h. absurd (cc h))
    (λ xs st. let goes =
    comes_any _ xs _ (admitted _ xs _ _ _ c.is_err.ensures.value c.if-is_err.false (c.admits.ensures.answer xs st)) in
    end_numbers xs c.number-groups.result c.number-transactions.result c.number-records.result
    (c.number-groups.ensures xs (Plain Trl) st refl goes) (c.number-transactions.ensures xs (Plain Trl) st refl goes)
    (c.number-records.ensures xs (Plain Trl) st refl goes))
    (λ xs st. subst (λ (t : tallies.TallyValue). tallies.IsTallyOf t (xs ++ Plain Trl ∷ [])) (sym c.put.ensures.tally)
    (c.step.ensures.stands xs st)) c.put.ensures.puts c.put.ensures.fault
