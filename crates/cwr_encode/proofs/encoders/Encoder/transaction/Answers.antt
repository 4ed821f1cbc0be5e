use Rattle.std.proofs.Common.{List, ◌++◌, map, sym, ap, subst, ◌∙◌}
use Rattle.cwr_shape.specs.declared.symbols.Symbol.{Symbol}
use Rattle.cwr_shape.specs.Steps.Tallies as tallies
use Rattle.cwr_values.specs.Format.Values.{symbol_of}
use Rattle.cwr_encode.proofs.lemmas.Adding.{adds_by, judged_taken}
use Rattle.cwr_encode.proofs.lemmas.Transactions.{whole_of, wrong_type, limit_judged, comes_whole, comes_within, few_records, fits_whole, transaction_added}
use Rattle.cwr_encode.proofs.lemmas.Transactions.{header_there}
use Rattle.cwr_encode.specs.Steps.Encoders.{passed_with}
use Rattle.cwr_encode.specs.Steps.Texts.{text_from}
use Rattle.cwr_encode.proofs.encoders.Encoder.transaction.Goals as goal

pub returns-then-not-is_of-clause-judged : goal.returns-then-not-is_of-clause-judged
returns-then-not-is_of-clause-judged g c = λ unfailed start records e.
    wrong_type c.args.self.now.tally (map symbol_of records) c.in-Some.ty c.args.transaction.now c.is_of.result
    (c.in-Some.ensures (map symbol_of records) e.counted) c.is_of.ensures c.if-not-is_of.true

pub returns-in-Some-limit_passed-clause-judged : goal.returns-in-Some-limit_passed-clause-judged
returns-in-Some-limit_passed-clause-judged g c = λ unfailed start records e.
    let w =
    whole_of c.in-Some.ty c.args.transaction.now c.is_of.result c.complete.result c.complete.ensures.begun c.is_of.ensures
    c.if-not-is_of.false c.complete.ensures.whole c.if-not-complete.false in
    limit_judged c.args.self.now.tally (map symbol_of records) c.in-Some.ty c.args.transaction.now c.limit_passed.result
    c.in-Some-limit_passed.limit e.counted (c.in-Some.ensures (map symbol_of records) e.counted) w
    (c.limit_passed.ensures.value ∙ ap (passed_with c.args.self.now.tally) c.len.ensures.len) c.in-Some-limit_passed.is

pub put_all-requires-clause-few : goal.put_all-requires-clause-few
put_all-requires-clause-few g c =
    few_records c.args.self.now.tally c.args.transaction.now c.limit_passed.result c.limit_passed.ensures.kept
    (c.limit_passed.ensures.value ∙ ap (passed_with c.args.self.now.tally) c.len.ensures.len) c.in_default-limit_passed.is

pub step_over-requires-clause-may_come : goal.step_over-requires-clause-may_come
step_over-requires-clause-may_come g c =
    let w =
    whole_of c.in-Some.ty c.args.transaction.now c.is_of.result c.complete.result c.complete.ensures.begun c.is_of.ensures
    c.if-not-is_of.false c.complete.ensures.whole c.if-not-complete.false in
    let some = c.limit_passed.ensures.kept.stands in (
      some.0,
      map symbol_of c.args.transaction.now,
      some.1,
      comes_whole c.args.self.now.tally some.0 c.in-Some.ty c.args.transaction.now c.limit_passed.result c.len-records.result
          c.step.result some.1 (c.in-Some.ensures some.0 some.1) w
          (c.limit_passed.ensures.value ∙ ap (passed_with c.args.self.now.tally) c.len.ensures.len) c.in_default-limit_passed.is
          c.len-records.ensures.len c.step.ensures,
    )

pub step_over-requires-clause-fits : goal.step_over-requires-clause-fits
step_over-requires-clause-fits g c =
    fits_whole c.args.self.now.tally c.args.transaction.now c.limit_passed.result c.len-records.result
    (c.limit_passed.ensures.value ∙ ap (passed_with c.args.self.now.tally) c.len.ensures.len) c.in_default-limit_passed.is
    c.len-records.ensures.len

pub returns-clause-judged : goal.returns-clause-judged
returns-clause-judged g c = λ unfailed start records e.
    let w =
    whole_of c.in-Some.ty c.args.transaction.now c.is_of.result c.complete.result c.complete.ensures.begun c.is_of.ensures
    c.if-not-is_of.false c.complete.ensures.whole c.if-not-complete.false in
    let xs : List Symbol = map symbol_of records in
    let ready = c.in-Some.ensures xs e.counted in
    judged_taken c.args.self.now.tally.limits xs (map symbol_of c.args.transaction.now) c.put_all.result _ c.put_all.ensures.fault
    ready.inside (header_there xs c.in-Some.ty c.args.transaction.now ready w.header) w.whole
    (comes_within c.args.self.now.tally xs c.in-Some.ty c.args.transaction.now c.limit_passed.result e.counted ready w
    (c.limit_passed.ensures.value ∙ ap (passed_with c.args.self.now.tally) c.len.ensures.len) c.in_default-limit_passed.is)

pub returns-clause-adds : goal.returns-clause-adds
returns-clause-adds g c = λ unfailed.
    let w =
    whole_of c.in-Some.ty c.args.transaction.now c.is_of.result c.complete.result c.complete.ensures.begun c.is_of.ensures
    c.if-not-is_of.false c.complete.ensures.whole c.if-not-complete.false in
    adds_by g.W.Target.contents g.W.Target.failures c.args.transaction.now
    (text_from c.number-number.result 0 c.args.transaction.now) c.args.self.now c.put_all.new.self c.put_all.result
    (transaction_added g.W.Target.contents g.W.Target.failures c.args.self.now c.put_all.new.self c.in-Some.ty
    c.args.transaction.now c.kind.result c.number-number.result c.put_all.result c.in-Some.ensures w c.kind.ensures.value
    c.number-number.ensures (λ xs st. subst
    (λ (t : tallies.TallyValue). tallies.IsTallyOf t (xs ++ map symbol_of c.args.transaction.now))
    (sym c.put_all.ensures.tally)
    (c.step_over.ensures.stands xs (map symbol_of c.args.transaction.now) st
    (comes_whole c.args.self.now.tally xs c.in-Some.ty c.args.transaction.now c.limit_passed.result c.len-records.result
    c.step.result st (c.in-Some.ensures xs st) w
    (c.limit_passed.ensures.value ∙ ap (passed_with c.args.self.now.tally) c.len.ensures.len) c.in_default-limit_passed.is
    c.len-records.ensures.len c.step.ensures))) c.put_all.ensures.puts)
    c.put_all.ensures.puts c.put_all.ensures.fault
