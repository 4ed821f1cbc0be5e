use Rattle.std.proofs.Common.{List, [], ◌∷◌, ◌++◌, map, refl, sym, ap, subst}
use Rattle.cwr_fields.specs.declared.kinds.Kind.TheVariants.{Hdr}
use Rattle.cwr_shape.specs.declared.symbols.Symbol.{Symbol}
use Rattle.cwr_shape.specs.declared.symbols.Symbol.TheVariants.{Plain}
use Rattle.cwr_shape.specs.Format.Outlines.{IsWithin, Continues}
use Rattle.cwr_shape.specs.Steps.Tallies as tallies
use Rattle.cwr_values.specs.Format.Values.{symbol_of}
use Rattle.cwr_values.specs.Format.Begins.{numbers_after}
use Rattle.cwr_encode.proofs.lemmas.Comes.{opening_comes, opening_first}
use Rattle.cwr_encode.proofs.lemmas.Adding.{adds_one, judged_taken, admitted, refused, wrong_kind, right_kind, plain_symbol}
use Rattle.cwr_encode.proofs.encoders.Encoder.open.Goals as goal

pub returns-then-is_err-clause-judged : goal.returns-then-is_err-clause-judged
returns-then-is_err-clause-judged g c = λ unfailed start records e first.
    refused _ _ _ _ _ c.is_err.ensures.value c.if-is_err.true (c.admits.ensures.answer _ e.counted)
    (opening_comes _ _ e.counted first)

pub returns-then-not-is_of-clause-judged : goal.returns-then-not-is_of-clause-judged
returns-then-not-is_of-clause-judged g c = λ unfailed start records e. (
  opening_first _ _ e.counted (admitted _ _ _ _ _ c.is_err.ensures.value c.if-is_err.false (c.admits.ensures.answer _ e.counted)),
  wrong_kind c.args.opening.now c.view-shown.result Hdr c.is_of.result c.view-shown.ensures.value c.is_of.ensures
      c.if-not-is_of.true,
)

pub returns-clause-judged : goal.returns-clause-judged
returns-clause-judged g c = λ unfailed start records e.
    let xs : List Symbol = map symbol_of records in
    let may = admitted _ xs _ _ _ c.is_err.ensures.value c.if-is_err.false (c.admits.ensures.answer xs e.counted) in
    let kind =
    right_kind c.args.opening.now c.view-shown.result Hdr c.is_of.result c.view-shown.ensures.value c.is_of.ensures
    c.if-not-is_of.false in
    judged_taken c.args.self.now.tally.limits xs (symbol_of c.args.opening.now ∷ []) c.put.result _ c.put.ensures.fault
    (opening_first _ _ e.counted may) kind tt
    (subst (λ (s : Symbol). Continues (IsWithin c.args.self.now.tally.limits) (xs ++ s ∷ []))
    (sym (plain_symbol c.args.opening.now Hdr kind refl)) may)

pub returns-clause-adds : goal.returns-clause-adds
returns-clause-adds g c = λ unfailed.
    let kind =
    right_kind c.args.opening.now c.view-shown.result Hdr c.is_of.result c.view-shown.ensures.value c.is_of.ensures
    c.if-not-is_of.false in
    adds_one g.W.Target.contents g.W.Target.failures c.args.opening.now c.view-shown.result (Plain Hdr) [] c.args.self.now
    c.put.new.self c.put.result c.view-shown.ensures.value
    (plain_symbol c.args.opening.now Hdr kind refl) c.view-shown.ensures.fits (λ h. absurd (cc h))
    (λ xs st. ap (numbers_after xs) (sym kind))
    (λ xs st. subst (λ (t : tallies.TallyValue). tallies.IsTallyOf t (xs ++ Plain Hdr ∷ [])) (sym c.put.ensures.tally)
    (c.step.ensures.stands xs st)) c.put.ensures.puts c.put.ensures.fault
