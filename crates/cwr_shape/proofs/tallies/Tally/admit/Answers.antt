use Rattle.std.proofs.Common.{List, ◌∷◌, ◌++◌, [], Err, Ok, ap, subst, ◌∙◌}
use Rattle.cwr_fields.specs.declared.codes.TransactionType.{TransactionType}
use Rattle.cwr_shape.specs.declared.symbols.Symbol.{Symbol}
use Rattle.cwr_shape.specs.declared.tallies.Bar.TheVariants.{Limit}
use Rattle.cwr_shape.specs.Format.NextSymbols.{Answers}
use Rattle.cwr_shape.specs.Steps.Tallies.{TallyValue, IsTallyOf, IsAdmitted}
use Rattle.cwr_shape.specs.Steps.Counting.{counts_with}
use Rattle.cwr_shape.proofs.lemmas.FirstBars.{next_of, may_come, is_barred}
use Rattle.cwr_shape.proofs.lemmas.TallyWithOneMore.{keeps_tally, room_with, stands_more}
use Rattle.cwr_shape.proofs.tallies.Tally.admit.Goals as goal

pub passed_limit_at-requires : goal.passed_limit_at-requires
passed_limit_at-requires c =
    room_with c.type_at.result c.self.inside.limits c.self.inside.counts c.with-counts.result c.args.symbol
    c.self.invariant.counts c.with-counts.ensures

pub invariant_of-self : goal.invariant_of-self
invariant_of-self c =
    let t : TallyValue = record { limits = c.self.inside.limits; stage = c.self.inside.stage; counts = c.self.inside.counts } in
    let st = c.self.invariant.stands.1 in
    let may = may_come t c.self.invariant.stands.0 c.args.symbol c.in-Some.stage c.with-counts.result c.passed_limit_at.result
    (next_of t c.self.invariant.stands.0 c.args.symbol c.in-Some.stage c.with-counts.result
    c.self.invariant.counts.in_range.least_transaction st (c.in-Some.ensures.value c.self.invariant.stands.0 st.stands)
    (c.with-counts.ensures ∙ ap (λ (ty : TransactionType). counts_with ty c.self.inside.counts c.args.symbol) c.type_at.ensures))
    c.passed_limit_at.ensures c.in-None.is in
    let a : IsAdmitted t c.args.symbol = (c.self.invariant.stands.0, st, may) in
    keeps_tally t c.args.symbol c.in-Some.stage c.with-counts.result c.self.invariant a (λ xs sx. c.in-Some.ensures.value xs sx)
    (c.with-counts.ensures ∙ ap (λ (ty : TransactionType). counts_with ty c.self.inside.counts c.args.symbol) c.type_at.ensures)

pub returns-in-Some-passed_limit_at-clause-answer : goal.returns-in-Some-passed_limit_at-clause-answer
returns-in-Some-passed_limit_at-clause-answer c =
    let t : TallyValue = record { limits = c.self.inside.limits; stage = c.self.inside.stage; counts = c.self.inside.counts } in
    subst (λ (t : TallyValue). (xs : List Symbol) → IsTallyOf t xs
    → Answers t.limits xs c.args.symbol (Err (Limit c.in-Some-passed_limit_at.limit))) c.self.view_is
    (λ xs st. is_barred t xs c.args.symbol c.in-Some.stage c.with-counts.result c.passed_limit_at.result
    c.in-Some-passed_limit_at.limit
    (next_of t xs c.args.symbol c.in-Some.stage c.with-counts.result c.self.invariant.counts.in_range.least_transaction st
    (c.in-Some.ensures.value xs st.stands)
    (c.with-counts.ensures ∙ ap (λ (ty : TransactionType). counts_with ty c.self.inside.counts c.args.symbol) c.type_at.ensures))
    c.passed_limit_at.ensures c.in-Some-passed_limit_at.is)

pub returns-in-None-clause-answer : goal.returns-in-None-clause-answer
returns-in-None-clause-answer c =
    let t : TallyValue = record { limits = c.self.inside.limits; stage = c.self.inside.stage; counts = c.self.inside.counts } in
    subst (λ (t : TallyValue). (xs : List Symbol) → IsTallyOf t xs → Answers t.limits xs c.args.symbol (Ok tt)) c.self.view_is
    (λ xs st. may_come t xs c.args.symbol c.in-Some.stage c.with-counts.result c.passed_limit_at.result
    (next_of t xs c.args.symbol c.in-Some.stage c.with-counts.result c.self.invariant.counts.in_range.least_transaction st
    (c.in-Some.ensures.value xs st.stands)
    (c.with-counts.ensures ∙ ap (λ (ty : TransactionType). counts_with ty c.self.inside.counts c.args.symbol) c.type_at.ensures))
    c.passed_limit_at.ensures c.in-None.is)

pub returns-in-None-clause-admitted : goal.returns-in-None-clause-admitted
returns-in-None-clause-admitted c =
    let t : TallyValue = record { limits = c.self.inside.limits; stage = c.self.inside.stage; counts = c.self.inside.counts } in
    let xs : List Symbol = c.self.invariant.stands.0 in
    subst (λ (t : TallyValue). IsAdmitted t c.args.symbol) c.self.view_is (
      xs,
      c.self.invariant.stands.1,
      may_come t xs c.args.symbol c.in-Some.stage c.with-counts.result c.passed_limit_at.result
          (next_of t xs c.args.symbol c.in-Some.stage c.with-counts.result c.self.invariant.counts.in_range.least_transaction
          c.self.invariant.stands.1 (c.in-Some.ensures.value xs c.self.invariant.stands.1.stands)
          (c.with-counts.ensures ∙ ap (λ (ty : TransactionType). counts_with ty c.self.inside.counts c.args.symbol)
          c.type_at.ensures)) c.passed_limit_at.ensures c.in-None.is,
    )

pub returns-in-None-clause-stands : goal.returns-in-None-clause-stands
returns-in-None-clause-stands c =
    let t : TallyValue = record { limits = c.self.inside.limits; stage = c.self.inside.stage; counts = c.self.inside.counts } in
    let st = c.self.invariant.stands.1 in
    let may = may_come t c.self.invariant.stands.0 c.args.symbol c.in-Some.stage c.with-counts.result c.passed_limit_at.result
    (next_of t c.self.invariant.stands.0 c.args.symbol c.in-Some.stage c.with-counts.result
    c.self.invariant.counts.in_range.least_transaction st (c.in-Some.ensures.value c.self.invariant.stands.0 st.stands)
    (c.with-counts.ensures ∙ ap (λ (ty : TransactionType). counts_with ty c.self.inside.counts c.args.symbol) c.type_at.ensures))
    c.passed_limit_at.ensures c.in-None.is in
    let a : IsAdmitted t c.args.symbol = (c.self.invariant.stands.0, st, may) in
    let next : TallyValue = record { limits = c.self.inside.limits; stage = c.in-Some.stage; counts = c.with-counts.result } in
    subst (λ (t : TallyValue). (xs : List Symbol) → IsTallyOf t xs → IsTallyOf next (xs ++ c.args.symbol ∷ [])) c.self.view_is
    (stands_more t c.args.symbol c.in-Some.stage c.with-counts.result c.self.invariant.counts.in_range.least_transaction a
    (λ xs sx. c.in-Some.ensures.value xs sx)
    (c.with-counts.ensures ∙ ap (λ (ty : TransactionType). counts_with ty c.self.inside.counts c.args.symbol) c.type_at.ensures))
