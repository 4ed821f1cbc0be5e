use Rattle.std.proofs.Common.{ℕ, List, refl, sym, ◌∙◌, arith}
use Rattle.std.specs.Prelude.{option_map}
use Rattle.std.proofs.lemmas.Option.{slice_get_within}
use Rattle.cwr_devices.proofs.lemmas.Adding.{adds_nothing}
use Rattle.cwr_sent.specs.declared.facts.SentFacts.{SentFacts}
use Rattle.cwr_state_rows.specs.Steps.HeldRows.{transaction_text}
use Rattle.cwr_state_rows.proofs.lemmas.NumberedMore.{none_past}
use Rattle.cwr_state_rows.proofs.lemmas.PutInTurn.{rows_more, rows_refused, rows_stopped, rows_whole}
use Rattle.cwr_state_rows.proofs.putting.group_rows.Goals as goal

pub loop-facts-init : goal.loop-facts-init
loop-facts-init g c =
    record { within = omega arith; adds = adds_nothing }

pub prove-unreachable-requires : goal.prove-unreachable-requires
prove-unreachable-requires g c =
    let w = slice_get_within c.args.group.now.facts c.loop-facts.t c.in-Some.facts (sym c.facts.ensures ∙ c.in-Some.is) in
    omega (arith, w, c.len-count.ensures, c.if-prove.true)

pub transaction_rows-requires-clause-there : goal.transaction_rows-requires-clause-there
transaction_rows-requires-clause-there g c =
    slice_get_within c.args.group.now.facts c.loop-facts.t c.in-Some.facts (sym c.facts.ensures ∙ c.in-Some.is)

pub returns-in_err-transaction_rows : goal.returns-in_err-transaction_rows
returns-in_err-transaction_rows g c =
    let text : ℕ → SentFacts → List ℕ =
    transaction_text c.args.form (option_map (λ n. n.now) c.args.name) c.args.files.now c.args.number c.args.group.now.answers in
    rows_refused g.W.Target.contents g.W.Target.failures _ c.from_residual.result _ c.args.pen.now c.transaction_rows.new.pen
    c.from_residual.ensures.1
    (rows_stopped g.W.Target.contents g.W.Target.failures text 0 c.loop-facts.t c.loop-facts.t c.args.group.now.facts c.in-Some.facts
    c.args.pen.now c.loop-facts.pen c.transaction_rows.new.pen (sym c.in-Some.is ∙ c.facts.ensures) (omega arith)
    c.loop-facts.invariant.adds c.in_err-transaction_rows.ensures)

pub loop-facts-preserved : goal.loop-facts-preserved
loop-facts-preserved g c =
    let w = slice_get_within c.args.group.now.facts c.loop-facts.t c.in-Some.facts (sym c.facts.ensures ∙ c.in-Some.is) in
    let text : ℕ → SentFacts → List ℕ =
    transaction_text c.args.form (option_map (λ n. n.now) c.args.name) c.args.files.now c.args.number c.args.group.now.answers in
    record {
      within = omega (arith, w);
      adds =
          rows_more text 0 c.loop-facts.t c.loop-facts.t c.args.group.now.facts c.in-Some.facts (sym c.in-Some.is ∙ c.facts.ensures)
          (omega arith) c.loop-facts.invariant.adds c.in_ok-transaction_rows.ensures;
    }

pub loop-facts-smaller : goal.loop-facts-smaller
loop-facts-smaller g c =
    let w = slice_get_within c.args.group.now.facts c.loop-facts.t c.in-Some.facts (sym c.facts.ensures ∙ c.in-Some.is) in
    omega (arith, w)

pub returns : goal.returns
returns g c =
    let past = none_past c.args.group.now.facts c.loop-facts.t (sym c.facts.ensures ∙ c.in_default.is) in
    let text : ℕ → SentFacts → List ℕ =
    transaction_text c.args.form (option_map (λ n. n.now) c.args.name) c.args.files.now c.args.number c.args.group.now.answers in
    rows_whole text 0 c.loop-facts.t c.args.group.now.facts past c.loop-facts.invariant.adds
