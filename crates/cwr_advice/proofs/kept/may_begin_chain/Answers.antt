use Rattle.std.proofs.Common.{◌≡◌, true, sym, ◌∙◌}
use Rattle.std.proofs.lemmas.Bool.{and_parts, not-false}
use Rattle.cwr_lines.specs.Format.Records.{cell_named}
use Rattle.cwr_advice.specs.Format.Rules.{is_agent, is_publisher, names_agent}
use Rattle.cwr_advice.proofs.lemmas.CalmRecords.{chain_known, no_agent}
use Rattle.cwr_advice.proofs.kept.may_begin_chain.Goals as goal

pub returns-then-not-is_agent : goal.returns-then-not-is_agent
returns-then-not-is_agent c = λ rs h no. no_agent rs c.args.shown.now (sym c.is_agent.ensures ∙ c.if-not-is_agent.true)

pub returns-in-Some : goal.returns-in-Some
returns-in-Some c = λ rs h no.
    let r = c.args.shown.now in
    let agent : is_agent r ≡ true = sym c.is_agent.ensures ∙ c.if-not-is_agent.false in
    let publisher = (and_parts (is_publisher r) (names_agent (cell_named "publisher type" r)) agent).0 in
    chain_known rs r c.cell.result.now c.in-Some.chain.now publisher c.cell.ensures.fits c.cell.ensures.value
    (not-false _ (sym c.ne.ensures ∙ no)) (h c.in-Some.chain.now (sym c.in-Some.ensures))
