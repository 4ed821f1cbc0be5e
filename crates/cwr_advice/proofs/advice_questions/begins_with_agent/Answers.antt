use Rattle.std.proofs.Common.{◌≡◌, ℕ, List, true, take, sym, ap, ◌∙◌}
use Rattle.std.specs.Prelude.{not}
use Rattle.std.specs.List.{list_any}
use Rattle.std.proofs.lemmas.Bool.{and_parts}
use Rattle.cwr_lines.specs.Format.Records.{cell_named}
use Rattle.cwr_advice.specs.Format.Rules.{in_chain, is_agent, is_publisher, names_agent}
use Rattle.cwr_advice.proofs.lemmas.AdvisedFields.{and_true, named_sequence}
use Rattle.cwr_advice.proofs.advice_questions.begins_with_agent.Goals as goal

pub returns : goal.returns
returns c =
    let r = c.args.shown.now in
    let agent : is_agent r ≡ true = sym c.is_agent.ensures ∙ c.if-not-is_agent.false in
    let publisher = (and_parts (is_publisher r) (names_agent (cell_named "publisher type" r)) agent).0 in
    ap not (c.chain_is_begun.ensures ∙ ap (λ (x : List ℕ). list_any (in_chain x) (take c.args.sequence c.args.transaction.now))
    (named_sequence r c.cell.result.now c.cell.ensures.value publisher c.cell.ensures.fits))
    ∙ and_true (is_agent r)
    (not (list_any (in_chain (cell_named "publisher sequence" r)) (take c.args.sequence c.args.transaction.now))) agent
