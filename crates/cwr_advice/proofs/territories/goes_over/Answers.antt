use Rattle.std.proofs.Common.{◌≡◌, ◌+◌, ℕ, List, true, take, sym, ap, ◌∙◌}
use Rattle.std.specs.Prelude.{not}
use Rattle.cwr_lines.specs.Format.Records.{cell_named}
use Rattle.cwr_advice.specs.Format.Rules.{are_over_in, is_compared}
use Rattle.cwr_advice.proofs.lemmas.AdvisedFields.{all_three, second_fails}
use Rattle.cwr_advice.proofs.lemmas.SinceParty.{compared_territory}
use Rattle.cwr_advice.proofs.territories.goes_over.Goals as goal

pub code_of-code-requires : goal.code_of-code-requires
code_of-code-requires c =
    compared_territory c.args.transaction.now c.args.shown.now
    (sym (c.is_compared.ensures c.args.transaction.now c.requires.facts) ∙ c.if-not-is_compared.false)

pub returns-then-are_over : goal.returns-then-are_over
returns-then-are_over c =
    let t = c.args.transaction.now in
    let r = c.args.shown.now in
    let compared : is_compared t r ≡ true = sym (c.is_compared.ensures t c.requires.facts) ∙ c.if-not-is_compared.false in
    let with_it =
    c.are_over.ensures c.code_of-code.result.now (take (c.args.sequence + 1) t) c.collected_in.ensures
    ∙ ap (λ (x : List ℕ). are_over_in x (take (c.args.sequence + 1) t)) c.code_of-code.ensures in
    let without =
    c.are_over-then-are_over.ensures c.code_of-code.result.now (take c.args.sequence t) c.collected_in-then-are_over.ensures
    ∙ ap (λ (x : List ℕ). are_over_in x (take c.args.sequence t)) c.code_of-code.ensures in
    ap not without
    ∙ all_three (is_compared t r) (are_over_in (cell_named "tis code" r) (take (c.args.sequence + 1) t))
    (not (are_over_in (cell_named "tis code" r) (take c.args.sequence t))) compared (sym with_it ∙ c.if-are_over.true)

pub returns-else-are_over : goal.returns-else-are_over
returns-else-are_over c =
    let t = c.args.transaction.now in
    let r = c.args.shown.now in
    let compared : is_compared t r ≡ true = sym (c.is_compared.ensures t c.requires.facts) ∙ c.if-not-is_compared.false in
    let with_it =
    c.are_over.ensures c.code_of-code.result.now (take (c.args.sequence + 1) t) c.collected_in.ensures
    ∙ ap (λ (x : List ℕ). are_over_in x (take (c.args.sequence + 1) t)) c.code_of-code.ensures in
    with_it
    ∙ second_fails (is_compared t r) (are_over_in (cell_named "tis code" r) (take (c.args.sequence + 1) t))
    (not (are_over_in (cell_named "tis code" r) (take c.args.sequence t))) compared (sym with_it ∙ c.if-are_over.false)
