use Rattle.std.proofs.Common.{◌≡◌, ℕ, List, true, take, sym, ap, ◌∙◌}
use Rattle.std.specs.List.{after_last, list_any}
use Rattle.cwr_lines.specs.Format.Records.{cell_named}
use Rattle.cwr_findings.specs.Format.Findings.{is_owner}
use Rattle.cwr_advice.specs.Format.Rules.{is_compared, is_territory_of}
use Rattle.cwr_advice.proofs.lemmas.AdvisedFields.{and_true}
use Rattle.cwr_advice.proofs.lemmas.SinceParty.{compared_territory}
use Rattle.cwr_advice.proofs.territories.stands_twice.Goals as goal

pub code_of-requires : goal.code_of-requires
code_of-requires c =
    compared_territory c.args.transaction.now c.args.shown.now
    (sym (c.is_compared.ensures c.args.transaction.now c.requires) ∙ c.if-not-is_compared.false)

pub returns : goal.returns
returns c =
    let t = c.args.transaction.now in
    let r = c.args.shown.now in
    let compared : is_compared t r ≡ true = sym (c.is_compared.ensures t c.requires) ∙ c.if-not-is_compared.false in
    c.stands_since_party.ensures
    ∙ ap (λ (x : List ℕ). list_any (is_territory_of x) (after_last is_owner (take c.args.sequence t))) c.code_of.ensures
    ∙ and_true (is_compared t r)
    (list_any (is_territory_of (cell_named "tis code" r)) (after_last is_owner (take c.args.sequence t))) compared
