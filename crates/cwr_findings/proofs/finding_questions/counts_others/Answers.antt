use Rattle.std.proofs.Common.{sym, ap, ◌∙◌}
use Rattle.std.specs.Prelude.{not}
use Rattle.cwr_findings.proofs.lemmas.HeaderTests.{count_is_short, counts_others_filled, counts_others_blank}
use Rattle.cwr_findings.proofs.finding_questions.counts_others.Goals as goal

pub number_of-requires : goal.number_of-requires
number_of-requires c =
    count_is_short c.args.header.now c.cell-count.result.now c.cell-count.ensures.value c.requires c.cell-count.ensures.fits

pub returns-then-not-is_spaces : goal.returns-then-not-is_spaces
returns-then-not-is_spaces c =
    λ n total. counts_others_filled c.args.header.now c.cell-count.result.now c.number_of.result c.args.components n
    c.cell-count.ensures.value c.requires c.cell-count.ensures.fits
    (sym c.is_spaces.ensures ∙ c.if-not-is_spaces.true) c.number_of.ensures.value c.number_of.ensures.small total

pub returns-else-not-is_spaces : goal.returns-else-not-is_spaces
returns-else-not-is_spaces c =
    λ n total. ap not c.is_spaces.ensures ∙ counts_others_blank c.args.header.now c.cell-count.result.now n
    c.cell-count.ensures.value c.requires c.cell-count.ensures.fits (sym c.is_spaces.ensures ∙ c.if-not-is_spaces.false)
