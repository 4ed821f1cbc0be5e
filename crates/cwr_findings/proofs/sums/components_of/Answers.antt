use Rattle.std.proofs.Common.{sym, ap, ◌∙◌}
use Rattle.std.specs.Prelude.{not}
use Rattle.cwr_findings.proofs.lemmas.HeaderTests.{count_is_short, counts_others_filled, counts_others_blank}
use Rattle.cwr_findings.proofs.sums.components_of.Goals as goal

pub returns-then-is_spaces : goal.returns-then-is_spaces
returns-then-is_spaces c = λ n components total.
    let blank = sym c.is_spaces.ensures ∙ c.if-is_spaces.true in
    sym (ap not blank) ∙ counts_others_blank c.args.header.now c.cell-count.result.now n c.cell-count.ensures.value c.requires
    c.cell-count.ensures.fits blank

pub number_of-requires : goal.number_of-requires
number_of-requires c =
    count_is_short c.args.header.now c.cell-count.result.now c.cell-count.ensures.value c.requires c.cell-count.ensures.fits

pub returns : goal.returns
returns c =
    λ n components total. counts_others_filled c.args.header.now c.cell-count.result.now c.number_of.result components n
    c.cell-count.ensures.value c.requires c.cell-count.ensures.fits
    (sym c.is_spaces.ensures ∙ c.if-is_spaces.false) c.number_of.ensures.value c.number_of.ensures.small total
