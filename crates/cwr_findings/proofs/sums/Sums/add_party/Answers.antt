use Rattle.cwr_findings.proofs.lemmas.FalseTests.{not_true}
use Rattle.cwr_findings.proofs.lemmas.SummedSides.{party_more}
use Rattle.std.proofs.Common.{refl}
use Rattle.cwr_findings.specs.Steps.Sums.{last_parties}
use Rattle.cwr_findings.proofs.sums.Sums.add_party.Goals as goal

pub returns : goal.returns
returns c = λ rs h yes.
    party_more c.args.self.now _ rs c.args.party.now c.exceed_whole.result h refl c.requires
    (c.with-self.ensures (last_parties rs) h.sides) c.exceed_whole.ensures (not_true c.exceed_whole.result yes)
