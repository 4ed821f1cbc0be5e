use Rattle.std.proofs.Common.{sym, true≢false}
use Rattle.cwr_judge.proofs.lemmas.FirstFaults.{no_type, no_role}
use Rattle.cwr_judge.proofs.judging.named_symbol.Goals as goal

pub returns-in-None : goal.returns-in-None
returns-in-None c =
    no_type c.args.kind c.args.j c.args.cell.now c.in-Grh-eq2.is-0 c.in-Grh-eq2.is-1
    (λ q. true≢false (sym (c.in-None.ensures.some.1 q)))

pub returns-in-None-read : goal.returns-in-None-read
returns-in-None-read c =
    no_role c.args.kind c.args.j c.args.cell.now c.in-Ipa-eq4.is-0 c.in-Ipa-eq4.is-1
    (λ q. true≢false (sym (c.in-None-read.ensures.some.1 q)))
