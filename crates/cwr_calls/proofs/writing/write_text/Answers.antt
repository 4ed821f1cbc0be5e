use Rattle.std.proofs.Common.{rules}
use Rattle.cwr_calls.proofs.lemmas.WrittenRecords.{canonical_whole}
use Rattle.cwr_calls.proofs.writing.write_text.Goals as goal

pub returns-in-Ok-clause-ok : goal.returns-in-Ok-clause-ok
returns-in-Ok-clause-ok c =
    let h = c.in-Ok.ensures in
    canonical_whole _ _ c.args.limits c.args.text.now c.into_inner.result.items h.0 c.in-Ok.writer (search rules) (search rules)
    h.1 h.2
