use Rattle.std.proofs.Common.{◌<◌, length, arith}
use Rattle.std.proofs.lemmas.List.{get_or_read}
use Rattle.cwr_transform.proofs.lemmas.SoughtValues.{noted_before, noted_more}
use Rattle.cwr_transform.proofs.sought.SoughtNumbers.note.Goals as goal

pub returns-then-index-eq0-clause-noted : goal.returns-then-index-eq0-clause-noted
returns-then-index-eq0-clause-noted c = noted_more c.args.self.now.firsts.items c.args.at c.args.self.now.count c.requires

pub returns-clause-noted : goal.returns-clause-noted
returns-clause-noted c =
    let s = c.args.self.now in
    let within : c.args.at < length s.firsts.items = omega (arith, c.len.ensures, s.firsts.ok.0, c.if-at-len.false) in
    noted_before s.firsts.items c.args.at c.index.result.now within
    (get_or_read s.firsts.items _ _ within c.index.ensures 0) c.if-index-eq0.false
