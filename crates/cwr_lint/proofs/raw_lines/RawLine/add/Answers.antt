use Rattle.std.proofs.Common.{◌-◌, arith}
use Rattle.cwr_lint.proofs.lemmas.RawLines.{holds_more}
use Rattle.cwr_lint.proofs.raw_lines.RawLine.add.Goals as goal

pub returns-clause-held : goal.returns-clause-held
returns-clause-held c =
    λ line none h. holds_more line c.args.bytes.now c.args.self.now _ (1024 - c.len-room.result)
    (omega (arith, c.len-room.ensures.value)) c.extend.ensures c.is_longer-self.ensures none h
