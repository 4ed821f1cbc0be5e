use Rattle.cwr_decode.proofs.lemmas.AfterInputEnd.{ends_with, ends_without}
use Rattle.cwr_decode.proofs.lemmas.HeldOpen.{closed_holds}
use Rattle.cwr_decode.proofs.machine.Machine.last_line.Goals as goal

pub take_line-requires-clause-holds : goal.take_line-requires-clause-holds
take_line-requires-clause-holds c = closed_holds c.args.self.now c.close.new.self c.requires.under_way c.if-close.ensures

pub returns-then-close : goal.returns-then-close
returns-then-close c =
    ends_with c.args.self.now c.close.new.self c.take_line.new.self c.take_line.result c.requires.ready c.if-close.ensures
    c.take_line.ensures

pub returns : goal.returns
returns c = ends_without c.args.self.now c.close.new.self c.requires.ready c.if-close.ensures
