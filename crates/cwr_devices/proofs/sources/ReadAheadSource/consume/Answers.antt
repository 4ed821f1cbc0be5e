use Rattle.std.proofs.Common.{arith}
use Rattle.cwr_devices.proofs.lemmas.BytesReadAhead.{consumed}
use Rattle.cwr_devices.proofs.sources.ReadAheadSource.consume.Goals as goal

pub returns-clause-bytes : goal.returns-clause-bytes
returns-clause-bytes g c =
    consumed c.args.self.now.ahead c.args.self.now.start c.args.self.now.end c.args.count _ (omega arith) (omega arith)
