use Rattle.cwr_files.proofs.lemmas.Stamps.{written_on}
use Rattle.cwr_files.proofs.stamps.StampedWrite.write.Goals as goal

pub returns-clause-bytes : goal.returns-clause-bytes
returns-clause-bytes g c =
    let it = c.args.self.now in
    written_on it.cells it.given.text _ c.args.text.now c.piece_with.result.now c.in_ok-count.count _ _ c.in_ok-count.ensures.bytes
    (c.piece_with.ensures.piece it.given.text c.in_ok-count.count it.counted c.in_ok-count.ensures.bound) c.and-self.ensures
