use Rattle.cwr_files.specs.Steps.NumberedFiles.{texts_of_parts}
use Rattle.cwr_files.proofs.lemmas.FinishedParts.{parts_left, parts_whole}
use Rattle.cwr_files.proofs.numbered_files.NumberedFiles.end.Goals as goal

pub returns-clause-left : goal.returns-clause-left
returns-clause-left g c = λ mark parts none told.
    let it = c.args.self.now in
    let store = it.store.now in
    parts_left g.B.Unsplit.texts (texts_of_parts g.S.Writer.Write.contents it.parts.now.finished.writers) it.store.ghost_name mark parts
    g.B.Unsplit.prefix g.B.Unsplit.created g.B.Unsplit.failures it.parts.now.numbering (g.S.Store.making store) (g.S.Store.held store)
    (g.S.Store.failures store) it.tied it.created it.called none told

pub returns-clause-whole : goal.returns-clause-whole
returns-clause-whole g c = λ mark parts none told goes.
    let it = c.args.self.now in
    let store = it.store.now in
    parts_whole g.B.Unsplit.texts (texts_of_parts g.S.Writer.Write.contents it.parts.now.finished.writers) it.store.ghost_name mark parts
    g.B.Unsplit.prefix g.B.Unsplit.created g.B.Unsplit.failures it.parts.now.numbering (g.S.Store.making store) (g.S.Store.held store)
    (g.S.Store.failures store) it.tied it.created it.called none told goes

pub returns-clause-failed : goal.returns-clause-failed
returns-clause-failed g c =
    let it = c.args.self.now in c.first_fault.ensures g.B.Unsplit.failures (g.S.Store.failures it.store.now) it.failed
