use Rattle.std.proofs.Common.{sym, subst}
use Rattle.cwr_files.specs.Steps.NumberedFiles.{FaultIsOfPart, prefix_of, texts_of_parts}
use Rattle.cwr_files.proofs.lemmas.Counts.{same_count}
use Rattle.cwr_files.proofs.lemmas.FinishedParts.{starts_called, starts_counted, starts_created, tied_first}
use Rattle.cwr_files.proofs.numbered_files.NumberedFiles.new.Goals as goal

pub invariant_of-result : goal.invariant_of-result
invariant_of-result g c =
    let store = c.args.store.now in
    let numbering = c.args.parts.now.numbering in record {
      counted = same_count g.B.Unsplit.failures (g.S.Store.failures store)
          (starts_counted g.B.Unsplit.texts g.B.Unsplit.prefix g.B.Unsplit.created g.B.Unsplit.failures (g.S.Store.making store) (g.S.Store.held store)
          (g.S.Store.failures store) (prefix_of numbering) numbering.created c.requires.starts);
      failed = subst (FaultIsOfPart g.B.Unsplit.failures (g.S.Store.failures store)) (sym c.requires.unasked.6) tt;
      created = starts_created g.B.Unsplit.texts g.B.Unsplit.prefix g.B.Unsplit.created g.B.Unsplit.failures numbering (g.S.Store.making store) (g.S.Store.held store)
          (g.S.Store.failures store) c.requires.starts;
      called = starts_called g.B.Unsplit.texts g.B.Unsplit.prefix g.B.Unsplit.created g.B.Unsplit.failures numbering (g.S.Store.making store) (g.S.Store.held store)
          (g.S.Store.failures store) c.requires.starts;
      tied = tied_first g.B.Unsplit.texts (texts_of_parts g.S.Writer.Write.contents c.args.parts.now.finished.writers) g.B.Unsplit.prefix
          g.B.Unsplit.created g.B.Unsplit.failures numbering (g.S.Store.making store) (g.S.Store.held store) (g.S.Store.failures store) c.requires.unasked
          c.requires.starts;
    }
