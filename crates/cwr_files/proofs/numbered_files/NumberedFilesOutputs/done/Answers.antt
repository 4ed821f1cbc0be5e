use Rattle.std.proofs.Common.{◌∙◌}
use Rattle.cwr_files.specs.Format.Written.{text_of_stamped}
use Rattle.cwr_files.specs.Steps.Gathering.{written_to}
use Rattle.cwr_files.specs.Steps.NumberedFiles.{texts_of_parts}
use Rattle.cwr_files.proofs.lemmas.Counts.{kept_then_kept}
use Rattle.cwr_files.proofs.lemmas.FinishedParts.{tied_more, tied_so, told_added}
use Rattle.cwr_files.proofs.numbered_files.NumberedFilesOutputs.done.Goals as goal

pub invariant_of-self : goal.invariant_of-self
invariant_of-self g c =
    let it = c.args.self.now in record {
      counted = kept_then_kept g.B.Unsplit.failures (g.S.Store.failures it.store.now) (g.S.Store.failures c.done.new.store) it.counted
          c.done.ensures.store_failures;
      failed = c.done.ensures.fault g.B.Unsplit.failures it.counted it.failed;
      created = λ some. c.done.ensures.created ∙ it.created some;
      called = λ some. c.done.ensures.prefix ∙ it.called some;
      tied = rw c.and-finished.ensures
          (tied_more (written_to (text_of_stamped g.S.Writer.Write.contents)) it.parts.now.finished.writers c.args.writer g.B.Unsplit.texts
          g.B.Unsplit.prefix g.B.Unsplit.failures it.parts.now.numbering c.done.new.self (g.S.Store.making it.store.now)
          (g.S.Store.making c.done.new.store) (g.S.Store.held it.store.now) (g.S.Store.held c.done.new.store)
          (g.S.Store.failures it.store.now) (g.S.Store.failures c.done.new.store) it.tied it.called c.done.ensures.created c.in-Ok.ensures.named);
    }

pub returns-in-Ok-clause-added : goal.returns-in-Ok-clause-added
returns-in-Ok-clause-added g c =
    let it = c.args.self.now in
    rw c.and-finished.ensures
    (told_added (written_to (text_of_stamped g.S.Writer.Write.contents)) it.parts.now.finished.writers c.args.writer g.B.Unsplit.texts
    it.store.ghost_name)

pub invariant_of-self-in-Err-1 : goal.invariant_of-self-in-Err-1
invariant_of-self-in-Err-1 g c =
    let it = c.args.self.now in record {
      counted = kept_then_kept g.B.Unsplit.failures (g.S.Store.failures it.store.now) (g.S.Store.failures c.done.new.store) it.counted
          c.done.ensures.store_failures;
      failed = c.done.ensures.fault g.B.Unsplit.failures it.counted it.failed;
      created = λ some. c.done.ensures.created ∙ it.created some;
      called = λ some. c.done.ensures.prefix ∙ it.called some;
      tied = tied_so g.B.Unsplit.texts (texts_of_parts g.S.Writer.Write.contents it.parts.now.finished.writers) g.B.Unsplit.prefix
          g.B.Unsplit.failures it.parts.now.numbering c.done.new.self (g.S.Store.making it.store.now) (g.S.Store.making c.done.new.store)
          (g.S.Store.held it.store.now) (g.S.Store.held c.done.new.store) (g.S.Store.failures it.store.now)
          (g.S.Store.failures c.done.new.store) it.tied c.done.ensures.created c.in-Err.ensures.unnamed;
    }
