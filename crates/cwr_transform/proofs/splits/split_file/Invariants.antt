use Rattle.cwr_transform.specs.Steps.Splits.{texts_before}
use Rattle.cwr_transform.proofs.splits.split_file.Given as goal

abbrev pub ghosts-cut_into_files : goal.ghosts-cut_into_files
ghosts-cut_into_files g a = record {
  texts = texts_before (g.S.Store.making a.store.now) (g.S.Store.held a.store.now);
  failures = g.S.Store.failures a.store.now;
  prefix = a.cut.now.prefix.now;
  created = a.cut.now.created;
}
