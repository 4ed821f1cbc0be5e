use Rattle.std.proofs.Common.{◌≡◌, drop}
use Rattle.cwr_files.specs.Steps.MemoryStores.{entries_say}
use Rattle.cwr_files.proofs.memory_stores.find.Given as goal

abbrev pub invariant-loop-entry : goal.invariant-loop-entry
invariant-loop-entry l = entries_say l.entries l.name ≡ entries_say (drop l.entry-index l.entries) l.name
