-- What a writer that gathers shows of itself.
use Rattle.std.specs.Prelude.{ℕ, Bool, List, Option}
use Rattle.std.specs.Io.Buffered.{writer_contents}
use Rattle.std.specs.declared.io.traits.Write.{Ghosts}
use Rattle.cwr_files.specs.declared.gatherers.Gatherer.{Gatherer}
use Rattle.cwr_files.specs.Steps.Gathering.{output_in}

-- how many calls failed
abbrev pub times_failed : {O : Type 0} {write : Ghosts O} → Gatherer O write → ℕ
times_failed writer = writer.failures

-- all that was written was handed on
abbrev pub has_handed_on : {O : Type 0} {write : Ghosts O} → Gatherer O write → Bool
has_handed_on writer = writer.handed_on

-- the text that it was given, after what its own writer had, where that is known
abbrev pub given_to : {O : Type 0} {write : Ghosts O} → (O → Option (List ℕ)) → Gatherer O write → Option (List ℕ)
given_to contents writer = writer_contents (λ output. contents (output_in output)) writer.writer
