-- What was given to a writer that gathers.
use Rattle.std.specs.Prelude.{ℕ, List, Option}
use Rattle.std.specs.Io.Buffered.{writer_contents}
use Rattle.std.specs.declared.io.buffered.BufWriter.{BufWriter}
use Rattle.cwr_devices.specs.declared.counted.Counted.{Counted}
use Rattle.cwr_devices.specs.Steps.Counted.{inner_of}
use Rattle.cwr_files.specs.declared.outputs.Output.{Output}

-- the writer itself
abbrev pub output_in : {O : Type 0} → Output O → O
output_in output = output.output

-- the text that was given to one that gathers, where what its own writer has is known
abbrev pub written_to : {O A : Type 0} → (O → Option (List ℕ)) → Counted (BufWriter (Output O) A) → Option (List ℕ)
written_to contents writer = writer_contents (λ it. contents it.output) (inner_of writer)
