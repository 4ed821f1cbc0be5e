-- A writer that gathers has nothing so far.
use Rattle.std.proofs.Common.{◌≡◌, ℕ, List, [], Option, Some, None, refl, ap, ◌∙◌, append-nil}
use Rattle.std.specs.Io.Buffered.{writer_buffer, writer_contents, writer_inner}
use Rattle.std.specs.Io.KnownBytes.{append_known}
use Rattle.std.specs.declared.io.buffered.BufWriter.{BufWriter}
use Rattle.cwr_devices.specs.declared.counted.Counted.{Counted}
use Rattle.cwr_devices.specs.Steps.Counted.{inner_of}
use Rattle.cwr_files.specs.declared.outputs.Output.{Output}
use Rattle.cwr_files.specs.Steps.Gathering.{output_in, written_to}

nothing_more : (known : Option (List ℕ)) → append_known known [] ≡ known
nothing_more None = refl
nothing_more (Some xs) = ap Some (append-nil xs)

pub gathers_nothing : {O A : Type 0} (contents : O → Option (List ℕ)) (writer : Counted (BufWriter (Output O) A))
    (gathering : BufWriter (Output O) A) (made : Output O) (output : O) → inner_of writer ≡ gathering → writer_inner gathering ≡ made
    → writer_buffer gathering ≡ [] → output_in made ≡ output → written_to contents writer ≡ contents output
gathers_nothing {O = O} {A = A} contents writer gathering made output is has empty of =
    ap (writer_contents (λ (it : Output O). contents it.output)) is
    ∙ ap (λ (it : Output O). append_known (contents it.output) (writer_buffer gathering)) has
    ∙ ap (append_known (contents made.output)) empty ∙ nothing_more (contents made.output) ∙ ap contents of
