-- The cells of an owner's name.
use Prim.Native.String.{String}
use Rattle.std.proofs.Common.{◌≡◌, ℕ, List, [], refl, ◌∙◌}
use Rattle.std.specs.Prelude.{unwrap_or}
use Rattle.cwr_lines.specs.Format.Records.{RecordValue, IsRecord, cell_named}
use Rattle.cwr_lines.specs.Format.Carried.{record_cell}
use Rattle.cwr_findings.specs.Format.Fields.{IsField}
use Rattle.cwr_findings.proofs.lemmas.NamedCells.{named_cell}

-- the cell of a field is that of its name
pub cell_is : (name : String) (r : RecordValue) (j wide : ℕ) (cell : List ℕ) → cell ≡ unwrap_or (record_cell r j) []
    → IsField name r.kind j wide → IsRecord r → cell ≡ cell_named name r
cell_is name r j wide cell e field fits = e ∙ named_cell name r.kind j wide r field refl fits
