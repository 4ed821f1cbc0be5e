use Rattle.std.proofs.Common.{arith}
use Rattle.std.specs.List.{flat_map}
use Rattle.cwr_devices.proofs.lemmas.Adding.{adds_nothing}
use Rattle.cwr_json.specs.Format.Encodings.{character}
use Rattle.cwr_json.proofs.lemmas.BytesAdded.{adds_byte, adds_bytes}
use Rattle.cwr_tables.specs.Format.Tables.{doubled}
use Rattle.cwr_tables.proofs.cells.doubled_each.Goals as goal

pub loop-b-init : goal.loop-b-init
loop-b-init g c = adds_nothing

pub loop-b-preserved : goal.loop-b-preserved
loop-b-preserved g c =
    adds_byte (λ b. flat_map doubled (character c.args.encoding b)) c.args.cell.now c.loop-b.b-index c.loop-b-test.true
    c.loop-b.invariant c.doubled_character.ensures

pub returns : goal.returns
returns g c =
    adds_bytes (λ b. flat_map doubled (character c.args.encoding b)) c.args.cell.now c.loop-b.b-index (omega arith)
    c.loop-b.invariant
