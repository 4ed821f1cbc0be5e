use Rattle.std.proofs.Common.{◌≡◌, true, take}
use Rattle.cwr_json.specs.declared.encodings.Encoding.{Encoding}
use Rattle.cwr_json.specs.Format.Encodings.{byte_by_byte}
use Rattle.cwr_json.proofs.spelling.is_ascii.Given as goal

abbrev pub invariant-loop-b : goal.invariant-loop-b
invariant-loop-b l = l.ascii ≡ true → (enc : Encoding) → byte_by_byte enc (take l.b-index l.cell) ≡ take l.b-index l.cell
