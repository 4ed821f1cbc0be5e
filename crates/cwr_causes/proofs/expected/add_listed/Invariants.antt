use Rattle.std.proofs.Common.{◌≡◌, ◌++◌, string_bytes, take}
use Rattle.std.specs.Prelude.{flat_map}
use Rattle.cwr_causes.specs.Format.Expected.{spaced_code}
use Rattle.cwr_causes.proofs.expected.add_listed.Given as goal

abbrev pub invariant-loop-code : goal.invariant-loop-code
invariant-loop-code g l =
    string_bytes l.text ≡ string_bytes l.initial.text ++ flat_map spaced_code (take l.code-index l.list)
