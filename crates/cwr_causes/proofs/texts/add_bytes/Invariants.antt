use Rattle.std.proofs.Common.{◌≡◌, ◌++◌, string_bytes, take}
use Rattle.std.specs.Prelude.{flat_map}
use Rattle.cwr_causes.specs.Format.Texts.{byte_words}
use Rattle.cwr_causes.proofs.texts.add_bytes.Given as goal

abbrev pub invariant-loop-byte : goal.invariant-loop-byte
invariant-loop-byte l =
    string_bytes l.text ≡ string_bytes l.initial.text ++ flat_map byte_words (take l.byte-index l.bytes)
