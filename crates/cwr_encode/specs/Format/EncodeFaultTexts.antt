-- The words for the faults of encoders.
use Rattle.std.specs.Prelude.{ℕ, List, ◌++◌, codes}
use Rattle.cwr_shape.specs.Format.ReasonTexts.{limit_text}
use Rattle.cwr_devices.specs.Format.DeviceFaultTexts.{writer_fault_text}
use Rattle.cwr_encode.specs.declared.encoders.EncodeFault.{EncodeFault}
use Rattle.cwr_encode.specs.declared.encoders.EncodeFault.TheVariants.{OutOfOrder, WrongKind, Incomplete, Limit, Writer}

-- the words for a fault of an encoder
abbrev pub encode_fault_text : EncodeFault → List ℕ
encode_fault_text OutOfOrder = codes "out of order"
encode_fault_text WrongKind = codes "of the wrong kind"
encode_fault_text Incomplete = codes "incomplete"
encode_fault_text (Limit limit) = codes "limit " ++ limit_text limit
encode_fault_text (Writer written) = writer_fault_text written
