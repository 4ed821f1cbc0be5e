-- The words for the faults of devices.
use Rattle.std.specs.Prelude.{ℕ, List, ◌++◌, codes, decimal}

-- a reader or a writer failed
abbrev pub device_fault_text : List ℕ
device_fault_text = codes "the device failed"

-- the writer failed after so many bytes
abbrev pub writer_fault_text : ℕ → List ℕ
writer_fault_text written = codes "the writer failed after " ++ decimal written ++ codes " bytes"
