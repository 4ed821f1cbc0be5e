-- The words for the fault of a cell.
use Rattle.std.specs.Prelude.{ℕ, List, codes}
use Rattle.cwr_fields.specs.declared.cell_types.CellFault.{CellFault}
use Rattle.cwr_fields.specs.declared.cell_types.CellFault.TheVariants.{Blank, Control, NotDigits, NotADate, NotATime, OverShare}
use Rattle.cwr_fields.specs.declared.cell_types.CellFault.TheVariants.{NotACode, NotConstant}

-- the words for a cell's fault
abbrev pub fault_text : CellFault → List ℕ
fault_text Blank = codes "cell blank"
fault_text Control = codes "cell control"
fault_text NotDigits = codes "cell not digits"
fault_text NotADate = codes "cell not a date"
fault_text NotATime = codes "cell not a time"
fault_text OverShare = codes "cell over share"
fault_text NotACode = codes "cell not a code"
fault_text NotConstant = codes "cell not constant"
