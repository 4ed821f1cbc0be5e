-- Verdicts and ends in numbers, as C sees them.
use Rattle.std.specs.Prelude.{ℕ}
use Rattle.cwr_judge.specs.declared.refusals.Refusal.{Refusal}
use Rattle.cwr_decode.specs.declared.endings.End.{End}
use Rattle.cwr_decode.specs.declared.endings.End.TheVariants as ends
use Rattle.cwr_shape.specs.declared.limits.LimitKind.{LimitKind}
use Rattle.cwr_shape.specs.declared.limits.LimitKind.TheVariants as limit
use Rattle.cwr_shape.specs.declared.reasons.Reason.{Reason}
use Rattle.cwr_shape.specs.declared.reasons.Reason.TheVariants as reason
use Rattle.cwr_shape.specs.declared.reasons.Level.{Level}
use Rattle.cwr_shape.specs.declared.reasons.Level.TheVariants as level
use Rattle.cwr_fields.specs.declared.cell_types.CellFault.{CellFault}
use Rattle.cwr_fields.specs.declared.cell_types.CellFault.TheVariants as fault
use Rattle.cwr_tools.specs.declared.verdicts.Verdict.{Verdict}
use Rattle.cwr_tools.specs.declared.verdicts.Verdict.TheVariants.{Good, Refused, Truncated}
use Rattle.cwr_calls.specs.declared.verdicts.CwrVerdict.{CwrVerdict}

-- a verdict of which only the ending is known
abbrev pub ended : ℕ → CwrVerdict
ended n =
    record {
      ending = n;
      groups = 0;
      transactions = 0;
      records = 0;
      field = 0;
      level = 0;
      reason = 0;
      detail = 0;
      expected = 0;
      used = 0;
    }

-- a level's letter in ASCII
abbrev pub letter : Level → ℕ
letter level.E = 69
letter level.G = 71
letter level.T = 84
letter level.R = 82
letter level.F = 70

-- which limit
abbrev pub limit_number : LimitKind → ℕ
limit_number limit.Records = 1
limit_number limit.Groups = 2
limit_number limit.Transaction = 3

-- which fault of a cell
abbrev pub fault_number : CellFault → ℕ
fault_number fault.Blank = 1
fault_number fault.Control = 2
fault_number fault.NotDigits = 3
fault_number fault.NotADate = 4
fault_number fault.NotATime = 5
fault_number fault.OverShare = 6
fault_number fault.NotACode = 7
fault_number fault.NotConstant = 8

-- which of the six reasons
abbrev pub reason_number : Reason → ℕ
reason_number reason.UnknownKind = 1
reason_number reason.Misplaced = 2
reason_number (reason.Cell f) = 3
reason_number (reason.Number n) = 4
reason_number (reason.Limit l) = 5
reason_number reason.Excess = 6

-- which fault of a cell, or which limit
abbrev pub detail : Reason → ℕ
detail reason.UnknownKind = 0
detail reason.Misplaced = 0
detail (reason.Cell f) = fault_number f
detail (reason.Number n) = 0
detail (reason.Limit l) = limit_number l
detail reason.Excess = 0

-- the number that belongs there
abbrev pub expected : Reason → ℕ
expected reason.UnknownKind = 0
expected reason.Misplaced = 0
expected (reason.Cell f) = 0
expected (reason.Number n) = n
expected (reason.Limit l) = 0
expected reason.Excess = 0

-- a refusal
abbrev pub refused_in_c : Refusal → CwrVerdict
refused_in_c r =
    record (ended 1) {
      records = r.rec;
      field = r.field;
      level = letter r.level;
      reason = reason_number r.reason;
      detail = detail r.reason;
      expected = expected r.reason;
    }

-- a verdict
abbrev pub in_c : Verdict → CwrVerdict
in_c (Good groups transactions records) = record (ended 0) { groups = groups; transactions = transactions; records = records }
in_c (Refused r) = refused_in_c r
in_c (Truncated records) = record (ended 2) { records = records }

-- the end of a text
abbrev pub end_in_c : End → CwrVerdict
end_in_c (ends.Accepted used) = record (ended 0) { used = used }
end_in_c (ends.Refused r) = refused_in_c r
end_in_c (ends.Truncated records) = record (ended 2) { records = records }
