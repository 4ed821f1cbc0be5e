-- The words for limits, reasons and levels.
use Rattle.std.specs.Prelude.{ℕ, List, ◌++◌, codes, decimal}
use Rattle.cwr_fields.specs.Format.FaultTexts.{fault_text}
use Rattle.cwr_shape.specs.declared.limits.LimitKind.{LimitKind}
use Rattle.cwr_shape.specs.declared.limits.LimitKind.TheVariants as limit_kinds
use Rattle.cwr_shape.specs.declared.reasons.Reason.{Reason}
use Rattle.cwr_shape.specs.declared.reasons.Reason.TheVariants.{UnknownKind, Misplaced, Cell, Number, Limit, Excess}
use Rattle.cwr_shape.specs.declared.reasons.Level.{Level}
use Rattle.cwr_shape.specs.declared.reasons.Level.TheVariants.{E, G, T, R, F}

-- the word for a limit
abbrev pub limit_text : LimitKind → List ℕ
limit_text limit_kinds.Records = codes "records"
limit_text limit_kinds.Groups = codes "groups"
limit_text limit_kinds.Transaction = codes "transaction"

-- the words for a reason
abbrev pub reason_text : Reason → List ℕ
reason_text UnknownKind = codes "unknown kind"
reason_text Misplaced = codes "misplaced"
reason_text (Cell fault) = fault_text fault
reason_text (Number n) = codes "number expected " ++ decimal n
reason_text (Limit limit) = codes "limit " ++ limit_text limit
reason_text Excess = codes "excess"

-- the letter of a level
abbrev pub level_text : Level → List ℕ
level_text E = codes "E"
level_text G = codes "G"
level_text T = codes "T"
level_text R = codes "R"
level_text F = codes "F"
