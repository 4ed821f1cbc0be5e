-- The faults that a lint tells of one line.
use Rattle.std.specs.Prelude.{◌≡◌, ℕ, zero, suc, ◌+◌, ◌<◌, ◌≤◌, Bool, false, ◌&&◌, nat_le, if◌then◌else◌, List, [], ◌∷◌, ◌++◌}
use Rattle.std.specs.Prelude.{flat_map, length, Option, Some, None}
use Rattle.cwr_lines.specs.Format.Records.{RecordValue}
use Rattle.cwr_shape.specs.declared.reasons.Reason.{Reason}
use Rattle.cwr_judge.specs.declared.refusals.Refusal.{Refusal}
use Rattle.cwr_findings.specs.Format.ReportLines.{fault_line}
use Rattle.cwr_tools.specs.Format.Reports.{transaction_lines}
use Rattle.cwr_advice.specs.declared.rules.Advice.{Advice}
use Rattle.cwr_advice.specs.declared.said.Said.{Said}
use Rattle.cwr_advice.specs.Format.Rules.{advice_of}
use Rattle.cwr_advise.specs.Format.AdviceTexts.{noted_advice}
use Rattle.cwr_lint_lines.specs.Format.FaultsAtFields.{JudgedLine, IsToldAt, fault_in, fields_end, one_more_line}

-- what is asked for beside the lines of faults and findings: words under each, and then an empty line; advice, where this is said of the
-- transmission; and of that all, or of each rule the first three pieces
pub record Asking : Type 0 where
  pub explained : Bool
  pub said : Option Said
  pub all : Bool

-- the line of a fault, under which words and an empty line stand where they are asked for
abbrev pub IsFaultText : Asking → Refusal → List ℕ → Type 0
IsFaultText asked fault text = (words : List ℕ) × (asked.explained ≡ false → words ≡ []) × (text ≡ fault_line fault ++ words)

-- the faults and their lines with one more
abbrev pub TellsMore : Asking → Option Refusal → List Refusal → List ℕ → List Refusal → List ℕ → Type 0
TellsMore asked None before earlier told text = (told ≡ before) × (text ≡ earlier)
TellsMore asked (Some fault) before earlier told text =
    (told ≡ before ++ fault ∷ []) × (line : List ℕ) × IsFaultText asked fault line × (text ≡ earlier ++ line)

-- the faults at the fields from one on that are below j, in order, and their lines
abbrev pub Tells : Asking → JudgedLine → ℕ → ℕ → List Refusal → List ℕ → Type 0
Tells asked l from zero told text = (told ≡ []) × (text ≡ [])
Tells asked l from (suc j) told text = (reason : Option Reason) × (from ≤ j → IsToldAt l j reason) × (j < from → reason ≡ None)
    × (before : List Refusal) × (earlier : List ℕ) × Tells asked l from j before earlier
    × TellsMore asked (fault_in l j reason) before earlier told text

-- a transaction that ended: its group and its number as they are reported, the number of its first line, and its records
pub record EndedTransaction : Type 0 where
  pub group : ℕ
  pub sequence : ℕ
  pub first : ℕ
  pub records : List RecordValue

-- the advice on a transaction, where so much is said of the transmission, and where nothing is, none
abbrev pub advice_if : Option Said → List RecordValue → List Advice
advice_if None t = []
advice_if (Some said) t = advice_of said t

-- what is said, where advice is asked for, and lines have numbers that words can name
abbrev pub said_if : Bool → Option Said → Option Said
said_if numbered said = if numbered then said else None

-- words can name the numbers of the lines up to that after the transaction
abbrev pub is_numbered : EndedTransaction → Bool
is_numbered t = nat_le (t.first + length t.records) 100000000

-- the advice on a transaction that ended
abbrev pub advice_ended : Asking → Option EndedTransaction → List Advice
advice_ended asked None = []
advice_ended asked (Some t) = advice_if (said_if (is_numbered t) asked.said) t.records

-- The lines of findings in a transaction, and then of that advice on it. Words stand under each finding where they are asked for, and an
-- empty line after all that is told.
abbrev pub told_lines : Asking → Bool → List Advice → ℕ → ℕ → ℕ → List RecordValue → List ℕ
told_lines asked numbered advice group sequence first t =
    transaction_lines (asked.explained && numbered) asked.explained group sequence first t
    ++ flat_map (noted_advice asked.explained group sequence first t) advice

-- what is told of a transaction that ended, and that advice
abbrev pub ended_lines : Asking → List Advice → Option EndedTransaction → List ℕ
ended_lines asked advice None = []
ended_lines asked advice (Some t) = told_lines asked (is_numbered t) advice t.group t.sequence t.first t.records

-- What is told of a line that was judged: the findings of the transaction that it ends, that advice on it, and then its faults at the fields
-- from one on.
pub record TellsLine (asked : Asking) (judged : JudgedLine) (ended : Option EndedTransaction) (advice : List Advice) (from : ℕ)
    (told : List Refusal) (text : List ℕ) : Type 0 where
  pub lines : List ℕ
  pub tells : Tells asked judged from (fields_end judged.cut.kind) told lines
  pub whole : text ≡ ended_lines asked advice ended ++ lines

-- the count of lines after these
abbrev pub count_after : ℕ → List (List ℕ) → ℕ
count_after n [] = n
count_after n (line ∷ lines) = count_after (one_more_line n) lines
