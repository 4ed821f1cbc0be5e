-- The lines of reports.
use Rattle.std.specs.Prelude.{ℕ, List, [], ◌∷◌, ◌++◌, codes, decimal}
use Rattle.cwr_shape.specs.declared.limits.LimitKind.{LimitKind}
use Rattle.cwr_shape.specs.Format.ReasonTexts.{level_text, limit_text}
use Rattle.cwr_judge.specs.declared.refusals.Refusal.{Refusal}
use Rattle.cwr_judge.specs.Format.RefusalTexts.{refusal_text}
use Rattle.cwr_findings.specs.declared.rules.Rule.{Rule}
use Rattle.cwr_findings.specs.declared.rules.Rule.TheVariants.{V1, V2, V3, V4, V5, V6, V7, V8, V9, V10, V11}
use Rattle.cwr_findings.specs.declared.rules.Finding.{Finding}

-- the name of a rule
abbrev pub rule_text : Rule → List ℕ
rule_text V1 = codes "V1"
rule_text V2 = codes "V2"
rule_text V3 = codes "V3"
rule_text V4 = codes "V4"
rule_text V5 = codes "V5"
rule_text V6 = codes "V6"
rule_text V7 = codes "V7"
rule_text V8 = codes "V8"
rule_text V9 = codes "V9"
rule_text V10 = codes "V10"
rule_text V11 = codes "V11"

-- each line ends with a line feed
abbrev pub refusal_line : Refusal → List ℕ
refusal_line r = codes "REFUSED " ++ refusal_text r ++ 10 ∷ []

-- the line on one of several faults
abbrev pub fault_line : Refusal → List ℕ
fault_line r = codes "FAULT " ++ refusal_text r ++ 10 ∷ []

-- the line on a text that has so many faults and findings, in so many lines
abbrev pub faults_line : ℕ → ℕ → ℕ → List ℕ
faults_line faults findings records =
    codes "FAULTS " ++ decimal faults ++ codes " findings " ++ decimal findings ++ codes " records " ++ decimal records ++ 10 ∷ []

-- the line on a text that ends too early
abbrev pub truncated_line : ℕ → List ℕ
truncated_line records = codes "TRUNCATED records " ++ decimal records ++ 10 ∷ []

-- a line that ends with the numbers of a transmission
abbrev pub with_numbers : List ℕ → ℕ → ℕ → ℕ → List ℕ
with_numbers text groups transactions records =
    text ++ codes " groups " ++ decimal groups ++ codes " transactions " ++ decimal transactions
    ++ codes " records " ++ decimal records ++ 10 ∷ []

-- the line on an accepted text
abbrev pub good_line : ℕ → ℕ → ℕ → List ℕ
good_line groups transactions records = with_numbers (codes "GOOD") groups transactions records

-- the line on transmissions that were joined into one with these numbers
abbrev pub joined_line : ℕ → ℕ → ℕ → ℕ → List ℕ
joined_line inputs groups transactions records =
    with_numbers (codes "JOINED inputs " ++ decimal inputs) groups transactions records

-- the line on a transmission that was split
abbrev pub split_line : ℕ → ℕ → List ℕ
split_line outputs transactions =
    codes "SPLIT outputs " ++ decimal outputs ++ codes " transactions " ++ decimal transactions ++ 10 ∷ []

-- the line on a result that would pass a limit
abbrev pub limit_line : LimitKind → List ℕ
limit_line limit = codes "LIMIT " ++ limit_text limit ++ 10 ∷ []

-- what stands before a line on one of several inputs
abbrev pub input_mark : ℕ → List ℕ
input_mark input = codes "input " ++ decimal input ++ codes ": "

-- the group's number is its ID, from 1, and the transaction's its sequence, from 0
abbrev pub finding_line : ℕ → ℕ → Finding → List ℕ
finding_line group transaction f = codes "FINDING group " ++ decimal group ++ codes " transaction " ++ decimal transaction
    ++ codes " record " ++ decimal f.rec ++ codes " field " ++ decimal f.field ++ codes " level " ++ level_text f.level
    ++ codes " rule " ++ rule_text f.rule ++ 10 ∷ []
