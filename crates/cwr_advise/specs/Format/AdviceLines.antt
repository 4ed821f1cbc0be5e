-- What is written of items with advice.
use Rattle.std.specs.Prelude.{ℕ, ◌+◌, Bool, true, false, ◌||◌, nat_lt, List, [], ◌∷◌, ◌++◌, length, map, take, count_by, flat_map}
use Rattle.std.specs.Prelude.{None, unwrap_or, if◌then◌else◌}
use Rattle.std.specs.List.{after_last, enumerate_from, last_or}
use Rattle.cwr_lines.specs.Format.Records.{RecordValue}
use Rattle.cwr_values.specs.declared.items.Item.{Item}
use Rattle.cwr_values.specs.declared.items.Item.TheVariants.{Opened, Transaction}
use Rattle.cwr_judge.specs.Format.Items.{is_transaction, opens_group, records_in}
use Rattle.cwr_findings.specs.Format.Findings.{findings}
use Rattle.cwr_tools.specs.declared.verdicts.Verdict.{Verdict}
use Rattle.cwr_tools.specs.declared.verdicts.Verdict.TheVariants.{Refused}
use Rattle.cwr_tools.specs.Format.Reports.{ItemLines, transaction_lines}
use Rattle.cwr_tools.specs.Format.Texts.{verdict_line}
use Rattle.cwr_advice.specs.declared.characters.Characters.TheVariants.{Unsaid, Utf8, Other}
use Rattle.cwr_advice.specs.declared.rules.Advice.{Advice}
use Rattle.cwr_advice.specs.declared.rules.AdviceRule.TheVariants.{A5a}
use Rattle.cwr_advice.specs.declared.said.Said.{Said}
use Rattle.cwr_advice.specs.Format.Rules.{advice_of}
use Rattle.cwr_advice.specs.Format.Said.{before_all_days, nothing_said, said_by}
use Rattle.cwr_advise.specs.Format.AdviceTexts.{noted_advice}
use Rattle.cwr_advise.specs.declared.item_advice.Manner.{Manner}
use Rattle.cwr_advise.specs.Format.RepeatedWorks.{is_repeated, keeps_number, repeated_advice, repeated_in}
use Rattle.cwr_advise.specs.Format.ToldAdvice.{is_told, summary_lines, told_after}

-- the header of the transmission
abbrev pub header_in : Item → List RecordValue
header_in (Opened h) = h ∷ []
header_in item = []

-- what the items so far say of the transmission: what the last header says, and nothing before one
abbrev pub said_in : List Item → Said
said_in items = unwrap_or (last_or None (map said_by (flat_map header_in items))) nothing_said

-- the advice on an item, where so much is said of the transmission
abbrev pub own_advice : Said → Item → List Advice
own_advice said (Transaction t) = advice_of said t
own_advice said item = []

-- the same, and what is told of it among the works before; the numbers of so many works are kept
abbrev pub advice_at_item : ℕ → List Item → Item → List Advice
advice_at_item limit before item =
    own_advice (said_in before) item ++ (if is_repeated limit before item then repeated_advice ∷ [] else [])

-- the advice on items
unfoldable pub advice_on : ℕ → List Item → List Advice
advice_on limit items = flat_map (λ p. advice_at_item limit (take p.0 items) p.1) (enumerate_from 0 items)

-- The findings of a transaction, and then the advice on it that is told, where it is of that sequence in the group of that ID, and begins
-- on line n. So much is said of the transmission, and that advice stands before.
abbrev pub advised_transaction : Manner → List Advice → Said → ℕ → ℕ → ℕ → List RecordValue → List ℕ
advised_transaction manner earlier said group sequence n t =
    transaction_lines manner.explained manner.apart group sequence n t
    ++ flat_map (noted_advice manner.apart group sequence n t) (told_after manner.all earlier (advice_of said t))

-- the same of an item that is a transaction
abbrev pub advised_in : Manner → List Advice → Said → ℕ → ℕ → ℕ → Item → List ℕ
advised_in manner earlier said group sequence n (Transaction t) = advised_transaction manner earlier said group sequence n t
advised_in manner earlier said group sequence n item = []

-- The same, by the items before it, and then what is told of it among the works before. The numbers of so many works are kept.
abbrev pub advised_item : Manner → ℕ → List Item → Item → List ℕ
advised_item manner limit before item =
    advised_in manner (advice_on limit before) (said_in before) (count_by opens_group before)
    (count_by is_transaction (after_last opens_group before)) (length (records_in before) + 1) item
    ++ repeated_in (is_told manner.all (advice_on limit before ++ own_advice (said_in before) item) A5a) limit before item

-- what is written of items
unfoldable pub advised_lines : Manner → ℕ → List Item → List ℕ
advised_lines manner limit items = flat_map (λ p. advised_item manner limit (take p.0 items) p.1) (enumerate_from 0 items)

-- the transaction has findings, or there is advice on it where some of the three is said of characters, and all days are to come
abbrev pub has_advice : List RecordValue → Bool
has_advice t =
    nat_lt 0 (length (findings t) + (length (advice_of (before_all_days Unsaid) t) + length
    (advice_of (before_all_days Utf8) t) + length (advice_of (before_all_days Other) t)))

-- the item is such a transaction
abbrev pub has_advised : Item → Bool
has_advised (Transaction t) = has_advice t
has_advised item = false

-- it is one, or a work whose number is kept
abbrev pub takes_memory : ℕ → Item → Bool
takes_memory limit item = has_advised item || keeps_number limit item

-- how much of the advice on the items isn't told, and the verdict's line
abbrev pub summed_verdict : Bool → ℕ → List Item → Verdict → List ℕ
summed_verdict all limit items verdict = summary_lines all (advice_on limit items) ++ verdict_line verdict

-- the same, or, up to a fault, nothing of a refusal
abbrev pub last_lines : Bool → Bool → ℕ → List Item → Verdict → List ℕ
last_lines true all limit items (Refused refusal) = []
last_lines up_to_fault all limit items verdict = summed_verdict all limit items verdict

-- the findings and the advice in each transaction, and then the verdict's line, or, up to a fault, nothing of a refusal
abbrev pub lines_advised : Manner → Bool → ℕ → ItemLines
lines_advised manner up_to_fault limit =
    record {
      lines = advised_lines manner limit;
      last = last_lines up_to_fault manner.all limit;
      take_memory = takes_memory limit;
    }

-- the findings, explained, and all advice or of each rule the first three pieces
abbrev pub advising : Bool → Manner
advising all = record { explained = true; apart = false; all = all }

-- the same, where the numbers of so many works are kept, and then the verdict's line
abbrev pub lines_of_advice : Bool → ℕ → ItemLines
lines_of_advice all limit = lines_advised (advising all) false limit
