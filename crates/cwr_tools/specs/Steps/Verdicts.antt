-- How a run comes to its verdict: the items before it, and what was read last.
use Rattle.std.specs.Prelude.{◌≡◌, ℕ, ◌+◌, List, [], ◌∷◌, count_by, length, Option, IfSome, if◌then◌else◌}
use Rattle.std.specs.Io.KnownBytes.{Consumes}
use Rattle.cwr_shape.specs.declared.limits.Limits.{Limits}
use Rattle.cwr_values.specs.declared.items.Item.{Item}
use Rattle.cwr_values.specs.Format.Values.{TransmissionValue}
use Rattle.cwr_decode.specs.declared.readings.ReadFault.{ReadFault}
use Rattle.cwr_decode.specs.declared.readings.ReadFault.TheVariants as read_faults
use Rattle.cwr_judge.specs.Format.Items.{item_records, opens_group, is_transaction, value_items}
use Rattle.cwr_decode.specs.declared.readings.LastRead.{LastRead}
use Rattle.cwr_decode.specs.Steps.LastReads.{HoldsLast, IsFrontOf}
use Rattle.cwr_decode.specs.Format.Runs.{TakesFront}
use Rattle.cwr_decode.specs.Steps.Runs.{StopsRun}
use Rattle.cwr_tools.specs.declared.verdicts.Verdict.{Verdict}
use Rattle.cwr_tools.specs.declared.verdicts.Verdict.TheVariants.{Good, Refused, Truncated}
use Rattle.cwr_tools.specs.Format.Texts.{good_verdict}
use Rattle.cwr_tools.specs.declared.totals.Totals.{Totals}

-- the numbers with those of one item more
abbrev pub totals_with : Totals → Item → Totals
totals_with c item = record {
  groups = c.groups + count_by opens_group (item ∷ []);
  transactions = c.transactions + count_by is_transaction (item ∷ []);
  in_group = if opens_group item then 0 else c.in_group + count_by is_transaction (item ∷ []);
  before_group = if opens_group item then c.records else c.before_group;
  records = c.records + length (item_records item);
}

-- these items were handed out before the fault
abbrev pub StopsAfter : Limits → ReadFault → Option (List ℕ) → Option (List ℕ) → List Item → Type 0
StopsAfter limits fault before after given = (stop : StopsRun limits fault before after) × (stop.given ≡ given)

-- The verdict is good exactly where the bytes begin with a spelling of a transmission within the limits. It then has that
-- one's numbers, the items are that one's, and just the spelling is consumed. Else the run stopped as the decoder did, after
-- these items.
abbrev pub IsRightVerdict : Limits → Option (List ℕ) → Verdict → Option (List ℕ) → List Item → Type 0
IsRightVerdict limits before (Good groups transactions records) after given =
    (v : TransmissionValue) × TakesFront limits before v after × (given ≡ value_items v)
    × (Good groups transactions records ≡ good_verdict v)
IsRightVerdict limits before (Refused refusal) after given = StopsAfter limits (read_faults.Refused refusal) before after given
IsRightVerdict limits before (Truncated records) after given =
    StopsAfter limits (read_faults.Truncated records) before after given

-- the decoder stopped so at that stage, with these counts and that open transaction; where the text's bytes are known, the last of those
-- that it was fed are held
abbrev pub StopsAt : Limits → ReadFault → Option (List ℕ) → Option (List ℕ) → LastRead → Type 0
StopsAt limits fault before after last =
    (stop : StopsRun limits fault before after) × IsFrontOf last stop.decoder
    × IfSome before (λ text. HoldsLast stop.read.input last.bytes)

-- what was read last where a text has the verdict: the last of the bytes that the reader lost, and where the text isn't good the
-- stage of its accepted records
abbrev pub IsReadLast : Limits → Option (List ℕ) → Option (List ℕ) → Verdict → LastRead → Type 0
IsReadLast limits before after (Good groups transactions records) last =
    (read : List ℕ) × Consumes before after read × HoldsLast read last.bytes
IsReadLast limits before after (Refused refusal) last = StopsAt limits (read_faults.Refused refusal) before after last
IsReadLast limits before after (Truncated records) last = StopsAt limits (read_faults.Truncated records) before after last
