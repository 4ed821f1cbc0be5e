-- What a report says of a text that is known: the items before its end are those that its lines give.
use Rattle.std.proofs.Common.{◌≡◌, ℕ, ◌-◌, Bool, true, false, List, [], ◌∷◌, ◌++◌, length, take, drop, Option, Some, None}
use Rattle.std.proofs.Common.{refl, sym}
use Rattle.std.proofs.Common.{ap, subst, ◌∙◌, arith, append_assoc, append-nil, inl, inr}
use Rattle.std.specs.Prelude.{Result, Ok, Err}
use Rattle.std.specs.List.{AllZip}
use Rattle.std.specs.Io.KnownBytes.{Consumes}
use Rattle.std.proofs.Math.Seq.{take-append_seam}
use Rattle.cwr_lines.specs.Format.Lines.{IsLineOf, closed, raw_lines}
use Rattle.cwr_lines.specs.Format.Records.{RecordValue, Row}
use Rattle.cwr_lines.specs.Steps.Held.{held_text}
use Rattle.cwr_shape.specs.declared.limits.Limits.{Limits}
use Rattle.cwr_shape.specs.Steps.Tallies.{TallyValue}
use Rattle.cwr_values.specs.declared.items.Item.{Item}
use Rattle.cwr_values.specs.Format.Begins.{rows_so_far}
use Rattle.cwr_values.proofs.lemmas.OneSpelling.{lines_without_lf}
use Rattle.cwr_values.proofs.lemmas.RowAt.{length-rows_so_far}
use Rattle.cwr_judge.specs.declared.refusals.Refusal.{Refusal}
use Rattle.cwr_judge.specs.Format.Items.{AreFirstItems}
use Rattle.cwr_judge.specs.Steps.Open.{items_so_far}
use Rattle.cwr_judge.proofs.lemmas.Accepted.{accepted_once}
use Rattle.cwr_judge.proofs.lemmas.LineRecords.{as_many}
use Rattle.cwr_judge.proofs.lemmas.RecordsBefore.{rows_well}
use Rattle.cwr_decode.specs.declared.machine.State.{State}
use Rattle.cwr_decode.specs.declared.readings.ReadFault.{ReadFault}
use Rattle.cwr_decode.specs.declared.readings.ReadFault.TheVariants as read_faults
use Rattle.cwr_decode.specs.Steps.Machines.{Standing}
use Rattle.cwr_decode.specs.Steps.Represents.{AreAccepted, EndsTooEarly, IsInput, IsStopped, RepresentsIn, text_of}
use Rattle.cwr_decode.specs.Steps.Readings.{IsSpent}
use Rattle.cwr_decode.specs.Steps.Runs.{HasRead}
use Rattle.cwr_decode.proofs.lemmas.ClosedTexts.{closed_more}
use Rattle.cwr_decode.proofs.lemmas.FirstItems.{first_items}
use Rattle.cwr_decode.proofs.lemmas.RawLines.{raw_begins}
use Rattle.cwr_tools.specs.declared.verdicts.Verdict.{Verdict}
use Rattle.cwr_tools.specs.declared.verdicts.Verdict.TheVariants.{Good, Refused, Truncated}
use Rattle.cwr_tools.specs.declared.verdicts.ToolFault.{ToolFault}
use Rattle.cwr_tools.specs.declared.verdicts.ToolFault.TheVariants as faults
use Rattle.cwr_tools.specs.Format.Verdicts.{AreItemsOfLines, IsVerdictAfter, TakesSpelling}
use Rattle.cwr_tools.specs.Format.Reports.{IsTextSoFar, ItemLines, ReportsText}
use Rattle.cwr_tools.specs.Steps.Verdicts.{IsRightVerdict, StopsAfter}
use Rattle.cwr_tools.specs.Steps.Reports.{IsReported, LacksMemory, Reports}

-- lines of rows with which the closed text begins are its first lines
lines_first : (rows : List Row) (lines : List (List ℕ)) (text rest : List ℕ) → AllZip IsLineOf rows lines
    → closed text ≡ text_of lines ++ rest → take (length lines) (raw_lines (closed text)) ≡ lines
lines_first rows lines text rest each e =
    ap (λ (raw : List (List ℕ)). take (length lines) raw)
    (ap raw_lines e ∙ raw_begins lines rest (lines_without_lf rows lines each))
    ∙ take-append_seam lines (raw_lines rest)

-- the items of accepted records are those that the first lines give
pub of_lines : (tally : TallyValue) (lines : List (List ℕ)) (records : List RecordValue) (text rest : List ℕ) (given : List Item)
    (count : ℕ) → AreAccepted tally lines records → closed text ≡ text_of lines ++ rest → given ≡ items_so_far records
    → count ≡ length records → AreItemsOfLines text count given
of_lines tally lines records text rest given count read e items_are counted =
    let rows : List Row = rows_so_far records in
    let many : count ≡ length lines = omega (arith, counted, as_many rows lines read.rows, length-rows_so_far records) in
    let first : take count (raw_lines (closed text)) ≡ lines =
    ap (λ (n : ℕ). take n (raw_lines (closed text))) many ∙ lines_first rows lines text rest read.rows e in
    record {
      rows = rows;
      each = rows_well [] records read.in_order;
      lines = subst (λ (ls : List (List ℕ)). AllZip IsLineOf rows ls) (sym first) read.rows;
      given_are = items_are;
    }

-- the closed text begins with the accepted lines
pub closed_begins : (input_ended : Bool) (input rest : List ℕ) (lines : List (List ℕ)) (held : List ℕ)
    → IsInput input_ended input (text_of lines ++ held) → (input_ended ≡ true → rest ≡ [])
    → (more : List ℕ) × (closed (input ++ rest) ≡ text_of lines ++ more)
closed_begins false input rest lines held i none = (
  closed (held ++ rest),
  ap closed (ap (λ (t : List ℕ). t ++ rest) i ∙ append_assoc (text_of lines) held rest) ∙ closed_more lines (held ++ rest),
)
closed_begins true input rest lines held i none =
    (held, ap (λ (t : List ℕ). closed (input ++ t)) (none refl) ∙ ap closed (append-nil input) ∙ i)

-- where a line is refused, these are the lines before it
refused_items : (limits : Limits) (text : List ℕ) (after : Option (List ℕ)) (given : List Item) (refusal : Refusal)
    → StopsAfter limits (read_faults.Refused refusal) (Some text) after given → AreItemsOfLines text (refusal.rec - 1) given
refused_items limits text after given refusal t =
    subst (AreItemsOfLines text (refusal.rec - 1)) t.1 (at after t.0.read.consumed t.0.read.spent)
  where
    s : IsStopped t.0.decoder t.0.read.input t.0.given refusal
    s = subst (λ (q : State). RepresentsIn q t.0.decoder t.0.read.input t.0.given) t.0.leaves t.0.read.stands.here

    at : (left : Option (List ℕ)) → Consumes (Some text) left t.0.read.input → IsSpent t.0.decoder left
        → AreItemsOfLines text (refusal.rec - 1) t.0.given
    at None c spent = absurd c
    at (Some rest) c spent =
        let b = closed_begins s.input_ended t.0.read.input rest s.lines (held_text s.line) s.split (λ e. spent (s.late e)) in
        of_lines t.0.decoder.tally s.lines s.records text b.0 t.0.given (refusal.rec - 1) s.read (ap closed c ∙ b.1) s.given_are
        (omega (arith, s.number))

-- where the text is truncated, these are all its lines
truncated_items : (limits : Limits) (text : List ℕ) (after : Option (List ℕ)) (given : List Item) (records : ℕ)
    → StopsAfter limits (read_faults.Truncated records) (Some text) after given → AreItemsOfLines text records given
truncated_items limits text after given records t =
    subst (AreItemsOfLines text records) t.1 (at after t.0.read.consumed t.0.read.spent)
  where
    s : EndsTooEarly t.0.decoder t.0.read.input t.0.given records
    s = subst (λ (q : State). RepresentsIn q t.0.decoder t.0.read.input t.0.given) t.0.leaves t.0.read.stands.here

    at : (left : Option (List ℕ)) → Consumes (Some text) left t.0.read.input → IsSpent t.0.decoder left
        → AreItemsOfLines text records t.0.given
    at None c spent = absurd c
    at (Some rest) c spent =
        let split : IsInput t.0.decoder.finished t.0.read.input (text_of s.through.lines ++ []) =
        subst (IsInput t.0.decoder.finished t.0.read.input) (sym (append-nil (text_of s.through.lines))) s.through.split in
        let b = closed_begins t.0.decoder.finished t.0.read.input rest s.through.lines [] split spent in
        of_lines t.0.decoder.tally s.through.lines s.through.records text b.0 t.0.given records s.through.read (ap closed c ∙ b.1)
        s.through.given_are s.counted

pub verdict_after : (limits : Limits) (text : List ℕ) (verdict : Verdict) (after : Option (List ℕ)) (given : List Item)
    → IsRightVerdict limits (Some text) verdict after given → IsVerdictAfter limits text verdict given
verdict_after limits text (Good groups transactions records) after given t =
    (t.0, length t.1.input, t.1.front.0, t.3, t.2)
verdict_after limits text (Refused refusal) after given t = (t.0.right.ends, refused_items limits text after given refusal t)
verdict_after limits text (Truncated records) after given t = (t.0.right.ends, truncated_items limits text after given records t)

takes_spelling : (limits : Limits) (text : List ℕ) (verdict : Verdict) (after : Option (List ℕ)) (given : List Item)
    → IsRightVerdict limits (Some text) verdict after given → TakesSpelling limits text after
takes_spelling limits text (Good groups transactions records) after given t v n a =
    t.1.front.1 ∙ ap (λ (k : ℕ). Some (drop k text)) (accepted_once limits text t.0 v (length t.1.input) n t.1.front.0 a).1
takes_spelling limits text (Refused refusal) after given t v n a = absurd (t.0.right.ends.unaccepted v n a)
takes_spelling limits text (Truncated records) after given t v n a = absurd (t.0.right.ends.unaccepted v n a)

-- ---- items before a fault

pub first_read : (limits : Limits) (d : Standing) (before after : Option (List ℕ)) (given : List Item)
    → HasRead limits d before after given → AreFirstItems limits given
first_read limits d before after given h =
    subst (λ (l : Limits). AreFirstItems l given) h.limits_are (first_items d h.input given h.stands)

pub first_stopped : (limits : Limits) (fault : ReadFault) (before after : Option (List ℕ)) (given : List Item)
    → StopsAfter limits fault before after given → AreFirstItems limits given
first_stopped limits fault before after given t =
    subst (AreFirstItems limits) t.1 (first_read limits t.0.decoder before after t.0.given t.0.read)

first_lacking : (of : ItemLines) (limits : Limits) (before after : Option (List ℕ)) (given : List Item)
    → LacksMemory of limits before after given → AreFirstItems limits given
first_lacking of limits before after given (inl t) = first_stopped limits read_faults.Memory before after given t
first_lacking of limits before after given (inr t) =
    let all = first_read limits t.2.0 before after (given ++ t.0 ∷ []) t.2.1.read in
    record {
      value = all.value;
      whole = all.whole;
      within = all.within;
      rest = t.0 ∷ all.rest;
      split = all.split ∙ append_assoc given (t.0 ∷ []) all.rest;
    }

text_so_far : (of : ItemLines) (limits : Limits) (before after : Option (List ℕ)) (given : List Item) (text : List ℕ)
    → IsReported of limits before after given text → IsTextSoFar of limits before text
text_so_far of limits before after given text (inl t) = inl (given, first_read limits t.0.0 before after given t.0.1.read, t.1)
text_so_far of limits None after given text (inr t) = inr (given, t.0, tt, t.2)
text_so_far of limits (Some known) after given text (inr t) =
    inr (given, t.0, verdict_after limits known t.0 after given t.1, t.2)

-- ---- a report

pub reports_text : {W : Type 0} (of : ItemLines) (limits : Limits) (before after : Option (List ℕ))
    (contents : W → Option (List ℕ)) (old new : W) (result : Result Verdict ToolFault)
    → Reports of limits before after contents old new result → ReportsText of limits before after contents old new result
reports_text of limits None after contents old new (Ok verdict) h = tt
reports_text of limits (Some text) after contents old new (Ok verdict) h =
    (h.0, verdict_after limits text verdict after h.0 h.1, takes_spelling limits text verdict after h.0 h.1, h.2)
reports_text of limits before after contents old new (Err (faults.Writer written)) h =
    (h.1, text_so_far of limits before after h.0 h.1 h.2, h.3)
reports_text of limits before after contents old new (Err faults.Reader) h =
    (h.0, first_stopped limits read_faults.Reader before after h.0 h.1, h.2)
reports_text of limits before after contents old new (Err faults.Memory) h =
    (h.0, first_lacking of limits before after h.0 h.1, h.2)
reports_text of limits before after contents old new (Err (faults.Refused refusal)) h = absurd h
reports_text of limits before after contents old new (Err (faults.Truncated records)) h = absurd h
reports_text of limits before after contents old new (Err (faults.Limit limit)) h = absurd h
reports_text of limits before after contents old new (Err faults.Output) h = absurd h
