-- What is found of an input that is judged, once it was read to its end.
use Rattle.std.proofs.Common.{◌≡◌, ◌≢◌, ◌∙◌, ℕ, ◌+◌, ◌-◌, ◌^◌, Bool, List, ◌++◌, drop, length, Option, Some, None, refl, sym, ap, subst, arith}
use Rattle.std.specs.Prelude.{IfOk, IfSome, OnOk, Result, Ok, Err, min}
use Rattle.std.specs.Io.KnownBytes.{Consumes}
use Rattle.std.proofs.lemmas.List.{length-append, length-drop}
use Rattle.cwr_devices.specs.Format.Failures.{one_more_failure}
use Rattle.cwr_shape.specs.declared.limits.Limits.{Limits}
use Rattle.cwr_values.specs.declared.items.Item.{Item}
use Rattle.cwr_tools.specs.declared.verdicts.Verdict.{Verdict}
use Rattle.cwr_tools.specs.declared.verdicts.Verdict.TheVariants.{Good, Refused, Truncated}
use Rattle.cwr_tools.specs.declared.verdicts.ToolFault.{ToolFault}
use Rattle.cwr_tools.specs.declared.verdicts.ToolFault.TheVariants as tool_faults
use Rattle.cwr_tools.specs.Format.Verdicts.{IsVerdictAfter}
use Rattle.cwr_tools.specs.Steps.Reports.{StandsAtEnd}
use Rattle.cwr_tools.specs.Steps.Verdicts.{IsRightVerdict}
use Rattle.cwr_tools.proofs.lemmas.ToldTexts.{verdict_after}
use Rattle.cwr_files.specs.Format.Files.{counted_on}
use Rattle.cwr_endings.specs.declared.endings.Look.{Look}
use Rattle.cwr_endings.specs.declared.endings.Look.TheVariants as looks
use Rattle.cwr_endings.specs.declared.endings.Status.{Status}
use Rattle.cwr_endings.specs.declared.endings.Wanted.{Wanted}
use Rattle.cwr_endings.specs.declared.judgements.Judgement.{Judgement}
use Rattle.cwr_endings.specs.Steps.Looks.{CountsLook, LooksOnce, judged_with, judgement_in, status_in}
use Rattle.cwr_reports.specs.Steps.Tellings.{CountsInput}
use Rattle.cwr_summaries.specs.declared.summaries.Found.{Found}
use Rattle.cwr_summaries.specs.declared.summed_files.SummedFile.{SummedFile}
use Rattle.cwr_summaries.specs.Steps.Pieces.{CountsAfter, CountsFault, CountsRest}
use Rattle.cwr_summaries.specs.Steps.Rows.{CountsBehind, HasBehind, IsAllBehind, IsFound, IsFoundOf, Judges, StandsAfter}

-- ---- a verdict, and a look at what follows

looked : (limits : Limits) (text : List ℕ) (mid after : Option (List ℕ)) (given : List Item) (verdict : Verdict) (look : Look)
    → IsRightVerdict limits (Some text) verdict mid given → LooksOnce mid after (Ok verdict) look → CountsBehind limits text after verdict look
looked limits text mid after given (Good groups transactions records) (looks.Found trailing) right seen = (
  right.0,
  length right.1.input,
  right.1.front.0,
  seen.more,
  subst (λ (o : Option (List ℕ)). Consumes o after seen.more) right.1.front.1 seen.consumed,
  seen.counted,
)
looked limits text mid after given (Good groups transactions records) looks.Failed right seen = tt
looked limits text mid after given (Good groups transactions records) looks.Unasked right seen = seen
looked limits text mid after given (Refused refusal) look right seen = tt
looked limits text mid after given (Truncated records) look right seen = tt

pub judges : (stands : List Item → Type 0) (limits : Limits) (before mid after : Option (List ℕ)) (wanted : Wanted)
    (outcome : Result Verdict ToolFault) (look : Look) (found : Bool) → StandsAtEnd stands limits before mid outcome
    → LooksOnce mid after outcome look
    → IfOk (judgement_in wanted outcome look found) (λ judgement. IfSome before (λ text. Judges stands limits text after judgement))
judges stands limits before mid after wanted (Err fault) look found h seen = tt
judges stands limits before mid after wanted (Ok verdict) look found h seen = by (status_in wanted verdict look found) before h
  where
    by : (status : Option Status) (start : Option (List ℕ)) → StandsAtEnd stands limits start mid (Ok verdict)
        → IfOk (judged_with verdict look status) (λ judgement. IfSome start (λ text. Judges stands limits text after judgement))
    by None start at_end = tt
    by (Some status) None at_end = tt
    by (Some status) (Some text) at_end = record {
      given = at_end.0;
      read = verdict_after limits text verdict mid at_end.0 at_end.1;
      here = at_end.2;
      behind = looked limits text mid after at_end.0 verdict look at_end.1 seen;
    }

-- ---- what was found

all_behind : (limits : Limits) (text : List ℕ) (mid : Option (List ℕ)) (verdict : Verdict) (look : Look) (rest after : ℕ)
    → CountsBehind limits text mid verdict look → IfSome mid (λ left. rest ≡ min (length left) (2 ^ 64 - 1)) → IsAllBehind look rest after
    → HasBehind limits text verdict after
all_behind limits text mid (Good groups transactions records) (looks.Found trailing) rest after behind read all =
    (behind.0, behind.1, behind.2, by mid behind.4 read)
  where
    by : (o : Option (List ℕ)) → Consumes (Some (drop behind.1 text)) o behind.3 → IfSome o (λ left. rest ≡ min (length left) (2 ^ 64 - 1))
        → after ≡ min (length text - behind.1) (2 ^ 64 - 1)
    by None consumed counted = absurd consumed
    by (Some left) consumed counted =
        let whole : length (drop behind.1 text) ≡ length behind.3 + length left =
        ap (length {A = ℕ}) consumed ∙ length-append behind.3 left in
        omega (arith, whole, length-drop behind.1 text, counted, behind.5, all)
all_behind limits text mid (Good groups transactions records) looks.Failed rest after behind read all = absurd all
all_behind limits text mid (Good groups transactions records) looks.Unasked rest after behind read all = absurd behind
all_behind limits text mid (Refused refusal) look rest after behind read all = tt
all_behind limits text mid (Truncated records) look rest after behind read all = tt

pub found_so : (here : List Item → Type 0) (limits : Limits) (before mid : Option (List ℕ)) (summed : SummedFile)
    (judged : Result Judgement ToolFault) (rest : Result ℕ ToolFault) (result : Result Found ToolFault)
    → ((given : List Item) → here given → StandsAfter summed given)
    → IfOk judged (λ judgement. IfSome before (λ text. Judges here limits text mid judgement))
    → OnOk judged (IfOk rest (λ bytes. IfSome mid (λ left. bytes ≡ min (length left) (2 ^ 64 - 1)))) → IsFoundOf judged rest result
    → IfOk result (λ found. found.summed ≡ summed) → IfOk result (λ found. IfSome before (λ text. IsFound limits text found))
found_so here limits before mid summed judged rest (Err fault) stands judges read of kept = tt
found_so here limits before mid summed (Err fault) rest (Ok found) stands judges read of kept = absurd (cc of)
found_so here limits before mid summed (Ok judgement) (Err fault) (Ok found) stands judges read of kept = absurd (cc of)
found_so here limits before mid summed (Ok judgement) (Ok rest) (Ok found) stands judges read of kept = by before judges
  where
    by : (start : Option (List ℕ)) → IfSome start (λ text. Judges here limits text mid judgement)
        → IfSome start (λ text. IsFound limits text found)
    by None j = tt
    by (Some text) j = record {
      given = j.given;
      read = subst (λ (it : Judgement). IsVerdictAfter limits text it.verdict j.given) (sym of.0) j.read;
      here = subst (λ (it : SummedFile). StandsAfter it j.given) (sym kept) (stands j.given j.here);
      behind = subst (λ (it : Judgement). HasBehind limits text it.verdict found.after) (sym of.0)
          (all_behind limits text mid judgement.verdict judgement.look rest found.after j.behind read of.1);
    }

-- ---- failures

-- a look that didn't fail, and the rest
after_look : (look : Look) (rest : Result ℕ ToolFault) (old mid new : ℕ) → CountsLook look old mid → CountsAfter look rest mid new
    → CountsFault rest old new
after_look looks.Failed (Ok bytes) old mid new seen read = absurd read
after_look looks.Failed (Err fault) old mid new seen read =
    subst (λ (f : ToolFault). CountsFault {A = ℕ} (Err f) old new) (sym read.0) (read.1 ∙ seen)
after_look (looks.Found trailing) rest old mid new seen read = subst (λ (n : ℕ). CountsFault rest n new) seen read
after_look looks.Unasked rest old mid new seen read = subst (λ (n : ℕ). CountsFault rest n new) seen read

-- a fault is that of another result
same_fault : (A B : Type 0) (fault : ToolFault) (old new : ℕ) → CountsFault {A = A} (Err fault) old new
    → CountsFault {A = B} (Err fault) old new
same_fault A B tool_faults.Reader old new h = h
same_fault A B (tool_faults.Writer written) old new h = h
same_fault A B tool_faults.Memory old new h = h
same_fault A B (tool_faults.Refused refusal) old new h = h
same_fault A B (tool_faults.Truncated records) old new h = h
same_fault A B (tool_faults.Limit limit) old new h = h
same_fault A B tool_faults.Output old new h = h

of_judged : (fault : ToolFault) (old new : ℕ) → CountsInput (Err fault) old new → CountsFault {A = Found} (Err fault) old new
of_judged tool_faults.Reader old new h = h
of_judged (tool_faults.Writer written) old new h = h
of_judged tool_faults.Memory old new h = h
of_judged (tool_faults.Refused refusal) old new h = h
of_judged (tool_faults.Truncated records) old new h = h
of_judged (tool_faults.Limit limit) old new h = h
of_judged tool_faults.Output old new h = h

found_counts : (judged : Result Judgement ToolFault) (rest : Result ℕ ToolFault) (result : Result Found ToolFault) (old mid new : ℕ)
    → CountsInput judged old mid → CountsRest judged rest mid new → IsFoundOf judged rest result → CountsFault result old new
found_counts (Err fault) rest result old mid new seen read of =
    subst (λ (r : Result Found ToolFault). CountsFault r old new) (sym of)
    (subst (λ (n : ℕ). CountsFault {A = Found} (Err fault) old n) (sym read) (of_judged fault old mid seen))
found_counts (Ok judgement) (Err fault) result old mid new seen read of =
    subst (λ (r : Result Found ToolFault). CountsFault r old new) (sym of)
    (same_fault ℕ Found fault old new (after_look judgement.look (Err fault) old mid new seen read))
found_counts (Ok judgement) (Ok rest) (Ok found) old mid new seen read of = after_look judgement.look (Ok rest) old mid new seen read
found_counts (Ok judgement) (Ok rest) (Err fault) old mid new seen read of =
    absurd (subst (λ (look : Look). CountsAfter look (Ok rest) mid new) of read)

-- what the input counted is counted by the store that takes it back
pub counted_at_store : (judged : Result Judgement ToolFault) (rest : Result ℕ ToolFault) (result : Result Found ToolFault)
    (first mid last old new : ℕ) → first ≡ 0 → CountsInput judged first mid → CountsRest judged rest mid last → IsFoundOf judged rest result
    → new ≡ counted_on last old → CountsFault result old new
counted_at_store judged rest result first mid last old new none seen read of e =
    by result (found_counts judged rest result first mid last seen read of)
  where
    by : (r : Result Found ToolFault) → CountsFault r first last → CountsFault r old new
    by (Ok found) h = e ∙ ap (λ (n : ℕ). counted_on n old) (h ∙ none)
    by (Err tool_faults.Reader) h = e ∙ ap (λ (n : ℕ). counted_on n old) (h ∙ ap one_more_failure none)
    by (Err (tool_faults.Writer written)) h = e ∙ ap (λ (n : ℕ). counted_on n old) (h ∙ none)
    by (Err tool_faults.Memory) h = e ∙ ap (λ (n : ℕ). counted_on n old) (h ∙ none)
    by (Err (tool_faults.Refused refusal)) h = e ∙ ap (λ (n : ℕ). counted_on n old) (h ∙ none)
    by (Err (tool_faults.Truncated records)) h = e ∙ ap (λ (n : ℕ). counted_on n old) (h ∙ none)
    by (Err (tool_faults.Limit limit)) h = e ∙ ap (λ (n : ℕ). counted_on n old) (h ∙ none)
    by (Err tool_faults.Output) h = e ∙ ap (λ (n : ℕ). counted_on n old) (h ∙ none)

-- a look that didn't fail counts nothing
pub looked_well : (look : Look) (old new : ℕ) → look ≢ looks.Failed → new ≡ old → CountsLook look old new
looked_well (looks.Found trailing) old new seen same = same
looked_well looks.Failed old new seen same = absurd (seen refl)
looked_well looks.Unasked old new seen same = same
