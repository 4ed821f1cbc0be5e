-- A run that selects is right of its text.
use Rattle.std.proofs.Common.{◌≡◌, ◌==◌, ℕ, ◌<◌, Bool, true, false, List, [], length, drop, Option, Some, None, refl, sym, ap, subst, ◌∙◌, arith, true≢false}
use Rattle.std.specs.Prelude.{IfSome, Result, Ok, Err, if◌then◌else◌}
use Rattle.std.specs.Io.KnownBytes.{Keeps}
use Rattle.std.proofs.lemmas.Bool.{eqb-false}
use Rattle.cwr_devices.specs.Format.Failures.{one_more_failure}
use Rattle.cwr_shape.specs.declared.limits.Limits.{Limits}
use Rattle.cwr_values.specs.Format.Values.{TransmissionValue}
use Rattle.cwr_judge.specs.Format.Ends.{IsAccepted}
use Rattle.cwr_decode.specs.Format.Runs.{TakesFront}
use Rattle.cwr_tools.specs.declared.verdicts.ToolFault.{ToolFault}
use Rattle.cwr_tools.specs.declared.verdicts.ToolFault.TheVariants as tool_faults
use Rattle.cwr_parts.specs.Format.Splitting.{CountsSplitReader, CountsSplitWriter}
use Rattle.cwr_select.specs.declared.reports.SelectReport.{SelectReport}
use Rattle.cwr_select.specs.Format.Selecting.{Selects, select_report}
use Rattle.cwr_select.specs.declared.changes.Changes.{Changes}
use Rattle.cwr_select.specs.Format.Selections.{Choice, selected_count}
use Rattle.cwr_select.specs.Format.Sent.{sent_text}
use Rattle.cwr_files.specs.Format.Files.{counted_on}
use Rattle.cwr_endings.specs.declared.endings.Look.{Look}
use Rattle.cwr_endings.specs.declared.endings.Look.TheVariants as looks
use Rattle.cwr_endings.specs.declared.endings.Status.{Status}
use Rattle.cwr_endings.specs.declared.endings.Status.TheVariants as statuses
use Rattle.cwr_endings.specs.declared.endings.Wanted.{Wanted}
use Rattle.cwr_endings.specs.Steps.Looks.{IsLook, follows, good_status, whole_status}
use Rattle.cwr_endings.proofs.lemmas.Outs.{kept_whole}
use Rattle.cwr_endings.proofs.lemmas.StatusesOnTexts.{nothing_left}
use Rattle.cwr_transform.specs.declared.selections.Selected.{Selected}
use Rattle.cwr_transform.specs.Format.Selections.{IsSelectionFrom}
use Rattle.cwr_transform.specs.Steps.Selections.{CountsLookAfter, CountsSelecting, JudgesBy, JudgesSelected, JudgesSelection, LooksAfterSelecting, WritesBy, is_empty, is_good}
use Rattle.cwr_transform.specs.Steps.Selections.{keeps, keeps_selected, short_status, status_where, with_memory}

-- ---- what came of it

enough : (report : SelectReport) (choice : Choice) (v : TransmissionValue) → report ≡ select_report choice v
    → (report.selected == 0) ≡ false → 0 < selected_count choice v
enough report choice v reported e =
    let same : report.selected ≡ selected_count choice v = ap (λ (r : SelectReport). r.selected) reported in
    omega (arith, same, eqb-false report.selected 0 e)

looked : (limits : Limits) (before mid after : Option (List ℕ)) (v : TransmissionValue) (look : Look) → TakesFront limits before v mid
    → IsLook mid after look
    → IfSome before
    (λ known. (n : ℕ) × IsAccepted limits known v n × (after : Option (List ℕ)) × IsLook (Some (drop n known)) after look)
looked limits None mid after v look t l = tt
looked limits (Some text) mid after v look t l =
    (length t.input, t.front.0, after, subst (λ (m : Option (List ℕ)). IsLook m after look) t.front.1 l)

run_by : {W : Type 0} (limits : Limits) (changes : Changes) (choice : Choice) (before mid after : Option (List ℕ))
    (contents : W → Option (List ℕ)) (old new : W) (outcome : Result SelectReport ToolFault) (lacks : Bool) (look : Look)
    → Selects limits changes choice before mid (contents old) (contents new) outcome
    → LooksAfterSelecting mid after (with_memory outcome lacks) look
    → WritesBy limits changes choice before contents old new (with_memory outcome lacks) look (is_empty (with_memory outcome lacks))
run_by limits changes choice before mid after contents old new (Ok report) true look h l = tt
run_by limits changes choice before mid after contents old new (Ok report) false look h l = record {
  judged = record {
    value = h.value;
    some = λ e. enough report choice h.value h.reported e;
    from = looked limits before mid after h.value look h.taken l;
  };
  written = h.written;
}
run_by limits changes choice before mid after contents old new (Err tool_faults.Reader) lacks look h l = tt
run_by limits changes choice before mid after contents old new (Err (tool_faults.Writer n)) lacks look h l = tt
run_by limits changes choice before mid after contents old new (Err tool_faults.Memory) lacks look h l = tt
run_by limits changes choice before mid after contents old new (Err (tool_faults.Refused r)) lacks look h l = tt
run_by limits changes choice before mid after contents old new (Err (tool_faults.Truncated n)) lacks look h l = tt
run_by limits changes choice before mid after contents old new (Err tool_faults.Output) lacks look h l = h
run_by limits changes choice before mid after contents old new (Err (tool_faults.Limit k)) lacks look h l = tt

pub run_judged : {W : Type 0} (limits : Limits) (changes : Changes) (choice : Choice) (before mid after : Option (List ℕ))
    (contents : W → Option (List ℕ)) (old new : W) (outcome ended : Result SelectReport ToolFault) (lacks empty : Bool) (look : Look)
    → Selects limits changes choice before mid (contents old) (contents new) outcome → ended ≡ with_memory outcome lacks
    → empty ≡ is_empty ended → LooksAfterSelecting mid after ended look
    → WritesBy limits changes choice before contents old new ended look empty
run_judged limits changes choice before mid after contents old new outcome ended lacks empty look h e s l =
    subst (λ (b : Bool). WritesBy limits changes choice before contents old new ended look b) (sym s)
    (subst (λ (o : Result SelectReport ToolFault). WritesBy limits changes choice before contents old new o look (is_empty o)) (sym e)
    (run_by limits changes choice before mid after contents old new outcome lacks look h
    (subst (λ (o : Result SelectReport ToolFault). LooksAfterSelecting mid after o look) e l)))

judged_by : {W : Type 0} (limits : Limits) (changes : Changes) (choice : Choice) (left : Option (List ℕ))
    (contents : W → Option (List ℕ)) (old new : W) (look : Look) (empty : Bool) (outcome : Result SelectReport ToolFault)
    → WritesBy limits changes choice left contents old new outcome look empty → JudgesBy limits choice left outcome look empty
judged_by limits changes choice left contents old new look empty (Ok report) h = h.judged
judged_by limits changes choice left contents old new look empty (Err tool_faults.Reader) h = tt
judged_by limits changes choice left contents old new look empty (Err (tool_faults.Writer n)) h = tt
judged_by limits changes choice left contents old new look empty (Err tool_faults.Memory) h = tt
judged_by limits changes choice left contents old new look empty (Err (tool_faults.Refused r)) h = tt
judged_by limits changes choice left contents old new look empty (Err (tool_faults.Truncated n)) h = tt
judged_by limits changes choice left contents old new look empty (Err tool_faults.Output) h = h
judged_by limits changes choice left contents old new look empty (Err (tool_faults.Limit k)) h = tt

pub is_judged : {W : Type 0} (limits : Limits) (changes : Changes) (choice : Choice) (left : Option (List ℕ))
    (contents : W → Option (List ℕ)) (old new : W) (s : Selected) → JudgesSelection limits changes choice left contents old new s
    → JudgesSelected limits choice left s
is_judged limits changes choice left contents old new s h =
    judged_by limits changes choice left contents old new s.look s.is_empty s.outcome h

-- ---- how often a device failed

pub counts_writer : (outcome ended : Result SelectReport ToolFault) (lacks : Bool) (old new : ℕ) → ended ≡ with_memory outcome lacks
    → CountsSplitWriter {A = SelectReport} outcome old new → CountsSplitWriter {A = SelectReport} ended old new
counts_writer outcome ended lacks old new e h =
    subst (λ (o : Result SelectReport ToolFault). CountsSplitWriter {A = SelectReport} o old new) (sym e) (by outcome lacks h) where
      by : (o : Result SelectReport ToolFault) (b : Bool) → CountsSplitWriter {A = SelectReport} o old new
          → CountsSplitWriter {A = SelectReport} (with_memory o b) old new
      by (Ok report) true k = k
      by (Ok report) false k = k
      by (Err fault) b k = k

reads_by : (outcome : Result SelectReport ToolFault) (lacks : Bool) (look : Look) (r0 r1 r2 old new : ℕ) → r0 ≡ 0
    → CountsSplitReader {A = SelectReport} outcome r0 r1 → CountsLookAfter (with_memory outcome lacks) look r1 r2
    → new ≡ counted_on r2 old → CountsSelecting (with_memory outcome lacks) look old new
reads_by (Ok report) true look r0 r1 r2 old new none h k e = e ∙ ap (λ (n : ℕ). counted_on n old) (k ∙ h ∙ none)
reads_by (Ok report) false (looks.Found t) r0 r1 r2 old new none h k e = e ∙ ap (λ (n : ℕ). counted_on n old) (k ∙ h ∙ none)
reads_by (Ok report) false looks.Failed r0 r1 r2 old new none h k e =
    e ∙ ap (λ (n : ℕ). counted_on n old) (k ∙ ap one_more_failure (h ∙ none))
reads_by (Ok report) false looks.Unasked r0 r1 r2 old new none h k e = e ∙ ap (λ (n : ℕ). counted_on n old) (k ∙ h ∙ none)
reads_by (Err tool_faults.Reader) lacks look r0 r1 r2 old new none h k e =
    e ∙ ap (λ (n : ℕ). counted_on n old) (k ∙ h ∙ ap one_more_failure none)
reads_by (Err (tool_faults.Writer n)) lacks look r0 r1 r2 old new none h k e = e ∙ ap (λ (m : ℕ). counted_on m old) (k ∙ h ∙ none)
reads_by (Err tool_faults.Memory) lacks look r0 r1 r2 old new none h k e = e ∙ ap (λ (n : ℕ). counted_on n old) (k ∙ h ∙ none)
reads_by (Err (tool_faults.Refused r)) lacks look r0 r1 r2 old new none h k e = e ∙ ap (λ (n : ℕ). counted_on n old) (k ∙ h ∙ none)
reads_by (Err (tool_faults.Truncated m)) lacks look r0 r1 r2 old new none h k e = e ∙ ap (λ (n : ℕ). counted_on n old) (k ∙ h ∙ none)
reads_by (Err tool_faults.Output) lacks look r0 r1 r2 old new none h k e = e ∙ ap (λ (n : ℕ). counted_on n old) (k ∙ h ∙ none)
reads_by (Err (tool_faults.Limit l)) lacks look r0 r1 r2 old new none h k e = e ∙ ap (λ (n : ℕ). counted_on n old) (k ∙ h ∙ none)

pub reads_so : (outcome ended : Result SelectReport ToolFault) (lacks : Bool) (look : Look) (r0 r1 r2 old new : ℕ)
    → ended ≡ with_memory outcome lacks → r0 ≡ 0 → CountsSplitReader {A = SelectReport} outcome r0 r1 → CountsLookAfter ended look r1 r2
    → new ≡ counted_on r2 old → CountsSelecting ended look old new
reads_so outcome ended lacks look r0 r1 r2 old new is none h k e =
    subst (λ (o : Result SelectReport ToolFault). CountsSelecting o look old new) (sym is)
    (reads_by outcome lacks look r0 r1 r2 old new none h
    (subst (λ (o : Result SelectReport ToolFault). CountsLookAfter o look r1 r2) is k) e)

-- ---- what is wanted of it

never_good : (o : Option Status) → is_good (short_status true o) ≡ true → ⊥
never_good None e = absurd (true≢false (sym e))
never_good (Some statuses.Good) e = absurd (true≢false (sym e))
never_good (Some statuses.Refused) e = absurd (true≢false (sym e))
never_good (Some statuses.CommandLine) e = absurd (true≢false (sym e))
never_good (Some statuses.Fault) e = absurd (true≢false (sym e))

not_following : (b : Bool) → is_good (if b then Some statuses.Refused else Some statuses.Good) ≡ true → b ≡ false
not_following true e = absurd (true≢false (sym e))
not_following false e = refl

-- nothing follows the transmission where nothing may
abbrev IsAlone : Bool → Look → Type 0
IsAlone whole look =
    whole ≡ true → (left after : Option (List ℕ)) → IsLook left after look → IfSome left (λ more. more ≡ [])

alone : (whole : Bool) (look : Look) → is_good (whole_status whole look) ≡ true → IsAlone whole look
alone false look e = λ w. absurd (true≢false (sym w))
alone true (looks.Found t) e = λ w left after l. nothing_left left after t l (not_following (follows t) e)
alone true looks.Failed e = absurd (true≢false (sym e))
alone true looks.Unasked e = λ w left after l. absurd l

good_so : (wanted : Wanted) (look : Look) (found : Bool) → is_good (good_status wanted look found) ≡ true → IsAlone wanted.whole look
good_so wanted look true e = absurd (true≢false (sym e))
good_so wanted look false e = alone wanted.whole look e

-- then something is selected
wanted_by : (wanted : Wanted) (look : Look) (same short found : Bool)
    → is_good (if same then Some statuses.CommandLine else short_status short (good_status wanted look found)) ≡ true
    → (short ≡ false) × IsAlone wanted.whole look
wanted_by wanted look true short found e = absurd (true≢false (sym e))
wanted_by wanted look false true found e = absurd (never_good (good_status wanted look found) e)
wanted_by wanted look false false found e = (refl, good_so wanted look found e)

pub wanted_so : (missing : Bool) (wanted : Wanted) (s : Selected) → is_good (status_where missing wanted s) ≡ true
    → (s.is_empty ≡ false) × IsAlone wanted.whole s.look
wanted_so false wanted s e = wanted_by wanted s.look s.is_same_moment s.is_empty s.found e
wanted_so true wanted s e =
    absurd (true≢false (wanted_by wanted s.look s.is_same_moment true s.found e).0)

pub from_known : (limits : Limits) (whole : Bool) (left : Option (List ℕ)) (v : TransmissionValue) (look : Look) → IsAlone whole look
    → IfSome left
    (λ known. (n : ℕ) × IsAccepted limits known v n × (after : Option (List ℕ)) × IsLook (Some (drop n known)) after look)
    → IfSome left (λ known. (n : ℕ) × IsAccepted limits known v n × (whole ≡ true → drop n known ≡ []))
from_known limits whole None v look lone h = tt
from_known limits whole (Some text) v look lone h = (h.0, h.1, λ w. lone w (Some (drop h.0 text)) h.2 h.3)

-- so the text that is kept is the one that is asked for
pub kept_text : {W : Type 0} (limits : Limits) (wanted : Wanted) (changes : Changes) (choice : Choice) (left : Option (List ℕ))
    (contents : W → Option (List ℕ)) (old new : W) (s : Selected) (final : Option (List ℕ))
    → JudgesSelection limits changes choice left contents old new s → keeps_selected wanted s ≡ true → contents old ≡ Some []
    → Keeps (contents new) final
    → (text : List ℕ) × (final ≡ Some text) × IsSelectionFrom limits wanted.whole changes choice left text
kept_text limits wanted changes choice left contents old new s final judged kept fresh keeps_it = by s.outcome judged kept where
  by : (outcome : Result SelectReport ToolFault) → WritesBy limits changes choice left contents old new outcome s.look s.is_empty
      → keeps outcome (status_where false wanted s) ≡ true
      → (text : List ℕ) × (final ≡ Some text) × IsSelectionFrom limits wanted.whole changes choice left text
  by (Ok report) h k =
      let so = wanted_so false wanted s k in
      let text : List ℕ = sent_text changes choice h.judged.value in (
        text,
        kept_whole (contents old) (contents new) final text fresh h.written keeps_it,
        record {
          value = h.judged.value;
          some = h.judged.some so.0;
          text_is = refl;
          from = from_known limits wanted.whole left h.judged.value s.look so.1 h.judged.from;
        },
      )
  by (Err fault) h k = absurd (true≢false (sym k))
