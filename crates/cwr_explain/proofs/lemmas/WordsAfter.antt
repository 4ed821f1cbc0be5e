-- A check, and what is written and found after it.
use Rattle.std.proofs.Common.{◌≡◌, ℕ, true, false, true≢false, List, [], ◌++◌, Option, Some, None}
use Rattle.std.proofs.Common.{refl, sym, ap, subst, ◌∙◌, append-nil}
use Rattle.std.specs.Prelude.{IsSomeAnd, OnOk, Result, Ok, Err}
use Rattle.std.specs.Io.KnownBytes.{Appends, Consumes, Keeps}
use Rattle.std.proofs.KnownBytes.{Appends-kept, Appends-nil, Consumes-nil, Keeps-refl}
use Rattle.cwr_devices.specs.declared.sinks.Sink.{Sink}
use Rattle.cwr_devices.specs.Steps.Sinks.{HasWritten, has_failed, writer_of, written_of}
use Rattle.cwr_decode.specs.declared.readings.LastRead.{LastRead}
use Rattle.cwr_shape.specs.declared.limits.Limits.{Limits}
use Rattle.cwr_tools.specs.declared.verdicts.Verdict.{Verdict}
use Rattle.cwr_tools.specs.declared.verdicts.Verdict.TheVariants as verdicts
use Rattle.cwr_tools.specs.declared.verdicts.ToolFault.{ToolFault}
use Rattle.cwr_tools.specs.declared.verdicts.ToolFault.TheVariants as tool_faults
use Rattle.cwr_tools.specs.Format.Reports.{CountsAfter, JudgesAccepted}
use Rattle.cwr_tools.specs.Format.Reports.{ReportsText, fault_after, lines_of_explained}
use Rattle.cwr_tools.specs.Steps.LastSteps.{GoesOnAfter}
use Rattle.cwr_tools.specs.Steps.Reports.{Reports}
use Rattle.cwr_tools.specs.Steps.Verdicts.{IsReadLast}
use Rattle.cwr_tools.proofs.lemmas.RightReports.{accepted_text}
use Rattle.cwr_causes.specs.declared.beyond.Beyond.{Beyond}
use Rattle.cwr_causes.specs.declared.trailing.Trailing.{Trailing}
use Rattle.cwr_causes.specs.Format.Trailing.{IsTrailing}
use Rattle.cwr_causes.specs.Format.TrailingTexts.{trailing_words}
use Rattle.cwr_causes.specs.Steps.Trailing.{found_in}
use Rattle.cwr_explain.specs.Format.Explained.{AreWordsOf, ExplainsText, FindsAfter, SaysAfter}
use Rattle.cwr_explain.specs.Steps.Explained.{AddsExplanation, AddsText, Explains, ExplainsLast, ExplainsRun, Looks, is_good}
use Rattle.cwr_explain.specs.Steps.Explained.{SaysLast, words_if_found}

-- what is said of words is said of their first ones too, as far as it goes
words_of : (P Q : List ℕ → Type 0) (result : Result Verdict ToolFault) (words : List ℕ) → ((w : List ℕ) → P w → Q w)
    → AreWordsOf P result words → AreWordsOf Q result words
words_of P Q (Ok verdict) words f h = f words h
words_of P Q (Err (tool_faults.Writer written)) words f h = (h.0, f (words ++ h.0) h.1)
words_of P Q (Err tool_faults.Reader) words f h = h
words_of P Q (Err tool_faults.Memory) words f h = h
words_of P Q (Err (tool_faults.Refused refusal)) words f h = h
words_of P Q (Err (tool_faults.Truncated records)) words f h = h
words_of P Q (Err tool_faults.Output) words f h = h
words_of P Q (Err (tool_faults.Limit limit)) words f h = h

-- ---- what stands after a transmission

-- what is looked at after one is found
pub found_by_look : (verdict : Verdict) (last : LastRead) (left after : Option (List ℕ)) (beyond : Beyond) → is_good verdict ≡ true
    → Looks verdict last left after beyond → IsSomeAnd (found_in beyond) (IsTrailing left after)
found_by_look (verdicts.Good groups transactions records) last left after beyond e h = h
found_by_look (verdicts.Refused refusal) last left after beyond e h = absurd (true≢false (sym e))
found_by_look (verdicts.Truncated records) last left after beyond e h = absurd (true≢false (sym e))

-- the words on it are those on what was found
says_found : (name : List ℕ) (left after : Option (List ℕ)) (words : List ℕ) (found : Option Trailing)
    → IsSomeAnd found (IsTrailing left after) → words ≡ words_if_found name found
    → (it : Trailing) × IsTrailing left after it × (words ≡ trailing_words name it)
says_found name left after words None h e = absurd h
says_found name left after words (Some it) h e = (it, h, e)

pub says_after : {W : Type 0} (limits : Limits) (name : List ℕ) (before left after : Option (List ℕ)) (contents : W → Option (List ℕ))
    (old new : W) (verdict : Verdict) (last : LastRead) (words : List ℕ)
    → JudgesAccepted lines_of_explained limits before left contents old new verdict
    → ExplainsLast limits name verdict last left after words → SaysAfter limits name before after words
says_after limits name None left after contents old new verdict last words accepted e = tt
says_after limits name (Some text) left after contents old new verdict last words accepted e = λ v n a.
    let j = accepted v n a in
    let good = subst (λ (it : Verdict). ExplainsLast limits name it last left after words) j.0 e in
    subst (λ (m : Option (List ℕ)). (it : Trailing) × IsTrailing m after it × (words ≡ trailing_words name it)) j.1
    (says_found name left after words (found_in good.0) good.1 good.2)

-- what stands after an accepted transmission was found
finds_after : {W : Type 0} (limits : Limits) (before left after : Option (List ℕ)) (contents : W → Option (List ℕ))
    (old new : W) (verdict : Verdict) (result : Result Verdict ToolFault) (found : Option Trailing)
    → JudgesAccepted lines_of_explained limits before left contents old new verdict
    → (is_good verdict ≡ true → OnOk result (IsSomeAnd found (IsTrailing left after)))
    → OnOk result (FindsAfter limits before after found)
finds_after limits before left after contents old new verdict (Err fault) found accepted h = tt
finds_after limits None left after contents old new verdict (Ok other) found accepted h = tt
finds_after limits (Some text) left after contents old new verdict (Ok other) found accepted h = λ v n a.
    let j = accepted v n a in
    subst (λ (m : Option (List ℕ)). IsSomeAnd found (IsTrailing m after)) j.1 (h (ap is_good j.0))

-- ---- a check that goes on with an explanation

-- what is said of what was read last, which is held
of_last : (P Q : LastRead → Type 0) (last : Option LastRead) → IsSomeAnd last P → IsSomeAnd last Q → (it : LastRead) × P it × Q it
of_last P Q None h said = absurd h
of_last P Q (Some it) h said = (it, h, said)

pub explains_run : {W : Type 0} (limits : Limits) (name : List ℕ) (before left after : Option (List ℕ))
    (contents : W → Option (List ℕ)) (old between new : W) (checked result : Result Verdict ToolFault) (found : Option Trailing)
    → Reports lines_of_explained limits before left contents old between checked
    → GoesOnAfter (SaysLast limits name found) true limits before left after contents between new checked result
    → Explains limits name before after contents old new result
explains_run limits name before left after contents old between new (Ok verdict) result found h g =
    let it = of_last (IsReadLast limits before left verdict) (λ last. AreWordsOf (ExplainsLast limits name verdict last left after) result g.words
    × (is_good verdict ≡ true → OnOk result (IsSomeAnd found (IsTrailing left after)))) g.last (g.held refl) g.says in
    record {
      between = between;
      left = left;
      checked = Ok verdict;
      reported = h;
      words = g.words;
      written = g.written;
      more = g.more;
      taken = g.taken;
      answered = g.answered;
      says =
          words_of (ExplainsLast limits name verdict it.0 left after)
          (λ said. ExplainsRun limits name before left after said verdict) result g.words (λ w e. (it.0, it.1, e)) it.2.0;
    }
explains_run {W = W} limits name before left after contents old between new (Err fault) result found h g = record {
  between = between;
  left = left;
  checked = Err fault;
  reported = h;
  words = [];
  written = subst (λ (w : W). Appends (contents between) (contents w) []) (sym g.2) (Appends-nil (contents between));
  more = [];
  taken = subst (λ (o : Option (List ℕ)). Consumes left o []) (sym g.1) (Consumes-nil left);
  answered = g.0;
  says = refl;
}

-- the same in the words of the text
pub told_run : {W : Type 0} (limits : Limits) (name : List ℕ) (before left after : Option (List ℕ))
    (contents : W → Option (List ℕ)) (old between new : W) (checked result : Result Verdict ToolFault) (found : Option Trailing)
    → ReportsText lines_of_explained limits before left contents old between checked
    → GoesOnAfter (SaysLast limits name found) true limits before left after contents between new checked result
    → ExplainsText limits name before after contents old new result
told_run limits name before left after contents old between new (Ok verdict) result found h g =
    let it = of_last (IsReadLast limits before left verdict) (λ last. AreWordsOf (ExplainsLast limits name verdict last left after) result g.words
    × (is_good verdict ≡ true → OnOk result (IsSomeAnd found (IsTrailing left after)))) g.last (g.held refl) g.says in
    record {
      between = between;
      left = left;
      checked = Ok verdict;
      told = h;
      words = g.words;
      written = g.written;
      more = g.more;
      taken = g.taken;
      answered = g.answered;
      says =
          words_of (ExplainsLast limits name verdict it.0 left after) (SaysAfter limits name before after) result g.words
          (λ w e. says_after limits name before left after contents old between verdict it.0 w
          (accepted_text lines_of_explained limits before left contents old between (Ok verdict) h) e) it.2.0;
    }
told_run {W = W} limits name before left after contents old between new (Err fault) result found h g = record {
  between = between;
  left = left;
  checked = Err fault;
  told = h;
  words = [];
  written = subst (λ (w : W). Appends (contents between) (contents w) []) (sym g.2) (Appends-nil (contents between));
  more = [];
  taken = subst (λ (o : Option (List ℕ)). Consumes left o []) (sym g.1) (Consumes-nil left);
  answered = g.0;
  says = refl;
}

-- what stands after a transmission was found
pub finds_run : {W : Type 0} (limits : Limits) (name : List ℕ) (before left after : Option (List ℕ))
    (contents : W → Option (List ℕ)) (old between new : W) (checked result : Result Verdict ToolFault) (found : Option Trailing)
    → ReportsText lines_of_explained limits before left contents old between checked
    → GoesOnAfter (SaysLast limits name found) true limits before left after contents between new checked result
    → OnOk result (FindsAfter limits before after found)
finds_run limits name before left after contents old between new (Ok verdict) result found h g =
    let it = of_last (IsReadLast limits before left verdict) (λ last. AreWordsOf (ExplainsLast limits name verdict last left after) result g.words
    × (is_good verdict ≡ true → OnOk result (IsSomeAnd found (IsTrailing left after)))) g.last (g.held refl) g.says in
    finds_after limits before left after contents old between verdict result found
    (accepted_text lines_of_explained limits before left contents old between (Ok verdict) h) it.2.1
finds_run limits name before left after contents old between new (Err fault) result found h g =
    subst (λ (r : Result Verdict ToolFault). OnOk r (FindsAfter limits before after found)) (sym g.0) tt

-- ---- a text that was put

pub text_put : {W : Type 0} (contents : W → Option (List ℕ)) (text : List ℕ) (old mid new : W) (sink : Sink W)
    → mid ≡ writer_of sink → Keeps (contents mid) (contents new) → has_failed sink ≡ false
    → HasWritten contents (contents old) text sink → Appends (contents old) (contents new) text
text_put {W = W} contents text old mid new sink out kept well h =
    subst (Appends (contents old) (contents new)) (sym (h.split ∙ ap (λ (l : List ℕ). h.bytes ++ l) (h.whole well) ∙ append-nil h.bytes))
    (Appends-kept (contents old) (contents (writer_of sink)) (contents new) h.bytes h.appended
    (subst (λ (w : W). Keeps (contents w) (contents new)) out kept))

pub text_cut : {W : Type 0} (contents : W → Option (List ℕ)) (text : List ℕ) (old mid new : W) (sink : Sink W) (n : ℕ)
    → mid ≡ writer_of sink → Keeps (contents mid) (contents new) → n ≡ written_of sink
    → HasWritten contents (contents old) text sink
    → AddsText contents text old new (Err (tool_faults.Writer n))
text_cut {W = W} contents text old mid new sink n out kept counted h = (
  h.bytes,
  h.rest,
  h.split,
  Appends-kept (contents old) (contents (writer_of sink)) (contents new) h.bytes h.appended
      (subst (λ (w : W). Keeps (contents w) (contents new)) out kept),
  counted ∙ h.counted,
)

pub text_kept : {W : Type 0} (contents : W → Option (List ℕ)) (text : List ℕ) (old new : W) (sink : Sink W) (n : ℕ)
    → new ≡ writer_of sink → n ≡ written_of sink → HasWritten contents (contents old) text sink
    → AddsText contents text old new (Err (tool_faults.Writer n))
text_kept contents text old new sink n out counted h =
    text_cut contents text old new new sink n out (Keeps-refl (contents new)) counted h

-- ---- an explanation that was written

-- the writer failed in the words
pub explains_cut : {W : Type 0} (contents : W → Option (List ℕ)) (limits : Limits) (name : List ℕ) (verdict : Verdict)
    (last : LastRead) (left after : Option (List ℕ)) (before : ℕ) (text : List ℕ) (old new : W) (fault : ToolFault)
    → ExplainsLast limits name verdict last left after text → AddsText contents text old new (Err fault)
    → AddsExplanation contents limits name verdict last left after old new (Err (fault_after before fault))
    × CountsAfter {A = Verdict} contents before old new (Err (fault_after before fault))
explains_cut contents limits name verdict last left after before text old new (tool_faults.Writer written) e h = (
  (h.0, h.3, (h.1, subst (ExplainsLast limits name verdict last left after) h.2 e)),
  (written, (h.0, h.3, h.4), refl),
)
explains_cut contents limits name verdict last left after before text old new tool_faults.Reader e h = absurd h
explains_cut contents limits name verdict last left after before text old new tool_faults.Memory e h = absurd h
explains_cut contents limits name verdict last left after before text old new (tool_faults.Refused refusal) e h = absurd h
explains_cut contents limits name verdict last left after before text old new (tool_faults.Truncated records) e h = absurd h
explains_cut contents limits name verdict last left after before text old new tool_faults.Output e h = absurd h
explains_cut contents limits name verdict last left after before text old new (tool_faults.Limit limit) e h = absurd h
