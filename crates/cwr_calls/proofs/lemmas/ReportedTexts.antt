-- What a run over a text in memory has written to an empty writer.
use Rattle.std.proofs.Common.{◌≡◌, ℕ, Bool, List, [], ◌++◌, Option, Some, None, refl, sym, ap, subst, ◌∙◌, false}
use Rattle.std.specs.Prelude.{Result, Ok, Err, IfErr, IfOk, IfSome}
use Rattle.std.specs.Io.KnownBytes.{Appends}
use Rattle.cwr_shape.specs.declared.limits.Limits.{Limits}
use Rattle.cwr_tools.specs.declared.verdicts.Verdict.{Verdict}
use Rattle.cwr_tools.specs.declared.verdicts.Verdict.TheVariants.{Good, Refused, Truncated}
use Rattle.cwr_tools.specs.declared.verdicts.ToolFault.{ToolFault}
use Rattle.cwr_tools.specs.declared.verdicts.ToolFault.TheVariants.{Memory, Reader, Writer}
use Rattle.cwr_tools.specs.Format.Reports.{CountsReaderFault, CountsWriterFault, ItemLines, lines_of_explained, text_on}
use Rattle.cwr_tools.specs.Format.Verdicts.{IsVerdictOn, JudgesText}
use Rattle.cwr_tools.specs.Steps.Reports.{Reports}
use Rattle.cwr_tools.specs.Format.Verdicts.{IsAnswerAfter}
use Rattle.cwr_explain.specs.Steps.Explained.{Explains}
use Rattle.cwr_lint.specs.Format.Wanted.{Wanted, wanting}
use Rattle.cwr_lint.specs.Steps.Lints.{Lints, Tells}
use Rattle.cwr_calls.specs.Steps.Checked.{MayLackMemory}
use Rattle.cwr_calls.specs.Steps.Reported.{IsExplainedOn, IsJudged, IsLintOn, IsTextOn, IsWritten}

-- the verdict is on the text
pub judged_on : (limits : Limits) (before : Option (List ℕ)) (text : List ℕ) (result : Result Verdict ToolFault)
    → before ≡ Some text → JudgesText limits before result → IsJudged limits text result
judged_on limits before text (Ok verdict) e h = subst (λ (b : Option (List ℕ)). IfSome b (λ t. IsVerdictOn limits t verdict)) e h
judged_on limits before text (Err fault) e h = tt

-- to an empty writer just the text is written
alone : (old new : Option (List ℕ)) (report text : List ℕ) → old ≡ Some [] → new ≡ Some report → Appends old new text
    → report ≡ text
alone old new report text none has a =
    subst (λ (n : Option (List ℕ)). Appends (Some []) n text) has (subst (λ (o : Option (List ℕ)). Appends o new text) none a)

pub text_on_items : {W : Type 0} (of : ItemLines) (limits : Limits) (before after : Option (List ℕ)) (text report : List ℕ)
    (contents : W → Option (List ℕ)) (old new : W) (result : Result Verdict ToolFault)
    → before ≡ Some text → contents old ≡ Some [] → contents new ≡ Some report
    → Reports of limits before after contents old new result → IsWritten (IsTextOn of limits text report) result
text_on_items of limits before after text report contents old new (Ok verdict) e none has h =
    let there = subst (λ (b : Option (List ℕ)). Reports of limits b after contents old new (Ok verdict)) e h in
    (there.0, after, there.1, alone (contents old) (contents new) report (text_on of there.0 verdict) none has there.2)
text_on_items of limits before after text report contents old new (Err fault) e none has h = tt

pub text_reported : {W : Type 0} (of : ItemLines) (limits : Limits) (before after : Option (List ℕ)) (text report : List ℕ)
    (contents : W → Option (List ℕ)) (old new : W) (result : Result Verdict ToolFault)
    → Reports of limits before after contents old new result → before ≡ Some text → contents old ≡ Some []
    → contents new ≡ Some report → IsWritten (IsTextOn of limits text report) result
text_reported of limits before after text report contents old new result h e none has =
    text_on_items of limits before after text report contents old new result e none has h

-- words that follow a text
followed : (old mid new : Option (List ℕ)) (report text words : List ℕ) → old ≡ Some [] → new ≡ Some report → Appends old mid text
    → Appends mid new words → report ≡ text ++ words
followed old None new report text words none has a b = absurd (subst (λ (o : Option (List ℕ)). Appends o None text) none a)
followed old (Some m) new report text words none has a b =
    let front : m ≡ text = subst (λ (o : Option (List ℕ)). Appends o (Some m) text) none a in
    let whole : report ≡ m ++ words = subst (λ (n : Option (List ℕ)). Appends (Some m) n words) has b in
    whole ∙ ap (λ (l : List ℕ). l ++ words) front

pub explained_on_items : {W : Type 0} (limits : Limits) (name : List ℕ) (before after : Option (List ℕ)) (text report : List ℕ)
    (contents : W → Option (List ℕ)) (old new : W) (result : Result Verdict ToolFault)
    → before ≡ Some text → contents old ≡ Some [] → contents new ≡ Some report
    → Explains limits name before after contents old new result → IsWritten (IsExplainedOn limits text report) result
explained_on_items limits name before after text report contents old new (Err fault) e none has h = tt
explained_on_items {W = W} limits name before after text report contents old new (Ok verdict) e none has h =
    by h.checked h.reported h.answered
  where
    by : (checked : Result Verdict ToolFault) → Reports lines_of_explained limits before h.left contents old h.between checked
        → IsAnswerAfter checked (Ok verdict) → IsExplainedOn limits text report verdict
    by (Ok v) r same =
        let there =
        subst (λ (b : Option (List ℕ)). Reports lines_of_explained limits b h.left contents old h.between (Ok v)) e r in
        let it : IsExplainedOn limits text report v
        = (
          there.0,
          h.left,
          h.words,
          there.1,
          followed (contents old) (contents h.between) (contents new) report
              (text_on lines_of_explained there.0 v) h.words none has there.2 h.written,
        ) in
        subst (IsExplainedOn limits text report) (sym same) it
    by (Err f) r same = absurd (cc same)

-- what is appended to an empty writer is appended to nothing
to_text : (old new : Option (List ℕ)) (report text : List ℕ) → old ≡ Some [] → new ≡ Some report → Appends old new text
    → Appends (Some []) (Some report) text
to_text old new report text none has a =
    subst (λ (n : Option (List ℕ)). Appends (Some []) n text) has (subst (λ (o : Option (List ℕ)). Appends o new text) none a)

-- known bytes stay known
to_none : (old new : Option (List ℕ)) (text : List ℕ) → old ≡ Some [] → new ≡ None → Appends old new text → ⊥
to_none old new text known none a =
    subst (λ (n : Option (List ℕ)). Appends (Some []) n text) none (subst (λ (o : Option (List ℕ)). Appends o new text) known a)

tells_to : {W : Type 0} (wanted : Wanted) (limits : Limits) (after : Option (List ℕ)) (text report : List ℕ)
    (contents : W → Option (List ℕ)) (old new : W) (verdict : Verdict) → contents old ≡ Some [] → contents new ≡ Some report
    → Tells wanted limits (Some text) after contents old new verdict
    → Tells wanted limits (Some text) after (λ (t : List ℕ). Some t) [] report verdict
tells_to wanted limits after text report contents old new (Good groups transactions records) none has h =
    (h.0, h.1, to_text (contents old) (contents new) report _ none has h.2)
tells_to wanted limits after text report contents old new (Truncated records) none has h = ended (contents h.between) refl
  where
    ended : (front : Option (List ℕ)) → contents h.between ≡ front
        → Tells wanted limits (Some text) after (λ (t : List ℕ). Some t) [] report (Truncated records)
    ended None e = absurd (to_none (contents old) (contents h.between) _ none e h.reported.2)
    ended (Some front) e = record {
      between = front;
      reported = (h.reported.0, h.reported.1, to_text (contents old) (contents h.between) front _ none e h.reported.2);
      words = h.words;
      asked = h.asked;
      written =
          subst (λ (o : Option (List ℕ)). Appends o (Some report) h.words) e
          (subst (λ (o : Option (List ℕ)). Appends (contents h.between) o h.words) has h.written);
    }
tells_to wanted limits after text report contents old new (Refused refusal) none has h =
    record {
      given = h.given;
      left = h.left;
      stopped = h.stopped;
      more = h.more;
      taken = h.taken;
      refused = h.refused;
      lines = h.lines;
      over = h.over;
      text = h.text;
      last = h.last;
      tally = h.tally;
      heard = h.heard;
      heard_before = h.heard_before;
      told = h.told;
      written = to_text (contents old) (contents new) report _ none has h.written;
      read = h.read;
      cut = h.cut;
      ends = h.ends;
      all = h.all;
    }

pub lint_on_items : {W : Type 0} (explained : Bool) (limits : Limits) (before after : Option (List ℕ)) (text report : List ℕ)
    (contents : W → Option (List ℕ)) (old new : W) (result : Result Verdict ToolFault)
    → Lints (wanting explained false false) limits before after contents old new result → before ≡ Some text → contents old ≡ Some []
    → contents new ≡ Some report → IfOk result (Tells (wanting explained false false) limits before after contents old new)
    → IsWritten (IsLintOn (wanting explained false false) limits text report) result
lint_on_items explained limits before after text report contents old new (Err fault) l e none has h = tt
lint_on_items explained limits before after text report contents old new (Ok verdict) l e none has h = (
  after,
  tells_to (wanting explained false false) limits after text report contents old new verdict none has
      (subst (λ (b : Option (List ℕ)). Tells (wanting explained false false) limits b after contents old new verdict) e h),
)

-- a report over memory, whose writer never fails, fails only where memory is asked for
pub lacks : {W : Type 0} (of : ItemLines) (limits : Limits) (before after : Option (List ℕ)) (text : List ℕ) (contents : W → Option (List ℕ))
    (old new : W) (result : Result Verdict ToolFault) → before ≡ Some text → Reports of limits before after contents old new result
    → CountsReaderFault result 0 0 → CountsWriterFault result 0 0 → IfErr result (λ fault. MayLackMemory of limits text)
lacks of limits before after text contents old new (Ok verdict) e h read wrote = tt
lacks of limits before after text contents old new (Err Memory) e h read wrote =
    let there = subst (λ (b : Option (List ℕ)). Reports of limits b after contents old new (Err Memory)) e h in
    (there.0, after, there.1)
lacks of limits before after text contents old new (Err Reader) e h read wrote = absurd (cc read)
lacks of limits before after text contents old new (Err (Writer written)) e h read wrote = absurd (cc wrote)
lacks of limits before after text contents old new (Err fault) e h read wrote = absurd h
