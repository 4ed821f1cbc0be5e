-- What was told where a device or memory failed.
use Rattle.std.proofs.Common.{◌≡◌, ℕ, suc, ◌+◌, ◌-◌, ◌≤◌, min, Bool, true, false, List, [], ◌∷◌, ◌++◌, Option, Some}
use Rattle.std.proofs.Common.{refl, sym, ap, subst, ◌∙◌, arith, inl, inr, append_assoc, append-nil}
use Rattle.std.specs.Prelude.{◌⊎◌, ◌^◌, Result, Ok, Err, IfOk}
use Rattle.std.specs.Io.KnownBytes.{Appends, Keeps}
use Rattle.std.proofs.KnownBytes.{Consumes-nil, Consumes-trans}
use Rattle.cwr_lines.specs.Steps.Held.{HeldLine}
use Rattle.cwr_decode.specs.declared.last_bytes.LastBytes.{LastBytes}
use Rattle.cwr_devices.specs.declared.sinks.Sink.{Sink}
use Rattle.cwr_devices.specs.declared.sinks.SinkFault.{SinkFault}
use Rattle.cwr_devices.specs.Steps.Sinks.{HasWritten, PutsText, has_failed, writer_of, written_of}
use Rattle.cwr_encode.proofs.lemmas.Ends.{all_written, appends_kept}
use Rattle.cwr_judge.specs.declared.refusals.Refusal.{Refusal}
use Rattle.cwr_tools.specs.declared.verdicts.Verdict.{Verdict}
use Rattle.cwr_tools.specs.declared.verdicts.ToolFault.{ToolFault}
use Rattle.cwr_tools.specs.declared.verdicts.ToolFault.TheVariants as faults
use Rattle.cwr_advice.specs.declared.rules.Advice.{Advice}
use Rattle.cwr_lint_lines.specs.declared.judged_lines.Judged.{Judged}
use Rattle.cwr_lint_lines.specs.Format.FaultsAtFields.{JudgedLine, LineCut, fields_end}
use Rattle.cwr_lint_lines.specs.Steps.Cells.{held_cut}
use Rattle.cwr_lint_lines.specs.Steps.JudgedLines.{IsFaultFrom, judged_as, judged_at, scope_by}
use Rattle.cwr_tools.specs.Steps.Reports.{tool_result}
use Rattle.cwr_lint.specs.declared.linting.LintRun.{LintRun}
use Rattle.cwr_lint.specs.declared.raw_lines.RawLine.{RawLine}
use Rattle.cwr_lint.specs.Format.FaultsOfLines.{Asking, EndedTransaction, IsFaultText, TellsMore, ended_lines}
use Rattle.cwr_lint.specs.Steps.CutShort.{AppendsUpTo, IsCutText, IsFirstPart, IsFrontOf, IsNoneOr, IsUnread, Leaves, LeavesOrUnread}
use Rattle.cwr_lint.specs.Steps.CutShort.{PutsUpTo, TakesFromPart, TakesNextPart, TakesSome, TellsLastUpTo, TellsPart, TellsSome}
use Rattle.cwr_lint.specs.Steps.CutShort.{TellsUpTo, UnlessWriter, WalksPart}
use Rattle.cwr_lint.specs.Steps.LinesRead.{GoesOn, ReadsLine, held_raw, spelled}
use Rattle.cwr_lint.specs.Steps.Lints.{EndsRun, counted}
use Rattle.cwr_lint.specs.Steps.Puts.{told_so}
use Rattle.cwr_lint.specs.Steps.Runs.{TellsOfLine, TellsRun, TellsToEnd, walk_of}
use Rattle.cwr_lint.specs.Steps.Walks.{Walk, WalksLine, ended_by, told_ended}
use Rattle.cwr_lint.proofs.lemmas.RawLines.{goes_both, goes_line, goes_none, raw_cut}
use Rattle.cwr_lint.proofs.lemmas.Running.{RunSoFar, all_more}
use Rattle.cwr_lint.proofs.lemmas.Telling.{ToldSoFar}

-- ---- texts that were put

-- such a text was put before this fault
abbrev pub LeavesAt : {W : Type 0} → (List ℕ → Type 0) → (W → Option (List ℕ)) → ToolFault → Sink W → Sink W → Type 0
LeavesAt P contents fault old new = (text : List ℕ) × PutsUpTo contents text fault old new × P text

-- whatever was put, this text was put after it
abbrev pub Adds : {W : Type 0} → (W → Option (List ℕ)) → List ℕ → Sink W → Sink W → Type 0
Adds contents text old new = (start : Option (List ℕ)) (before : List ℕ) → HasWritten contents start before old
    → HasWritten contents start (before ++ text) new

pub unless_writer : (fault : ToolFault) (P : Type 0) → P → UnlessWriter fault P
unless_writer (faults.Writer written) P p = tt
unless_writer faults.Memory P p = p
unless_writer faults.Reader P p = p
unless_writer (faults.Refused refusal) P p = p
unless_writer (faults.Truncated records) P p = p
unless_writer faults.Output P p = p
unless_writer (faults.Limit limit) P p = p

adds_none : {W : Type 0} (contents : W → Option (List ℕ)) (sink : Sink W) → Adds contents [] sink sink
adds_none contents sink start before h = subst (λ (l : List ℕ). HasWritten contents start l sink) (sym (append-nil before)) h

-- nothing was put
pub leaves_none : {W : Type 0} (P : List ℕ → Type 0) (contents : W → Option (List ℕ)) (fault : ToolFault) (sink : Sink W)
    → P [] → LeavesAt P contents fault sink sink
leaves_none P contents fault sink p = (
  [],
  record { written = adds_none contents sink; unfailed = unless_writer fault (has_failed sink ≡ false) },
  p,
)

-- memory is refused after a text
pub leaves_whole : {W : Type 0} (P : List ℕ → Type 0) (contents : W → Option (List ℕ)) (text : List ℕ) (old new : Sink W)
    → Adds contents text old new → (has_failed old ≡ false → has_failed new ≡ false) → P text
    → LeavesAt P contents faults.Memory old new
leaves_whole P contents text old new adds unfailed p = (text, record { written = adds; unfailed = unfailed }, p)

-- what else is so of such a text
pub leaves_other : {W : Type 0} (P Q : List ℕ → Type 0) (contents : W → Option (List ℕ)) (fault : ToolFault) (old new : Sink W)
    → ((text : List ℕ) → P text → Q text) → LeavesAt P contents fault old new → LeavesAt Q contents fault old new
leaves_other P Q contents fault old new f p = (p.0, p.1, f p.0 p.2)

pub leaves_as : {W A : Type 0} (P Q : List ℕ → Type 0) (contents : W → Option (List ℕ)) (result : Result A ToolFault)
    (old new : Sink W) → ((text : List ℕ) → P text → Q text) → Leaves P contents result old new → Leaves Q contents result old new
leaves_as P Q contents (Ok x) old new f p = tt
leaves_as P Q contents (Err fault) old new f p = leaves_other P Q contents fault old new f p

-- the reader failed, and nothing was put
pub unread : {W : Type 0} (P : List ℕ → Type 0) (contents : W → Option (List ℕ)) (sink : Sink W)
    → (text : List ℕ) × PutsUpTo contents text faults.Reader sink sink × (IsUnread faults.Reader text ⊎ P text)
unread P contents sink =
    ([], record { written = adds_none contents sink; unfailed = λ unfailed. unfailed }, inl refl)

pub leaves_read : {W A : Type 0} (P Q : List ℕ → Type 0) (contents : W → Option (List ℕ)) (result : Result A ToolFault)
    (old new : Sink W) → ((text : List ℕ) → P text → Q text) → Leaves P contents result old new
    → LeavesOrUnread Q contents result old new
leaves_read P Q contents (Ok x) old new f p = tt
leaves_read P Q contents (Err fault) old new f p = (p.0, p.1, inr (f p.0 p.2))

pub unread_as : {W A : Type 0} (P Q : List ℕ → Type 0) (contents : W → Option (List ℕ)) (result : Result A ToolFault)
    (old new : Sink W) → ((text : List ℕ) → P text → Q text) → LeavesOrUnread P contents result old new
    → LeavesOrUnread Q contents result old new
unread_as P Q contents (Ok x) old new f p = tt
unread_as P Q contents (Err fault) old new f p = (p.0, p.1, by p.2)
  where
    by : IsUnread fault p.0 ⊎ P p.0 → IsUnread fault p.0 ⊎ Q p.0
    by (inl none) = inl none
    by (inr h) = inr (f p.0 h)

-- one text, and then such a one
pub then_cut : {W : Type 0} (P Q : List ℕ → Type 0) (contents : W → Option (List ℕ)) (text : List ℕ) (fault : ToolFault)
    (old mid new : Sink W) → Adds contents text old mid → (has_failed old ≡ false → has_failed mid ≡ false)
    → ((more : List ℕ) → P more → Q (text ++ more)) → LeavesAt P contents fault mid new → LeavesAt Q contents fault old new
then_cut P Q contents text fault old mid new adds kept f q = (
  text ++ q.0,
  record {
    written =
        λ start before h. subst (λ (l : List ℕ). HasWritten contents start l new) (append_assoc before text q.0)
        (q.1.written start (before ++ text) (adds start before h));
    unfailed = λ unfailed. q.1.unfailed (kept unfailed);
  },
  f q.0 q.2,
)

pub then_leaves : {W A : Type 0} (P Q : List ℕ → Type 0) (contents : W → Option (List ℕ)) (text : List ℕ)
    (result : Result A ToolFault) (old mid new : Sink W) → Adds contents text old mid
    → (has_failed old ≡ false → has_failed mid ≡ false) → ((more : List ℕ) → P more → Q (text ++ more))
    → Leaves P contents result mid new → Leaves Q contents result old new
then_leaves P Q contents text (Ok x) old mid new adds kept f q = tt
then_leaves P Q contents text (Err fault) old mid new adds kept f q = then_cut P Q contents text fault old mid new adds kept f q

-- a text was put, and the writer failed in it, or memory was refused for more of it
pub such_leaves : {W E : Type 0} (P : List ℕ → Type 0) (contents : W → Option (List ℕ)) (failures : W → ℕ) (text : List ℕ)
    (put : Result (Unit {0}) SinkFault) (told : Result (Unit {0}) E) (result : Result (Unit {0}) ToolFault) (old new : Sink W)
    → result ≡ told_so put told → P text → PutsText contents failures text put old new → Leaves P contents result old new
such_leaves {E = E} P contents failures text put told result old new e is p =
    subst (λ (r : Result (Unit {0}) ToolFault). Leaves P contents r old new) (sym e) (by put told p)
  where
    by : (r : Result (Unit {0}) SinkFault) (t : Result (Unit {0}) E) → PutsText contents failures text r old new
        → Leaves P contents (told_so r t) old new
    by (Ok u) (Ok v) p = tt
    by (Ok u) (Err fault) p = (text, record { written = p.written; unfailed = λ unfailed. p.failed }, is)
    by (Err fault) t p = (text, record { written = p.written; unfailed = λ unfailed. tt }, is)

-- the same where none was asked for
pub told_leaves : {W : Type 0} (P : List ℕ → Type 0) (contents : W → Option (List ℕ)) (failures : W → ℕ) (text : List ℕ)
    (put : Result (Unit {0}) SinkFault) (result : Result (Unit {0}) ToolFault) (old new : Sink W)
    → result ≡ tool_result put → P text → PutsText contents failures text put old new → Leaves P contents result old new
told_leaves P contents failures text put result old new e is p =
    such_leaves {E = Unit {0}} P contents failures text put (Ok tt) result old new (e ∙ as_such put) is p
  where
    as_such : (r : Result (Unit {0}) SinkFault) → tool_result r ≡ told_so {E = Unit {0}} r (Ok tt)
    as_such (Ok u) = refl
    as_such (Err fault) = refl

-- ---- one line

-- the faults so far, and one more
pub told_part : {W : Type 0} (contents : W → Option (List ℕ)) (failures : W → ℕ) (asked : Asking) (l : JudgedLine)
    (from j count end : ℕ) (fault : Refusal) (stop : ToolFault) (old mid new : Sink W) → suc j ≤ end
    → ToldSoFar contents failures asked l from j count old mid → IsFaultFrom l from j (Some fault)
    → LeavesAt (IsFaultText asked fault) contents stop mid new → LeavesAt (TellsSome asked l from end) contents stop old new
told_part contents failures asked l from j count end fault stop old mid new within p f q =
    then_cut (IsFaultText asked fault) (TellsSome asked l from end) contents p.text stop old mid new p.puts.written p.puts.unfailed
    (λ line is. (
      suc j,
      within,
      p.told ++ fault ∷ [],
      (
        f.reason,
        f.told,
        f.silent,
        p.told,
        p.text,
        p.tells,
        subst (λ (o : Option Refusal). TellsMore asked o p.told p.text (p.told ++ fault ∷ []) (p.text ++ line)) f.is
            (refl, line, is, refl),
      ),
    )) q

-- the findings of the transaction that it ends, or none
pub findings_part : (asked : Asking) (l : JudgedLine) (ended : Option EndedTransaction) (advice : List Advice) (from : ℕ)
    (text : List ℕ) → IsNoneOr (ended_lines asked advice ended) text → TellsPart asked l ended advice from text
findings_part asked l ended advice from text (inl e) = inl e
findings_part asked l ended advice from text (inr e) =
    inr ([], (0, omega arith, [], (refl, refl)), e ∙ sym (append-nil (ended_lines asked advice ended)))

-- all of them, and some faults
pub faults_part : (asked : Asking) (l : JudgedLine) (ended : Option EndedTransaction) (advice : List Advice) (from : ℕ)
    (found lines : List ℕ)
    → found ≡ ended_lines asked advice ended → TellsSome asked l from (fields_end l.cut.kind) lines
    → TellsPart asked l ended advice from (found ++ lines)
faults_part asked l ended advice from found lines e s = inr (lines, s, ap (λ (l : List ℕ). l ++ lines) e)

-- the same line, judged at the state
pub part_at : (asked : Asking) (h : HeldLine) (judged : Judged) (from : ℕ) (old : Walk) (text : List ℕ)
    → judged ≡ judged_as old.state (held_cut h)
    → TellsPart asked (judged_at old.state.lines (scope_by old.state.group) h judged) (ended_by judged old.state old.begun)
    (told_ended asked old.advice (ended_by judged old.state old.begun)) from text
    → WalksPart asked old (held_cut h) from text
part_at asked h judged from old text e t =
    subst
    (λ (j : Judged). TellsPart asked (judged_at old.state.lines (scope_by old.state.group) h j) (ended_by j old.state old.begun)
    (told_ended asked old.advice (ended_by j old.state old.begun)) from text) e t

-- all of a line is a part of it
pub whole_part : (asked : Asking) (h : HeldLine) (judged : Judged) (from count : ℕ) (old : Walk) (text : List ℕ)
    → judged ≡ judged_as old.state (held_cut h)
    → TellsOfLine asked (judged_at old.state.lines (scope_by old.state.group) h judged) (ended_by judged old.state old.begun)
    (told_ended asked old.advice (ended_by judged old.state old.begun)) from count text
    → WalksPart asked old (held_cut h) from text
whole_part asked h judged from count old text e t =
    part_at asked h judged from old text e
    (inr (t.1.lines, (fields_end (held_cut h).kind, omega arith, t.0, t.1.tells), t.1.whole))

-- the refusal, and a part of what else is wrong with its line
pub first_part : (asked : Asking) (refusal : Refusal) (cut : LineCut) (from : ℕ) (old : Walk) (line beside : List ℕ)
    → from ≡ min (refusal.field + 1) (2 ^ 8 - 1) → IsFaultText asked refusal line → WalksPart asked old cut from beside
    → IsFirstPart asked old refusal cut (line ++ beside)
first_part asked refusal cut from old line beside e is p = record {
  line = line;
  first = is;
  beside = beside;
  part = subst (λ (k : ℕ). WalksPart asked old cut k beside) e p;
  whole = refl;
}

-- or of that line a part, and nothing else
pub refusal_part : (asked : Asking) (refusal : Refusal) (cut : LineCut) (old : Walk) (line : List ℕ)
    → IsFaultText asked refusal line → IsFirstPart asked old refusal cut line
refusal_part asked refusal cut old line is =
    record { line = line; first = is; beside = []; part = inl refl; whole = sym (append-nil line) }

-- ---- lines

pub next_part : (asked : Asking) (left mid : Option (List ℕ)) (before raw : RawLine) (old : LintRun) (text : List ℕ)
    → old.state.over ≡ false → before.ended ≡ true → ReadsLine left mid raw
    → WalksPart asked (walk_of old) (held_cut (held_raw raw)) 1 text → TakesNextPart asked left before old text
next_part asked left mid before raw old text on ended r p = inr (record {
  on = on;
  goes = ended;
  raw = raw;
  mid = mid;
  read = r;
  part = subst (λ (c : LineCut). WalksPart asked (walk_of old) c 1 text) (raw_cut r.line raw r.holds) p;
})

-- the lines so far, and a part of the next one
pub run_part : (asked : Asking) (left mid : Option (List ℕ)) (ended : Bool) (before : RawLine) (old between : LintRun) (count : ℕ)
    (text more : List ℕ) → RunSoFar asked left mid ended before old between count text
    → TakesNextPart asked mid before between more → TakesSome asked left ended old (text ++ more)
run_part asked left mid ended before old between count text more p (inl e) = record {
  bytes = p.takes.bytes;
  mid = mid;
  taken = p.takes.taken;
  lines = p.takes.lines;
  last = before.ended;
  goes = p.takes.goes;
  no_lf = p.takes.no_lf;
  walks = record {
    front = p.takes.lines;
    told = p.takes.told;
    first = text;
    between = walk_of between;
    walks = p.takes.walks;
    later = more;
    last = inl (refl, e);
    whole = refl;
  };
}
run_part asked left mid ended before old between count text more p (inr q) =
    let line : List ℕ = q.read.line in record {
      bytes = p.takes.bytes ++ spelled q.raw.ended line;
      mid = q.mid;
      taken = Consumes-trans left mid q.mid p.takes.bytes (spelled q.raw.ended line) p.takes.taken q.read.taken;
      lines = p.takes.lines ++ line ∷ [];
      last = q.raw.ended;
      goes =
          goes_both ended before.ended q.raw.ended p.takes.bytes (spelled q.raw.ended line) p.takes.lines (line ∷ []) p.takes.goes
          (subst (λ (b : Bool). GoesOn b (spelled q.raw.ended line) (line ∷ []) q.raw.ended) (sym q.goes)
          (goes_line line q.raw.ended));
      no_lf = all_more p.takes.lines line p.takes.no_lf q.read.holds.no_lf;
      walks = record {
        front = p.takes.lines;
        told = p.takes.told;
        first = text;
        between = walk_of between;
        walks = p.takes.walks;
        later = more;
        last = inr (line, refl, q.on, q.part);
        whole = refl;
      };
    }

-- ---- all that is told

-- the line of the refusal, and those after it
pub from_part : (asked : Asking) (refusal : Refusal) (left : Option (List ℕ)) (raw : RawLine) (old : LintRun) (text : List ℕ)
    → TakesFromPart asked refusal raw old left text
    → TellsUpTo asked (walk_of old) refusal raw left text
from_part asked refusal left raw old text (inl f) = record {
  bytes = [];
  mid = left;
  taken = Consumes-nil left;
  lines = [];
  last = raw.ended;
  goes = goes_none raw.ended;
  no_lf = tt;
  told = λ refused holds. inl (
    refl,
    subst (λ (c : LineCut). IsFirstPart asked (walk_of old) refusal c text) (raw_cut refused raw holds) f,
  );
}
from_part asked refusal left raw old text (inr (between, beside, first, later, rest, e)) = record {
  bytes = rest.bytes;
  mid = rest.mid;
  taken = rest.taken;
  lines = rest.lines;
  last = rest.last;
  goes = rest.goes;
  no_lf = rest.no_lf;
  told = λ refused holds. inr (inl (record {
    line = first.line;
    first = first.first;
    others = first.takes.told;
    beside = first.beside;
    between = walk_of between;
    tells_others =
        subst (λ (c : LineCut). WalksLine asked (walk_of old) c (min (refusal.field + 1) (2 ^ 8 - 1)) first.takes.told first.beside
        (walk_of between)) (raw_cut refused raw holds) first.takes.walks;
    later = later;
    walks = rest.walks;
    whole = e ∙ ap (λ (l : List ℕ). l ++ later) first.whole;
  }));
}

-- all was told, and of the sums a part
pub sums_part : (asked : Asking) (begins : Walk) (refusal : Refusal) (left after : Option (List ℕ)) (raw : RawLine)
    (text end more : List ℕ) → TellsToEnd asked begins refusal raw left after (text ++ end) → IsFrontOf end more
    → TellsUpTo asked begins refusal raw left (text ++ more)
sums_part asked begins refusal left after raw text end more t f = record {
  bytes = t.bytes;
  mid = after;
  taken = t.taken;
  lines = t.lines;
  last = t.last;
  goes = t.goes;
  no_lf = t.no_lf;
  told = λ refused holds. inr (inr (
    t.over,
    text ++ end,
    t.told refused holds,
    (f.0, ap (λ (l : List ℕ). text ++ l) f.1 ∙ sym (append_assoc text more f.0)),
  ));
}

-- all was told, with the sums
pub run_whole : (asked : Asking) (begins : Walk) (refusal : Refusal) (last : LastBytes) (left after : Option (List ℕ))
    (text : List ℕ) → TellsRun asked begins refusal last left after text → TellsLastUpTo asked begins refusal last left text
run_whole asked begins refusal last left after text t = record {
  between = t.between;
  raw = t.raw;
  held = t.held;
  read = t.read;
  tells =
      subst (TellsUpTo asked begins refusal t.raw t.between) (append-nil text)
      (sums_part asked begins refusal t.between after t.raw text [] []
      (subst (TellsToEnd asked begins refusal t.raw t.between after) (sym (append-nil text)) t.tells) ([], refl));
}

-- ---- how a run ends

pub cut_as : (P Q : List ℕ → Type 0) (fault : ToolFault) (text : List ℕ) → ((it : List ℕ) → P it → Q it)
    → IsCutText P fault text → IsCutText Q fault text
cut_as P Q (faults.Writer written) text f p = (p.0, f (text ++ p.0) p.1)
cut_as P Q faults.Memory text f p = f text p
cut_as P Q faults.Reader text f p = f text p
cut_as P Q (faults.Refused refusal) text f p = f text p
cut_as P Q (faults.Truncated records) text f p = f text p
cut_as P Q faults.Output text f p = f text p
cut_as P Q (faults.Limit limit) text f p = f text p

-- the writer failed: the first bytes are written
front_written : {W : Type 0} (P : List ℕ → Type 0) (contents : W → Option (List ℕ)) (start : Option (List ℕ)) (new : W) (n : ℕ)
    (text : List ℕ) (sink : Sink W) → P text → Keeps (contents (writer_of sink)) (contents new)
    → HasWritten contents start text sink
    → (it : List ℕ) × IsCutText (λ l. IsUnread (faults.Writer n) l ⊎ P l) (faults.Writer n) it × Appends start (contents new) it
front_written P contents start new n text sink p kept h = (
  h.bytes,
  (h.rest, inr (subst P h.split p)),
  appends_kept start (contents (writer_of sink)) (contents new) h.bytes h.appended kept,
)

whole_written : {W : Type 0} (contents : W → Option (List ℕ)) (start : Option (List ℕ)) (new : W) (text : List ℕ) (sink : Sink W)
    → has_failed sink ≡ false → Keeps (contents (writer_of sink)) (contents new)
    → HasWritten contents start text sink → Appends start (contents new) text
whole_written contents start new text sink unfailed kept h =
    (all_written contents start text text sink new (written_of sink) refl unfailed kept refl h).appended

fault_ends : {W : Type 0} (P : List ℕ → Type 0) (contents : W → Option (List ℕ)) (start : Option (List ℕ)) (new : W) (n : ℕ)
    (fault : ToolFault) (text : List ℕ) (sink : Sink W) → IsUnread fault text ⊎ P text
    → UnlessWriter fault (has_failed sink ≡ false) → Keeps (contents (writer_of sink)) (contents new)
    → HasWritten contents start text sink
    → (it : List ℕ) × IsCutText (λ l. IsUnread (counted n fault) l ⊎ P l) (counted n fault) it × Appends start (contents new) it
fault_ends P contents start new n (faults.Writer written) text sink (inl p) unfailed kept h = absurd p
fault_ends P contents start new n (faults.Writer written) text sink (inr p) unfailed kept h =
    front_written P contents start new n text sink p kept h
fault_ends P contents start new n faults.Memory text sink p unfailed kept h =
    (text, p, whole_written contents start new text sink unfailed kept h)
fault_ends P contents start new n faults.Reader text sink p unfailed kept h =
    (text, p, whole_written contents start new text sink unfailed kept h)
fault_ends P contents start new n (faults.Refused refusal) text sink p unfailed kept h =
    (text, p, whole_written contents start new text sink unfailed kept h)
fault_ends P contents start new n (faults.Truncated records) text sink p unfailed kept h =
    (text, p, whole_written contents start new text sink unfailed kept h)
fault_ends P contents start new n faults.Output text sink p unfailed kept h =
    (text, p, whole_written contents start new text sink unfailed kept h)
fault_ends P contents start new n (faults.Limit limit) text sink p unfailed kept h =
    (text, p, whole_written contents start new text sink unfailed kept h)

-- what is written where a run ends with a fault, its own or that of the last flush
pub ends_cut : {W : Type 0} (P Q : List ℕ → Type 0) (contents : W → Option (List ℕ)) (writer new : W) (found : Verdict) (n : ℕ)
    (text : List ℕ) (begun sink : Sink W) (told : Result (Unit {0}) ToolFault) (a b : ℕ) (result : Result Verdict ToolFault)
    → ((it : List ℕ) → P it → Q it) → IfOk told (λ u. P text) → LeavesOrUnread Q contents told begun sink
    → has_failed begun ≡ false → HasWritten contents (contents writer) [] begun → HasWritten contents (contents writer) text sink
    → Keeps (contents (writer_of sink)) (contents new) → EndsRun found n told a b result
    → AppendsUpTo contents writer new result Q
ends_cut P Q contents writer new found n text begun sink (Ok u) a b (Ok verdict) f p q unfailed empty h kept e = tt
ends_cut P Q contents writer new found n text begun sink (Ok u) a b (Err (faults.Writer written)) f p q unfailed empty h kept e =
    front_written Q contents (contents writer) new written text sink (f text p) kept h
ends_cut P Q contents writer new found n text begun sink (Ok u) a b (Err faults.Reader) f p q unfailed empty h kept e = absurd e
ends_cut P Q contents writer new found n text begun sink (Ok u) a b (Err faults.Memory) f p q unfailed empty h kept e = absurd e
ends_cut P Q contents writer new found n text begun sink (Ok u) a b (Err (faults.Refused other)) f p q unfailed empty h kept e = absurd e
ends_cut P Q contents writer new found n text begun sink (Ok u) a b (Err (faults.Truncated records)) f p q unfailed empty h kept e =
    absurd e
ends_cut P Q contents writer new found n text begun sink (Ok u) a b (Err faults.Output) f p q unfailed empty h kept e = absurd e
ends_cut P Q contents writer new found n text begun sink (Ok u) a b (Err (faults.Limit limit)) f p q unfailed empty h kept e = absurd e
ends_cut P Q contents writer new found n text begun sink (Err fault) a b result f p q unfailed empty h kept e =
    subst (λ (r : Result Verdict ToolFault). AppendsUpTo contents writer new r Q) (sym e.0)
    (fault_ends Q contents (contents writer) new n fault q.0 sink q.2 (q.1.unfailed unfailed) kept
    (q.1.written (contents writer) [] empty))
