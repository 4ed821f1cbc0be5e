-- What is told of one line, step by step.
use Rattle.std.proofs.Common.{◌≡◌, ℕ, suc, ◌+◌, ◌-◌, ◌<◌, ◌≤◌, min, Bool, true, false, List, [], ◌∷◌, ◌++◌, length, Option, Some}
use Rattle.std.proofs.Common.{None, refl, sym, ap, subst, ◌∙◌, arith}
use Rattle.std.specs.Prelude.{◌^◌, ◌==◌, ◌&&◌, is_some, Result, Ok, Err, IfOk}
use Rattle.std.proofs.lemmas.Bool.{eqb-true}
use Rattle.std.proofs.lemmas.List.{length-append}
use Rattle.cwr_fields.specs.declared.kinds.Kind.{Kind}
use Rattle.cwr_fields.specs.declared.kinds.Kind.TheVariants.{Trl}
use Rattle.cwr_lines.specs.Steps.Held.{HeldLine, held_kind}
use Rattle.cwr_shape.specs.declared.tallies.Scope.{Scope}
use Rattle.cwr_judge.specs.declared.refusals.Refusal.{Refusal}
use Rattle.cwr_devices.specs.declared.sinks.Sink.{Sink}
use Rattle.cwr_tools.specs.declared.verdicts.ToolFault.{ToolFault}
use Rattle.cwr_tools.specs.declared.verdicts.ToolFault.TheVariants as faults
use Rattle.cwr_advice.specs.declared.rules.Advice.{Advice}
use Rattle.cwr_lint_lines.specs.declared.judged_lines.Judged.{Judged}
use Rattle.cwr_lint_lines.specs.declared.judged_lines.Judged.TheVariants.{Unknown, Known as Of}
use Rattle.cwr_lint.specs.declared.linting.LintRun.{LintRun}
use Rattle.cwr_lines.specs.Format.Records.{RecordValue}
use Rattle.cwr_lint_lines.specs.declared.states.LintState.{LintState}
use Rattle.cwr_lint_lines.specs.Format.FaultsAtFields.{JudgedLine, LineCut, fields_end, one_more_line}
use Rattle.cwr_lint.specs.Format.FaultsOfLines.{Asking, EndedTransaction, IsFaultText, Tells, TellsLine, TellsMore, ended_lines}
use Rattle.cwr_lint_lines.specs.Steps.JudgedLines.{IsFaultFrom, IsJudged, ends_by, judged_as, judged_at, scope_by}
use Rattle.cwr_lint_lines.specs.Steps.Cells.{held_cut}
use Rattle.cwr_lint.specs.Steps.Walks.{AfterJudged, counts_ended, ended_at, ended_by, findings_after, is_quiet, judged_line, state_by, told_ended}
use Rattle.cwr_lint.specs.Steps.Puts.{PutsAfter, PutsWith}
use Rattle.cwr_lint.specs.Steps.Runs.{TakesFirst, TakesLine, TellsOfLine, TellsSoMany, more_faults}
use Rattle.cwr_lint.proofs.lemmas.TextsPut.{none_put, put_both, put_err, put_ok}

-- ---- the faults at the fields

-- the faults that were told so far, and how many they are
pub record ToldSoFar {W : Type 0} (contents : W → Option (List ℕ)) (failures : W → ℕ) (asked : Asking) (l : JudgedLine)
    (from j count : ℕ) (old new : Sink W) : Type 0 where
  pub told : List Refusal
  pub text : List ℕ
  pub puts : PutsAfter {A = Unit {0}} contents failures text (Ok tt) old new
  pub tells : Tells asked l from j told text
  pub counted : count ≡ length told
  pub few : count ≤ j

pub told_none : {W : Type 0} (contents : W → Option (List ℕ)) (failures : W → ℕ) (asked : Asking) (l : JudgedLine) (from : ℕ)
    (sink : Sink W) → 1 ≤ from → ToldSoFar contents failures asked l from 1 0 sink sink
told_none contents failures asked l from sink some = record {
  told = [];
  text = [];
  puts = none_put contents failures tt sink;
  tells = (None, λ h. absurd (omega (arith, some, h)), λ h. refl, [], [], (refl, refl), (refl, refl));
  counted = refl;
  few = omega arith;
}

pub told_same : {W : Type 0} (contents : W → Option (List ℕ)) (failures : W → ℕ) (asked : Asking) (l : JudgedLine)
    (from j count : ℕ) (old new : Sink W) → ToldSoFar contents failures asked l from j count old new → IsFaultFrom l from j None
    → ToldSoFar contents failures asked l from (suc j) count old new
told_same contents failures asked l from j count old new p f = record {
  told = p.told;
  text = p.text;
  puts = p.puts;
  tells = (
    f.reason,
    f.told,
    f.silent,
    p.told,
    p.text,
    p.tells,
    subst (λ (o : Option Refusal). TellsMore asked o p.told p.text p.told p.text) f.is (refl, refl),
  );
  counted = p.counted;
  few = omega (arith, p.few);
}

pub told_more : {W : Type 0} (contents : W → Option (List ℕ)) (failures : W → ℕ) (asked : Asking) (l : JudgedLine)
    (from j count more : ℕ) (fault : Refusal) (line : List ℕ) (old mid new : Sink W) → j < 2 ^ 8 → more ≡ min (count + 1)
    (2 ^ 64 - 1)
    → ToldSoFar contents failures asked l from j count old mid → IsFaultFrom l from j (Some fault)
    → PutsAfter {A = Unit {0}} contents failures line (Ok tt) mid new → IsFaultText asked fault line
    → ToldSoFar contents failures asked l from (suc j) more old new
told_more contents failures asked l from j count more fault line old mid new small counts p f put is = record {
  told = p.told ++ fault ∷ [];
  text = p.text ++ line;
  puts = put_both contents failures tt (Ok tt) p.text line old mid new p.puts put;
  tells = (
    f.reason,
    f.told,
    f.silent,
    p.told,
    p.text,
    p.tells,
    subst (λ (o : Option Refusal). TellsMore asked o p.told p.text (p.told ++ fault ∷ []) (p.text ++ line)) f.is
        (refl, line, is, refl),
  );
  counted = omega (arith, small, counts, p.few, p.counted, length-append p.told (fault ∷ []));
  few = omega (arith, counts, p.few);
}

pub told_all : {W : Type 0} (contents : W → Option (List ℕ)) (failures : W → ℕ) (asked : Asking) (l : JudgedLine)
    (from j count upto : ℕ) (old new : Sink W) → j ≡ upto → ToldSoFar contents failures asked l from j count old new
    → PutsWith (TellsSoMany asked l from upto) contents failures (Ok count) old new
told_all contents failures asked l from j count upto old new e p = (
  p.text,
  put_ok contents failures tt count p.text old new p.puts,
  (p.told, subst (λ (k : ℕ). Tells asked l from k p.told p.text) e p.tells, p.counted),
)

-- the last field was passed
some_fields : (kind : Option Kind) → 1 ≤ fields_end kind
some_fields None = omega arith
some_fields (Some k) = omega arith

pub at_end : (kind : Option Kind) (field end : ℕ) → end ≡ fields_end kind → end ≤ field → (1 ≤ end → field ≤ end)
    → field ≡ fields_end kind
at_end kind field end e past within =
    let some : 1 ≤ end = omega (arith, e, some_fields kind) in omega (arith, e, past, within some)

-- the writer failed under a fault
pub told_cut : {W A : Type 0} (P : A → List ℕ → Type 0) (contents : W → Option (List ℕ)) (failures : W → ℕ) (asked : Asking)
    (l : JudgedLine) (from j count : ℕ) (line : List ℕ) (fault : ToolFault) (old mid new : Sink W)
    → ToldSoFar contents failures asked l from j count old mid
    → PutsAfter {A = Unit {0}} contents failures line (Err fault) mid new → PutsWith P contents failures (Err fault) old new
told_cut {A = A} P contents failures asked l from j count line fault old mid new p put = (
  p.text ++ line,
  put_err {A = Unit {0}} {B = A} contents failures fault (p.text ++ line) old new
      (put_both contents failures tt (Err fault) p.text line old mid new p.puts put),
  tt,
)

-- ---- texts with an answer

pub with_err : {W A B : Type 0} (P : A → List ℕ → Type 0) (Q : B → List ℕ → Type 0) (contents : W → Option (List ℕ))
    (failures : W → ℕ) (fault : ToolFault) (old new : Sink W) → PutsWith P contents failures (Err fault) old new → PutsWith Q
    contents failures (Err fault) old new
with_err {A = A} {B = B} P Q contents failures fault old new p =
    (p.0, put_err {A = A} {B = B} contents failures fault p.0 old new p.1, tt)

-- memory is refused after a text
pub with_none : {W A B : Type 0} (P : A → List ℕ → Type 0) (Q : B → List ℕ → Type 0) (contents : W → Option (List ℕ))
    (failures : W → ℕ) (x : A) (old new : Sink W) → PutsWith P contents failures (Ok x) old new → PutsWith Q contents failures
    (Err faults.Memory) old new
with_none P Q contents failures x old new p =
    (p.0, record { written = p.1.written; unfailed = λ unfailed. tt; counts = p.1.counts; again = p.1.again }, tt)

-- what is so of each text that goes with an answer
with_all : {A : Type 0} (P Q : A → List ℕ → Type 0) (result : Result A ToolFault) (text more : List ℕ)
    → ((x : A) → P x text → Q x more) → IfOk result (λ x. P x text) → IfOk result (λ x. Q x more)
with_all P Q (Ok x) text more f p = f x p
with_all P Q (Err fault) text more f p = tt

pub with_after : {W A B : Type 0} (P : A → List ℕ → Type 0) (Q R : B → List ℕ → Type 0) (contents : W → Option (List ℕ))
    (failures : W → ℕ) (x : A) (result : Result B ToolFault) (old mid new : Sink W)
    → ((text more : List ℕ) (y : B) → P x text → Q y more → R y (text ++ more))
    → PutsWith P contents failures (Ok x) old mid → PutsWith Q contents failures result mid new
    → PutsWith R contents failures result old new
with_after P Q R contents failures x result old mid new f p q = (
  p.0 ++ q.0,
  put_both contents failures x result p.0 q.0 old mid new p.1 q.1,
  with_all Q R result q.0 (p.0 ++ q.0) (λ y h. f p.0 q.0 y p.2 h) q.2,
)

pub with_other : {W A B : Type 0} (P : A → List ℕ → Type 0) (Q : B → List ℕ → Type 0) (contents : W → Option (List ℕ))
    (failures : W → ℕ) (x : A) (y : B) (old new : Sink W) → ((text : List ℕ) → P x text → Q y text)
    → PutsWith P contents failures (Ok x) old new → PutsWith Q contents failures (Ok y) old new
with_other P Q contents failures x y old new f p = (p.0, put_ok contents failures x y p.0 old new p.1, f p.0 p.2)

-- ---- a line

-- the findings, and then the faults
pub findings_then : (asked : Asking) (n : ℕ) (scope : Scope) (h : HeldLine) (judged : Judged) (ended : Option EndedTransaction)
    (advice : List Advice) (from : ℕ) (found lines : List ℕ) (count : ℕ) → found ≡ ended_lines asked advice ended → TellsSoMany asked
    (judged_at n scope h judged) from (fields_end (held_kind h)) count lines
    → TellsOfLine asked (judged_at n scope h judged) ended advice from count (found ++ lines)
findings_then asked n scope h judged ended advice from found lines count findings s =
    (s.0, record { lines = lines; tells = s.1; whole = ap (λ (l : List ℕ). l ++ lines) findings }, s.2)

ends_known : (h : HeldLine) (judged : Judged) → IsJudged h judged → ends_by judged ≡ true → held_kind h ≡ Some Trl
ends_known h Unknown j e = absurd (cc e)
ends_known h (Of known) j e = j.kind ∙ ap (λ (k : Kind). Some k) (j.ends e)

-- the same line, judged at the state
tells_at : (asked : Asking) (h : HeldLine) (judged : Judged) (from : ℕ) (state : LintState) (begun : Option (List RecordValue))
    (advice : List ℕ) (told : List Refusal) (text : List ℕ) → judged ≡ judged_as state (held_cut h)
    → TellsLine asked (judged_at state.lines (scope_by state.group) h judged) (ended_by judged state begun)
    (told_ended asked advice (ended_by judged state begun)) from told text
    → TellsLine asked (judged_line state (held_cut h)) (ended_at state begun (held_cut h))
    (told_ended asked advice (ended_at state begun (held_cut h))) from told text
tells_at asked h judged from state begun advice told text e t =
    subst
    (λ (j : Judged). TellsLine asked (judged_at state.lines (scope_by state.group) h j) (ended_by j state begun)
    (told_ended asked advice (ended_by j state begun)) from told text) e t

-- no fault was told
quiet_by : (count : ℕ) (told : List Refusal) → count ≡ length told → (count == 0) ≡ is_quiet told
quiet_by count [] e = ap (λ (n : ℕ). n == 0) e
quiet_by count (f ∷ told) e = by (count == 0) refl
  where
    by : (b : Bool) → (count == 0) ≡ b → b ≡ false
    by true z = absurd (omega (arith, e, eqb-true count 0 z))
    by false z = refl

-- it was gone on with
pub line_taken : (asked : Asking) (h : HeldLine) (judged : Judged) (from count : ℕ) (good : Bool) (old new : LintRun)
    (text : List ℕ) → IsJudged h judged → judged ≡ judged_as old.state (held_cut h)
    → TellsOfLine asked (judged_at old.state.lines (scope_by old.state.group) h judged) (ended_by judged old.state old.begun)
    (told_ended asked old.advice (ended_by judged old.state old.begun)) from count text
    → good ≡ ((count == 0) && (from == 1)) → new.state ≡ state_by judged old.state (held_cut h)
    → AfterJudged good judged (is_some new.state.stage) old.begun (held_cut h) new.begun
    → new.state.lines ≡ one_more_line old.state.lines → new.faults ≡ more_faults old.faults count
    → new.state.over ≡ ends_by judged → new.findings ≡ findings_after old.findings (ended_by judged old.state old.begun)
    → new.advice ≡ counts_ended asked old.advice (ended_by judged old.state old.begun)
    → TakesLine asked (held_cut h) from old new text
line_taken asked h judged from count good old new text j same t quiet state begun lines faults over findings advice = record {
  told = t.0;
  walks = record {
    tells = tells_at asked h judged from old.state old.begun old.advice t.0 text same t.1;
    state = state ∙ ap (λ (k : Judged). state_by k old.state (held_cut h)) same;
    begun =
        subst
        (λ (k : Judged). AfterJudged (is_quiet t.0 && (from == 1)) k (is_some new.state.stage) old.begun (held_cut h) new.begun)
        same
        (subst (λ (b : Bool). AfterJudged b judged (is_some new.state.stage) old.begun (held_cut h) new.begun)
        (quiet ∙ ap (λ (b : Bool). b && (from == 1)) (quiet_by count t.0 t.2)) begun);
    findings = findings ∙ ap (λ (k : Judged). findings_after old.findings (ended_by k old.state old.begun)) same;
    advice = advice ∙ ap (λ (k : Judged). counts_ended asked old.advice (ended_by k old.state old.begun)) same;
  };
  lines = lines;
  faults = faults ∙ ap (more_faults old.faults) t.2;
  over = λ e. ends_known h judged j (sym over ∙ e);
}

-- the refusal, and then what else is wrong with its line
pub first_taken : (asked : Asking) (refusal : Refusal) (cut : LineCut) (from : ℕ) (old new : LintRun) (line beside : List ℕ)
    → from ≡ min (refusal.field + 1) (2 ^ 8 - 1) → IsFaultText asked refusal line → TakesLine asked cut from old new beside
    → TakesFirst asked refusal cut old new (line ++ beside)
first_taken asked refusal cut from old new line beside e is t = record {
  line = line;
  first = is;
  beside = beside;
  takes = subst (λ (k : ℕ). TakesLine asked cut k old new beside) e t;
  whole = refl;
}
