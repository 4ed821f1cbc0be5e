-- What is told of lines, one after another.
use Rattle.std.proofs.Common.{◌≡◌, ℕ, ◌+◌, ◌-◌, ◌≤◌, min, Bool, true, false, true≢false, List, [], ◌∷◌, ◌++◌, length, Option}
use Rattle.std.proofs.Common.{Some, None, refl, sym, ap, subst, ◌∙◌, arith, inl, inr, append_assoc, append-nil}
use Rattle.std.specs.Prelude.{◌⊎◌, ◌^◌, IfSome, IsFalse}
use Rattle.std.specs.List.{AllByRecursion, list_any}
use Rattle.cwr_lines.specs.Format.Lines.{is_lf}
use Rattle.std.specs.Io.KnownBytes.{Consumes, IsAtEnd}
use Rattle.std.proofs.KnownBytes.{Consumes-nil, Consumes-trans}
use Rattle.std.proofs.lemmas.List.{length-append}
use Rattle.cwr_judge.specs.declared.refusals.Refusal.{Refusal}
use Rattle.cwr_findings.specs.Format.ReportLines.{faults_line}
use Rattle.cwr_advise.specs.Steps.AdviceCounts.{summary_by}
use Rattle.cwr_lint.specs.declared.linting.LintRun.{LintRun}
use Rattle.cwr_lint.specs.declared.raw_lines.RawLine.{RawLine}
use Rattle.cwr_lint_lines.specs.Format.FaultsAtFields.{LineCut, cut_of, one_more_line}
use Rattle.cwr_lint.specs.Format.FaultsOfLines.{Asking, count_after}
use Rattle.cwr_lint.specs.Steps.Walks.{Walk, WalksLine, WalksLines}
use Rattle.cwr_lint.specs.Format.Told.{truncated_unless}
use Rattle.cwr_lint_lines.specs.Steps.Cells.{held_cut}
use Rattle.cwr_lint.specs.Steps.LinesRead.{GoesOn, HoldsRaw, IsAllRead, ReadsLine, held_raw, spelled}
use Rattle.cwr_lint.specs.Steps.Runs.{BeginsAt, EndsAtTrl, IsEndText, TakesAll, TakesFirst, TakesFrom, TakesLine, TakesLines, sums_text}
use Rattle.cwr_lint.specs.Steps.Runs.{TakesNext, TakesNextIf, TakesNone, TakesRead, TellsToEnd, walk_of}
use Rattle.cwr_lint.proofs.lemmas.RawLines.{ends_with, goes_both, goes_line, goes_none, raw_cut}

-- ---- one line

pub next_taken : (asked : Asking) (left after : Option (List ℕ)) (before raw : RawLine) (old new : LintRun) (more : Bool)
    (text : List ℕ) → old.state.over ≡ false → before.ended ≡ true → ReadsLine left after raw → TakesRead asked
    (held_cut (held_raw raw)) old new more text
    → TakesNextIf asked before raw old new left after more text
next_taken asked left after before raw old new true text on ended r t =
    record {
      on = on;
      goes = ended;
      read = r;
      takes = subst (λ (c : LineCut). TakesLine asked c 1 old new text) (raw_cut r.line raw r.holds) t;
    }
next_taken asked left after before raw old new false text on ended r t = absurd t

pub none_left : (left : Option (List ℕ)) (before : RawLine) (run : LintRun) → (run.state.over ≡ true) ⊎ (before.ended ≡ false)
    → TakesNone left left before run run []
none_left left before run (inl e) = record { nothing = refl; same = refl; kept = Consumes-nil left; why = inl e }
none_left left before run (inr e) = record { nothing = refl; same = refl; kept = Consumes-nil left; why = inr (inl e) }

pub none_read : (left after : Option (List ℕ)) (before : RawLine) (run : LintRun)
    → Consumes left after [] × IfSome left (λ known. IsAtEnd after) → TakesNone left after before run run []
none_read left after before run r = record { nothing = refl; same = refl; kept = r.0; why = inr (inr r.1) }

-- ---- lines

walks_more : (asked : Asking) (old between new : Walk) (lines : List (List ℕ)) (line : List ℕ) (told here : List Refusal)
    (text more : List ℕ) → WalksLines asked old lines told text between → between.state.over ≡ false → WalksLine asked between
    (cut_of line) 1 here more new
    → WalksLines asked old (lines ++ line ∷ []) (told ++ here) (text ++ more) new
walks_more asked old between new [] line told here text more p on q = (
  ap (λ (w : Walk). w.state.over) (sym p.2) ∙ on,
  new,
  here,
  more,
  [],
  [],
  subst (λ (w : Walk). WalksLine asked w (cut_of line) 1 here more new) p.2 q,
  (refl, refl, refl),
  ap (λ (l : List Refusal). l ++ here) p.0 ∙ sym (append-nil here),
  ap (λ (l : List ℕ). l ++ more) p.1 ∙ sym (append-nil more),
)
walks_more asked old between new (first ∷ lines) line told here text more (opened_now, w, a, b, c, d, p, rest, e, f) on q = (
  opened_now,
  w,
  a,
  b,
  c ++ here,
  d ++ more,
  p,
  walks_more asked w between new lines line c here d more rest on q,
  ap (λ (l : List Refusal). l ++ here) e ∙ append_assoc a c here,
  ap (λ (l : List ℕ). l ++ more) f ∙ append_assoc b d more,
)

pub all_more : (lines : List (List ℕ)) (line : List ℕ) → AllByRecursion (λ l. IsFalse (list_any is_lf l)) lines
    → IsFalse (list_any is_lf line) → AllByRecursion (λ l. IsFalse (list_any is_lf l)) (lines ++ line ∷ [])
all_more [] line h k = (k, tt)
all_more (first ∷ lines) line h k = (h.0, all_more lines line h.1 k)

count_more : (n : ℕ) (lines : List (List ℕ)) (line : List ℕ)
    → count_after n (lines ++ line ∷ []) ≡ one_more_line (count_after n lines)
count_more n [] line = refl
count_more n (first ∷ lines) line = count_more (one_more_line n) lines line

pub lines_none : (asked : Asking) (left : Option (List ℕ)) (ended : Bool) (run : LintRun)
    → TakesLines asked left left ended ended run run []
lines_none asked left ended run = record {
  bytes = [];
  taken = Consumes-nil left;
  lines = [];
  goes = goes_none ended;
  no_lf = tt;
  told = [];
  walks = (refl, refl, refl);
  counted = refl;
  faults = λ few. omega (arith, few);
  over = λ e. inl (refl, e);
}

pub lines_more : (asked : Asking) (left mid after : Option (List ℕ)) (ended : Bool) (before raw : RawLine)
    (old between new : LintRun) (text more : List ℕ) → TakesLines asked left mid ended before.ended old between text → TakesNext
    asked mid after before raw between new more
    → TakesLines asked left after ended raw.ended old new (text ++ more)
lines_more asked left mid after ended before raw old between new text more p q =
    let line : List ℕ = q.read.line in record {
      bytes = p.bytes ++ spelled raw.ended line;
      taken = Consumes-trans left mid after p.bytes (spelled raw.ended line) p.taken q.read.taken;
      lines = p.lines ++ line ∷ [];
      goes =
          goes_both ended before.ended raw.ended p.bytes (spelled raw.ended line) p.lines (line ∷ []) p.goes
          (subst (λ (b : Bool). GoesOn b (spelled raw.ended line) (line ∷ []) raw.ended) (sym q.goes) (goes_line line raw.ended));
      no_lf = all_more p.lines line p.no_lf q.read.holds.no_lf;
      told = p.told ++ q.takes.told;
      walks =
          walks_more asked (walk_of old) (walk_of between) (walk_of new) p.lines line p.told q.takes.told text more p.walks q.on
          q.takes.walks;
      counted = q.takes.lines ∙ ap one_more_line p.counted ∙ sym (count_more old.state.lines p.lines line);
      faults = λ few. omega (arith, p.faults few, q.takes.faults, length-append p.told q.takes.told);
      over = λ e. inr (p.lines, line, refl, q.takes.over e);
    }

-- the lines that were read so far, of which the last one is this
pub record RunSoFar (asked : Asking) (left now : Option (List ℕ)) (ended : Bool) (before : RawLine) (old new : LintRun)
    (count : ℕ) (text : List ℕ) : Type 0 where
  pub takes : TakesLines asked left now ended before.ended old new text
  pub all : before.ended ≡ false → (ended ≡ false) ⊎ IsAllRead left now takes.bytes
  pub many : count ≤ length takes.bytes

pub run_none : (asked : Asking) (left : Option (List ℕ)) (first : RawLine) (run : LintRun)
    → RunSoFar asked left left first.ended first run run 0 []
unfolding lines_none
run_none asked left first run = record { takes = lines_none asked left first.ended run; all = λ e. inl e; many = omega arith }

pub run_more : (asked : Asking) (left mid after : Option (List ℕ)) (ended : Bool) (before raw : RawLine)
    (old between new : LintRun) (count : ℕ) (text more : List ℕ) → RunSoFar asked left mid ended before old between count text
    → TakesNext asked mid after before raw between new more
    → RunSoFar asked left after ended raw old new (count + 1) (text ++ more)
unfolding lines_more
run_more asked left mid after ended before raw old between new count text more p q = record {
  takes = lines_more asked left mid after ended before raw old between new text more p.takes q;
  all = λ e. inr (by (q.read.all e));
  many = omega (arith, p.many, q.read.some, length-append p.takes.bytes (spelled raw.ended q.read.line));
} where
  longer : (b : Bool) (line : List ℕ) → length line ≤ length (spelled b line)
  longer true line = omega (arith, length-append line (10 ∷ []))
  longer false line = omega arith

  by : IsAllRead mid after q.read.line → IsAllRead left after (p.takes.bytes ++ spelled raw.ended q.read.line)
  by (inl e) = inl (ends_with left mid after p.takes.bytes p.takes.taken e)
  by (inr n) = inr (omega (arith, n, longer raw.ended q.read.line, length-append p.takes.bytes (spelled raw.ended q.read.line)))

-- what stays the same where nothing more is read
kept_end : (left mid after : Option (List ℕ)) (bytes : List ℕ) → Consumes left mid bytes → Consumes mid after []
    → IfSome left (λ known. IsAtEnd mid) → IfSome left (λ known. IsAtEnd after)
kept_end None mid after bytes c k e = tt
kept_end (Some xs) None after bytes c k e = absurd c
kept_end (Some xs) (Some ys) None bytes c k e = absurd k
kept_end (Some xs) (Some ys) (Some zs) bytes c k e = sym k ∙ e

-- up to the end
pub run_ends : (asked : Asking) (left mid after : Option (List ℕ)) (ended : Bool) (before : RawLine) (old between new : LintRun)
    (count : ℕ) (text more : List ℕ) → RunSoFar asked left mid ended before old between count text → TakesNone mid after before
    between new more
    → TakesAll asked ended old new left after (text ++ more)
run_ends asked left mid after ended before old between new count text more p q = record {
  last = before.ended;
  takes = takes;
  cut = λ e. or_read (p.all e);
  all = λ e. by e q.why;
} where
  bytes_taken : Consumes left after p.takes.bytes
  bytes_taken =
      subst (Consumes left after) (append-nil p.takes.bytes) (Consumes-trans left mid after p.takes.bytes [] p.takes.taken q.kept)

  told_text : text ≡ text ++ more
  told_text = sym (append-nil text) ∙ ap (λ (l : List ℕ). text ++ l) (sym q.nothing)

  takes : TakesLines asked left after ended before.ended old new (text ++ more)
  takes = record {
    bytes = p.takes.bytes;
    taken = bytes_taken;
    lines = p.takes.lines;
    goes = p.takes.goes;
    no_lf = p.takes.no_lf;
    told = p.takes.told;
    walks =
        subst (λ (w : Walk). WalksLines asked (walk_of old) p.takes.lines p.takes.told (text ++ more) w) (sym (ap walk_of q.same))
        (subst (λ (l : List ℕ). WalksLines asked (walk_of old) p.takes.lines p.takes.told l (walk_of between)) told_text
        p.takes.walks);
    counted = ap (λ (r : LintRun). r.state.lines) q.same ∙ p.takes.counted;
    faults = λ few. ap (λ (r : LintRun). r.faults) q.same ∙ p.takes.faults few;
    over = λ e. p.takes.over (sym (ap (λ (r : LintRun). r.state.over) q.same) ∙ e);
  }

  read_on : IsAllRead left mid p.takes.bytes → IsAllRead left after p.takes.bytes
  read_on (inl e) = inl (kept_end left mid after p.takes.bytes p.takes.taken q.kept e)
  read_on (inr n) = inr n

  or_read : (ended ≡ false) ⊎ IsAllRead left mid p.takes.bytes → (ended ≡ false) ⊎ IsAllRead left after p.takes.bytes
  or_read (inl e) = inl e
  or_read (inr r) = inr (read_on r)

  by : new.state.over ≡ false → (between.state.over ≡ true) ⊎ (before.ended ≡ false) ⊎ IfSome mid (λ known. IsAtEnd after)
      → (ended ≡ false) ⊎ IsAllRead left after p.takes.bytes
  by e (inl over) = absurd (true≢false (sym over ∙ sym (ap (λ (r : LintRun). r.state.over) q.same) ∙ e))
  by e (inr (inl feedless)) = or_read (p.all feedless)
  by e (inr (inr end)) = inr (inl (ends_with left mid after p.takes.bytes p.takes.taken end))

pub run_many : (asked : Asking) (left now : Option (List ℕ)) (ended : Bool) (before : RawLine) (old new : LintRun) (count : ℕ)
    (text : List ℕ) → 2 ^ 64 - 1 ≤ count → RunSoFar asked left now ended before old new count text → TakesAll asked ended old new
    left now text
run_many asked left now ended before old new count text n p =
    record { last = before.ended; takes = p.takes; cut = p.all; all = λ e. inr (inr (omega (arith, n, p.many))) }

-- ---- all that is told

pub from_taken : (asked : Asking) (refusal : Refusal) (left after : Option (List ℕ)) (raw : RawLine) (old between new : LintRun)
    (beside later : List ℕ) → TakesFirst asked refusal (held_cut (held_raw raw)) old between beside → TakesAll asked raw.ended between
    new left after later
    → TakesFrom asked refusal raw old new left after (beside ++ later)
from_taken asked refusal left after raw old between new beside later p q =
    record { between = between; beside = beside; first = p; later = later; rest = q; whole = refl }

pub told_to_end : (asked : Asking) (refusal : Refusal) (left after : Option (List ℕ)) (raw : RawLine) (old new : LintRun)
    (text end : List ℕ) → BeginsAt refusal old → TakesFrom asked refusal raw old new left after text
    → IsEndText asked.all new.advice new.state.over new.faults new.findings new.state.lines end
    → TellsToEnd asked (walk_of old) refusal raw left after (text ++ end)
told_to_end asked refusal left after raw old new text end begins p e = record {
  bytes = p.rest.takes.bytes;
  taken = p.rest.takes.taken;
  lines = p.rest.takes.lines;
  last = p.rest.last;
  goes = p.rest.takes.goes;
  no_lf = p.rest.takes.no_lf;
  cut = p.rest.cut;
  over = new.state.over;
  told = λ refused holds. record {
    line = p.first.line;
    first = p.first.first;
    others = p.first.takes.told;
    beside = p.first.beside;
    between = walk_of p.between;
    tells_others =
        subst (λ (c : LineCut). WalksLine asked (walk_of old) c (min (refusal.field + 1) (2 ^ 8 - 1)) p.first.takes.told
        p.first.beside (walk_of p.between)) (raw_cut refused raw holds) p.first.takes.walks;
    later = p.rest.takes.told;
    after = p.later;
    last = walk_of new;
    tells_later = p.rest.takes.walks;
    over_is = refl;
    whole = whole;
  };
  ends = λ over refused holds. ends_at refused holds (p.rest.takes.over over);
  all = p.rest.all;
} where
  counted : p.between.state.lines ≡ one_more_line (refusal.rec - 1)
  counted = p.first.takes.lines ∙ ap one_more_line begins.lines

  lines_are : new.state.lines ≡ count_after (one_more_line (refusal.rec - 1)) p.rest.takes.lines
  lines_are = p.rest.takes.counted ∙ ap (λ (k : ℕ). count_after k p.rest.takes.lines) counted

  few : p.between.faults ≤ 2 ^ 64 - 1
  few = omega (arith, p.first.takes.faults)

  faults_are : new.faults ≡ min (1 + length p.first.takes.told + length p.rest.takes.told) (2 ^ 64 - 1)
  faults_are = omega (arith, p.rest.takes.faults few, p.first.takes.faults, begins.faults)

  end_is : end ≡ summary_by asked.all new.advice
      ++ sums_text new.state.over (min (1 + length p.first.takes.told + length p.rest.takes.told) (2 ^ 64 - 1)) new.findings
      (count_after (one_more_line (refusal.rec - 1)) p.rest.takes.lines)
  end_is = e
      ∙ ap (λ (k : ℕ). summary_by asked.all new.advice ++ sums_text new.state.over new.faults new.findings k) lines_are
      ∙ ap (λ (k : ℕ). summary_by asked.all new.advice ++ sums_text new.state.over k new.findings
      (count_after (one_more_line (refusal.rec - 1)) p.rest.takes.lines)) faults_are

  text_is : text ≡ p.first.line ++ p.first.beside ++ p.later
  text_is = p.whole ∙ ap (λ (l : List ℕ). l ++ p.later) p.first.whole

  whole : text ++ end ≡ p.first.line ++ p.first.beside ++ p.later ++ summary_by asked.all new.advice
      ++ truncated_unless new.state.over (count_after (one_more_line (refusal.rec - 1)) p.rest.takes.lines)
      ++ faults_line (min (1 + length p.first.takes.told + length p.rest.takes.told) (2 ^ 64 - 1)) new.findings
      (count_after (one_more_line (refusal.rec - 1)) p.rest.takes.lines)
  whole =
      ap (λ (l : List ℕ). l ++ end) text_is ∙ ap (λ (l : List ℕ). (p.first.line ++ p.first.beside ++ p.later) ++ l) end_is
      ∙ sym (append_assoc (p.first.line ++ p.first.beside ++ p.later) (summary_by asked.all new.advice) _)
      ∙ sym (append_assoc ((p.first.line ++ p.first.beside ++ p.later) ++ summary_by asked.all new.advice)
      (truncated_unless new.state.over (count_after (one_more_line (refusal.rec - 1)) p.rest.takes.lines)) _)

  ends_at : (refused : List ℕ) → HoldsRaw refused raw
      → ((p.rest.takes.lines ≡ []) × (p.between.state.over ≡ true)) ⊎ EndsAtTrl p.rest.takes.lines
      → EndsAtTrl (refused ∷ p.rest.takes.lines)
  ends_at refused holds (inl (none, over)) = (
    [],
    refused,
    ap (λ (l : List (List ℕ)). refused ∷ l) none,
    ap (λ (c : LineCut). c.kind) (sym (raw_cut refused raw holds))
        ∙ p.first.takes.over over,
  )
  ends_at refused holds (inr (front, line, is, kind)) = (refused ∷ front, line, ap (λ (l : List (List ℕ)). refused ∷ l) is, kind)
