-- The pieces on several files, with that of one more.
use Rattle.std.proofs.Common.{◌≡◌, ◌<◌, ℕ, Bool, true, false, List, [], ◌∷◌, ◌++◌, map, length, Option, None, Some, refl, sym, ap, subst, ◌∙◌, append-nil, append_assoc, inl, inr, true≢false}
use denote.Ref.{Bor}
use Rattle.std.specs.Prelude.{OnOk, Result, Ok, Err}
use Rattle.std.specs.Option.{is_some}
use Rattle.std.specs.List.{AllZip, concat}
use Rattle.std.specs.Io.KnownBytes.{Appends}
use Rattle.cwr_devices.specs.Format.Failures.{most_failures}
use Rattle.cwr_tools.specs.declared.verdicts.Verdict.{Verdict}
use Rattle.cwr_files.specs.declared.faults.Fault.{Fault}
use Rattle.cwr_files.specs.declared.faults.Fault.TheVariants as faults
use Rattle.cwr_files.specs.Format.Files.{Texts}
use Rattle.cwr_files.specs.Format.Inputs.{IsThereOrRead, IsUnopenedBy, is_standard, shown_name}
use Rattle.cwr_files.specs.Steps.Inputs.{IsLeftAt, IsLeftOf, IsThereFor, standard_left}
use Rattle.cwr_files.proofs.lemmas.Unopened.{by_unopened}
use Rattle.cwr_endings.specs.declared.endings.Status.{Status}
use Rattle.cwr_endings.specs.declared.endings.Status.TheVariants as statuses
use Rattle.cwr_endings.specs.declared.endings.Wanted.{Wanted}
use Rattle.cwr_endings.specs.declared.judgements.Judgement.{Judgement}
use Rattle.cwr_endings.specs.declared.stops.Stop.{Stop}
use Rattle.cwr_endings.specs.declared.stops.Stop.TheVariants as stops
use Rattle.cwr_endings.specs.declared.sums.Sums.{Sums}
use Rattle.cwr_endings.specs.Format.Endings.{worse_status}
use Rattle.cwr_endings.specs.Format.Puts.{PutsSums}
use Rattle.cwr_endings.specs.Format.Sums.{AreSums, sums_line}
use Rattle.cwr_endings.specs.Steps.Looks.{CountsLook}
use Rattle.cwr_reports.specs.declared.tellings.Asked.{Asked}
use Rattle.cwr_reports.specs.declared.tellings.Telling.{Telling}
use Rattle.cwr_reports.specs.Format.Endings.{telling_by}
use Rattle.cwr_reports.specs.Steps.Looks.{JudgesRead}
use Rattle.cwr_reports.specs.Steps.Marked.{AreLines, ArePieces, CountsEnd, CountsEnds, HasStatus, IsPiece, IsUnopened, MarksRead, Piece, TellsEach, TellsNext, lines_of, status_in, verdict_of, worst_from}
use Rattle.cwr_reports.specs.Steps.Several.{IsFirst}
use Rattle.cwr_reports.specs.Steps.Tellings.{CountsStop}

-- ---- one file

-- one that couldn't be opened
unopened_counted : {I : Type 0} (name : Option (List ℕ)) (standard : Option I) (old new : ℕ) (fault : Fault)
    → IsUnopenedBy name standard old new fault → IsUnopened (Err fault) × CountsEnd (Err fault) old new
unopened_counted name standard old new fault h =
    by_unopened name standard old new (λ (f : Fault). IsUnopened (Err f) × CountsEnd (Err f) old new) (λ is gone same. (tt, same))
    (λ of reason is word counted. (tt, counted)) fault h

worse_fault : (status : Status) → worse_status status statuses.Fault ≡ statuses.Fault
worse_fault statuses.Fault = refl
worse_fault statuses.CommandLine = refl
worse_fault statuses.Refused = refl
worse_fault statuses.Good = refl

module _ {W : Type 0} (asked : Asked) (explained : Bool) (held : Option Texts) (standard : Option (List ℕ)) (name : List ℕ)
    (contents : W → Option (List ℕ)) where
  pub unopened_next : {I : Type 0} (input : Option I) (lines : W) (old new : ℕ) (sums sums_now : Sums) (fault : Fault)
      → IsUnopenedBy (Some name) input old new fault → Appends (contents lines) (contents lines) []
      → ((ends : List (Option Verdict)) → AreSums sums ends → AreSums sums_now (ends ++ None ∷ []))
      → sums_now.status ≡ statuses.Fault
      → TellsNext asked explained held standard name contents lines lines old new sums sums_now (Ok tt)
  unopened_next input lines old new sums sums_now fault h none counted failed =
      let it = unopened_counted (Some name) input old new fault h in (
        record { lines = []; end = Err fault },
        inl (it.0, refl),
        none,
        it.1,
        counted,
        failed ∙ sym (worse_fault sums.status),
      )

  -- one that was judged
  pub read_next : {A B : Type 0} (left : Option (List ℕ)) (shown : Bor (List ℕ)) (other : List ℕ) (telling : Telling) (old new : W) (mid failures now : ℕ)
      (sums sums_now : Sums) (judgement : Judgement) (a : A) (b : B) → IsLeftOf held standard (Some name) left → HasStatus asked left (Ok judgement) → shown.now ≡ shown_name name → other ≡ shown_name name
      → telling ≡ telling_by asked explained shown → mid ≡ failures → CountsLook judgement.look mid now
      → MarksRead {A = A} {B = B} asked telling (Some other) left contents old new (Ok (judgement, a, b))
      → ((ends : List (Option Verdict)) → AreSums sums ends → AreSums sums_now (ends ++ Some judgement.verdict ∷ []))
      → sums_now.status ≡ worse_status sums.status judgement.status
      → TellsNext asked explained held standard name contents old new failures now sums sums_now (Ok tt)
  read_next left shown other telling old new mid failures now sums sums_now judgement a b is rated called marked_so by opened looked h counted worst = (
    record { lines = h.0; end = Ok judgement },
    inr (
      left,
      is,
      rated,
      shown,
      called,
      subst (λ (n : List ℕ). AreLines asked (telling_by asked explained shown) (Some n) left (Ok judgement) h.0) marked_so
          (subst (λ (t : Telling). AreLines asked t (Some other) left (Ok judgement) h.0) by h.1),
    ),
    h.2,
    subst (λ (n : ℕ). CountsLook judgement.look n now) opened looked,
    counted,
    worst,
  )

  -- one that failed while it was read
  pub failed_next : (A B : Type 0) (advice : Option (Bool × ℕ)) (wanted : Wanted) (left : Option (List ℕ)) (shown : Bor (List ℕ))
      (other : List ℕ) (telling : Telling) (old new : W)
      (mid failures now out out_now : ℕ) (sums sums_now : Sums) (fault : Fault) → IsLeftOf held standard (Some name) left
      → shown.now ≡ shown_name name → other ≡ shown_name name → telling ≡ telling_by asked explained shown → mid ≡ failures
      → JudgesRead {A = A} {B = B} advice asked.limits wanted left (Err (stops.Fault fault))
      → CountsStop {A = Judgement × A × B} (Err (stops.Fault fault)) mid now out out_now
      → MarksRead {A = A} {B = B} asked telling (Some other) left contents old new (Err (stops.Fault fault))
      → ((ends : List (Option Verdict)) → AreSums sums ends → AreSums sums_now (ends ++ None ∷ []))
      → sums_now.status ≡ statuses.Fault
      → TellsNext asked explained held standard name contents old new failures now sums sums_now (Ok tt)
  failed_next A B advice wanted left shown other telling old new mid failures now out out_now sums sums_now fault is called marked_so by opened judged stopped h
      counted failed = (
        record { lines = h.0; end = Err fault },
        inr (
          left,
          is,
          tt,
          shown,
          called,
          subst (λ (n : List ℕ). AreLines asked (telling_by asked explained shown) (Some n) left (Err fault) h.0) marked_so
              (subst (λ (t : Telling). AreLines asked t (Some other) left (Err fault) h.0) by h.1),
        ),
        h.2,
        subst (λ (n : ℕ). CountsEnd (Err fault) n now) opened (ended fault judged stopped),
        counted,
        failed ∙ sym (worse_fault sums.status),
      )
    where
      ended : (it : Fault) → JudgesRead {A = A} {B = B} advice asked.limits wanted left (Err (stops.Fault it))
          → CountsStop {A = Judgement × A × B} (Err (stops.Fault it)) mid now out out_now → CountsEnd (Err it) mid now
      ended (faults.Read told) j c = c.0
      ended faults.Memory j c = c.0
      ended (faults.Open of reason) j c = absurd j
      ended (faults.Write told) j c = absurd j
      ended (faults.Output of reason) j c = absurd j
      ended (faults.IsInput of) j c = absurd j
      ended (faults.IsThere of) j c = absurd j
      ended (faults.IsTwice of) j c = absurd j
      ended (faults.IsOther of) j c = absurd j
      ended (faults.IsLate of) j c = absurd j

-- where standard output or memory failed nothing more is said
pub stopped_next : {W : Type 0} (asked : Asked) (explained : Bool) (held : Option Texts) (standard : Option (List ℕ)) (name : List ℕ)
    (contents : W → Option (List ℕ)) (old new : W) (failures now : ℕ) (sums sums_now : Sums) (stop : Stop)
    → TellsNext asked explained held standard name contents old new failures now sums sums_now (Err stop)
stopped_next asked explained held standard name contents old new failures now sums sums_now stop = tt

-- ---- one more

pub zipped_more : {X Y : Type 0} (R : X → Y → Type 0) (xs : List X) (ys : List Y) (x : X) (y : Y) → AllZip R xs ys → R x y
    → AllZip R (xs ++ x ∷ []) (ys ++ y ∷ [])
zipped_more R [] [] x y all one = (one, tt)
zipped_more R [] (b ∷ ys) x y all one = absurd all
zipped_more R (a ∷ xs) [] x y all one = absurd all
zipped_more R (a ∷ xs) (b ∷ ys) x y all one = (all.0, zipped_more R xs ys x y all.1 one)

concat_more : (pieces : List Piece) (piece : Piece) → concat (map lines_of (pieces ++ piece ∷ [])) ≡ concat (map lines_of pieces) ++ piece.lines
concat_more [] piece = append-nil piece.lines
concat_more (it ∷ pieces) piece =
    ap (λ (t : List ℕ). it.lines ++ t) (concat_more pieces piece)
    ∙ sym (append_assoc it.lines (concat (map lines_of pieces)) piece.lines)

verdicts_more : (pieces : List Piece) (piece : Piece) → map verdict_of (pieces ++ piece ∷ []) ≡ map verdict_of pieces ++ verdict_of piece ∷ []
verdicts_more [] piece = refl
verdicts_more (it ∷ pieces) piece = ap (λ (t : List (Option Verdict)). verdict_of it ∷ t) (verdicts_more pieces piece)

pub ends_more : (pieces : List Piece) (piece : Piece) (old mid new : ℕ) → CountsEnds pieces old mid → CountsEnd piece.end mid new
    → CountsEnds (pieces ++ piece ∷ []) old new
ends_more [] piece old mid new h one = (new, subst (λ (n : ℕ). CountsEnd piece.end n new) h one, refl)
ends_more (it ∷ pieces) piece old mid new h one = (h.0, h.1, ends_more pieces piece h.0 mid new h.2 one)

pub worst_more_from : (status : Status) (pieces : List Piece) (piece : Piece)
    → worst_from status (pieces ++ piece ∷ []) ≡ worse_status (worst_from status pieces) (status_in piece.end)
worst_more_from status [] piece = refl
worst_more_from status (it ∷ pieces) piece = worst_more_from (worse_status status (status_in it.end)) pieces piece

pub appends_on : (a b c : Option (List ℕ)) (xs ys : List ℕ) → Appends a b xs → Appends b c ys → Appends a c (xs ++ ys)
appends_on None b c xs ys h k = tt
appends_on (Some x) None c xs ys h k = absurd h
appends_on (Some x) (Some y) None xs ys h k = absurd k
appends_on (Some x) (Some y) (Some z) xs ys h k = k ∙ ap (λ (l : List ℕ). l ++ ys) h ∙ append_assoc x xs ys

-- what is left of standard input, which is there once
pub first_of : {I : Type 0} (of_standard : I → Option (List ℕ)) (input : I) (standard : Option I) → IsThereOrRead input standard
    → IsFirst of_standard standard (of_standard input)
first_of {I = I} of_standard input standard lent =
    elim lent [
      | inl e ↦ λ there. ap (λ (o : Option I). standard_left of_standard o) e
      | inr e ↦ λ there. absurd (true≢false (sym there ∙ ap is_some e))
    ]

left_at : {I : Type 0} (b : Bool) (held : Option Texts) (of_standard : I → Option (List ℕ)) (standard : Option I) (first : Option (List ℕ))
    (name : List ℕ) (left : Option (List ℕ)) → IsLeftAt b held (standard_left of_standard standard) name left → IsThereFor b standard
    → IsFirst of_standard standard first → IsLeftAt b held first name left
left_at true held of_standard standard first name left h there is = h ∙ is there
left_at false None of_standard standard first name left h there is = tt
left_at false (Some texts) of_standard standard first name left h there is = h

pub left_first : {I : Type 0} (held : Option Texts) (of_standard : I → Option (List ℕ)) (standard : Option I) (first : Option (List ℕ))
    (name : List ℕ) (left : Option (List ℕ)) → IsLeftOf held (standard_left of_standard standard) (Some name) left
    → IsThereFor (is_standard (Some name)) standard → IsFirst of_standard standard first → IsLeftOf held first (Some name) left
left_first held of_standard standard first name left h there is =
    left_at (is_standard (Some name)) held of_standard standard first name left h there is

-- one file more
pub pieces_more : {W : Type 0} (asked : Asked) (explained : Bool) (held : Option Texts) (standard : Option (List ℕ)) (names : List (List ℕ))
    (name : List ℕ) (contents : W → Option (List ℕ)) (old mid new : W) (failures between now : ℕ) (sums sums_now : Sums)
    → (pieces : List Piece) × ArePieces asked explained held standard names contents old mid failures between sums pieces
    → TellsNext asked explained held standard name contents mid new between now sums sums_now (Ok tt)
    → (pieces : List Piece)
    × ArePieces asked explained held standard (names ++ name ∷ []) contents old new failures now sums_now pieces
pieces_more asked explained held standard names name contents old mid new failures between now sums sums_now before next =
    let pieces = before.0 in
    let h = before.1 in
    let piece = next.0 in (
      pieces ++ piece ∷ [],
      record {
        each = zipped_more (IsPiece asked explained held standard) names pieces name piece h.each next.1;
        written = subst (Appends (contents old) (contents new)) (sym (concat_more pieces piece))
            (appends_on (contents old) (contents mid) (contents new) (concat (map lines_of pieces)) piece.lines h.written next.2);
        counted = ends_more pieces piece failures between now h.counted next.3;
        summed = subst (AreSums sums_now) (sym (verdicts_more pieces piece)) (next.4 (map verdict_of pieces) h.summed);
        worst = next.5 ∙ ap (λ (s : Status). worse_status s (status_in piece.end)) h.worst ∙ sym (worst_more_from statuses.Good pieces piece);
      },
    )

pub no_pieces : {W : Type 0} (asked : Asked) (explained : Bool) (held : Option Texts) (standard : Option (List ℕ))
    (contents : W → Option (List ℕ)) (lines : W) (failures : ℕ) (sums : Sums) → Appends (contents lines) (contents lines) []
    → AreSums sums [] → sums.status ≡ statuses.Good
    → (pieces : List Piece) × ArePieces asked explained held standard [] contents lines lines failures failures sums pieces
no_pieces asked explained held standard contents lines failures sums none summed good =
    ([], record { each = tt; written = none; counted = refl; summed = summed; worst = good })

-- all of them, and the sums
pub tells_each : {W A : Type 0} (asked : Asked) (explained : Bool) (held : Option Texts) (standard : Option (List ℕ)) (names : List (List ℕ))
    (contents : W → Option (List ℕ)) (times : W → ℕ) (old mid new : W) (failures now : ℕ) (sums : Sums) (files : ℕ)
    (put : Result A Stop) (a : A) → put ≡ Ok a → files ≡ length names
    → (times old < most_failures → (pieces : List Piece) × ArePieces asked explained held standard names contents old mid failures now sums pieces)
    → times mid ≡ times old → OnOk put (times mid < most_failures)
    → ((ends : List (Option Verdict)) → AreSums sums ends → PutsSums contents times (sums_line files ends) put mid new)
    → TellsEach asked explained held standard names contents old new failures now (Ok sums.status)
tells_each {A = A} asked explained held standard names contents times old mid new failures now sums files put a e many before same few puts =
    let below : times old < most_failures =
    subst (λ (n : ℕ). n < most_failures) same (subst (λ (r : Result A Stop). OnOk r (times mid < most_failures)) e few) in
    let it = before below in
    let pieces = it.0 in
    let line : List ℕ = sums_line files (map verdict_of pieces) in
    let last = subst (λ (r : Result A Stop). PutsSums contents times line r mid new) e (puts (map verdict_of pieces) it.1.summed) in (
      pieces,
      it.1.each,
      subst (λ (n : ℕ). Appends (contents old) (contents new) (concat (map lines_of pieces) ++ sums_line n (map verdict_of pieces))) many
          (appends_on (contents old) (contents mid) (contents new) (concat (map lines_of pieces)) line it.1.written last.0),
      it.1.counted,
      it.1.worst,
    )
