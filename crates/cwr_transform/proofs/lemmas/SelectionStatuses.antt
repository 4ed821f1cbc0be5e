-- The status of a selection is right of its text.
use Rattle.std.proofs.Common.{◌≡◌, ◌==◌, ℕ, ◌<◌, Bool, true, false, ◌||◌, List, [], length, drop, Option, Some, None, refl, sym, ap, subst, ◌∙◌, inl, inr, arith, true≢false}
use Rattle.std.specs.Prelude.{◌⊎◌, IfSome, OnOk, Result, Ok, Err, if◌then◌else◌}
use Rattle.std.proofs.lemmas.Bool.{eqb-false, eqb-true}
use Rattle.cwr_shape.specs.declared.limits.Limits.{Limits}
use Rattle.cwr_moments.specs.declared.moments.Moment.{Moment}
use Rattle.cwr_values.specs.Format.Values.{TransmissionValue}
use Rattle.cwr_judge.specs.Format.Ends.{IsAccepted}
use Rattle.cwr_decode.specs.Format.Runs.{TakesFront}
use Rattle.cwr_tools.specs.declared.verdicts.ToolFault.{ToolFault}
use Rattle.cwr_tools.specs.declared.verdicts.ToolFault.TheVariants as tool_faults
use Rattle.cwr_tools.specs.Format.Viewing.{SeesText}
use Rattle.cwr_tools.specs.Format.Watching.{is_reached}
use Rattle.cwr_select.specs.declared.changes.Changes.{Changes}
use Rattle.cwr_select.specs.declared.reports.SelectReport.{SelectReport}
use Rattle.cwr_select.specs.Format.Selecting.{Selects, select_report}
use Rattle.cwr_select.specs.Format.Selections.{Choice, selected_count}
use Rattle.cwr_select.specs.Steps.Selecting.{HasFewItems}
use Rattle.cwr_endings.specs.declared.endings.Look.{Look}
use Rattle.cwr_endings.specs.declared.endings.Look.TheVariants as looks
use Rattle.cwr_endings.specs.declared.endings.Status.{Status}
use Rattle.cwr_endings.specs.declared.endings.Status.TheVariants as statuses
use Rattle.cwr_endings.specs.declared.endings.Wanted.{Wanted}
use Rattle.cwr_endings.specs.declared.stops.Stop.{Stop}
use Rattle.cwr_endings.specs.Steps.Looks.{IsLook, follows, good_status, status_after}
use Rattle.cwr_endings.proofs.lemmas.StatusesOnTexts.{nothing_left, something_left}
use Rattle.cwr_transform.specs.declared.select_views.SelectView.{SelectView}
use Rattle.cwr_transform.specs.declared.selections.Selected.{Selected}
use Rattle.cwr_transform.specs.declared.sought.Sought.{Sought}
use Rattle.cwr_transform.specs.Format.Missing.{placed}
use Rattle.cwr_transform.specs.Format.Selections.{Asking, HasSelectStatus, IsSelectStatus}
use Rattle.cwr_transform.specs.Steps.Selections.{EndsBy, EndsSelected, EndsWith, LooksAfterSelecting, SeesAll, SeesBy, SeesSelected}
use Rattle.cwr_transform.specs.Steps.Selections.{asked_by, is_empty, selected_status, short_status, with_memory}
use Rattle.cwr_transform.specs.Steps.SelectViews.{has_seen}
use Rattle.cwr_transform.specs.Steps.Sought.{lacks_sought, numbers_sought, places_sought}
use Rattle.cwr_transform.proofs.lemmas.SelectionsSeen.{HasSeenAll, seen_all}
use Rattle.cwr_transform.proofs.lemmas.SoughtValues.{lacks_right}

-- ---- what was seen of the text

module _ {C : Type 0} (limits : Limits) (wanted : Wanted) (choice : C → Choice) (first now : SelectView C) where
  -- where memory wasn't refused, and the transmission is the one that was taken
  all_seen : (look : Look) (found : Bool) (text : List ℕ) (mid after : Option (List ℕ)) (report : SelectReport)
      (t : (v : TransmissionValue) × TakesFront limits (Some text) v mid
      × (report ≡ select_report (choice first.choice.now) v)) → IsLook mid after look
      → found ≡ is_reached wanted.fail_on now.findings.count.worst → now.findings.lacks_memory ≡ false
      → HasFewItems limits (Some text) → SeesText limits (has_seen choice first) (Some text) first now
      → has_seen choice first first []
      → SeesAll (asked_by limits wanted choice first) text look now.is_same_moment (lacks_sought now.sought) found
      (is_empty (Ok report))
  all_seen look found text mid after report t looked is memory few seen fresh =
      let v = t.0 in
      let n : ℕ = length t.1.input in
      let accepted : IsAccepted limits text v n = t.1.front.0 in
      let known : HasSeenAll choice first now v =
      seen_all choice first now v (omega (arith, few v n accepted)) (seen v n accepted [] fresh) in
      record {
        value = v;
        count = n;
        accepted = accepted;
        after = after;
        looked = subst (λ (m : Option (List ℕ)). IsLook m after look) t.1.front.1 looked;
        moment = known.moment;
        lacks = lacks_right _ _ _ _ (placed v) now.sought known.sought;
        finds = is ∙ (known.findings memory).worst wanted.fail_on;
        none = ap (λ (r : SelectReport). r.selected == 0) t.2;
      }

  -- what it was, where that is known
  abbrev Sees : Option (List ℕ) → Result SelectReport ToolFault → Type 0
  Sees before (Ok report) = SeesText limits (has_seen choice first) before first now × HasFewItems limits before
  Sees before (Err fault) = Unit {0}

  abbrev Asked : Asking
  Asked = asked_by limits wanted choice first

  pub run_sees : (changes : Changes) (look : Look) (found : Bool) (before mid after : Option (List ℕ))
      (old new : Option (List ℕ)) (outcome : Result SelectReport ToolFault) (lacks : Bool)
      → Selects limits changes (choice first.choice.now) before mid old new outcome
      → LooksAfterSelecting mid after (with_memory outcome lacks) look
      → found ≡ is_reached wanted.fail_on now.findings.count.worst → (lacks ≡ false → now.findings.lacks_memory ≡ false)
      → Sees before outcome → has_seen choice first first []
      → SeesBy Asked before (with_memory outcome lacks) look now.is_same_moment (lacks_sought now.sought) found
      (is_empty (with_memory outcome lacks))
  run_sees changes look found before mid after old new (Ok report) true s l is memory seen fresh = tt
  run_sees changes look found None mid after old new (Ok report) false s l is memory seen fresh = tt
  run_sees changes look found (Some text) mid after old new (Ok report) false s l is memory seen fresh =
      all_seen look found text mid after report (s.value, s.taken, s.reported) l is (memory refl) seen.1 seen.0 fresh
  run_sees changes look found before mid after old new (Err tool_faults.Reader) lacks s l is memory seen fresh = tt
  run_sees changes look found before mid after old new (Err (tool_faults.Writer n)) lacks s l is memory seen fresh = tt
  run_sees changes look found before mid after old new (Err tool_faults.Memory) lacks s l is memory seen fresh = tt
  run_sees changes look found before mid after old new (Err (tool_faults.Refused r)) lacks s l is memory seen fresh = s
  run_sees changes look found before mid after old new (Err (tool_faults.Truncated n)) lacks s l is memory seen fresh = s
  run_sees changes look found before mid after old new (Err tool_faults.Output) lacks s l is memory seen fresh = tt
  run_sees changes look found before mid after old new (Err (tool_faults.Limit k)) lacks s l is memory seen fresh = s

  both_seen : (before : Option (List ℕ)) (outcome : Result SelectReport ToolFault)
      → OnOk outcome ((from : SelectView C) → SeesText limits (has_seen choice from) before first now)
      → OnOk outcome (HasFewItems limits before) → Sees before outcome
  both_seen before (Ok report) h few = (h first, few)
  both_seen before (Err fault) h few = tt

  pub sees_so : {W : Type 0} (changes : Changes) (by : C) (look : Look) (found missing empty : Bool) (before mid after : Option (List ℕ))
      (contents : W → Option (List ℕ)) (old new : W) (outcome ended : Result SelectReport ToolFault) (lacks : Bool)
      → first.choice.now ≡ by → Selects limits changes (choice by) before mid (contents old) (contents new) outcome
      → ended ≡ with_memory outcome lacks → empty ≡ is_empty ended → missing ≡ lacks_sought now.sought
      → LooksAfterSelecting mid after ended look → found ≡ is_reached wanted.fail_on now.findings.count.worst
      → (lacks ≡ false → now.findings.lacks_memory ≡ false)
      → OnOk outcome ((from : SelectView C) → SeesText limits (has_seen choice from) before first now)
      → OnOk outcome (HasFewItems limits before) → has_seen choice first first []
      → SeesBy Asked before ended look now.is_same_moment missing found empty
  sees_so changes by look found missing empty before mid after contents old new outcome ended lacks same h e s m l is memory seen few fresh =
      subst (λ (b : Bool). SeesBy Asked before ended look now.is_same_moment missing found b) (sym s)
      (subst (λ (b : Bool). SeesBy Asked before ended look now.is_same_moment b found (is_empty ended)) (sym m)
      (subst (λ (o : Result SelectReport ToolFault). SeesBy Asked before o look now.is_same_moment (lacks_sought now.sought) found (is_empty o))
      (sym e)
      (run_sees changes look found before mid after (contents old) (contents new) outcome lacks
      (subst (λ (it : C). Selects limits changes (choice it) before mid (contents old) (contents new) outcome) (sym same) h)
      (subst (λ (o : Result SelectReport ToolFault). LooksAfterSelecting mid after o look) e l) is memory (both_seen before outcome seen few)
      fresh)))

-- ---- the status

module _ (a : Asking) (text : List ℕ) (look : Look) (missing found empty : Bool) where
  abbrev Is : Status → Type 0
  Is status = IsSelectStatus a text status

  -- something is short of what is asked
  short : SeesAll a text look false missing found empty → (missing ≡ true) ⊎ (empty ≡ true) → Is statuses.Refused
  short h which = inr (inr (
    h.value,
    h.count,
    h.accepted,
    record {
      other = sym h.moment;
      lacks = elim which [
        | inl e ↦ inr (inl (sym h.lacks ∙ e))
        | inr e ↦ inl (eqb-true (selected_count a.choice h.value) 0 (sym h.none ∙ e))
      ];
    },
  ))

  -- nothing is
  all : (h : SeesAll a text look false missing found empty) → missing ≡ false → empty ≡ false → found ≡ false
      → (a.wanted.whole ≡ true → drop h.count text ≡ []) → Is statuses.Good
  all h m e f whole = (
    h.value,
    h.count,
    h.accepted,
    record {
      other = sym h.moment;
      some = positive (selected_count a.choice h.value) (eqb-false (selected_count a.choice h.value) 0 (sym h.none ∙ e));
      all = sym h.lacks ∙ m;
      whole = whole;
      calm = sym h.finds ∙ f;
    },
  ) where
    positive : (n : ℕ) → (n ≡ 0 → ⊥) → 0 < n
    positive n ne = omega (arith, ne)

  -- something follows
  follows_on : (h : SeesAll a text look false missing found empty) → a.wanted.whole ≡ true → (drop h.count text ≡ [] → ⊥)
      → Is statuses.Refused
  follows_on h whole some = inr (inr (h.value, h.count, h.accepted, record { other = sym h.moment; lacks = inr (inr (inl (whole, some))) }))

  finds : (h : SeesAll a text look false missing found empty) → found ≡ true → Is statuses.Refused
  finds h f = inr (inr (h.value, h.count, h.accepted, record { other = sym h.moment; lacks = inr (inr (inr (sym h.finds ∙ f))) }))

  which_short : (m e : Bool) → missing ≡ m → empty ≡ e → (m || e) ≡ true → (missing ≡ true) ⊎ (empty ≡ true)
  which_short true e p q s = inl p
  which_short false true p q s = inr q
  which_short false false p q s = absurd (true≢false (sym s))

  none_short : (m e : Bool) → missing ≡ m → empty ≡ e → (m || e) ≡ false → (missing ≡ false) × (empty ≡ false)
  none_short true e p q s = absurd (true≢false s)
  none_short false true p q s = absurd (true≢false s)
  none_short false false p q s = (p, q)

  by_short : (s : Bool) → (missing || empty) ≡ s → (h : SeesAll a text look false missing found empty) → found ≡ false
      → (a.wanted.whole ≡ true → drop h.count text ≡ []) → (status : Status)
      → short_status s (Some statuses.Good) ≡ Some status → Is status
  by_short true e h f whole status is =
      let so : statuses.Refused ≡ status = cc is in subst Is so (short h (which_short missing empty refl refl e))
  by_short false e h f whole status is =
      let so : statuses.Good ≡ status = cc is in
      let none = none_short missing empty refl refl e in subst Is so (all h none.0 none.1 f whole)

  refused_short : (s : Bool) (status : Status) → short_status s (Some statuses.Refused) ≡ Some status → statuses.Refused ≡ status
  refused_short true status is = cc is
  refused_short false status is = cc is

  by_follows : (b : Bool) (h : SeesAll a text look false missing found empty) → (b ≡ false → drop h.count text ≡ [])
      → (b ≡ true → drop h.count text ≡ [] → ⊥) → found ≡ false → a.wanted.whole ≡ true → (status : Status)
      → short_status (missing || empty) (if b then Some statuses.Refused else Some statuses.Good) ≡ Some status → Is status
  by_follows true h none some f whole status is =
      subst Is (refused_short (missing || empty) status is) (follows_on h whole (some refl))
  by_follows false h none some f whole status is = by_short (missing || empty) refl h f (λ w. none refl) status is

  none_status : (s : Bool) (status : Status) → short_status s None ≡ Some status → ⊥
  none_status true status is = cc
  none_status false status is = cc

  by_look : (l : Look) → look ≡ l → (h : SeesAll a text look false missing found empty) → found ≡ false → a.wanted.whole ≡ true
      → (status : Status) → short_status (missing || empty) (status_after l) ≡ Some status → Is status
  by_look (looks.Found t) e h f whole status is =
      let left : Option (List ℕ) = Some (drop h.count text) in
      let looked : IsLook left h.after (looks.Found t) = subst (IsLook left h.after) e h.looked in
      by_follows (follows t) h (nothing_left left h.after t looked) (something_left left h.after t looked) f whole status is
  by_look looks.Failed e h f whole status is = absurd (none_status (missing || empty) status is)
  by_look looks.Unasked e h f whole status is = absurd (subst (IsLook (Some (drop h.count text)) h.after) e h.looked)

  by_whole : (w : Bool) → a.wanted.whole ≡ w → (h : SeesAll a text look false missing found empty) → found ≡ false → (status : Status)
      → short_status (missing || empty) (if w then status_after look else Some statuses.Good) ≡ Some status → Is status
  by_whole true e h f status is = by_look look refl h f e status is
  by_whole false e h f status is =
      by_short (missing || empty) refl h f (λ w. absurd (true≢false (sym w ∙ e))) status is

  by_found : (f : Bool) → found ≡ f → (h : SeesAll a text look false missing found empty) → (status : Status)
      → short_status (missing || empty) (good_status a.wanted look f) ≡ Some status → Is status
  by_found true e h status is = subst Is (refused_short (missing || empty) status is) (finds h e)
  by_found false e h status is = by_whole a.wanted.whole refl h e status is

by_same : (a : Asking) (text : List ℕ) (look : Look) (same missing found empty : Bool) → SeesAll a text look same missing found empty
    → (status : Status)
    → (if same then Some statuses.CommandLine else short_status (missing || empty) (good_status a.wanted look found)) ≡ Some status
    → IsSelectStatus a text status
by_same a text look true missing found empty h status is =
    let so : statuses.CommandLine ≡ status = cc is in
    subst (IsSelectStatus a text) so (h.value, h.count, h.accepted, sym h.moment)
by_same a text look false missing found empty h status is = by_found a text look missing found empty found refl h status is

-- ---- how a run ends

module _ (a : Asking) (left : Option (List ℕ)) (s : Selected) (ending : Result Status Stop) where
  ends_ok : (status : Status) → ending ≡ Ok status → IfSome left (λ text. IsSelectStatus a text status) → HasSelectStatus a left ending
  ends_ok status e h = subst (HasSelectStatus a left) (sym e) h

  ends_err : (stop : Stop) → ending ≡ Err stop → HasSelectStatus a left ending
  ends_err stop e = subst (HasSelectStatus a left) (sym e) tt

  known : (report : SelectReport) (known : Option (List ℕ)) (o : Option Status) → known ≡ left → selected_status a.wanted s ≡ o
      → SeesBy a known (Ok report) s.look s.is_same_moment s.is_missing s.found s.is_empty → EndsWith s.read o ending
      → HasSelectStatus a left ending
  known report o None same is h e = ends_err _ e
  known report None (Some status) same is h e =
      ends_ok status e (subst (λ (o : Option (List ℕ)). IfSome o (λ text. IsSelectStatus a text status)) same tt)
  known report (Some text) (Some status) same is h e =
      ends_ok status e (subst (λ (o : Option (List ℕ)). IfSome o (λ text. IsSelectStatus a text status)) same
      (by_same a text s.look s.is_same_moment s.is_missing s.found s.is_empty h status is))

  if_so : (P Q : List ℕ → Type 0) (o : Option (List ℕ)) → ((text : List ℕ) → P text → Q text) → IfSome o P → IfSome o Q
  if_so P Q None so h = tt
  if_so P Q (Some text) so h = so text h

  pub status_ends : (written made : Stop) → SeesSelected a left s → EndsSelected a.wanted written made s ending → HasSelectStatus a left ending
  status_ends written made sees ends = by s.outcome sees ends where
    by : (outcome : Result SelectReport ToolFault) → SeesBy a left outcome s.look s.is_same_moment s.is_missing s.found s.is_empty
        → EndsBy written made s.read outcome (selected_status a.wanted s) ending → HasSelectStatus a left ending
    by (Ok report) h e = known report left (selected_status a.wanted s) refl refl h e
    by (Err tool_faults.Reader) h e = ends_err _ e
    by (Err (tool_faults.Writer n)) h e = ends_err _ e
    by (Err tool_faults.Memory) h e = ends_err _ e
    by (Err (tool_faults.Refused r)) h e = ends_ok statuses.Refused e (if_so _ _ left (λ text k. inl (r, k)) h)
    by (Err (tool_faults.Truncated n)) h e = ends_ok statuses.Refused e (if_so _ _ left (λ text k. inr (inl (n, k))) h)
    by (Err tool_faults.Output) h e = ends_err _ e
    by (Err (tool_faults.Limit l)) h e = absurd h

-- ---- what is asked

pub asked_so : {C : Type 0} (limits : Limits) (wanted : Wanted) (choice : C → Choice) (view : SelectView C) (by : C)
    (moment : Option Moment) (sought : Sought) → view.choice.now ≡ by → view.created ≡ moment → view.sought ≡ sought
    → asked_by limits wanted choice view
    ≡ record {
      limits = limits;
      wanted = wanted;
      moment = moment;
      choice = choice by;
      numbers = numbers_sought sought;
      places = places_sought sought;
    }
asked_so {C = C} limits wanted choice view by moment sought c m s =
    let asks : Choice → Option Moment → Sought → Asking = λ ch mo so. record {
      limits = limits;
      wanted = wanted;
      moment = mo;
      choice = ch;
      numbers = numbers_sought so;
      places = places_sought so;
    } in
    ap (λ (b : C). asks (choice b) view.created view.sought) c ∙ ap (λ (o : Option Moment). asks (choice by) o view.sought) m
    ∙ ap (asks (choice by) moment) s

pub asked_listed : (limits : Limits) (wanted : Wanted) (moment : Option Moment) (choice other : Choice)
    (numbers works : Option (List (List ℕ))) (places listed : Option (List (ℕ × ℕ))) → choice ≡ other → numbers ≡ works → places ≡ listed
    → (left : Option (List ℕ)) (ending : Result Status Stop)
    → HasSelectStatus (record { limits = limits; wanted = wanted; moment = moment; choice = choice; numbers = numbers; places = places }) left
    ending
    → HasSelectStatus (record { limits = limits; wanted = wanted; moment = moment; choice = other; numbers = works; places = listed }) left
    ending
asked_listed limits wanted moment choice other numbers works places listed c n p left ending h =
    let asks : Choice → Option (List (List ℕ)) → Option (List (ℕ × ℕ)) → Asking = λ ch nu pl.
    record { limits = limits; wanted = wanted; moment = moment; choice = ch; numbers = nu; places = pl } in
    subst (λ (o : Option (List (ℕ × ℕ))). HasSelectStatus (asks other works o) left ending) p
    (subst (λ (o : Option (List (List ℕ))). HasSelectStatus (asks other o places) left ending) n
    (subst (λ (o : Choice). HasSelectStatus (asks o numbers places) left ending) c h))
