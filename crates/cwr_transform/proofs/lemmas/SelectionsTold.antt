-- What is told of a selection is right of its text.
use Rattle.std.proofs.Common.{◌≡◌, ◌==◌, ℕ, ◌<◌, ◌^◌, Bool, true, false, not, ◌&&◌, ◌||◌, List, [], ◌++◌, length, drop, Option, Some, None, refl, sym, ap, subst, ◌∙◌, append-nil, inl, inr, arith, true≢false}
use Rattle.std.specs.Prelude.{IfOk, IfSome, OnOk, Result, Ok, Err, if◌then◌else◌, is_ok}
use Rattle.std.specs.Io.KnownBytes.{Appends, Keeps}
use Rattle.std.specs.List.{IsDistinct}
use Rattle.std.specs.Option.{option_map_or}
use Rattle.std.specs.Str.{bytes_eq}
use Rattle.std.proofs.lemmas.List.{length-map}
use Rattle.cwr_devices.specs.declared.sinks.Sink.{Sink}
use Rattle.cwr_devices.specs.declared.sinks.SinkFault.{SinkFault}
use Rattle.cwr_devices.specs.Steps.Sinks.{HasWritten, PutsText, has_failed, writer_of}
use Rattle.cwr_shape.specs.declared.limits.Limits.{Limits}
use Rattle.cwr_values.specs.declared.items.Item.{Item}
use Rattle.cwr_values.specs.Format.Values.{TransmissionValue}
use Rattle.cwr_judge.specs.Format.Ends.{IsAccepted}
use Rattle.cwr_judge.specs.Format.Items.{value_items}
use Rattle.cwr_decode.specs.Format.Runs.{TakesFront}
use Rattle.cwr_parts.specs.Format.Outcomes.{input_line}
use Rattle.cwr_tools.specs.declared.verdicts.ToolFault.{ToolFault}
use Rattle.cwr_tools.specs.declared.verdicts.ToolFault.TheVariants as tool_faults
use Rattle.cwr_tools.specs.Format.Viewing.{SeesText}
use Rattle.cwr_tools.specs.Format.Watching.{is_reached}
use Rattle.cwr_select.specs.declared.changes.Changes.{Changes}
use Rattle.cwr_select.specs.declared.reports.SelectReport.{SelectReport}
use Rattle.cwr_select.specs.Format.Criteria.{number_cell}
use Rattle.cwr_select.specs.Format.Selecting.{Selects, select_report}
use Rattle.cwr_select.specs.Format.Selections.{Choice}
use Rattle.cwr_select.specs.Steps.Selecting.{HasFewItems}
use Rattle.cwr_endings.specs.declared.endings.Look.{Look}
use Rattle.cwr_endings.specs.declared.endings.Look.TheVariants as looks
use Rattle.cwr_endings.specs.declared.endings.Status.{Status}
use Rattle.cwr_endings.specs.declared.endings.Status.TheVariants as statuses
use Rattle.cwr_endings.specs.declared.endings.Wanted.{Wanted}
use Rattle.cwr_endings.specs.declared.stops.Stop.{Stop}
use Rattle.cwr_endings.specs.Format.Puts.{HandsOn, PutsOut}
use Rattle.cwr_endings.specs.Steps.Looks.{IsLook, follows, good_status, status_after}
use Rattle.cwr_endings.proofs.lemmas.HandedOn.{puts_out}
use Rattle.cwr_endings.proofs.lemmas.StatusesOnTexts.{nothing_left, something_left}
use Rattle.cwr_files.specs.Format.Faults.{IfErr}
use Rattle.cwr_transform.specs.declared.select_views.SelectView.{SelectView}
use Rattle.cwr_transform.specs.declared.selections.Lists.{Lists}
use Rattle.cwr_transform.specs.declared.selections.Selected.{Selected}
use Rattle.cwr_transform.specs.declared.sought.Sought.{Sought}
use Rattle.cwr_transform.specs.declared.sought.SoughtNumbers.{SoughtNumbers}
use Rattle.cwr_transform.specs.declared.sought.SoughtPlaces.{SoughtPlaces}
use Rattle.cwr_transform.specs.Format.Missing.{Placed, numbers_of, placed, places_of, same_place}
use Rattle.cwr_transform.specs.Format.Selections.{Asking}
use Rattle.cwr_transform.specs.Format.SelectionsTold.{HandsOnSelection, IsSelectionTold, IsUnwanted, TellsSelection}
use Rattle.cwr_transform.specs.Format.Told.{numbers_told, places_told, selected_line, selection_told, told_of}
use Rattle.cwr_transform.specs.Steps.Selections.{EndsBy, EndsSelected, EndsWith, ListsSay, LooksAfterSelecting, TellsAll, TellsBy, TellsSelected, asked_by, asking_with, has_lines, is_empty, is_good, selected_status, short_status, with_memory}
use Rattle.cwr_transform.specs.Steps.SelectViews.{has_seen}
use Rattle.cwr_transform.specs.Steps.Sought.{AreNoted, FindsNumbers, HasEnded, HasFound, HasNoted, NotesNumbers, NotesPlaces, lacks_memory, lacks_sought, numbers_sought, places_sought}
use Rattle.cwr_transform.specs.Steps.TellingLists.{Knows, KnowsNumbers}
use Rattle.cwr_transform.proofs.lemmas.ListsTold.{are_lines}
use Rattle.cwr_transform.proofs.lemmas.SelectionsSeen.{HasSeenAll, seen_all}
use Rattle.cwr_transform.proofs.lemmas.SoughtValues.{bytes_equiv, lacks_right, noted_none, numbers_listed, places_listed}

-- ---- once all transactions came

pub has_seen_ended : {C : Type 0} (choice : C → Choice) (first now : SelectView C) (sought : Sought)
    → ((numbers : _) (places : _) (group place : ℕ) (ps : List Placed) → HasNoted numbers places group place ps now.sought
    → HasNoted numbers places group place ps sought)
    → (items : List Item) → has_seen choice first now items → has_seen choice first (record now { sought = sought }) items
has_seen_ended choice first now sought noted items h = λ few.
    let k = h few in
    record {
      ps = k.ps;
      on = k.on;
      groups = k.groups;
      transactions = k.transactions;
      choice_is = k.choice_is;
      created_is = k.created_is;
      findings = k.findings;
      few = k.few;
      sought = noted (numbers_sought first.sought) (places_sought first.sought) now.group now.transactions k.ps k.sought;
      moment = k.moment;
    }

text_ended : {C : Type 0} (limits : Limits) (choice : C → Choice) (first now : SelectView C) (sought : Sought)
    → ((numbers : _) (places : _) (group place : ℕ) (ps : List Placed) → HasNoted numbers places group place ps now.sought
    → HasNoted numbers places group place ps sought)
    → (before : Option (List ℕ)) → SeesText limits (has_seen choice first) before first now
    → SeesText limits (has_seen choice first) before first (record now { sought = sought })
text_ended limits choice first now sought noted None h = tt
text_ended limits choice first now sought noted (Some text) h = λ v n accepted items seen.
    has_seen_ended choice first now sought noted (items ++ value_items v) (h v n accepted items seen)

pub sees_ended : {C : Type 0} (limits : Limits) (choice : C → Choice) (first now : SelectView C) (sought : Sought)
    → ((numbers : _) (places : _) (group place : ℕ) (ps : List Placed) → HasNoted numbers places group place ps now.sought
    → HasNoted numbers places group place ps sought)
    → (before : Option (List ℕ)) (outcome : Result SelectReport ToolFault)
    → OnOk outcome ((from : SelectView C) → SeesText limits (has_seen choice from) before first now)
    → OnOk outcome ((from : SelectView C) → SeesText limits (has_seen choice from) before first (record now { sought = sought }))
sees_ended limits choice first now sought noted before (Ok report) h = λ from. by from before (h from) where
  by : (from : SelectView _) (before : Option (List ℕ)) → SeesText limits (has_seen choice from) before first now
      → SeesText limits (has_seen choice from) before first (record now { sought = sought })
  by from None h = tt
  by from (Some text) h = λ v n accepted items seen.
      has_seen_ended choice from now sought noted (items ++ value_items v) (h v n accepted items seen)
sees_ended limits choice first now sought noted before (Err fault) h = tt

-- ---- what is known then

knows_numbers : (listed : Option (List (List ℕ))) (group place : ℕ) (ps : List Placed) (s : Option SoughtNumbers)
    → NotesNumbers listed ps s → FindsNumbers listed group place ps s → length ps < 2 ^ 31 → group < 2 ^ 31
    → IfSome s (λ n. n.lacks_memory ≡ false) → IfSome s HasEnded → IfSome s (KnowsNumbers ps)
knows_numbers listed group place ps None notes finds few groups memory ended = tt
knows_numbers None group place ps (Some s) notes finds few groups memory ended = absurd notes
knows_numbers (Some listed) group place ps (Some s) notes finds few groups memory ended =
    let h : HasFound listed (numbers_of ps) (places_of ps) group place s = finds memory (omega (arith, few, length-map ps (λ p. number_cell p.records))) in
    record {
      can = record { rises = h.placed.rises; few = omega (arith, h.placed.groups, groups); sorted = ended.sorted };
      lines = are_lines ps group place s
          (subst (λ (l : List (List ℕ)). HasFound l (numbers_of ps) (places_of ps) group place s) (sym notes.0) h);
      told = noted_none bytes_eq bytes_equiv s.listed.now s.told.items
          (subst (λ (l : List (List ℕ)). IsDistinct bytes_eq l) (sym notes.0) notes.1.distinct) ended.sized ended.unset;
    }

knows_places : (listed : Option (List (ℕ × ℕ))) (ps : List Placed) (s : Option SoughtPlaces) → NotesPlaces listed ps s
    → IfSome s (λ p. AreNoted same_place p.listed.now p.found.items (places_of ps))
knows_places listed ps None notes = tt
knows_places None ps (Some s) notes = absurd notes
knows_places (Some listed) ps (Some s) notes =
    subst (λ (l : List (ℕ × ℕ)). AreNoted same_place l s.found.items (places_of ps)) (sym notes.0) notes.1

memory_of : (s : Option SoughtNumbers) → option_map_or (λ n. n.lacks_memory) s false ≡ false
    → IfSome s (λ n. n.lacks_memory ≡ false)
memory_of None e = tt
memory_of (Some n) e = e

module _ {C : Type 0} (limits : Limits) (wanted : Wanted) (choice : C → Choice) (first now : SelectView C) where
  knows_all : (v : TransmissionValue) → HasSeenAll choice first now v → lacks_memory now.sought ≡ false
      → IfSome now.sought.numbers HasEnded → Knows (placed v) now.sought
  knows_all v known memory ended = record {
    numbers_known = knows_numbers (numbers_sought first.sought) now.group now.transactions (placed v) now.sought.numbers known.sought.numbers_are
        known.sought.found known.few known.groups (memory_of now.sought.numbers memory) ended;
    places_known = knows_places (places_sought first.sought) (placed v) now.sought.places known.sought.places_are;
  }

  all_told : (look : Look) (found : Bool) (text : List ℕ) (mid after : Option (List ℕ)) (report : SelectReport)
      (t : (v : TransmissionValue) × TakesFront limits (Some text) v mid × (report ≡ select_report (choice first.choice.now) v))
      → IsLook mid after look → found ≡ is_reached wanted.fail_on now.findings.count.worst → now.findings.lacks_memory ≡ false
      → lacks_memory now.sought ≡ false → IfSome now.sought.numbers HasEnded → HasFewItems limits (Some text)
      → SeesText limits (has_seen choice first) (Some text) first now → has_seen choice first first []
      → TellsAll (asked_by limits wanted choice first) text report look now.is_same_moment (lacks_sought now.sought) found
      (is_empty (Ok report)) now.sought
  all_told look found text mid after report t looked is memory held ended few seen fresh =
      let v = t.0 in
      let n : ℕ = length t.1.input in
      let accepted : IsAccepted limits text v n = t.1.front.0 in
      let known : HasSeenAll choice first now v =
      seen_all choice first now v (omega (arith, few v n accepted)) (seen v n accepted [] fresh) in
      record {
        seen = record {
          value = v;
          count = n;
          accepted = accepted;
          after = after;
          looked = subst (λ (m : Option (List ℕ)). IsLook m after look) t.1.front.1 looked;
          moment = known.moment;
          lacks = lacks_right _ _ _ _ (placed v) now.sought known.sought;
          finds = is ∙ (known.findings memory).worst wanted.fail_on;
          none = ap (λ (r : SelectReport). r.selected == 0) t.2;
        };
        reported = t.2;
        numbers_are = numbers_listed (numbers_sought first.sought) (placed v) now.sought.numbers known.sought.numbers_are;
        places_are = places_listed (places_sought first.sought) (placed v) now.sought.places known.sought.places_are;
        knows = knows_all v known held ended;
      }

  abbrev Sees : Option (List ℕ) → Result SelectReport ToolFault → Type 0
  Sees before (Ok report) = SeesText limits (has_seen choice first) before first now × HasFewItems limits before
  Sees before (Err fault) = Unit {0}

  run_tells : (changes : Changes) (look : Look) (found : Bool) (before mid after : Option (List ℕ))
      (old new : Option (List ℕ)) (outcome : Result SelectReport ToolFault) (lacks : Bool)
      → Selects limits changes (choice first.choice.now) before mid old new outcome
      → LooksAfterSelecting mid after (with_memory outcome lacks) look
      → found ≡ is_reached wanted.fail_on now.findings.count.worst → (lacks ≡ false → now.findings.lacks_memory ≡ false)
      → (lacks ≡ false → lacks_memory now.sought ≡ false) → (lacks_memory now.sought ≡ false → IfSome now.sought.numbers HasEnded)
      → Sees before outcome → has_seen choice first first []
      → TellsBy (asked_by limits wanted choice first) before (with_memory outcome lacks) look now.is_same_moment (lacks_sought now.sought) found
      (is_empty (with_memory outcome lacks)) now.sought
  run_tells changes look found before mid after old new (Ok report) true s l is memory held ended seen fresh = tt
  run_tells changes look found None mid after old new (Ok report) false s l is memory held ended seen fresh = tt
  run_tells changes look found (Some text) mid after old new (Ok report) false s l is memory held ended seen fresh =
      all_told look found text mid after report (s.value, s.taken, s.reported) l is (memory refl) (held refl) (ended (held refl)) seen.1 seen.0
      fresh
  run_tells changes look found before mid after old new (Err tool_faults.Reader) lacks s l is memory held ended seen fresh = tt
  run_tells changes look found before mid after old new (Err (tool_faults.Writer n)) lacks s l is memory held ended seen fresh = tt
  run_tells changes look found before mid after old new (Err tool_faults.Memory) lacks s l is memory held ended seen fresh = tt
  run_tells changes look found before mid after old new (Err (tool_faults.Refused r)) lacks s l is memory held ended seen fresh = s
  run_tells changes look found before mid after old new (Err (tool_faults.Truncated n)) lacks s l is memory held ended seen fresh = s
  run_tells changes look found before mid after old new (Err tool_faults.Output) lacks s l is memory held ended seen fresh = tt
  run_tells changes look found before mid after old new (Err (tool_faults.Limit k)) lacks s l is memory held ended seen fresh = s

  both_seen : (before : Option (List ℕ)) (outcome : Result SelectReport ToolFault)
      → OnOk outcome ((from : SelectView C) → SeesText limits (has_seen choice from) before first now)
      → OnOk outcome (HasFewItems limits before) → Sees before outcome
  both_seen before (Ok report) h few = (h first, few)
  both_seen before (Err fault) h few = tt

  pub tells_so : {W : Type 0} (changes : Changes) (by : C) (look : Look) (found missing empty : Bool) (before mid after : Option (List ℕ))
      (contents : W → Option (List ℕ)) (old new : W) (outcome ended : Result SelectReport ToolFault) (lacks : Bool)
      → first.choice.now ≡ by → Selects limits changes (choice by) before mid (contents old) (contents new) outcome
      → ended ≡ with_memory outcome lacks → empty ≡ is_empty ended → missing ≡ lacks_sought now.sought
      → LooksAfterSelecting mid after ended look → found ≡ is_reached wanted.fail_on now.findings.count.worst
      → (lacks ≡ false → now.findings.lacks_memory ≡ false) → (lacks ≡ false → lacks_memory now.sought ≡ false)
      → (lacks_memory now.sought ≡ false → IfSome now.sought.numbers HasEnded)
      → OnOk outcome ((from : SelectView C) → SeesText limits (has_seen choice from) before first now)
      → OnOk outcome (HasFewItems limits before) → has_seen choice first first []
      → TellsBy (asked_by limits wanted choice first) before ended look now.is_same_moment missing found empty now.sought
  tells_so changes by look found missing empty before mid after contents old new outcome ended lacks same h e s m l is memory held done seen
      few fresh =
      let a : Asking = asked_by limits wanted choice first in
      subst (λ (b : Bool). TellsBy a before ended look now.is_same_moment missing found b now.sought) (sym s)
      (subst (λ (b : Bool). TellsBy a before ended look now.is_same_moment b found (is_empty ended) now.sought) (sym m)
      (subst (λ (o : Result SelectReport ToolFault).
      TellsBy a before o look now.is_same_moment (lacks_sought now.sought) found (is_empty o) now.sought)
      (sym e)
      (run_tells changes look found before mid after (contents old) (contents new) outcome lacks
      (subst (λ (it : C). Selects limits changes (choice it) before mid (contents old) (contents new) outcome) (sym same) h)
      (subst (λ (o : Result SelectReport ToolFault). LooksAfterSelecting mid after o look) e l) is memory held done
      (both_seen before outcome seen few) fresh)))

-- ---- what was put

put_ok : {W A E : Type 0} (contents : W → Option (List ℕ)) (failures : W → ℕ) (text : List ℕ) (result : Result A E) (old new : W)
    → PutsOut contents failures text result old new → OnOk result (Appends (contents old) (contents new) text)
put_ok contents failures text (Ok x) old new h = h.0
put_ok contents failures text (Err x) old new h = tt

pub report_so : (is : SelectReport → Type 0) (outcome : Result SelectReport ToolFault) (report : SelectReport) → outcome ≡ Ok report
    → is report → IfOk outcome is
report_so is outcome report e h = subst (λ (o : Result SelectReport ToolFault). IfOk o is) (sym e) h

pub fault_so : (is : ToolFault → Type 0) (outcome : Result SelectReport ToolFault) (fault : ToolFault) → outcome ≡ Err fault
    → is fault → IfErr outcome is
fault_so is outcome fault e h = subst (λ (o : Result SelectReport ToolFault). IfErr o is) (sym e) h

module _ {W : Type 0} (contents : W → Option (List ℕ)) (failures : W → ℕ) where
  -- nothing is put
  pub put_nothing : (sink : Sink W) → has_failed sink ≡ false → PutsText contents failures [] (Ok tt) sink sink
  put_nothing sink unfailed = record {
    written = λ start before h. subst (λ (l : List ℕ). HasWritten contents start l sink) (sym (append-nil before)) h;
    fault = tt;
    failed = unfailed;
    failures_counted = λ u. refl;
    again = λ e. refl;
  }

  -- a text that was put to a new sink is handed on
  pub text_out : (text : List ℕ) (put : Result (Unit {0}) SinkFault) (result : Result (Unit {0}) Stop) (old new : W) (before after : Sink W)
      → writer_of before ≡ old → HasWritten contents (contents old) [] before → has_failed before ≡ false
      → Keeps (contents (writer_of after)) (contents new) → HandsOn put result (failures (writer_of after)) (failures new)
      → PutsText contents failures text put before after → OnOk result (Appends (contents old) (contents new) text)
  text_out text put result old new before after is empty unfailed kept hands h =
      put_ok contents failures text result old new
      (puts_out contents failures text put result old new before after is h.failed (h.written (contents old) [] empty)
      (h.failures_counted unfailed) kept hands)

  pub lines_out : (text : SelectReport → List ℕ) (outcome : Result SelectReport ToolFault) (put : Result (Unit {0}) SinkFault)
      (result : Result (Unit {0}) Stop) (old new : W) (before after : Sink W) → writer_of before ≡ old
      → HasWritten contents (contents old) [] before → has_failed before ≡ false
      → Keeps (contents (writer_of after)) (contents new) → HandsOn put result (failures (writer_of after)) (failures new)
      → IfOk outcome (λ report. PutsText contents failures (text report) put before after)
      → IfOk outcome (λ report. OnOk result (Appends (contents old) (contents new) (text report)))
  lines_out text (Ok report) put result old new before after is empty unfailed kept hands h =
      text_out (text report) put result old new before after is empty unfailed kept hands h
  lines_out text (Err fault) put result old new before after is empty unfailed kept hands h = tt

  pub fault_out : (outcome : Result SelectReport ToolFault) (put : Result (Unit {0}) SinkFault)
      (result : Result (Unit {0}) Stop) (old new : W) (before after : Sink W) → writer_of before ≡ old
      → HasWritten contents (contents old) [] before → has_failed before ≡ false
      → Keeps (contents (writer_of after)) (contents new) → HandsOn put result (failures (writer_of after)) (failures new)
      → IfErr outcome (λ fault. PutsText contents failures (input_line fault) put before after)
      → IfErr outcome (λ fault. OnOk result (Appends (contents old) (contents new) (input_line fault)))
  fault_out (Ok report) put result old new before after is empty unfailed kept hands h = tt
  fault_out (Err fault) put result old new before after is empty unfailed kept hands h =
      text_out (input_line fault) put result old new before after is empty unfailed kept hands h

-- where that succeeded
pub ok_so : {A E P : Type 0} {x : A} (result : Result A E) → result ≡ Ok x → OnOk result P → P
ok_so {P = P} result e h = subst (λ r. OnOk r P) e h

pub handed_so : {A : Type 0} {x : A} (result : Result A Stop) (out : List ℕ) (ending : Result Status Stop) (on : Bool) → result ≡ Ok x
    → OnOk result (on ≡ true) → HandsOnSelection (Some out) ending on
handed_so result out (Ok statuses.Good) on e h = ok_so result e h
handed_so result out (Ok statuses.Refused) on e h = ok_so result e h
handed_so result out (Ok statuses.CommandLine) on e h = tt
handed_so result out (Ok statuses.Fault) on e h = tt
handed_so result out (Err stop) on e h = tt

pub ok_lines : {A : Type 0} {x : A} (is : SelectReport → Type 0) (outcome : Result SelectReport ToolFault) (result : Result A Stop)
    → result ≡ Ok x → IfOk outcome (λ report. OnOk result (is report)) → IfOk outcome is
ok_lines is (Ok report) result e h = ok_so result e h
ok_lines is (Err fault) result e h = tt

pub ok_fault : {A : Type 0} {x : A} (is : ToolFault → Type 0) (outcome : Result SelectReport ToolFault) (result : Result A Stop)
    → result ≡ Ok x → IfErr outcome (λ fault. OnOk result (is fault)) → IfErr outcome is
ok_fault is (Ok report) result e h = tt
ok_fault is (Err fault) result e h = ok_so result e h

-- ---- what is told

module _ {W : Type 0} (contents : W → Option (List ℕ)) (a : Asking) (numbers : Option (List (List ℕ))) (places : Option (List (ℕ × ℕ)))
    (text : List ℕ) (report : SelectReport) (look : Look) (missing found empty : Bool) (sought : Sought) (old new : W) where
  abbrev With : Asking
  With = asking_with a numbers places

  abbrev Told : Type 0
  Told = (told : List ℕ) × IsSelectionTold With text told × Appends (contents old) (contents new) told

  -- it is as it is wanted
  as_wanted : (h : TellsAll a text report look false missing found empty sought) → found ≡ false
      → (a.wanted.whole ≡ true → drop h.seen.count text ≡ [])
      → Appends (contents old) (contents new)
      (selected_line report ++ (told_of numbers_told numbers (placed h.seen.value) ++ told_of places_told places (placed h.seen.value))) → Told
  as_wanted h f whole added = (
    selection_told report numbers places h.seen.value,
    inr (inr (
      h.seen.value,
      h.seen.count,
      h.seen.accepted,
      inl (
        record {
          other = sym h.seen.moment;
          whole = whole;
          calm = sym h.seen.finds ∙ f;
        },
        ap (λ (r : SelectReport). selection_told r numbers places h.seen.value) h.reported,
      ),
    )),
    added,
  )

  not_wanted : {same : Bool} (h : TellsAll a text report look same missing found empty sought)
      → IsUnwanted With text h.seen.value h.seen.count → Appends (contents old) (contents new) [] → Told
  not_wanted h which added = ([], inr (inr (h.seen.value, h.seen.count, h.seen.accepted, inr (which, refl))), added)

  -- the lines are added where there are any, and else nothing is
  abbrev Added : List Placed → Bool → Type 0
  Added ps true = Appends (contents old) (contents new)
      (selected_line report ++ (told_of numbers_told numbers ps ++ told_of places_told places ps))
  Added ps false = Appends (contents old) (contents new) []

  told_follows : (b : Bool) (h : TellsAll a text report look false missing found empty sought)
      → (b ≡ false → drop h.seen.count text ≡ []) → (b ≡ true → drop h.seen.count text ≡ [] → ⊥) → found ≡ false → a.wanted.whole ≡ true
      → Added (placed h.seen.value) (is_good (if b then Some statuses.Refused else Some statuses.Good)) → Told
  told_follows true h none some f whole added = not_wanted h (inr (inl (whole, some refl))) added
  told_follows false h none some f whole added = as_wanted h f (λ w. none refl) added

  told_look : (l : Look) → look ≡ l → (status_after l ≡ None → ⊥) → (h : TellsAll a text report look false missing found empty sought)
      → found ≡ false → a.wanted.whole ≡ true → Added (placed h.seen.value) (is_good (status_after l)) → Told
  told_look (looks.Found t) e failed h f whole added =
      let left : Option (List ℕ) = Some (drop h.seen.count text) in
      let looked : IsLook left h.seen.after (looks.Found t) = subst (IsLook left h.seen.after) e h.seen.looked in
      told_follows (follows t) h (nothing_left left h.seen.after t looked) (something_left left h.seen.after t looked) f whole added
  told_look looks.Failed e failed h f whole added = absurd (failed refl)
  told_look looks.Unasked e failed h f whole added =
      absurd (subst (IsLook (Some (drop h.seen.count text)) h.seen.after) e h.seen.looked)

  told_whole : (w : Bool) → a.wanted.whole ≡ w → ((if w then status_after look else Some statuses.Good) ≡ None → ⊥)
      → (h : TellsAll a text report look false missing found empty sought) → found ≡ false
      → Added (placed h.seen.value) (is_good (if w then status_after look else Some statuses.Good)) → Told
  told_whole true e failed h f added = told_look look refl failed h f e added
  told_whole false e failed h f added = as_wanted h f (λ w. absurd (true≢false (sym w ∙ e))) added

  told_found : (f : Bool) → found ≡ f → (good_status a.wanted look f ≡ None → ⊥)
      → (h : TellsAll a text report look false missing found empty sought)
      → Added (placed h.seen.value) (is_good (good_status a.wanted look f)) → Told
  told_found true e failed h added = not_wanted h (inr (inr (sym h.seen.finds ∙ e))) added
  told_found false e failed h added = told_whole a.wanted.whole refl failed h e added

told_same : {W : Type 0} (contents : W → Option (List ℕ)) (a : Asking) (numbers : Option (List (List ℕ))) (places : Option (List (ℕ × ℕ)))
    (text : List ℕ) (report : SelectReport) (look : Look) (same missing found empty : Bool) (sought : Sought) (old new : W)
    → (h : TellsAll a text report look same missing found empty sought)
    → ((if same then Some statuses.CommandLine else short_status (missing || empty) (good_status a.wanted look found)) ≡ None → ⊥)
    → Added contents a numbers places text report look missing found empty sought old new (placed h.seen.value)
    (not same && is_good (good_status a.wanted look found))
    → (told : List ℕ) × IsSelectionTold (asking_with a numbers places) text told × Appends (contents old) (contents new) told
told_same contents a numbers places text report look true missing found empty sought old new h failed added =
    not_wanted contents a numbers places text report look missing found empty sought old new h (inl (sym h.seen.moment)) added
told_same contents a numbers places text report look false missing found empty sought old new h failed added =
    told_found contents a numbers places text report look missing found empty sought old new found refl
    (λ e. failed (none_short (missing || empty) (good_status a.wanted look found) e)) h added
  where
    none_short : (b : Bool) (o : Option Status) → o ≡ None → short_status b o ≡ None
    none_short true o e = ap (short_status true) e
    none_short false o e = e

-- ---- how a run ends

module _ {W : Type 0} (contents : W → Option (List ℕ)) (a : Asking) (numbers : Option (List (List ℕ))) (places : Option (List (ℕ × ℕ)))
    (left : Option (List ℕ)) (s : Selected) (lists : Lists) (sought : Sought) (old new : W) (ending : Result Status Stop) where
  abbrev Good : SelectReport → List Placed → Type 0
  Good report ps = Appends (contents old) (contents new)
      (selected_line report ++ (told_of numbers_told numbers ps ++ told_of places_told places ps))

  told_as : (o : Result Status Stop) → ending ≡ o → TellsSelection (asking_with a numbers places) left (contents old) (contents new) o
      → TellsSelection (asking_with a numbers places) left (contents old) (contents new) ending
  told_as o e h = subst (TellsSelection (asking_with a numbers places) left (contents old) (contents new)) (sym e) h

  if_so : (P Q : List ℕ → Type 0) (o : Option (List ℕ)) → ((text : List ℕ) → P text → Q text) → IfSome o P → IfSome o Q
  if_so P Q None so h = tt
  if_so P Q (Some text) so h = so text h

  good_so : (report : SelectReport) (known : Option (List ℕ)) (o : Option Status) → known ≡ left → selected_status a.wanted s ≡ o
      → s.outcome ≡ Ok report
      → TellsBy a known (Ok report) s.look s.is_same_moment s.is_missing s.found s.is_empty sought
      → ListsSay numbers places lists a.numbers a.places
      → ((ps : List Placed) → ListsSay numbers places lists (numbers_sought sought) (places_sought sought) → Knows ps sought
      → has_lines a.wanted s ≡ true → Good report ps)
      → (has_lines a.wanted s ≡ false → Appends (contents old) (contents new) []) → EndsWith s.read o ending
      → TellsSelection (asking_with a numbers places) left (contents old) (contents new) ending
  good_so report known None same is ok h say good none e = told_as _ e tt
  good_so report None (Some status) same is ok h say good none e =
      told_as (Ok status) e (subst (λ (o : Option (List ℕ)). IfSome o (λ text. (told : List ℕ)
      × IsSelectionTold (asking_with a numbers places) text told × Appends (contents old) (contents new) told)) same tt)
  good_so report (Some text) (Some status) same is ok h say good none e =
      told_as (Ok status) e (subst (λ (o : Option (List ℕ)). IfSome o (λ text. (told : List ℕ)
      × IsSelectionTold (asking_with a numbers places) text told × Appends (contents old) (contents new) told)) same
      (told_same contents a numbers places text report s.look s.is_same_moment s.is_missing s.found s.is_empty sought old new h
      (λ n. let no : None ≡ Some status = sym n ∙ is in cc no)
      (added (not s.is_same_moment && is_good (good_status a.wanted s.look s.found)) refl)))
    where
      lines : has_lines a.wanted s ≡ (not s.is_same_moment && is_good (good_status a.wanted s.look s.found))
      lines = ap (λ (o : Result SelectReport ToolFault). not (is_ok o) || (not s.is_same_moment && is_good (good_status a.wanted s.look s.found))) ok

      sought_say : ListsSay numbers places lists (numbers_sought sought) (places_sought sought)
      sought_say =
          subst (λ (l : Option (List (List ℕ))). ListsSay numbers places lists l (places_sought sought)) (sym h.numbers_are)
          (subst (λ (l : Option (List (ℕ × ℕ))). ListsSay numbers places lists a.numbers l) (sym h.places_are) say)

      added : (b : Bool) → (not s.is_same_moment && is_good (good_status a.wanted s.look s.found)) ≡ b
          → Added contents a numbers places text report s.look s.is_missing s.found s.is_empty sought old new (placed h.seen.value) b
      added true q = good (placed h.seen.value) sought_say h.knows (lines ∙ q)
      added false q = none (lines ∙ q)

  pub told_ends : (written made : Stop) → TellsSelected a left s sought → ListsSay numbers places lists a.numbers a.places
      → ((ps : List Placed) → ListsSay numbers places lists (numbers_sought sought) (places_sought sought) → Knows ps sought
      → has_lines a.wanted s ≡ true → IfOk s.outcome (λ report. Good report ps))
      → IfErr s.outcome (λ fault. Appends (contents old) (contents new) (input_line fault))
      → (has_lines a.wanted s ≡ false → Appends (contents old) (contents new) []) → EndsSelected a.wanted written made s ending
      → TellsSelection (asking_with a numbers places) left (contents old) (contents new) ending
  told_ends written made tells say good fault none ends = by s.outcome refl tells good fault ends where
    by : (outcome : Result SelectReport ToolFault) → s.outcome ≡ outcome
        → TellsBy a left outcome s.look s.is_same_moment s.is_missing s.found s.is_empty sought
        → ((ps : List Placed) → ListsSay numbers places lists (numbers_sought sought) (places_sought sought) → Knows ps sought
        → has_lines a.wanted s ≡ true → IfOk outcome (λ report. Good report ps))
        → IfErr outcome (λ fault. Appends (contents old) (contents new) (input_line fault))
        → EndsBy written made s.read outcome (selected_status a.wanted s) ending
        → TellsSelection (asking_with a numbers places) left (contents old) (contents new) ending
    by (Ok report) is h g f e = good_so report left (selected_status a.wanted s) refl refl is h say g none e
    by (Err tool_faults.Reader) is h g f e = told_as _ e tt
    by (Err (tool_faults.Writer n)) is h g f e = told_as _ e tt
    by (Err tool_faults.Memory) is h g f e = told_as _ e tt
    by (Err (tool_faults.Refused r)) is h g f e =
        told_as (Ok statuses.Refused) e (if_so _ _ left (λ text k. (input_line (tool_faults.Refused r), inl (r, k, refl), f)) h)
    by (Err (tool_faults.Truncated n)) is h g f e =
        told_as (Ok statuses.Refused) e (if_so _ _ left (λ text k. (input_line (tool_faults.Truncated n), inr (inl (n, k, refl)), f)) h)
    by (Err tool_faults.Output) is h g f e = told_as _ e tt
    by (Err (tool_faults.Limit l)) is h g f e = absurd h
