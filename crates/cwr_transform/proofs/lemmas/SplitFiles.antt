-- What is left of a split.
use Rattle.std.proofs.Common.{◌≡◌, ℕ, ◌≤◌, ◌<◌, ◌/◌, zero, suc, Bool, true, false, List, [], ◌∷◌, Option, Some, None, refl, sym, ap, subst, ◌∙◌, arith, inr, map, count_by, true≢false}
use Rattle.std.proofs.lemmas.Option.{none-some}
use Rattle.std.specs.Prelude.{IsSome, OnOk, Result, Ok, Err}
use Rattle.cwr_devices.specs.Format.Failures.{most_failures}
use Rattle.cwr_devices.specs.Format.Outputs.{AddsTexts}
use Rattle.cwr_shape.specs.declared.limits.Limits.{Limits}
use Rattle.cwr_moments.specs.declared.moments.Moment.{Moment}
use Rattle.cwr_values.specs.declared.items.Item.{Item}
use Rattle.cwr_values.specs.Format.Rows.{canonical_text}
use Rattle.cwr_judge.specs.Format.Items.{is_transaction}
use Rattle.cwr_tools.specs.declared.verdicts.SplitReport.{SplitReport}
use Rattle.cwr_tools.specs.declared.verdicts.ToolFault.{ToolFault}
use Rattle.cwr_tools.specs.declared.verdicts.ToolFault.TheVariants as tool_faults
use Rattle.cwr_parts.specs.Format.Splits.{split_of}
use Rattle.cwr_parts.specs.Format.Splitting.{HasFullRuns, first_texts}
use Rattle.cwr_parts.specs.Format.Told.{SplitsText}
use Rattle.cwr_files.specs.declared.faults.Fault.{Fault}
use Rattle.cwr_files.specs.declared.faults.Told.{Told}
use Rattle.cwr_files.specs.Format.Files.{Texts, Turns, counted_on}
use Rattle.cwr_files.specs.Format.Parts.{HoldsParts, LeavesParts, created_parts}
use Rattle.cwr_files.specs.Steps.NewFiles.{HasKeptCount}
use Rattle.cwr_files.specs.Steps.NumberedFiles.{StartsAs, told_texts}
use Rattle.cwr_endings.specs.declared.endings.Status.{Status}
use Rattle.cwr_endings.specs.declared.stops.Stop.{Stop}
use Rattle.cwr_endings.proofs.lemmas.Outs.{turns_so}
use Rattle.cwr_transform.specs.Format.Splits.{HoldsAll, LeavesCut, LeavesSplit, MayEndAs, SplitsInto}
use Rattle.cwr_transform.specs.Steps.Splits.{HandsOver, IsToldAs, LeavesTold, SplitEndsAs, texts_before, unless_stopped}

-- ---- what was handed over

abbrev behind : Option (List (List ℕ)) → List (List ℕ)
behind None = []
behind (Some []) = []
behind (Some (text ∷ texts)) = texts

abbrev begin_of : Option (List (List ℕ)) → ℕ
begin_of None = 0
begin_of (Some []) = 0
begin_of (Some ([] ∷ texts)) = 0
begin_of (Some ((n ∷ text) ∷ texts)) = n

marked_adds : (mark : List ℕ) (new : Option (List (List ℕ))) (added : List (List ℕ)) → AddsTexts (Some (mark ∷ [])) new added
    → new ≡ Some (mark ∷ added)
marked_adds mark None added h = absurd h
marked_adds mark (Some texts) added h = ap (λ (ts : List (List ℕ)). Some ts) h

unmarked : (mark : List ℕ) (new : Option (List (List ℕ))) (parts added : List (List ℕ)) → new ≡ Some (mark ∷ parts)
    → AddsTexts (Some (mark ∷ [])) new added → AddsTexts (Some []) (Some parts) added
unmarked mark new parts added e h = ap behind (sym e ∙ marked_adds mark new added h)

-- the parts behind a mark are those that a split without the mark hands over
abbrev Handed : (Option (List (List ℕ)) → Option (List (List ℕ)) → Type 0) → List ℕ → Option (List (List ℕ)) → Type 0
Handed is mark new = (parts : List (List ℕ)) × (new ≡ Some (mark ∷ parts)) × is (Some []) (Some parts)

full_runs : (limits : Limits) (n : ℕ) (given : List Item) (mark : List ℕ) (new : Option (List (List ℕ)))
    → HasFullRuns limits n given (Some (mark ∷ [])) new → Handed (HasFullRuns limits n given) mark new
full_runs limits n given mark new h =
    let b = h.begun in
    let parts = first_texts n (count_by is_transaction given / n) b.value in
    let e : new ≡ Some (mark ∷ parts) = marked_adds mark new parts (h.texts b.value b.rest b.whole b.within b.split) in
    (parts, e, record { begun = b; texts = λ v rest w f s. unmarked mark new parts _ e (h.texts v rest w f s) })

handed : (limits : Limits) (n : ℕ) (before after : Option (List ℕ)) (mark : List ℕ) (new : Option (List (List ℕ)))
    (answer : Result SplitReport ToolFault) → SplitsText limits n before after (Some (mark ∷ [])) new answer
    → Handed (λ one other. SplitsText limits n before after one other answer) mark new
handed limits n before after mark new (Ok report) h =
    let parts = map canonical_text (split_of n h.value) in
    (parts, marked_adds mark new parts h.texts, record { value = h.value; taken = h.taken; texts = refl; reported = h.reported })
handed limits n before after mark new (Err tool_faults.Reader) h =
    let f = full_runs limits n h.0 mark new h.2 in (f.0, f.1, (h.0, h.1, f.2))
handed limits n before after mark new (Err tool_faults.Memory) h =
    let f = full_runs limits n h.0 mark new h.2 in (f.0, f.1, (h.0, h.1, f.2))
handed limits n before after mark new (Err (tool_faults.Refused refusal)) h =
    let f = full_runs limits n h.0 mark new h.2 in (f.0, f.1, (h.0, h.1, f.2))
handed limits n before after mark new (Err (tool_faults.Truncated records)) h =
    let f = full_runs limits n h.0 mark new h.2 in (f.0, f.1, (h.0, h.1, f.2))
handed limits n before after mark new (Err (tool_faults.Writer written)) h =
    let f = full_runs limits n h.0 mark new h.3 in (f.0, f.1, (h.0, h.1, h.2, f.2))
handed limits n before after mark new (Err tool_faults.Output) h =
    let f = full_runs limits n h.0 mark new h.3 in (f.0, f.1, (h.0, h.1, h.2, f.2))
handed limits n before after mark new (Err (tool_faults.Limit limit)) h = absurd h

-- which store the files have is told with the texts
name_kept : (texts : Texts) (borrow on : ℕ) (found : Option (List (List ℕ))) (parts : List (List ℕ))
    → told_texts (Some texts) on found ≡ Some ((borrow ∷ []) ∷ parts) → on ≡ borrow
name_kept texts borrow on None parts e = absurd (none-some ((borrow ∷ []) ∷ parts) e)
name_kept texts borrow on (Some found) parts e = ap begin_of e

pub cut_borrow : (limits : Limits) (n : ℕ) (input : Option (List ℕ)) (before : Option Texts) (borrow on : ℕ)
    (known found : Option (List (List ℕ))) (told : Result SplitReport ToolFault) → known ≡ Some []
    → HandsOver limits n input (told_texts before borrow known) (told_texts before on found) told → IsSome before → on ≡ borrow
cut_borrow limits n input None borrow on known found told e h some = absurd (true≢false (sym some))
cut_borrow limits n input (Some texts) borrow on known found told e h some =
    let k = subst (λ (o : Option (List (List ℕ))). HandsOver limits n input (told_texts (Some texts) borrow o)
    (told_texts (Some texts) on found) told) e h in
    let m = handed limits n input k.1 (borrow ∷ []) (told_texts (Some texts) on found) k.0 k.2 in
    name_kept texts borrow on found m.0 m.1

-- what is told of them, where not all were made
pub handed_stopped : (limits : Limits) (n : ℕ) (before : Option (List ℕ)) (old new : Option (List (List ℕ))) (stopped : Bool)
    (told : Result SplitReport ToolFault) → HandsOver limits n before old new told
    → HandsOver limits n before old new (unless_stopped stopped told)
handed_stopped limits n before old new false told h = h
handed_stopped limits n before old new true (Err fault) h = h
handed_stopped limits n before old new true (Ok report) h = (h.0, h.1, h.2, as_stopped h.0 h.3)
  where
    as_stopped : (answer : Result SplitReport ToolFault) → IsToldAs answer (Ok report) → IsToldAs answer (Err tool_faults.Output)
    as_stopped (Ok other) e = tt
    as_stopped (Err fault) e = absurd (cc e)

-- where all were made, this is so of them
all_made : (stopped : Bool) (told : Result SplitReport ToolFault) (P : Type 0) → (stopped ≡ false → P) → OnOk (unless_stopped stopped told) P
all_made true (Ok report) P h = tt
all_made true (Err fault) P h = tt
all_made false (Ok report) P h = h refl
all_made false (Err fault) P h = tt

told_leaves : (limits : Limits) (n : ℕ) (prefix : List ℕ) (created : Option Moment) (input : Option (List ℕ)) (old failures : ℕ)
    (stopped : Bool) (told answer : Result SplitReport ToolFault) (parts : List (List ℕ)) (texts : Texts) (held : Option Texts)
    → SplitsInto limits n input parts answer → IsToldAs answer (unless_stopped stopped told)
    → Turns (Some texts) held (LeavesParts prefix (created_parts created parts) old failures)
    → (stopped ≡ false → Turns (Some texts) held (HoldsParts prefix (created_parts created parts)))
    → Turns (Some texts) held (LeavesTold limits n prefix created input old failures (unless_stopped stopped told))
told_leaves limits n prefix created input old failures stopped told answer parts texts None s is left whole = absurd left
told_leaves limits n prefix created input old failures stopped told answer parts texts (Some new) s is left whole = record {
  parts = parts;
  answer = answer;
  split = s;
  is_told = is;
  left = left;
  all = all_made stopped told (HoldsParts prefix (created_parts created parts) texts new) whole;
}

pub cut_leaves : (limits : Limits) (n : ℕ) (prefix : List ℕ) (created : Option Moment) (input : Option (List ℕ)) (before : Option Texts)
    (borrow on : ℕ) (known found : Option (List (List ℕ))) (held : Option Texts) (old failures : ℕ) (stopped : Bool) (told : Result SplitReport ToolFault)
    → known ≡ Some [] → HandsOver limits n input (told_texts before borrow known) (told_texts before on found) told
    → ((name : List ℕ) (parts : List (List ℕ)) → told_texts before on found ≡ Some (name ∷ parts)
    → Turns before held (LeavesParts prefix (created_parts created parts) old failures))
    → ((name : List ℕ) (parts : List (List ℕ)) → told_texts before on found ≡ Some (name ∷ parts) → stopped ≡ false
    → Turns before held (HoldsParts prefix (created_parts created parts)))
    → Turns before held (LeavesTold limits n prefix created input old failures (unless_stopped stopped told))
cut_leaves limits n prefix created input None borrow on known found held old failures stopped told e h left whole = tt
cut_leaves limits n prefix created input (Some texts) borrow on known found held old failures stopped told e h left whole =
    let k = subst (λ (o : Option (List (List ℕ))). HandsOver limits n input (told_texts (Some texts) borrow o)
    (told_texts (Some texts) on found) (unless_stopped stopped told)) e
    (handed_stopped limits n input (told_texts (Some texts) borrow known) (told_texts (Some texts) on found) stopped told h) in
    let m = handed limits n input k.1 (borrow ∷ []) (told_texts (Some texts) on found) k.0 k.2 in
    told_leaves limits n prefix created input old failures stopped told k.0 m.0 texts held (k.1, m.2) k.3 (left (borrow ∷ []) m.0 m.1)
    (whole (borrow ∷ []) m.0 m.1)

-- what is so of one store is so of the same one
pub of_store : {S : Type 0} (before : Option Texts) (held : S → Option Texts) (how : S → Texts → Texts → Type 0) (store new : S)
    → (IsSome before → new ≡ store) → Turns before (held store) (how store) → Turns before (held new) (how new)
of_store None held how store new e h = tt
of_store (Some texts) held how store new e h = subst (λ s. Turns (Some texts) (held s) (how s)) (sym (e refl)) h

pub of_same : {S : Type 0} (P : S → Type 0) (store new : S) → new ≡ store → P store → P new
of_same P store new e h = subst P (sym e) h

-- ---- the end of a run

pub starts_as : (before : Option Texts) (prefix : List ℕ) (created : Option Moment) (old : ℕ) (making : Option (List ℕ))
    (held : Option Texts) (failures : ℕ) (given called : List ℕ) (dated kept : Option Moment) → called ≡ given → kept ≡ dated
    → StartsAs before prefix created old making held failures given dated → StartsAs before prefix created old making held failures called kept
starts_as before prefix created old making held failures given called dated kept p m h =
    subst (λ (x : List ℕ). StartsAs before prefix created old making held failures x kept) (sym p)
    (subst (λ (x : Option Moment). StartsAs before prefix created old making held failures given x) (sym m) h)

pub starts : (created : Option Moment) (making : Option (List ℕ)) (held : Option Texts) (failures : ℕ) (prefix : List ℕ)
    → StartsAs (texts_before making held) prefix created failures making held failures prefix created
starts created (Some name) held failures prefix = refl
starts created None None failures prefix = refl
starts created None (Some texts) failures prefix = (refl, refl, refl, refl, refl)

pub texts_some : (making writing : Option (List ℕ)) (held was : Option Texts) → making ≡ None → IsSome held
    → writing ≡ making → was ≡ held → IsSome (texts_before writing was)
texts_some making writing held was quiet known w h =
    subst (λ (m : Option (List ℕ)). IsSome (texts_before m was)) (sym (w ∙ quiet))
    (subst (λ (t : Option Texts). IsSome t) (sym h) known)

pub kept_counted : (times failures after : ℕ) → after ≡ counted_on times failures → HasKeptCount failures after
kept_counted zero failures after e lt = omega (arith, e)
kept_counted (suc times) failures after e lt = omega (arith, e, lt)

may_end : (limits : Limits) (n : ℕ) (input : Option (List ℕ)) (parts : List (List ℕ)) (fault : ToolFault) (told : Told) (made : Fault)
    (status : Option Status) (ending : Result Status Stop) → SplitsInto limits n input parts (Err fault)
    → SplitEndsAs told made (Err fault) status ending → MayEndAs (Err fault) ending
may_end limits n input parts (tool_faults.Writer written) told made status ending s e = subst (MayEndAs (Err (tool_faults.Writer written))) (sym e) tt
may_end limits n input parts tool_faults.Reader told made status ending s e = subst (MayEndAs (Err tool_faults.Reader)) (sym e) tt
may_end limits n input parts tool_faults.Memory told made status ending s e = subst (MayEndAs (Err tool_faults.Memory)) (sym e) tt
may_end limits n input parts tool_faults.Output told made status ending s e = subst (MayEndAs (Err tool_faults.Output)) (sym e) tt
may_end limits n input parts (tool_faults.Refused refusal) told made status ending s e =
    subst (MayEndAs (Err (tool_faults.Refused refusal))) (sym e) tt
may_end limits n input parts (tool_faults.Truncated records) told made status ending s e =
    subst (MayEndAs (Err (tool_faults.Truncated records))) (sym e) tt
may_end limits n input parts (tool_faults.Limit limit) told made status ending s e = absurd s.1

pub ends_so : (limits : Limits) (n : ℕ) (input : Option (List ℕ)) (parts : List (List ℕ)) (answer outcome : Result SplitReport ToolFault)
    (told : Told) (made : Fault) (status : Option Status) (ending : Result Status Stop) → SplitEndsAs told made outcome status ending
    → SplitsInto limits n input parts answer → IsToldAs answer outcome → MayEndAs answer ending
ends_so limits n input parts (Ok report) outcome told made status ending e s is = tt
ends_so limits n input parts (Err fault) outcome told made status ending e s is =
    may_end limits n input parts fault told made status ending s
    (subst (λ (r : Result SplitReport ToolFault). SplitEndsAs told made r status ending) is e)

-- where all was split, and it ends with a status, all parts are there
pub holds_so : (prefix : List ℕ) (parts : List (List ℕ)) (answer outcome : Result SplitReport ToolFault) (told : Told) (made : Fault)
    (status : Option Status) (ending : Result Status Stop) (texts new : Texts) → SplitEndsAs told made outcome status ending
    → IsToldAs answer outcome → OnOk outcome (HoldsParts prefix parts texts new) → HoldsAll answer ending prefix parts texts new
holds_so prefix parts (Err fault) outcome told made status ending texts new e is h = tt
holds_so prefix parts (Ok report) outcome told made status (Err stop) texts new e is h = tt
holds_so prefix parts (Ok report) (Ok other) told made status (Ok end) texts new e is h = h
holds_so prefix parts (Ok report) (Err tool_faults.Memory) told made status (Ok end) texts new e is h = absurd (cc e)
holds_so prefix parts (Ok report) (Err tool_faults.Output) told made status (Ok end) texts new e is h = absurd (cc e)
holds_so prefix parts (Ok report) (Err tool_faults.Reader) told made status (Ok end) texts new e is h = absurd (cc is)
holds_so prefix parts (Ok report) (Err (tool_faults.Writer n)) told made status (Ok end) texts new e is h = absurd (cc is)
holds_so prefix parts (Ok report) (Err (tool_faults.Refused r)) told made status (Ok end) texts new e is h = absurd (cc is)
holds_so prefix parts (Ok report) (Err (tool_faults.Truncated n)) told made status (Ok end) texts new e is h = absurd (cc is)
holds_so prefix parts (Ok report) (Err (tool_faults.Limit l)) told made status (Ok end) texts new e is h = absurd (cc is)

pub stops_holding : (prefix : List ℕ) (parts : List (List ℕ)) (answer : Result SplitReport ToolFault) (stop : Stop) (texts new : Texts)
    → HoldsAll answer (Err stop) prefix parts texts new
stops_holding prefix parts (Ok report) stop texts new = tt
stops_holding prefix parts (Err fault) stop texts new = tt

-- any may end with a fault
pub stops_so : (answer : Result SplitReport ToolFault) (stop : Stop) → MayEndAs answer (Err stop)
stops_so (Ok report) stop = tt
stops_so (Err fault) stop = tt

cut_of : (limits : Limits) (n : ℕ) (prefix : List ℕ) (created : Option Moment) (input : Option (List ℕ)) (old now : ℕ)
    (ending : Result Status Stop) (texts new : Texts) → LeavesSplit limits n prefix created input old now ending texts new
    → LeavesCut limits n prefix created input old now ending texts new
cut_of limits n prefix created input old now (Ok status) texts new h = h
cut_of limits n prefix created input old now (Err stop) texts new h = inr h

since : (old on now : ℕ) → HasKeptCount on now → now ≤ old → now < most_failures → on ≤ old
since old on now k le lt = let less : on ≤ now = k lt in omega (arith, less, le)

left_since : (prefix : List ℕ) (parts : List (List ℕ)) (old on now : ℕ) (texts new : Texts) → HasKeptCount on now
    → LeavesParts prefix parts old on texts new → LeavesParts prefix parts old now texts new
left_since prefix parts old on now texts new k h = record {
  others = h.others;
  all = λ le lt. h.all (since old on now k le lt) (let less : on ≤ now = k lt in omega (arith, less, lt));
}

pub files_left : (limits : Limits) (n : ℕ) (prefix : List ℕ) (created : Option Moment) (input : Option (List ℕ))
    (making writing : Option (List ℕ)) (held was on now : Option Texts) (old then after failures : ℕ) (told : Result SplitReport ToolFault)
    (ending : Result Status Stop) → making ≡ None → writing ≡ making → was ≡ held → then ≡ old → now ≡ on
    → HasKeptCount after failures
    → Turns (texts_before writing was) on (LeavesTold limits n prefix created input then after told)
    → ((answer : Result SplitReport ToolFault) (parts : List (List ℕ)) → SplitsInto limits n input parts answer → IsToldAs answer told
    → MayEndAs answer ending)
    → ((answer : Result SplitReport ToolFault) (parts : List (List ℕ)) (texts new : Texts) → IsToldAs answer told
    → OnOk told (HoldsParts prefix parts texts new) → HoldsAll answer ending prefix parts texts new)
    → Turns held now (LeavesCut limits n prefix created input old failures ending)
files_left limits n prefix created input making writing held was on now old then after failures told ending quiet w h t e kept left ends
    holds =
    subst (λ (x : Option Texts). Turns held x (LeavesCut limits n prefix created input old failures ending)) (sym e)
    (turns_so held on (LeavesTold limits n prefix created input old after told) (LeavesCut limits n prefix created input old failures ending)
    (λ texts new l. cut_of limits n prefix created input old failures ending texts new (record {
      parts = l.parts;
      answer = l.answer;
      split = l.split;
      ends = ends l.answer l.parts l.split l.is_told;
      left = left_since prefix (created_parts created l.parts) old after failures texts new kept l.left;
      all = holds l.answer (created_parts created l.parts) texts new l.is_told l.all;
    }))
    (subst (λ (f : ℕ). Turns held on (LeavesTold limits n prefix created input f after told)) t
    (subst (λ (x : Option Texts). Turns x on (LeavesTold limits n prefix created input then after told)) before left)))
  where
    before : texts_before writing was ≡ held
    before = ap (λ (m : Option (List ℕ)). texts_before m was) (w ∙ quiet) ∙ h
