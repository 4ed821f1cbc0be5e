-- What is left of a run that puts numbers right in a file.
use Rattle.std.proofs.Common.{◌≡◌, ℕ, ◌+◌, ◌≤◌, ◌<◌, ltb, ltb-true, ltb-false, Bool, true, false, not, ◌&&◌, ◌||◌, true≢false, List, [], Option, Some, None, refl, sym, ap, subst, arith}
use Rattle.std.specs.Prelude.{Result, Ok, Err, IfSome}
use Rattle.std.specs.Io.KnownBytes.{Keeps}
use Rattle.std.specs.Result.{is_ok}
use Rattle.cwr_devices.specs.Format.Failures.{most_failures}
use Rattle.cwr_shape.specs.declared.limits.Limits.{Limits}
use Rattle.cwr_values.specs.Format.Rows.{canonical_text}
use Rattle.cwr_values.specs.declared.items.Item.{Item}
use Rattle.cwr_judge.specs.Format.Ends.{IsAccepted}
use Rattle.cwr_judge.specs.Format.Items.{value_items}
use Rattle.cwr_tools.specs.declared.verdicts.JoinReport.{JoinReport}
use Rattle.cwr_tools.specs.declared.verdicts.ToolFault.{ToolFault}
use Rattle.cwr_tools.specs.declared.verdicts.ToolFault.TheVariants as tool_faults
use Rattle.cwr_renumber.specs.Steps.Renumberings.{CountsWriter}
use Rattle.cwr_files.specs.declared.faults.Fault.{Fault}
use Rattle.cwr_files.specs.declared.faults.Fault.TheVariants as faults
use Rattle.cwr_files.specs.declared.faults.Told.{Told}
use Rattle.cwr_files.specs.Format.Files.{HasCounted, Texts, counted_on}
use Rattle.cwr_files.specs.Format.NewFiles.{LeavesAll}
use Rattle.cwr_files.specs.Steps.NewFiles.{HasKeptCount}
use Rattle.cwr_endings.specs.declared.endings.Look.{Look}
use Rattle.cwr_endings.specs.declared.endings.Look.TheVariants as looks
use Rattle.cwr_endings.specs.declared.endings.Status.{Status}
use Rattle.cwr_endings.specs.declared.endings.Status.TheVariants as statuses
use Rattle.cwr_endings.specs.declared.endings.Wanted.{Wanted}
use Rattle.cwr_endings.specs.declared.stops.Stop.{Stop}
use Rattle.cwr_endings.specs.declared.stops.Stop.TheVariants as stops
use Rattle.cwr_endings.specs.Format.Endings.{EndsAfterFault, FindsFrom, SettlesOut, WritesOut}
use Rattle.cwr_endings.proofs.lemmas.Outs.{kept_whole, leaves_fewer, settles_since, writes_since}
use Rattle.cwr_transform.specs.declared.renumberings.Repaired.{Repaired}
use Rattle.cwr_transform.specs.declared.renumberings.RepairedFile.{RepairedFile}
use Rattle.cwr_transform.specs.Format.Repairs.{IsRepairOf, RepairsTo}
use Rattle.cwr_transform.specs.Steps.Repairs.{CountsRead, EndsRepaired, EndsRewritten, Judges, LeavesRepaired, RepairsInput, Rewrites, device_faults_of, faults_by, keeps_repaired, look_faults, stands_alone}
use Rattle.cwr_transform.proofs.lemmas.JoinFiles.{few_counted}
use Rattle.cwr_transform.proofs.lemmas.RepairFails.{read_kept}

-- ---- how many calls failed

-- where calls failed before, of which none was forgotten
few_later : (old on faults now : ℕ) → HasKeptCount old on → now ≤ old + faults → now < most_failures → now ≤ on + faults
few_later old on faults now kept le lt = by (ltb on most_failures) refl where
  by : (b : Bool) → ltb on most_failures ≡ b → now ≤ on + faults
  by true e = let less = kept (ltb-true on most_failures e) in omega (arith, less, le)
  by false e = let more = ltb-false on most_failures e in omega (arith, more, lt)

few_looked : (old on now : ℕ) → HasCounted old on → now ≤ old + 1 → now < most_failures → now ≤ on
few_looked old on now counted le lt = by (ltb on most_failures) refl where
  by : (b : Bool) → ltb on most_failures ≡ b → now ≤ on
  by true e = let less = counted (ltb-true on most_failures e) in omega (arith, less, le)
  by false e = let more = ltb-false on most_failures e in omega (arith, more, lt)

few_times : (times faults old on now : ℕ) → times ≡ faults → HasKeptCount old on → now ≤ old + faults → now < most_failures
    → now ≤ counted_on times on
few_times times faults old on now e kept le lt = few_counted times faults on now e (few_later old on faults now kept le lt) lt

pub few_repaired : (outcome : Result JoinReport ToolFault) (look : Look) (times old on now : ℕ) → CountsRead outcome look old on
    → CountsWriter outcome 0 times → now ≤ old + faults_by outcome look → now < most_failures → now ≤ counted_on times on
few_repaired (Ok report) looks.Failed times old on now r t le lt =
    subst (λ (n : ℕ). now ≤ counted_on n on) (sym t) (few_looked old on now r le lt)
few_repaired (Ok report) (looks.Found f) times old on now r t le lt = few_times times 0 old on now t r le lt
few_repaired (Ok report) looks.Unasked times old on now r t le lt = few_times times 0 old on now t r le lt
few_repaired (Err tool_faults.Reader) look times old on now r t le lt =
    subst (λ (n : ℕ). now ≤ counted_on n on) (sym t) (few_looked old on now r le lt)
few_repaired (Err (tool_faults.Writer n)) look times old on now r t le lt = few_times times 1 old on now t r le lt
few_repaired (Err tool_faults.Memory) look times old on now r t le lt = few_times times 0 old on now t r le lt
few_repaired (Err (tool_faults.Refused f)) look times old on now r t le lt = few_times times 0 old on now t r le lt
few_repaired (Err (tool_faults.Truncated n)) look times old on now r t le lt = few_times times 0 old on now t r le lt
few_repaired (Err tool_faults.Output) look times old on now r t le lt = few_times times 0 old on now t r le lt
few_repaired (Err (tool_faults.Limit l)) look times old on now r t le lt = few_times times 0 old on now t r le lt

-- one more call may have failed
pub few_kept : (outcome : Result JoinReport ToolFault) (look : Look) (old on now : ℕ) → CountsRead outcome look old on → now ≤ old + 1
    → now < most_failures → now ≤ on + 1
few_kept outcome look old on now r le lt = few_later old on 1 now (read_kept outcome look old on r) le lt

-- ---- where calls failed before

pub repaired_since : (out : List ℕ) (whole : Bool) (before old now : ℕ) (is : List ℕ → Type 0) (result : Result RepairedFile Fault)
    (texts new : Texts) → HasKeptCount before old → LeavesRepaired out whole old now is result texts new
    → LeavesRepaired out whole before now is result texts new
repaired_since out whole before old now is (Ok file) texts new kept h =
    settles_since out before old (faults_by file.repaired.outcome file.repaired.look) now is (keeps_repaired whole file.repaired) texts new kept h
repaired_since out whole before old now is (Err fault) texts new kept h =
    writes_since out before old now is (Err (stops.Fault fault)) texts new kept h

-- no output is made
pub unmade_in : (renumbered : List ℕ → List ℕ) (limits : Limits) (counts : List Item → Type 0) (before : Option (List ℕ))
    (outcome : Result JoinReport ToolFault) → Judges renumbered limits counts before outcome → (fault : ToolFault) → outcome ≡ Err fault
    → fault ≡ tool_faults.Output → ⊥
unmade_in renumbered limits counts before outcome h fault e =
    (subst (λ (o : Result JoinReport ToolFault). Judges renumbered limits counts before o) e h).unmade

-- ---- what was written

module _ {W : Type 0} (renumbered : List ℕ → List ℕ) (limits : Limits) (wanted : Wanted) (before : Option (List ℕ))
    (contents : W → Option (List ℕ)) (first last : W) (repaired : Repaired) where
  -- what is kept was written
  kept_ok : (outcome : Result JoinReport ToolFault) (look : Look) (found mixed : Bool)
      → (((is_ok outcome && (stands_alone look || not wanted.whole)) && not found) && not mixed) ≡ true
      → (is_ok outcome ≡ true) × (found ≡ false)
  kept_ok (Ok report) look false mixed e = (refl, refl)
  kept_ok (Ok report) look true mixed e = absurd (by (stands_alone look || not wanted.whole) e) where
    by : (b : Bool) → (((true && b) && not true) && not mixed) ≡ true → ⊥
    by true e = true≢false (sym e)
    by false e = true≢false (sym e)
  kept_ok (Err fault) look found mixed e = absurd (true≢false (sym e))

  repaired_text : (outcome : Result JoinReport ToolFault) (found : Bool) (final : Option (List ℕ)) → is_ok outcome ≡ true → found ≡ false
      → Rewrites renumbered limits (λ items. FindsFrom wanted.fail_on items found) before contents first last outcome
      → contents first ≡ Some [] → Keeps (contents last) final
      → (text : List ℕ) × (final ≡ Some text) × IsRepairOf renumbered limits wanted before text
  repaired_text (Ok report) found final ok none h fresh keeps = (
    canonical_text h.value,
    kept_whole (contents first) (contents last) final (canonical_text h.value) fresh h.written keeps,
    record {
      value = h.value;
      whole = h.whole;
      within = h.within;
      canonical = refl;
      repaired = by before h.accepted;
    },
  )
    where
      by : (o : Option (List ℕ)) → IfSome o (λ text. (n : ℕ) × IsAccepted limits (renumbered text) h.value n
          × FindsFrom wanted.fail_on (value_items h.value) found) → IfSome o (λ known. RepairsTo renumbered limits wanted known h.value)
      by None a = tt
      by (Some text) a = record {
        count = a.0;
        accepted = a.1;
        calm = subst (λ (b : Bool). FindsFrom wanted.fail_on (value_items h.value) b) none a.2;
      }
  repaired_text (Err fault) found final ok none h fresh keeps = absurd (true≢false (sym ok))

  pub text_kept : (final : Option (List ℕ)) → keeps_repaired wanted.whole repaired ≡ true
      → RepairsInput renumbered limits wanted before contents first last repaired → contents first ≡ Some []
      → Keeps (contents last) final → (text : List ℕ) × (final ≡ Some text) × IsRepairOf renumbered limits wanted before text
  text_kept final e h fresh keeps =
      let k = kept_ok repaired.outcome repaired.look repaired.found repaired.mixed e in
      repaired_text repaired.outcome repaired.found final k.0 k.1 h fresh keeps

-- ---- at the end

module _ (out : List ℕ) (told : Told) (old now : ℕ) (is : List ℕ → Type 0) (texts new : Texts) where
  abbrev Ends : Result Status Stop → Type 0
  Ends ending = WritesOut out old now is ending texts new

  refused : (more : ℕ) (ending : Result Status Stop) → ending ≡ Ok statuses.Refused → LeavesAll out (old + more) now texts new → Ends ending
  refused more ending e h = subst Ends (sym e) (leaves_fewer out old more now texts new h)

  rewritten : (keeps : Bool) (look : Look) (repaired : Repaired) (ending : Result Status Stop) → EndsRewritten keeps look repaired ending
      → SettlesOut out (old + look_faults look) now is keeps texts new → Ends ending
  rewritten true look repaired ending e h = subst Ends (sym e) h
  rewritten false looks.Failed repaired ending e h = subst Ends (sym e) h
  rewritten false (looks.Found t) repaired ending e h = refused 0 ending e h
  rewritten false looks.Unasked repaired ending e h = refused 0 ending e h

  stopped : (read : Told) (made : Stop) (fault : ToolFault) (ending : Result Status Stop) → (fault ≡ tool_faults.Output → ⊥)
      → EndsAfterFault read (stops.Fault (faults.Write told)) made (Some fault) ending → LeavesAll out (old + device_faults_of fault) now texts new
      → Ends ending
  stopped read made tool_faults.Reader ending unmade e h = subst Ends (sym e) h
  stopped read made (tool_faults.Writer n) ending unmade e h = subst Ends (sym e) h
  stopped read made tool_faults.Memory ending unmade e h = subst Ends (sym e) (leaves_fewer out old 0 now texts new h)
  stopped read made (tool_faults.Refused r) ending unmade e h = refused 0 ending e h
  stopped read made (tool_faults.Truncated n) ending unmade e h = refused 0 ending e h
  stopped read made tool_faults.Output ending unmade e h = absurd (unmade refl)
  stopped read made (tool_faults.Limit l) ending unmade e h = refused 0 ending e h

  pub repair_leaves : (whole : Bool) (made : Stop) (repaired : Repaired) (outcome : Result JoinReport ToolFault) (ending : Result Status Stop)
      → repaired.outcome ≡ outcome → ((fault : ToolFault) → outcome ≡ Err fault → fault ≡ tool_faults.Output → ⊥)
      → EndsRepaired whole (stops.Fault (faults.Write told)) made outcome repaired ending
      → SettlesOut out (old + faults_by outcome repaired.look) now is (keeps_repaired whole repaired) texts new → Ends ending
  repair_leaves whole made repaired (Ok report) ending same unmade e h =
      rewritten (keeps_repaired whole repaired) repaired.look repaired ending e h
  repair_leaves whole made repaired (Err fault) ending same unmade e h =
      stopped repaired.read made fault ending (unmade fault refl) e
      (subst (λ (b : Bool). SettlesOut out (old + device_faults_of fault) now is b texts new)
      (ap (λ (o : Result JoinReport ToolFault). ((is_ok o && (stands_alone repaired.look || not whole)) && not repaired.found) && not repaired.mixed)
      same) h)
