-- A run that puts numbers right ends as it may, and leaves what it may.
use Rattle.std.proofs.Common.{◌≡◌, ℕ, Bool, List, Option, Some, None, refl, sym, subst, ◌∙◌}
use Rattle.std.specs.Prelude.{Result, Ok, Err, IfOk, IfSome, option_map}
use Rattle.cwr_shape.specs.declared.limits.Limits.{Limits}
use Rattle.cwr_words.specs.declared.words.RenumberWords.{RenumberWords}
use Rattle.cwr_words.specs.declared.words.Work.{Work}
use Rattle.cwr_words.specs.declared.words.Work.TheVariants.{Check, Show, Explain, Lint, Advise, Json, Csv, Acks, Summary, Write, Split}
use Rattle.cwr_words.specs.declared.words.Work.TheVariants.{Join, Renumber, Select, Manual}
use Rattle.cwr_files.specs.declared.faults.Fault.TheVariants as faults
use Rattle.cwr_files.specs.Format.Files.{Texts, Turns}
use Rattle.cwr_files.specs.Format.Inputs.{IfRead}
use Rattle.cwr_files.specs.Steps.Inputs.{IsLeftOf}
use Rattle.cwr_files.proofs.lemmas.Reads.{if_read}
use Rattle.cwr_endings.specs.declared.endings.Status.{Status}
use Rattle.cwr_endings.specs.declared.endings.Wanted.{Wanted}
use Rattle.cwr_endings.specs.declared.stops.Stop.{Stop}
use Rattle.cwr_endings.specs.declared.stops.Stop.TheVariants as stops
use Rattle.cwr_endings.specs.Format.Endings.{WritesOut}
use Rattle.cwr_endings.proofs.lemmas.Outs.{out_same, stays, turns_so, writes_as, writes_on}
use Rattle.cwr_transform.specs.Format.Repairs.{EndsAsRepair, IsRepairOf, IsRepairStatus}
use Rattle.cwr.specs.Format.Files.{LeavesOut, RunsRenumbering, RunsRepair}

-- the text is that of what a word names, with its numbers put right
abbrev IsRepairAt : (List ℕ → List ℕ) → Limits → Wanted → Option Texts → Option (List ℕ) → Option (List ℕ) → List ℕ → Type 0
IsRepairAt renumbered limits wanted held standard name text =
    IfRead held standard name (λ known. IsRepairOf renumbered limits wanted (Some known) text)

module _ (renumbered : List ℕ → List ℕ) (limits : Limits) (wanted : Wanted) (words : RenumberWords) (standard : Option (List ℕ)) where
  abbrev name : Option (List ℕ)
  name = option_map (λ n. n.now) words.file

  abbrev Runs : Option Texts → Option Texts → Option (List ℕ) → ℕ → ℕ → Result Status Stop → Type 0
  Runs before after making old now ending = RunsRepair renumbered limits wanted words standard before after making old now ending

  -- nothing was opened, or there is no memory to begin
  stopped_out : (out : Option (List ℕ)) (is : List ℕ → Type 0) (old now : ℕ) (stop : Stop) (held after : Option Texts) → after ≡ held
      → Turns held after (LeavesOut out old now is (Err stop))
  stopped_out None is old now stop held after kept = stays held after kept
  stopped_out (Some out) is old now stop held after kept =
      out_same out old now is stop held after (stays held after kept)

  pub stopped_runs : (before after : Option Texts) (making : Option (List ℕ)) (old now : ℕ) (stop : Stop) → after ≡ before
      → Runs before after making old now (Err stop)
  stopped_runs before after making old now stop kept = record {
    ends = tt;
    files = λ none. stopped_out (option_map (λ n. n.now) words.out) (IsRepairAt renumbered limits wanted before standard name) old now stop before
        after kept;
  }

  -- the status is right of what was opened
  ends_at : (held : Option Texts) (left : Option (List ℕ)) (ending : Result Status Stop) → IsLeftOf held standard name left
      → EndsAsRepair renumbered limits wanted words.anyway left ending
      → IfOk ending (λ status. IfRead held standard name (λ text. IsRepairStatus renumbered limits wanted words.anyway text status))
  ends_at held left (Ok status) opened h =
      if_read held standard name left (λ text. IsRepairStatus renumbered limits wanted words.anyway text status) opened h
  ends_at held left (Err stop) opened h = tt

  repair_some : (left : Option (List ℕ)) (text : List ℕ) → IsRepairOf renumbered limits wanted left text
      → IfSome left (λ known. IsRepairOf renumbered limits wanted (Some known) text)
  repair_some None text h = tt
  repair_some (Some known) text h = h

  repair_at : (held : Option Texts) (left : Option (List ℕ)) (text : List ℕ) → IsLeftOf held standard name left
      → IsRepairOf renumbered limits wanted left text → IsRepairAt renumbered limits wanted held standard name text
  repair_at held left text opened h =
      if_read held standard name left (λ known. IsRepairOf renumbered limits wanted (Some known) text) opened (repair_some left text h)

  -- what is written to a file
  pub file_runs : (out : List ℕ) (before opened after : Option Texts) (making making_then left : Option (List ℕ)) (old then now : ℕ)
      (ending : Result Status Stop) → option_map (λ n. n.now) words.out ≡ Some out → opened ≡ before → then ≡ old → making_then ≡ making
      → IsLeftOf before standard name left → EndsAsRepair renumbered limits wanted words.anyway left ending
      → (making_then ≡ None → Turns opened after (WritesOut out then now (IsRepairOf renumbered limits wanted left) ending))
      → Runs before after making old now ending
  file_runs out before opened after making making_then left old then now ending is kept same unmade read ends files = record {
    ends = ends_at before left ending read ends;
    files = λ none.
        subst (λ (o : Option (List ℕ)). Turns before after (LeavesOut o old now (IsRepairAt renumbered limits wanted before standard name) ending)) (sym is)
        (writes_on before opened after (WritesOut out old now (IsRepairAt renumbered limits wanted before standard name) ending) kept
        (turns_so opened after (WritesOut out then now (IsRepairOf renumbered limits wanted left) ending) _
        (λ texts new h. subst (λ (n : ℕ). WritesOut out n now (IsRepairAt renumbered limits wanted before standard name) ending texts new) same
        (writes_as out then now (IsRepairOf renumbered limits wanted left) (IsRepairAt renumbered limits wanted before standard name) ending texts new
        (λ text has. repair_at before left text read has) h))
        (files (unmade ∙ none))));
  }

  -- and to standard output
  pub output_runs : (before opened after : Option Texts) (making left : Option (List ℕ)) (old now : ℕ) (ending : Result Status Stop)
      → option_map (λ n. n.now) words.out ≡ None → opened ≡ before → after ≡ opened → IsLeftOf before standard name left
      → EndsAsRepair renumbered limits wanted words.anyway left ending → Runs before after making old now ending
  output_runs before opened after making left old now ending is kept same read ends = record {
    ends = ends_at before left ending read ends;
    files = λ none.
        subst (λ (o : Option (List ℕ)). Turns before after (LeavesOut o old now (IsRepairAt renumbered limits wanted before standard name) ending)) (sym is)
        (stays before after (same ∙ kept));
  }

-- of any work, where there is no memory to begin it
pub unbegun_renumbers : (renumbered : List ℕ → List ℕ) (limits : Limits) (whole : Bool) (work : Work) (standard : Option (List ℕ))
    (held : Option Texts) (making : Option (List ℕ)) (old now : ℕ)
    → RunsRenumbering renumbered limits whole work standard held held making old now (Err (stops.Fault faults.Memory))
unbegun_renumbers renumbered limits whole (Renumber words) standard held making old now =
    stopped_runs renumbered limits (record { whole = whole; fail_on = words.fail_on }) words standard held held making old now
    (stops.Fault faults.Memory) refl
unbegun_renumbers renumbered limits whole (Check judging) standard held making old now = tt
unbegun_renumbers renumbered limits whole (Explain judging) standard held making old now = tt
unbegun_renumbers renumbered limits whole (Show words) standard held making old now = tt
unbegun_renumbers renumbered limits whole (Lint words) standard held making old now = tt
unbegun_renumbers renumbered limits whole (Advise words) standard held making old now = tt
unbegun_renumbers renumbered limits whole (Json words) standard held making old now = tt
unbegun_renumbers renumbered limits whole (Csv words) standard held making old now = tt
unbegun_renumbers renumbered limits whole (Acks words) standard held making old now = tt
unbegun_renumbers renumbered limits whole (Summary words) standard held making old now = tt
unbegun_renumbers renumbered limits whole (Write words) standard held making old now = tt
unbegun_renumbers renumbered limits whole (Split words) standard held making old now = tt
unbegun_renumbers renumbered limits whole (Join words) standard held making old now = tt
unbegun_renumbers renumbered limits whole (Select words) standard held making old now = tt
unbegun_renumbers renumbered limits whole Manual standard held making old now = tt
