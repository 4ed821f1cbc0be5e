-- What was written and handed on, and the rows that it is.
use Rattle.std.proofs.Common.{◌≡◌, ◌∙◌, ℕ, Bool, true, false, List, [], ◌∷◌, ◌++◌, Option, Some, None, refl, sym, ap, subst, append-nil, true≢false}
use Rattle.std.specs.Prelude.{OnOk, Result, Ok, Err}
use Rattle.std.specs.Io.KnownBytes.{Appends}
use Rattle.cwr_files.specs.Format.Faults.{IfErr}
use Rattle.cwr_endings.specs.declared.stops.Stop.{Stop}
use Rattle.cwr_endings.specs.declared.stops.Stop.TheVariants as stops
use Rattle.cwr_endings.specs.Format.Puts.{PutsOut}
use Rattle.cwr_reports.specs.Steps.Marked.{CountsOutput}
use Rattle.cwr_summary_rows.specs.declared.forms.Form.{Form}
use Rattle.cwr_summary_rows.specs.Format.Rows.{RowValue, row_text}
use Rattle.cwr_summaries.specs.Format.Rows.{SummedInput, rows_text}

module _ {W A : Type 0} (contents : W → Option (List ℕ)) (failures : W → ℕ) (text : List ℕ) where
  pub told_out : (result : Result A Stop) (old new : W) → PutsOut contents failures text result old new
      → OnOk result (Appends (contents old) (contents new) text)
  told_out (Ok u) old new h = h.0
  told_out (Err stop) old new h = tt

  pub output_out : (result : Result A Stop) (old new : W) → IfErr result (λ stop. stop ≡ stops.Output)
      → PutsOut contents failures text result old new → CountsOutput result (failures old) (failures new)
  output_out (Ok u) old new stopped h = h.1
  output_out (Err stop) old new stopped h =
      subst (λ (s : Stop). CountsOutput {A = A} (Err s) (failures old) (failures new)) (sym stopped) h

-- the row of one input
pub one_row : (form : Form) (quiet : Bool) (input : SummedInput) (row : RowValue) → quiet ≡ false → row ≡ input.row
    → row_text form row ≡ rows_text form quiet (input ∷ [])
one_row form true input row loud is = absurd (true≢false loud)
one_row form false input row loud is = ap (row_text form) is ∙ sym (append-nil (row_text form input.row))

-- all that was taken of what had nothing
pub all_of : (before after : Option (List ℕ)) (items taken text : List ℕ) → before ≡ Some items → items ≡ [] → after ≡ Some taken
    → Appends before after text → taken ≡ text
all_of before after items taken text was none is h =
    subst (λ (o : Option (List ℕ)). Appends o (Some taken) text) (was ∙ ap (λ (l : List ℕ). Some l) none)
    (subst (λ (o : Option (List ℕ)). Appends before o text) is h)
