-- Inputs that were told one after another, and what stands for their sums.
use Rattle.std.proofs.Common.{◌≡◌, ◌∙◌, ℕ, Bool, true, false, List, [], ◌∷◌, ◌++◌, map, length, Option, None, Some, append-nil, ◌||◌, refl, sym, ap, subst, true≢false}
use Rattle.std.specs.Option.{is_some}
use Rattle.std.specs.Prelude.{Ok, nat_lt}
use Rattle.std.specs.List.{AllZip}
use Rattle.std.specs.Io.KnownBytes.{Appends}
use Rattle.std.proofs.lemmas.List.Concat.{flat_map-append}
use Rattle.std.proofs.lemmas.List.{map-append}
use Rattle.cwr_shape.specs.declared.limits.Limits.{Limits}
use Rattle.cwr_files.specs.Format.Files.{Texts}
use Rattle.cwr_files.specs.Steps.Inputs.{standard_after}
use Rattle.cwr_reports.specs.Steps.Several.{IsFirst}
use Rattle.cwr_endings.specs.declared.endings.Status.{Status}
use Rattle.cwr_endings.specs.declared.endings.Status.TheVariants as statuses
use Rattle.cwr_endings.specs.Format.Endings.{worse_status}
use Rattle.cwr_reports.specs.Steps.Marked.{CountsEnds, Piece, status_in, worst_from}
use Rattle.cwr_reports.proofs.lemmas.Pieces.{appends_on, ends_more, worst_more_from, zipped_more}
use Rattle.cwr_summary_rows.specs.declared.forms.Form.{Form}
use Rattle.cwr_summary_rows.specs.Format.Rows.{row_text}
use Rattle.cwr_summaries.specs.declared.summaries.Totals.{Totals}
use Rattle.cwr_summaries.specs.Format.Rows.{SummedInput, IsSumsText, heading_in, rows_text}
use Rattle.cwr_summaries.specs.Format.Summed.{summed}
use Rattle.cwr_summaries.specs.Steps.Rows.{AreInputs, AreTotals, IsInput, TellsNext, TellsRows, WritesSums, piece_of}

rows_more : (form : Form) (quiet : Bool) (inputs : List SummedInput) (input : SummedInput)
    → rows_text form quiet (inputs ++ input ∷ []) ≡ rows_text form quiet inputs ++ rows_text form quiet (input ∷ [])
rows_more form true inputs input = refl
rows_more form false inputs input = flat_map-append (λ (it : SummedInput). row_text form it.row) inputs (input ∷ [])

module _ {W : Type 0} (form : Form) (limits : Limits) (digests whole quiet : Bool) (held : Option Texts) (standard : Option (List ℕ))
    (contents : W → Option (List ℕ)) where
  pub inputs_more : (names : List (List ℕ)) (name : List ℕ) (old mid new : W) (failures between now : ℕ) (totals totals_now : Totals)
      → (inputs : List SummedInput) × AreInputs form limits digests whole quiet held standard names contents old mid failures between totals inputs
      → TellsNext form limits digests whole quiet held standard name contents mid new between now totals totals_now (Ok tt)
      → (inputs : List SummedInput)
      × AreInputs form limits digests whole quiet held standard (names ++ name ∷ []) contents old new failures now totals_now inputs
  inputs_more names name old mid new failures between now totals totals_now before next =
      let inputs = before.0 in
      let h = before.1 in
      let input = next.0 in
      let pieces : map piece_of (inputs ++ input ∷ []) ≡ map piece_of inputs ++ piece_of input ∷ [] = map-append piece_of inputs (input ∷ []) in (
        inputs ++ input ∷ [],
        record {
          each = zipped_more (IsInput form limits digests whole held standard) names inputs name input h.each next.1;
          written = subst (Appends (contents old) (contents new)) (sym (rows_more form quiet inputs input))
              (appends_on (contents old) (contents mid) (contents new) (rows_text form quiet inputs) (rows_text form quiet (input ∷ []))
              h.written next.2);
          counted = subst (λ (l : List Piece). CountsEnds l failures now) (sym pieces)
              (ends_more (map piece_of inputs) (piece_of input) failures between now h.counted next.3);
          totals_are = next.4 inputs h.totals_are;
          worst = next.5 ∙ ap (λ (s : Status). worse_status s (status_in input.end)) h.worst
              ∙ sym (worst_more_from statuses.Good (map piece_of inputs) (piece_of input))
              ∙ ap (worst_from statuses.Good) (sym pieces);
        },
      )

  pub no_inputs : (lines : W) (failures : ℕ) (totals : Totals) → Appends (contents lines) (contents lines) (rows_text form quiet [])
      → AreTotals totals [] → totals.sums.status ≡ statuses.Good → (inputs : List SummedInput)
      × AreInputs form limits digests whole quiet held standard [] contents lines lines failures failures totals inputs
  no_inputs lines failures totals none counted good =
      ([], record { each = tt; written = none; counted = refl; totals_are = counted; worst = good })

  -- all that was written of them, with what stands before and behind
  pub rows_told : (words names : List (List ℕ)) (files : ℕ) (tells : Bool) (start headed told ended : W) (failures now : ℕ) (totals : Totals)
      → Appends (contents start) (contents headed) (heading_in form)
      → (inputs : List SummedInput) × AreInputs form limits digests whole quiet held standard names contents headed told failures now totals inputs
      → ((inputs : List SummedInput) → AreTotals totals inputs → WritesSums contents form tells files inputs told ended)
      → names ≡ summed words → files ≡ length (summed words) → tells ≡ (quiet || nat_lt 1 (length words))
      → TellsRows form limits digests whole quiet held standard words contents start ended failures now (Ok totals.sums.status)
  rows_told words names files tells start headed told ended failures now totals heading these sums are many tell =
      let inputs = these.0 in
      let h = these.1 in
      let last = sums inputs h.totals_are in
      let rows = rows_text form quiet inputs in (
        inputs,
        subst (λ (ns : List (List ℕ)). AllZip (IsInput form limits digests whole held standard) ns inputs) are h.each,
        last.0,
        subst (λ (n : ℕ). IsSumsText form (quiet || nat_lt 1 (length words)) n inputs last.0) many
            (subst (λ (b : Bool). IsSumsText form b files inputs last.0) tell last.1),
        appends_on (contents start) (contents told) (contents ended) (heading_in form ++ rows) last.0
            (appends_on (contents start) (contents headed) (contents told) (heading_in form) rows heading h.written) last.2,
        h.counted,
        h.worst,
      )

-- nothing was written of none
pub none_written : (form : Form) (quiet : Bool) (has : Option (List ℕ)) → Appends has has (rows_text form quiet [])
none_written form quiet None = tt
none_written form true (Some text) = sym (append-nil text)
none_written form false (Some text) = sym (append-nil text)

-- what is left of standard input, which is there once
pub first_after : {I : Type 0} (of_standard : I → Option (List ℕ)) (b : Bool) (old new : Option I) (first : Option (List ℕ))
    → new ≡ standard_after b old → IsFirst of_standard old first → IsFirst of_standard new first
first_after of_standard true old new first e is = λ there. absurd (true≢false (sym there ∙ ap is_some e))
first_after {I = I} of_standard false old new first e is = subst (λ (o : Option I). IsFirst of_standard o first) (sym e) is
