-- A decoder whose input has ended, with all lines accepted and no whole transmission, has a truncated text.
use Rattle.std.proofs.Common.{◌≡◌, ℕ, ◌-◌, Bool, List, [], ◌++◌, length, take, sym, ap, subst, ◌∙◌, arith, append-nil}
use Rattle.std.specs.List.{AllZip, slice_split}
use Rattle.std.proofs.lemmas.List.Splits.{length-slice_split}
use Rattle.cwr_lines.specs.Format.Lines.{IsLineOf, closed, is_lf, raw_lines}
use Rattle.cwr_values.specs.declared.items.Item.{Item}
use Rattle.cwr_values.specs.Format.Begins.{rows_so_far}
use Rattle.cwr_values.proofs.lemmas.RowAt.{length-rows_so_far}
use Rattle.cwr_values.proofs.lemmas.OneSpelling.{lines_without_lf}
use Rattle.cwr_judge.specs.Format.Ends.{IsTruncated}
use Rattle.cwr_decode.specs.Steps.Machines.{Standing}
use Rattle.cwr_decode.specs.Steps.Represents.{EndsTooEarly, IsInput, text_of}
use Rattle.cwr_judge.proofs.lemmas.AcceptedViable.{accepted_viable}
use Rattle.cwr_decode.proofs.lemmas.NoneAcceptedAfter.{none_after_cut}
use Rattle.cwr_decode.proofs.lemmas.RawLines.{raw_begins}
use Rattle.cwr_judge.proofs.lemmas.LineRecords.{as_many}

no_raw_lines : raw_lines [] ≡ []
no_raw_lines =
    let none : length (slice_split is_lf []) - 1 ≡ 0 = omega (arith, length-slice_split is_lf []) in
    ap (λ (n : ℕ). take n (slice_split is_lf [])) none

pub cut_truncated : (d : Standing) (input : List ℕ) (given : List Item) (count : ℕ) → EndsTooEarly d input given count
    → IsTruncated d.tally.limits input count
cut_truncated d input given count c =
    let t = c.through in
    let text : closed input ≡ text_of t.lines = subst (λ (b : Bool). IsInput b input (text_of t.lines)) c.input_ended t.split in
    let raw : raw_lines (closed input) ≡ t.lines =
    ap raw_lines (text ∙ sym (append-nil (text_of t.lines)))
    ∙ raw_begins t.lines [] (lines_without_lf (rows_so_far t.records) t.lines t.read.rows)
    ∙ ap (λ (l : List (List ℕ)). t.lines ++ l) no_raw_lines ∙ append-nil t.lines in
    record {
      unaccepted = none_after_cut d.tally t.lines t.records input t.read c.left text;
      nowhere = λ i k b. b.bad (accepted_viable d.tally.limits t.records b.before b.line b.after k t.read.in_order
          (subst (λ (ls : List (List ℕ)). AllZip IsLineOf (rows_so_far t.records) ls) (sym raw ∙ b.lines) t.read.rows)
          t.read.counted.within);
      count =
          c.counted ∙ sym (ap length raw ∙ as_many (rows_so_far t.records) t.lines t.read.rows ∙ length-rows_so_far t.records);
    }
