-- A decoder that refused a line has a text that is refused so, however it continues: at the first bad place, for the first reason
-- that holds there, with its level.
use Rattle.std.proofs.Common.{◌≡◌, ◌≢◌, ℕ, ◌+◌, ◌<◌, Bool, true, false, List, [], ◌∷◌, ◌++◌, length, take, refl, sym, ap, subst}
use Rattle.std.proofs.Common.{◌∙◌, arith, append_assoc, append-nil}
use Rattle.std.proofs.lemmas.List.{length-append}
use Rattle.std.proofs.Math.Seq.{take-append_seam}
use Rattle.cwr_lines.specs.declared.lines.LineEnd.{LineEnd}
use Rattle.cwr_lines.specs.declared.lines.LineEnd.TheVariants.{Line, Over}
use Rattle.cwr_lines.specs.Format.Lines.{closed, longest_line, raw_lines}
use Rattle.cwr_lines.specs.Steps.Held.{HoldsBy, HoldsLine, FillsLongest, held_text, text_by}
use Rattle.cwr_lines.proofs.lemmas.HeldLaws.{held_line_is_cut}
use Rattle.cwr_values.specs.declared.items.Item.{Item}
use Rattle.cwr_values.specs.Format.Begins.{rows_so_far}
use Rattle.cwr_values.proofs.lemmas.RowAt.{length-rows_so_far}
use Rattle.cwr_values.proofs.lemmas.OneSpelling.{lines_without_lf}
use Rattle.cwr_judge.specs.declared.refusals.Refusal.{Refusal}
use Rattle.cwr_judge.specs.Format.Ends.{IsNotAccepted, IsRefused}
use Rattle.cwr_judge.specs.Format.Places.{IsFirstBad}
use Rattle.cwr_judge.proofs.lemmas.FirstReasons.{first_reason}
use Rattle.cwr_judge.proofs.lemmas.LineRecords.{as_many}
use Rattle.cwr_decode.specs.Steps.Machines.{Standing}
use Rattle.cwr_decode.specs.Steps.Represents.{IsInput, IsStopped, MayFollow, text_of}
use Rattle.cwr_decode.proofs.lemmas.NoneAcceptedAfter.{none_after_line, none_after_long}
use Rattle.cwr_decode.proofs.lemmas.LongLines.{long_line}
use Rattle.cwr_decode.proofs.lemmas.RawLines.{raw_after}
use Rattle.cwr_decode.proofs.lemmas.StoppedLevel.{stopped_level}
use Rattle.cwr_decode.proofs.lemmas.StoppedPlaces.{stops_at, first_bad}
use Rattle.cwr_decode.proofs.lemmas.ClosedTexts.{closed_more, text_of-push}

-- a text whose lines are the accepted ones and then the refused one
refused_at : (d : Standing) (input : List ℕ) (given : List Item) (refusal : Refusal) (text line : List ℕ) (after : List (List ℕ))
    → (s : IsStopped d input given refusal) → HoldsLine s.line line
    → raw_lines (closed text) ≡ s.lines ++ line ∷ after → IsNotAccepted d.tally.limits text
    → IsRefused d.tally.limits text refusal
refused_at d input given refusal text line after s holds raw unaccepted =
    let stops = stops_at d.tally s.lines s.records s.line line refusal.field refusal.reason s.read s.is_held holds s.first in
    let rec_is : refusal.rec ≡ length s.lines + 1 =
    omega (arith, s.number, as_many (rows_so_far s.records) s.lines s.read.rows, length-rows_so_far s.records) in
    record {
      unaccepted = unaccepted;
      first =
          subst (λ (i : ℕ). IsFirstBad d.tally.limits text i refusal.field) (sym rec_is)
          (first_bad d.tally.limits text s.lines line after refusal.field raw stops);
      before = s.lines;
      line = line;
      after = after;
      lines = raw;
      at = rec_is;
      reason =
          first_reason d.tally.limits s.records s.lines s.line line refusal.field refusal.reason s.read.in_order s.read.rows
          (held_line_is_cut s.line line s.is_held holds) s.first;
      level = stopped_level d input given refusal line s holds;
    }

-- the closed text begins with the lines, and then the one that ended
closed_input : (input_ended : Bool) (input more : List ℕ) (lines : List (List ℕ)) (bytes : List ℕ) → MayFollow input_ended more
    → IsInput input_ended input (text_of lines ++ (bytes ++ 10 ∷ []))
    → (rest : List ℕ) × (closed (input ++ more) ≡ text_of lines ++ (bytes ++ 10 ∷ rest))
closed_input false input more lines bytes f i =
    let whole : input ++ more ≡ text_of (lines ++ bytes ∷ []) ++ more =
    ap (λ (t : List ℕ). t ++ more) (i ∙ sym (text_of-push lines bytes)) in (
      closed more,
      ap closed whole ∙ closed_more (lines ++ bytes ∷ []) more ∙ ap (λ (t : List ℕ). t ++ closed more) (text_of-push lines bytes)
          ∙ append_assoc (text_of lines) (bytes ++ 10 ∷ []) (closed more)
          ∙ ap (λ (t : List ℕ). text_of lines ++ t) (append_assoc bytes (10 ∷ []) (closed more)),
    )
closed_input true input more lines bytes f i = ([], ap (λ (t : List ℕ). closed (input ++ t)) f ∙ ap closed (append-nil input) ∙ i)

-- where the line ended, by its line feed or with the input
pub refused_line : (d : Standing) (input : List ℕ) (given : List Item) (refusal : Refusal) (more : List ℕ)
    → (s : IsStopped d input given refusal) → s.line.ended ≡ Line → MayFollow s.input_ended more
    → IsRefused d.tally.limits (input ++ more) refusal
refused_line d input given refusal more s ended f =
    let bytes : List ℕ = s.line.bytes in
    let split : IsInput s.input_ended input (text_of s.lines ++ (bytes ++ 10 ∷ [])) =
    subst (λ (e : LineEnd). IsInput s.input_ended input (text_of s.lines ++ text_by e bytes)) ended s.split in
    let c = closed_input s.input_ended input more s.lines bytes f split in
    let raw : raw_lines (closed (input ++ more)) ≡ s.lines ++ bytes ∷ raw_lines c.0 =
    ap raw_lines c.1
    ∙ raw_after s.lines bytes c.0 (lines_without_lf (rows_so_far s.records) s.lines s.read.rows) s.is_held.no_lf in
    let holds : HoldsBy s.line.ended bytes bytes = subst (λ (e : LineEnd). HoldsBy e bytes bytes) (sym ended) refl in
    let text : closed (input ++ more) ≡ text_of s.lines ++ (held_text s.line ++ c.0) =
    c.1 ∙ ap (λ (t : List ℕ). text_of s.lines ++ t) (sym (append_assoc bytes (10 ∷ []) c.0))
    ∙ ap (λ (e : LineEnd). text_of s.lines ++ (text_by e bytes ++ c.0)) (sym ended) in
    refused_at d input given refusal (input ++ more) bytes (raw_lines c.0) s holds raw
    (none_after_line d.tally s.lines s.records s.line (input ++ more) c.0 s.read s.left s.is_held ended s.none text)

-- where the line is too long, and continues with a byte that is no line feed
pub refused_long : (d : Standing) (input : List ℕ) (given : List Item) (refusal : Refusal) (next : ℕ) (rest : List ℕ)
    → (s : IsStopped d input given refusal) → s.line.ended ≡ Over → s.input_ended ≡ false → next ≢ 10
    → IsRefused d.tally.limits (input ++ next ∷ rest) refusal
refused_long d input given refusal next rest s ended open_yet other =
    let bytes : List ℕ = s.line.bytes in
    let split : input ≡ text_of s.lines ++ bytes =
    subst (λ (e : LineEnd). input ≡ text_of s.lines ++ text_by e bytes) ended
    (subst (λ (b : Bool). IsInput b input (text_of s.lines ++ text_by s.line.ended bytes)) open_yet s.split) in
    let full : length bytes ≡ longest_line = subst (λ (e : LineEnd). FillsLongest e (length bytes)) ended s.is_held.full in
    let l = long_line bytes next rest s.is_held.no_lf other in
    let line : List ℕ = bytes ++ next ∷ l.more in
    let text : closed (input ++ next ∷ rest) ≡ text_of s.lines ++ (line ++ 10 ∷ l.after) =
    ap closed (ap (λ (t : List ℕ). t ++ next ∷ rest) split ∙ append_assoc (text_of s.lines) bytes (next ∷ rest))
    ∙ closed_more s.lines (bytes ++ next ∷ rest) ∙ ap (λ (t : List ℕ). text_of s.lines ++ t) l.closes in
    let raw : raw_lines (closed (input ++ next ∷ rest)) ≡ s.lines ++ line ∷ raw_lines l.after =
    ap raw_lines text ∙ raw_after s.lines line l.after (lines_without_lf (rows_so_far s.records) s.lines s.read.rows) l.no_lf in
    let longer : longest_line < length line = omega (arith, full, length-append bytes (next ∷ l.more)) in
    let taken : bytes ≡ take longest_line line =
    sym (take-append_seam bytes (next ∷ l.more)) ∙ ap (λ (n : ℕ). take n line) full in
    let holds : HoldsBy s.line.ended bytes line = subst (λ (e : LineEnd). HoldsBy e bytes line) (sym ended) (longer, taken) in
    let far : closed (input ++ next ∷ rest) ≡ text_of s.lines ++ (bytes ++ next ∷ (l.more ++ 10 ∷ l.after)) =
    text ∙ ap (λ (t : List ℕ). text_of s.lines ++ t) (append_assoc bytes (next ∷ l.more) (10 ∷ l.after)) in
    refused_at d input given refusal (input ++ next ∷ rest) line (raw_lines l.after) s holds raw
    (none_after_long d.tally s.lines s.records bytes next (input ++ next ∷ rest) (l.more ++ 10 ∷ l.after) s.read s.left
    s.is_held.no_lf full other far)
