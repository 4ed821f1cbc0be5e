-- What is told of a split of a text leaves open neither which items come before a fault nor what is handed over.
use Rattle.std.proofs.Common.{◌≡◌, ℕ, ◌-◌, List, [], ◌∷◌, length, map, take, Option, Some, None, refl, ap, ap₂, subst, sym, ◌∙◌}
use Rattle.std.specs.Prelude.{Result, Ok, Err}
use Rattle.std.specs.List.{AllByRecursion, AllZip}
use Rattle.std.proofs.lemmas.List.{append_cancel_right}
use Rattle.cwr_lines.specs.Format.Lines.{IsLineOf, closed, raw_lines}
use Rattle.cwr_lines.specs.Format.Records.{IsRow, Row}
use Rattle.cwr_lines.proofs.lemmas.RowLaws.{one_row}
use Rattle.cwr_shape.specs.declared.limits.Limits.{Limits}
use Rattle.cwr_values.specs.declared.items.Item.{Item}
use Rattle.cwr_values.specs.Format.Rows.{canonical_text}
use Rattle.cwr_values.specs.Format.Values.{TransmissionValue}
use Rattle.cwr_judge.specs.Format.Items.{items}
use Rattle.cwr_judge.proofs.lemmas.Accepted.{accepted_once}
use Rattle.cwr_devices.specs.Format.Outputs.{AddsTexts}
use Rattle.cwr_tools.specs.declared.verdicts.SplitReport.{SplitReport}
use Rattle.cwr_tools.specs.declared.verdicts.ToolFault.{ToolFault}
use Rattle.cwr_tools.specs.declared.verdicts.ToolFault.TheVariants.{Reader, Writer, Memory, Refused, Truncated, Limit, Output}
use Rattle.cwr_tools.specs.Format.Verdicts.{AreItemsOfLines}
use Rattle.cwr_parts.specs.Format.Laws.{AnswersText, IsFromText}
use Rattle.cwr_parts.specs.Format.Splits.{split_of}
use Rattle.cwr_parts.specs.Format.Splitting.{HasFullRuns, SplitsAll}
use Rattle.cwr_parts.specs.Format.Told.{AreItemsBefore, ComeBefore, SplitsText, SplitsUpTo, all_lines, ended_lines}

-- ---- the items of lines

one_rows : (rs ss : List Row) (lines : List (List ℕ)) → AllByRecursion IsRow rs → AllByRecursion IsRow ss
    → AllZip IsLineOf rs lines → AllZip IsLineOf ss lines → rs ≡ ss
one_rows [] [] [] h j p q = refl
one_rows [] [] (line ∷ lines) h j p q = absurd p
one_rows [] (s ∷ ss) [] h j p q = absurd q
one_rows [] (s ∷ ss) (line ∷ lines) h j p q = absurd p
one_rows (r ∷ rs) ss [] h j p q = absurd p
one_rows (r ∷ rs) [] (line ∷ lines) h j p q = absurd q
one_rows (r ∷ rs) (s ∷ ss) (line ∷ lines) h j p q =
    ap₂ (λ (x : Row) (xs : List Row). x ∷ xs) (one_row r s line h.0 j.0 p.0 q.0) (one_rows rs ss lines h.1 j.1 p.1 q.1)

one_items : (text : List ℕ) (count : ℕ) (given other : List Item) → AreItemsOfLines text count given
    → AreItemsOfLines text count other → given ≡ other
one_items text count given other a b =
    a.given_are ∙ ap items (one_rows a.rows b.rows (take count (raw_lines (closed text))) a.each b.each a.lines b.lines)
    ∙ sym b.given_are

abbrev items_of : (fault : ToolFault) → IsFromText fault → (text read : List ℕ) → ℕ
items_of Reader from text read = ended_lines read
items_of Memory from text read = all_lines read
items_of (Refused refusal) from text read = refusal.rec - 1
items_of (Truncated records) from text read = records
items_of (Writer written) from text read = absurd from
items_of (Limit limit) from text read = absurd from
items_of Output from text read = absurd from

of_lines_before : (limits : Limits) (fault : ToolFault) (from : IsFromText fault) (text read : List ℕ) (given : List Item)
    → AreItemsBefore limits fault text read given → AreItemsOfLines text (items_of fault from text read) given
of_lines_before limits Reader from text read given h = h
of_lines_before limits Memory from text read given h = h
of_lines_before limits (Refused refusal) from text read given h = h.1
of_lines_before limits (Truncated records) from text read given h = h.1
of_lines_before limits (Writer written) from text read given h = absurd from
of_lines_before limits (Limit limit) from text read given h = absurd from
of_lines_before limits Output from text read given h = absurd from

-- the items before a fault of a text that is known
pub one_before : (limits : Limits) (fault : ToolFault) → IsFromText fault → (text left : List ℕ) (given other : List Item)
    → ComeBefore limits fault (Some text) (Some left) given → ComeBefore limits fault (Some text) (Some left) other → given ≡ other
one_before limits fault from text left given other a b =
    let same_read : a.read ≡ b.read = append_cancel_right a.read b.read left (sym a.lost ∙ b.lost) in
    let same_text : a.text ≡ b.text = sym a.known ∙ b.known in
    let first : AreItemsOfLines b.text (items_of fault from b.text b.read) given =
    of_lines_before limits fault from b.text b.read given
    (subst (λ (t : List ℕ). AreItemsBefore limits fault t b.read given) same_text
    (subst (λ (r : List ℕ). AreItemsBefore limits fault a.text r given) same_read a.items)) in
    one_items b.text (items_of fault from b.text b.read) given other first
    (of_lines_before limits fault from b.text b.read other b.items)

-- ---- what is handed over

same_added : (old one other : Option (List (List ℕ))) (known : List (List ℕ)) (texts : List (List ℕ)) → old ≡ Some known
    → AddsTexts old one texts → AddsTexts old other texts → one ≡ other
same_added None one other known texts e a b = absurd (cc e)
same_added (Some xs) None other known texts e a b = absurd a
same_added (Some xs) (Some one) None known texts e a b = absurd b
same_added (Some xs) (Some one) (Some other) known texts e a b = ap Some (a ∙ sym b)

one_up_to : (limits : Limits) (n : ℕ) (fault : ToolFault) → IsFromText fault → (text left : List ℕ)
    (known : List (List ℕ)) (one other : Option (List (List ℕ)))
    → SplitsUpTo limits n fault (Some text) (Some left) (Some known) one
    → SplitsUpTo limits n fault (Some text) (Some left) (Some known) other → one ≡ other
one_up_to limits n fault from text left known one other a b =
    let same : b.0 ≡ a.0 = one_before limits fault from text left b.0 a.0 b.1 a.1 in
    let runs : HasFullRuns limits n a.0 (Some known) other =
    subst (λ (given : List Item). HasFullRuns limits n given (Some known) other) same b.2 in
    let v = a.2.begun in
    same_added (Some known) one other known _ refl (a.2.texts v.value v.rest v.whole v.within v.split)
    (runs.texts v.value v.rest v.whole v.within v.split)

one_whole : (limits : Limits) (n : ℕ) (text left : List ℕ) (known : List (List ℕ)) (one other : Option (List (List ℕ)))
    (report : SplitReport) → SplitsAll limits n (Some text) (Some left) (Some known) one report
    → SplitsAll limits n (Some text) (Some left) (Some known) other report → one ≡ other
one_whole limits n text left known one other report a b =
    let same : b.value ≡ a.value =
    (accepted_once limits text b.value a.value (length b.taken.input) (length a.taken.input) b.taken.front.0 a.taken.front.0).0 in
    same_added (Some known) one other known (map canonical_text (split_of n a.value)) refl a.texts
    (subst (λ (v : TransmissionValue). AddsTexts (Some known) other (map canonical_text (split_of n v))) same b.texts)

pub one_split : (limits : Limits) (n : ℕ) (text left : List ℕ) (known : List (List ℕ)) (one other : Option (List (List ℕ)))
    (result : Result SplitReport ToolFault) → AnswersText result
    → SplitsText limits n (Some text) (Some left) (Some known) one result
    → SplitsText limits n (Some text) (Some left) (Some known) other result → one ≡ other
one_split limits n text left known one other (Ok report) from a b = one_whole limits n text left known one other report a b
one_split limits n text left known one other (Err Reader) from a b = one_up_to limits n Reader from text left known one other a b
one_split limits n text left known one other (Err Memory) from a b = one_up_to limits n Memory from text left known one other a b
one_split limits n text left known one other (Err (Refused refusal)) from a b =
    one_up_to limits n (Refused refusal) from text left known one other a b
one_split limits n text left known one other (Err (Truncated records)) from a b =
    one_up_to limits n (Truncated records) from text left known one other a b
one_split limits n text left known one other (Err (Writer written)) from a b = absurd from
one_split limits n text left known one other (Err (Limit limit)) from a b = absurd from
one_split limits n text left known one other (Err Output) from a b = absurd from
