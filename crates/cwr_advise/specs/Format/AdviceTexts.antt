-- The lines of advice at a record.
use Rattle.std.specs.Prelude.{ℕ, ◌+◌, Bool, List, [], ◌∷◌, ◌++◌, codes, decimal, flat_map, slice_get}
use Rattle.std.specs.Option.{option_to_list}
use Rattle.cwr_lines.specs.Format.Carried.{carried_at, record_cell}
use Rattle.cwr_lines.specs.Format.Records.{RecordValue}
use Rattle.cwr_shape.specs.Format.ReasonTexts.{level_text}
use Rattle.cwr_notes.specs.Format.FindingNotes.{gap, noted_line, where_line}
use Rattle.cwr_notes.specs.Format.WorkNames.{work_of}
use Rattle.cwr_advice.specs.declared.rules.Advice.{Advice}
use Rattle.cwr_advice.specs.Format.Rules.{level_of_rule}
use Rattle.cwr_advice.specs.Format.Words.{advice_words, rule_text}

-- the group's number is its ID, from 1, and the transaction's its sequence, from 0
abbrev pub advice_line : ℕ → ℕ → Advice → List ℕ
advice_line group transaction a = codes "ADVICE group " ++ decimal group ++ codes " transaction " ++ decimal transaction
    ++ codes " record " ++ decimal a.rec ++ codes " field " ++ decimal a.field ++ codes " level "
    ++ level_text (level_of_rule a.rule)
    ++ codes " rule " ++ rule_text a.rule ++ 10 ∷ []

-- the cell of field j of a record on line n of the file, where it carries one
unfoldable pub cell_line : ℕ → RecordValue → ℕ → List ℕ
cell_line n r j = noted_line n r.kind (carried_at r.kind j) (record_cell r j)

-- the advice in words
abbrev pub words_line : Advice → List ℕ
words_line a = codes "  advice    " ++ advice_words a.rule ++ 10 ∷ []

-- the lines of advice at a record on line n of the file, in a transaction on whose work that is the line: what it is, where the record
-- stands, that line, its cell, the advice in words, and an empty line where it stands apart
abbrev pub lines_at_record : Bool → ℕ → ℕ → ℕ → List ℕ → Advice → RecordValue → List ℕ
lines_at_record apart group sequence n work a r =
    advice_line group sequence a ++ where_line n r.kind ++ work ++ cell_line n r a.field ++ words_line a ++ gap apart

-- the same in the transaction t, whose first record is on line n of the file
unfoldable pub noted_advice : Bool → ℕ → ℕ → ℕ → List RecordValue → Advice → List ℕ
noted_advice apart group sequence n t a =
    flat_map (lines_at_record apart group sequence (n + a.rec) (work_of t) a) (option_to_list (slice_get t a.rec))
