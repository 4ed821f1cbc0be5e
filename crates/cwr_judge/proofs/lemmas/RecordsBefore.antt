-- Rows that are cut at one of them are those of records, cut at its record.
use Rattle.std.proofs.Common.{◌≡◌, ℕ, List, [], ◌∷◌, ◌++◌, map, refl, sym, ap, ap₂, subst, ◌∙◌, append_assoc, append-nil}
use Rattle.std.specs.List.{AllZip, AllByRecursion}
use Rattle.cwr_lines.specs.Format.Records.{RecordValue, Row, IsRecord, IsRow, record_of}
use Rattle.cwr_lines.specs.Format.Lines.{IsLineOf}
use Rattle.cwr_lines.proofs.lemmas.RowLaws.{IsRow-row_of}
use Rattle.cwr_values.specs.Format.Values.{TransmissionValue, IsTransmission}
use Rattle.cwr_values.specs.Format.Rows.{records_of, rows}
use Rattle.cwr_values.specs.Format.Begins.{row_after, rows_after, rows_so_far}
use Rattle.cwr_values.proofs.lemmas.RowAt.{rows_whole}
use Rattle.cwr_values.proofs.lemmas.Spelling.{records_in_order}
use Rattle.cwr_values.proofs.lemmas.OneSpelling.{rows_of_front}
use Rattle.cwr_judge.proofs.lemmas.EndingRecord.{records_back}

-- the records after others, cut at the record of a row
record Cut (before rs : List RecordValue) (front : List Row) (next : Row) : Type 0 where
  records : List RecordValue
  at : RecordValue
  more : List RecordValue
  split : rs ≡ records ++ at ∷ more
  front_are : rows_after before records ≡ front
  next_is : row_after (before ++ records) at ≡ next

cut : (before rs : List RecordValue) (front : List Row) (next : Row) (rest : List Row)
    → rows_after before rs ≡ front ++ next ∷ rest → Cut before rs front next
unfolding rows_after
cut before [] [] next rest e = absurd (cc e)
cut before [] (x ∷ front) next rest e = absurd (cc e)
cut before (r ∷ rs) [] next rest e =
    let first : row_after before r ≡ next = cc e in
    record {
      records = [];
      at = r;
      more = rs;
      split = refl;
      front_are = refl;
      next_is = ap (λ (b : List RecordValue). row_after b r) (append-nil before) ∙ first;
    }
cut before (r ∷ rs) (x ∷ front) next rest e =
    let first : row_after before r ≡ x = cc e in
    let after : rows_after (before ++ r ∷ []) rs ≡ front ++ next ∷ rest = cc e in
    let c = cut (before ++ r ∷ []) rs front next rest after in
    record {
      records = r ∷ c.records;
      at = c.at;
      more = c.more;
      split = ap (λ (l : List RecordValue). r ∷ l) c.split;
      front_are = ap₂ (λ (y : Row) (l : List Row). y ∷ l) first c.front_are;
      next_is = ap (λ (b : List RecordValue). row_after b c.at) (sym (append_assoc before (r ∷ []) c.records)) ∙ c.next_is;
    }

-- the records of a transmission, cut at that of a row
pub record Before (v : TransmissionValue) (front : List Row) (next : Row) : Type 0 where
  pub records : List RecordValue
  pub at : RecordValue
  pub more : List RecordValue
  pub split : records_of v ≡ records ++ at ∷ more
  pub in_order : AllByRecursion IsRecord records
  pub at_in_order : IsRecord at
  pub front_are : rows_so_far records ≡ front
  pub next_is : row_after records at ≡ next

all_front : (xs : List RecordValue) (y : RecordValue) (ys : List RecordValue) → AllByRecursion IsRecord (xs ++ y ∷ ys)
    → AllByRecursion IsRecord xs × IsRecord y
all_front [] y ys h = (tt, h.0)
all_front (x ∷ xs) y ys h = let rest = all_front xs y ys h.1 in ((h.0, rest.0), rest.1)

pub records_before : (v : TransmissionValue) (front : List Row) (next : Row) (rest : List Row) → IsTransmission v
    → rows v ≡ front ++ next ∷ rest → Before v front next
records_before v front next rest h e =
    let c = cut [] (records_of v) front next rest (sym (rows_whole v h) ∙ e) in
    let all = all_front c.records c.at c.more (subst (AllByRecursion IsRecord) c.split (records_in_order v h)) in
    record {
      records = c.records;
      at = c.at;
      more = c.more;
      split = c.split;
      in_order = all.0;
      at_in_order = all.1;
      front_are = c.front_are;
      next_is = c.next_is;
    }

-- ---- the records of lines

pub rows_well : (before rs : List RecordValue) → AllByRecursion IsRecord rs → AllByRecursion IsRow (rows_after before rs)
unfolding rows_after
rows_well before [] h = tt
rows_well before (r ∷ rs) h = (IsRow-row_of _ r h.0, rows_well (before ++ r ∷ []) rs h.1)

no_more : (back : List Row) → AllZip IsLineOf back [] → back ≡ []
no_more [] h = refl
no_more (r ∷ back) h = absurd h

-- lines are those of the rows of at most one list of records
pub one_list : (rs qs : List RecordValue) (lines : List (List ℕ)) → AllByRecursion IsRecord rs → AllByRecursion IsRecord qs
    → AllZip IsLineOf (rows_so_far rs) lines → AllZip IsLineOf (rows_so_far qs) lines → rs ≡ qs
one_list rs qs lines h k p q =
    let b =
    rows_of_front (rows_so_far rs) (rows_so_far qs) lines [] (rows_well [] rs h) (rows_well [] qs k) p
    (subst (λ (ls : List (List ℕ)). AllZip IsLineOf (rows_so_far qs) ls) (sym (append-nil lines)) q) in
    let same : rows_so_far qs ≡ rows_so_far rs =
    b.1 ∙ ap (λ (l : List Row). rows_so_far rs ++ l) (no_more b.0 b.2) ∙ append-nil (rows_so_far rs) in
    sym (records_back [] rs h) ∙ ap (map record_of) (sym same) ∙ records_back [] qs k
