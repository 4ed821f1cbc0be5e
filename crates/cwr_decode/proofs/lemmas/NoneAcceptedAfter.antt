-- What comes after the lines that were accepted, where a text is accepted as a whole: the line of a record that may come next.
use Rattle.std.proofs.Common.{◌≡◌, ℕ, ◌≤◌, List, [], ◌∷◌, ◌++◌, length, map, refl, sym, ap, subst, ◌∙◌, arith, append_assoc}
use Rattle.std.proofs.Common.{append-nil, inl, inr, true≢false}
use Rattle.std.specs.Prelude.{◌⊎◌, ◌==◌}
use Rattle.std.specs.List.{AllZip, AllByRecursion}
use Rattle.std.proofs.lemmas.Bool.{or_parts}
use Rattle.std.proofs.lemmas.List.{map-append, append_cancel_left}
use Rattle.std.proofs.lemmas.Grind.{flat_map-append}
use Rattle.cwr_fields.proofs.lemmas.LineFeeds.{NoLf, has_lf}
use Rattle.cwr_lines.specs.declared.lines.LineEnd.{LineEnd}
use Rattle.cwr_lines.specs.declared.lines.LineEnd.TheVariants.{Line}
use Rattle.cwr_lines.specs.Format.Records.{RecordValue, IsRecord, Row, IsRow, record_of}
use Rattle.cwr_lines.specs.Format.Lines.{IsLineOf, closed, longest_line}
use Rattle.cwr_lines.specs.Steps.Held.{HeldLine, IsHeld, HoldsBy, text_by, held_text}
use Rattle.cwr_lines.proofs.lemmas.RowLaws.{IsRow-row_of}
use Rattle.cwr_lines.proofs.lemmas.LineLaws.{first_line, lines_agree, text_of-cons}
use Rattle.cwr_shape.specs.declared.symbols.Symbol.{Symbol}
use Rattle.cwr_shape.specs.Format.Ranges.{LimitValues}
use Rattle.cwr_shape.specs.Format.Outlines.{symbols_of, IsWhole}
use Rattle.cwr_shape.specs.Format.NextSymbols.{MayCome}
use Rattle.cwr_shape.specs.Steps.Tallies.{TallyValue}
use Rattle.cwr_shape.proofs.lemmas.PrefixFree.{prefix_free}
use Rattle.cwr_values.specs.Format.Values.{TransmissionValue, IsTransmission, FitsIn, symbol_of, outline_of}
use Rattle.cwr_values.specs.Format.Rows.{records_of, rows}
use Rattle.cwr_values.specs.Format.Begins.{row_after, rows_after, rows_so_far}
use Rattle.cwr_values.proofs.lemmas.Spelling.{records_in_order}
use Rattle.cwr_values.proofs.lemmas.OneSpelling.{symbols-outline, outline_whole, records-rows, rows_are_rows, lines_without_lf}
use Rattle.cwr_values.proofs.lemmas.OneSpelling.{rows_of_front}
use Rattle.cwr_values.proofs.lemmas.RowAt.{rows_split}
use Rattle.cwr_judge.specs.Format.Ends.{IsAccepted, IsNotAccepted}
use Rattle.cwr_judge.specs.Steps.Judged.{IsOfNone}
use Rattle.cwr_decode.specs.Steps.Represents.{AreAccepted, text_of}
use Rattle.cwr_judge.proofs.lemmas.NextLines.{line_is_next}
use Rattle.cwr_judge.proofs.lemmas.EndingRecord.{records_back}

-- a transmission whose text begins with the lines of these records has one more record, and its line comes next
pub record GoesFurther (limits : LimitValues) (lines : List (List ℕ)) (records : List RecordValue) (others : List (List ℕ)) : Type
    0 where
  pub next : RecordValue
  pub line : List ℕ
  pub more : List (List ℕ)
  pub split : others ≡ lines ++ line ∷ more
  pub in_order : IsRecord next
  pub may_come : MayCome limits (map symbol_of records) (symbol_of next)
  pub is_line : IsLineOf (row_after records next) line

-- ---- rows and lines

-- records in order have rows
rows_well : (before rs : List RecordValue) → AllByRecursion IsRecord rs → AllByRecursion IsRow (rows_after before rs)
unfolding rows_after
rows_well before [] h = tt
rows_well before (r ∷ rs) h = (IsRow-row_of _ r h.0, rows_well (before ++ r ∷ []) rs h.1)

-- the lines after those of the first rows are those of the other rows
lines_after : (rs ss : List Row) (ks more : List (List ℕ)) → AllZip IsLineOf rs ks → AllZip IsLineOf (rs ++ ss) (ks ++ more)
    → AllZip IsLineOf ss more
lines_after [] ss [] more p q = q
lines_after [] ss (k ∷ ks) more p q = absurd p
lines_after (r ∷ rs) ss [] more p q = absurd p
lines_after (r ∷ rs) ss (k ∷ ks) more p q = lines_after rs ss ks more p.1 q.1

-- the records of rows that begin with others
records_begin : (rs ss back : List Row) (xs ys : List RecordValue) → map record_of rs ≡ xs → map record_of ss ≡ ys
    → ss ≡ rs ++ back → ys ≡ xs ++ map record_of back
records_begin rs ss back xs ys h k e =
    sym k ∙ ap (map record_of) e ∙ map-append record_of rs back ∙ ap (λ (l : List RecordValue). l ++ map record_of back) h

at_front : (P : RecordValue → Type 0) (xs : List RecordValue) (y : RecordValue) (ys : List RecordValue)
    → AllByRecursion P (xs ++ y ∷ ys) → P y
at_front P [] y ys h = h.0
at_front P (x ∷ xs) y ys h = at_front P xs y ys h.1

nothing_in_front : (xs ys : List Symbol) → xs ++ ys ≡ [] → xs ≡ []
nothing_in_front [] ys e = refl
nothing_in_front (x ∷ xs) ys e = absurd (cc e)

-- ---- one more record

-- records that are a transmission's have the symbols of a whole one
same_whole : (v : TransmissionValue) (records : List RecordValue) → IsTransmission v → records_of v ≡ records
    → IsWhole (map symbol_of records)
same_whole v records h e = (outline_of v, outline_whole v h, sym (ap (map symbol_of) e) ∙ sym (symbols-outline v h))

no_symbols : (rs : List RecordValue) → map symbol_of rs ≡ [] → rs ≡ []
no_symbols [] e = refl
no_symbols (r ∷ rs) e = absurd (cc e)

-- records that begin some transmission are no more than a whole one's
nothing_longer : (tally : TallyValue) (lines : List (List ℕ)) (records rest : List RecordValue) (v : TransmissionValue)
    → AreAccepted tally lines records → IsTransmission v → records ≡ records_of v ++ rest → rest ≡ []
nothing_longer tally lines records rest v read h e =
    let begins = read.counted.stands.begins in
    let more : List Symbol = begins.3.0 in
    let xs : List Symbol = map symbol_of rest in
    let symbols : map symbol_of records ≡ symbols_of (outline_of v) ++ xs =
    ap (map symbol_of) e ∙ map-append symbol_of (records_of v) rest
    ∙ ap (λ (l : List Symbol). l ++ xs) (sym (symbols-outline v h)) in
    let whole : symbols_of (outline_of v) ++ (xs ++ more) ≡ symbols_of begins.0 =
    sym (append_assoc (symbols_of (outline_of v)) xs more) ∙ ap (λ (l : List Symbol). l ++ more) (sym symbols) ∙ sym begins.3.1 in
    no_symbols rest
    (nothing_in_front xs more (prefix_free (outline_of v) begins.0 (xs ++ more) (outline_whole v h) begins.1 whole))

one_further : (tally : TallyValue) (lines : List (List ℕ)) (records : List RecordValue) (v : TransmissionValue)
    (others : List (List ℕ)) (rest : List RecordValue) (more : List (List ℕ))
    → ¬ IsWhole (map symbol_of records) → IsTransmission v → FitsIn tally.limits v → records_of v ≡ records ++ rest
    → others ≡ lines ++ more → AllZip IsLineOf (rows_after records rest) more
    → GoesFurther tally.limits lines records others
unfolding rows_after
one_further tally lines records v others [] more left h fits e d z =
    absurd (left (same_whole v records h (e ∙ append-nil records)))
one_further tally lines records v others (r ∷ rest) [] left h fits e d z = absurd z
one_further tally lines records v others (r ∷ rest) (k ∷ more) left h fits e d z =
    let xs : List Symbol = map symbol_of records in
    let s : Symbol = symbol_of r in
    let begins : symbols_of (outline_of v) ≡ (xs ++ s ∷ []) ++ map symbol_of rest =
    symbols-outline v h ∙ ap (map symbol_of) e ∙ map-append symbol_of records (r ∷ rest)
    ∙ sym (append_assoc xs (s ∷ []) (map symbol_of rest)) in
    record {
      next = r;
      line = k;
      more = more;
      split = d;
      in_order = at_front IsRecord records r rest (subst (AllByRecursion IsRecord) e (records_in_order v h));
      may_come = (outline_of v, outline_whole v h, fits, (map symbol_of rest, begins));
      is_line = z.0;
    }

-- The text of a transmission begins with the lines of records: these are the first of its records, and others come after their
-- lines, or they are all of them.
pub first_records : (tally : TallyValue) (lines : List (List ℕ)) (records : List RecordValue) (v : TransmissionValue)
    (others : List (List ℕ)) (u w : List ℕ) → AreAccepted tally lines records
    → IsTransmission v → AllZip IsLineOf (rows v) others → text_of lines ++ u ≡ text_of others ++ w
    → ((rest : List RecordValue) × (more : List (List ℕ)) × (records_of v ≡ records ++ rest) × (others ≡ lines ++ more))
    ⊎ (records_of v ≡ records)
first_records tally lines records v others u w read h z e =
    by_lines (lines_agree lines others u w (lines_without_lf (rows_so_far records) lines read.rows)
    (lines_without_lf (rows v) others z) e)
  where
    well : AllByRecursion IsRow (rows_so_far records)
    well = rows_well [] records read.in_order

    back : map record_of (rows_so_far records) ≡ records
    back = records_back [] records read.in_order

    by_lines : ((more : List (List ℕ)) × (others ≡ lines ++ more) × (u ≡ text_of more ++ w))
        ⊎ ((more : List (List ℕ)) × (lines ≡ others ++ more) × (w ≡ text_of more ++ u))
        → ((rest : List RecordValue) × (more : List (List ℕ)) × (records_of v ≡ records ++ rest) × (others ≡ lines ++ more))
        ⊎ (records_of v ≡ records)
    by_lines (inl a) =
        let b =
        rows_of_front (rows_so_far records) (rows v) lines a.0 well (rows_are_rows v h) read.rows
        (subst (λ (ks : List (List ℕ)). AllZip IsLineOf (rows v) ks) a.1 z) in
        inl (
          map record_of b.0,
          a.0,
          records_begin (rows_so_far records) (rows v) b.0 records (records_of v) back (records-rows v h) b.1,
          a.1,
        )
    by_lines (inr a) =
        let b =
        rows_of_front (rows v) (rows_so_far records) others a.0 (rows_are_rows v h) well z
        (subst (λ (ks : List (List ℕ)). AllZip IsLineOf (rows_so_far records) ks) a.1 read.rows) in
        let split : records ≡ records_of v ++ map record_of b.0 =
        records_begin (rows v) (rows_so_far records) b.0 (records_of v) records (records-rows v h) back b.1 in
        inr (sym (split ∙ ap (λ (l : List RecordValue). records_of v ++ l)
        (nothing_longer tally lines records (map record_of b.0) v read h split) ∙ append-nil (records_of v)))

-- A text begins with the lines of records that aren't a whole transmission's. Where it begins with those of a
-- transmission too, that one has a record after these.
pub goes_further : (tally : TallyValue) (lines : List (List ℕ)) (records : List RecordValue) (v : TransmissionValue)
    (others : List (List ℕ)) (u w : List ℕ) → AreAccepted tally lines records
    → ¬ IsWhole (map symbol_of records) → IsTransmission v → FitsIn tally.limits v → AllZip IsLineOf (rows v) others
    → text_of lines ++ u ≡ text_of others ++ w → GoesFurther tally.limits lines records others
goes_further tally lines records v others u w read left h fits z e =
    from (first_records tally lines records v others u w read h z e)
  where
    from : ((rest : List RecordValue) × (more : List (List ℕ)) × (records_of v ≡ records ++ rest) × (others ≡ lines ++ more))
        ⊎ (records_of v ≡ records) → GoesFurther tally.limits lines records others
    from (inl (rest, more, split, d)) =
        let all : AllZip IsLineOf (rows v) (lines ++ more) = subst (λ (ks : List (List ℕ)). AllZip IsLineOf (rows v) ks) d z in
        let tail : AllZip IsLineOf (rows_after records rest) more =
        lines_after (rows_so_far records) (rows_after records rest) lines more read.rows
        (subst (λ (rs : List Row). AllZip IsLineOf rs (lines ++ more)) (rows_split v records rest h split) all) in
        one_further tally lines records v others rest more left h fits split d tail
    from (inr same) = absurd (left (same_whole v records h same))

-- ---- what no text continues with

-- the bytes after the lines of the records begin with the line of a record that may come next
record NextLine (tally : TallyValue) (records : List RecordValue) (tail : List ℕ) : Type 0 where
  next : RecordValue
  line : List ℕ
  after : List ℕ
  split : tail ≡ line ++ 10 ∷ after
  in_order : IsRecord next
  may_come : MayCome tally.limits (map symbol_of records) (symbol_of next)
  is_line : IsLineOf (row_after records next) line

text_after : (lines : List (List ℕ)) (line : List ℕ) (more : List (List ℕ)) (u w : List ℕ)
    → text_of lines ++ u ≡ text_of (lines ++ line ∷ more) ++ w → u ≡ line ++ 10 ∷ (text_of more ++ w)
text_after lines line more u w e =
    append_cancel_left (text_of lines) u (text_of (line ∷ more) ++ w)
    (e ∙ ap (λ (t : List ℕ). t ++ w) (flat_map-append (λ k. k ++ 10 ∷ []) lines (line ∷ more))
    ∙ append_assoc (text_of lines) (text_of (line ∷ more)) w)
    ∙ text_of-cons line more w

next_line : (tally : TallyValue) (lines : List (List ℕ)) (records : List RecordValue) (text tail : List ℕ) (v : TransmissionValue)
    (n : ℕ) → AreAccepted tally lines records → ¬ IsWhole (map symbol_of records)
    → closed text ≡ text_of lines ++ tail → IsAccepted tally.limits text v n → NextLine tally records tail
next_line tally lines records text tail v n read left e a =
    let others : List (List ℕ) = a.spelled.0 in
    let both : text_of lines ++ tail ≡ text_of others ++ a.rest =
    sym e ∙ a.split ∙ ap (λ (t : List ℕ). t ++ a.rest) a.spelled.2 in
    let g = goes_further tally lines records v others tail a.rest read left a.whole a.within a.spelled.1 both in
    record {
      next = g.next;
      line = g.line;
      after = text_of g.more ++ a.rest;
      split = text_after lines g.line g.more tail a.rest (both ∙ ap (λ (ks : List (List ℕ)). text_of ks ++ a.rest) g.split);
      in_order = g.in_order;
      may_come = g.may_come;
      is_line = g.is_line;
    }

-- no text is accepted whose next line is that of no record that may come next
pub none_after_line : (tally : TallyValue) (lines : List (List ℕ)) (records : List RecordValue) (line : HeldLine)
    (text more : List ℕ) → AreAccepted tally lines records → ¬ IsWhole (map symbol_of records)
    → IsHeld line → line.ended ≡ Line → IsOfNone tally.limits (map symbol_of records) line
    → closed text ≡ text_of lines ++ (held_text line ++ more) → IsNotAccepted tally.limits text
none_after_line tally lines records line text more read left held ended none e v n a =
    let g = next_line tally lines records text (held_text line ++ more) v n read left e a in
    let whole : line.bytes ++ 10 ∷ more ≡ g.line ++ 10 ∷ g.after =
    sym (append_assoc line.bytes (10 ∷ []) more) ∙ ap (λ (end : LineEnd). text_by end line.bytes ++ more) (sym ended) ∙ g.split in
    let same : line.bytes ≡ g.line = (first_line line.bytes g.line more g.after held.no_lf g.is_line.0 whole).0 in
    let holds : HoldsBy line.ended line.bytes g.line =
    subst (λ (end : LineEnd). HoldsBy end line.bytes g.line) (sym ended) same in
    none (symbol_of g.next) g.next
    (line_is_next tally.limits (map symbol_of records) line g.line g.next held holds g.in_order g.may_come g.is_line)

-- no text is accepted that ends before a transmission does
pub none_after_cut : (tally : TallyValue) (lines : List (List ℕ)) (records : List RecordValue) (text : List ℕ)
    → AreAccepted tally lines records → ¬ IsWhole (map symbol_of records) → closed text ≡ text_of lines
    → IsNotAccepted tally.limits text
none_after_cut tally lines records text read left e v n a =
    let g = next_line tally lines records text [] v n read left (e ∙ sym (append-nil (text_of lines))) a in
    nothing g.line g.after g.split
  where
    nothing : (line after : List ℕ) → [] ≡ line ++ 10 ∷ after → ⊥
    nothing [] after d = cc d
    nothing (b ∷ line) after d = cc d

-- no line ends within bytes of which none is a line feed, nor after them before another such byte
no_end : (bytes line : List ℕ) (next : ℕ) (more after : List ℕ) → NoLf bytes → (next ≡ 10 → ⊥) → length line ≤ length bytes
    → bytes ++ next ∷ more ≡ line ++ 10 ∷ after → ⊥
no_end [] [] next more after h other short e = other (cc e)
no_end [] (c ∷ line) next more after h other short e = omega (arith, short)
no_end (b ∷ bytes) [] next more after h other short e =
    let feed : b ≡ 10 = cc e in
    true≢false (sym (ap (λ (x : ℕ). x == 10) feed) ∙ (or_parts (b == 10) (has_lf bytes) h).0)
no_end (b ∷ bytes) (c ∷ line) next more after h other short e =
    no_end bytes line next more after (or_parts (b == 10) (has_lf bytes) h).1 other (omega (arith, short)) (cc e)

-- no text is accepted whose next line is too long
pub none_after_long : (tally : TallyValue) (lines : List (List ℕ)) (records : List RecordValue) (bytes : List ℕ) (next : ℕ)
    (text more : List ℕ) → AreAccepted tally lines records
    → ¬ IsWhole (map symbol_of records) → NoLf bytes → length bytes ≡ longest_line → (next ≡ 10 → ⊥)
    → closed text ≡ text_of lines ++ (bytes ++ next ∷ more) → IsNotAccepted tally.limits text
none_after_long tally lines records bytes next text more read left no_lf long other e v n a =
    let g = next_line tally lines records text (bytes ++ next ∷ more) v n read left e a in
    no_end bytes g.line next more g.after no_lf other (subst (λ (m : ℕ). length g.line ≤ m) (sym long) g.is_line.1) g.split
