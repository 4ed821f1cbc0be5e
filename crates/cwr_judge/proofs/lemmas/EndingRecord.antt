-- A record that ends the open transaction gives that as an item, and then its own.
use Rattle.std.proofs.Common.{◌≡◌, ℕ, ◌+◌, ◌-◌, ◌^◌, ◌<◌, ◌≤◌, Bool, true, false, not, cond, ◌&&◌, List, [], ◌∷◌, ◌++◌, length}
use Rattle.std.proofs.Common.{map, drop, refl, sym, ap, ap₂, subst, ◌∙◌, arith, append_assoc, append-nil, true≢false}
use Rattle.std.specs.Prelude.{Option, Some, None, ◌==◌}
use Rattle.std.specs.List.{AllByRecursion, last_or, after_last, suffix_len}
use Rattle.std.proofs.lemmas.List.{length-append, length-map, length-drop, drop-map}
use Rattle.cwr_fields.specs.declared.kinds.Kind.{Kind}
use Rattle.cwr_fields.specs.declared.kinds.Kind.TheVariants as kinds
use Rattle.cwr_lines.specs.Format.Records.{RecordValue, IsRecord, Row, record_of}
use Rattle.cwr_lines.proofs.lemmas.RowLaws.{record_of-row_of}
use Rattle.cwr_shape.specs.declared.symbols.Symbol.{Symbol}
use Rattle.cwr_shape.specs.Format.Outlines.{Continues}
use Rattle.cwr_shape.specs.Format.LastSymbols.{is_grh}
use Rattle.cwr_shape.specs.Format.AnyTransmission.{Any}
use Rattle.cwr_shape.specs.Format.NextSymbols.{is_header_of, open_type, open_group, open_records}
use Rattle.cwr_values.specs.declared.items.Item.{Item}
use Rattle.cwr_values.specs.declared.items.Item.TheVariants.{Opened, GroupOpened, Transaction, GroupClosed}
use Rattle.cwr_values.specs.Format.Values.{symbol_of}
use Rattle.cwr_values.specs.Format.Begins.{row_after, rows_after, rows_so_far}
use Rattle.cwr_values.proofs.lemmas.RowAt.{rows_so_far-snoc, length-rows_so_far}
use Rattle.cwr_fields.specs.Format.Kinds.{is_in_transaction}
use Rattle.cwr_judge.specs.Format.Items.{record_sequence, continues_transaction, ends_transaction, transaction_at_end, own_item}
use Rattle.cwr_judge.specs.Format.Items.{items_at, items_after, items}
use Rattle.cwr_judge.specs.Steps.Open.{items_so_far, open_of, continues_open, ended_transaction, item_of, Closes}
use Rattle.cwr_judge.proofs.lemmas.ItemsOfTransactions.{items-append, last-snoc, idle, snoc_of, all_last}
use Rattle.cwr_judge.proofs.lemmas.OneMoreRecord.{inner_record_symbol, is_header, count_after_header, first_sequence, row_sequence}
use Rattle.cwr_judge.proofs.lemmas.OneMoreRecord.{goes_inside, open_inside, open_outside, some_open, open_header}

-- ---- the rows of records

pub records_back : (before rs : List RecordValue) → AllByRecursion IsRecord rs → map record_of (rows_after before rs) ≡ rs
unfolding rows_after
records_back before [] h = refl
records_back before (r ∷ rs) h =
    ap₂ (λ (x : RecordValue) (l : List RecordValue). x ∷ l) (record_of-row_of _ r h.0) (records_back (before ++ r ∷ []) rs h.1)

handed_some : (rs : List RecordValue) → 0 < length rs → ended_transaction rs ≡ Transaction rs ∷ []
handed_some [] h = absurd (omega (arith, h))
handed_some (r ∷ rs) h = refl

pub after_few : (test : Symbol → Bool) (xs : List Symbol) → length (after_last test xs) ≤ length xs
after_few test xs = omega (arith, length-drop (length xs - suffix_len (λ s. not (test s)) xs) xs)

-- no more records stand after the last header than there are
after_header_few : (records : List RecordValue) → count_after_header records ≤ length records
after_header_few records =
    let xs : List Symbol = map symbol_of records in
    omega (arith, after_few (is_header_of (open_type xs)) (open_group xs), after_few is_grh xs, length-map records symbol_of)

-- the row of a record that begins a transaction, or stands in none, gives the open transaction
record Hands (records : List RecordValue) (row : Row) : Type 0 where
  gives : items_at (rows_so_far records) row ≡ ended_transaction (open_of records) ++ own_item row.kind row

hands_by : (front : List RecordValue) (last : RecordValue) (row : Row) (b : Bool) → is_in_transaction last.kind ≡ b
    → AllByRecursion IsRecord (front ++ last ∷ []) → length (front ++ last ∷ []) ≤ 99999999 → continues_transaction row ≡ false
    → Hands (front ++ last ∷ []) row
hands_by front last row false outside h few n = record {
  gives = ap (λ (rows : List Row). items_at rows row) (rows_so_far-snoc front last)
      ∙ idle (rows_so_far front) (row_after front last) outside row n
      ∙ ap (λ (rs : List RecordValue). ended_transaction rs ++ own_item row.kind row) (sym (open_outside front last outside));
}
hands_by front last row true inside h few n =
    let records : List RecordValue = front ++ last ∷ [] in
    let rows : List Row = rows_so_far records in
    let end : Row = row_after front last in
    let at_end : last_or None rows ≡ Some end =
    ap (last_or None) (rows_so_far-snoc front last) ∙ last-snoc None (rows_so_far front) end in
    let fits : count_after_header front + 1 < 10 ^ 8 =
    omega (arith, after_header_few front, length-append front (last ∷ []), few) in
    let sequence : record_sequence end ≡ cond (is_header front last) 0 (count_after_header front + 1) =
    row_sequence front last (is_header front last) inside refl fits in
    let many : length rows - (1 + record_sequence end) ≡ length records - open_records (map symbol_of records) =
    omega (arith, length-rows_so_far records, sequence, open_inside front last inside) in
    let whole : transaction_at_end (Some end) rows ≡ open_of records =
    sym (drop-map record_of (length rows - (1 + record_sequence end)) rows)
    ∙ ap₂ (λ (m : ℕ) (rs : List RecordValue). drop m rs) many (records_back [] records h) in
    record {
      gives =
          ap (λ (o : Option Row). cond (ends_transaction o row) (Transaction (transaction_at_end o rows) ∷ []) []
          ++ own_item row.kind row) at_end
          ∙ ap₂ (λ (b c : Bool). cond (b && not c) (Transaction (transaction_at_end (Some end) rows) ∷ []) []
          ++ own_item row.kind row) inside n
          ∙ ap (λ (rs : List RecordValue). Transaction rs ∷ own_item row.kind row) whole
          ∙ ap (λ (is : List Item). is ++ own_item row.kind row)
          (sym (handed_some (open_of records) (some_open front last inside)));
    }

hands : (records : List RecordValue) (row : Row) → AllByRecursion IsRecord records → length records ≤ 99999999
    → continues_transaction row ≡ false → Hands records row
unfolding rows_after
hands [] row h few n = record { gives = refl }
hands (x ∷ xs) row h few n =
    let s = snoc_of x xs in
    subst (λ (rs : List RecordValue). Hands rs row) (sym s.whole)
    (hands_by s.front s.last row (is_in_transaction s.last.kind) refl (subst (AllByRecursion IsRecord) s.whole h)
    (subst (λ (rs : List RecordValue). length rs ≤ 99999999) s.whole few) n)

-- ---- the items with one more record

pub items_next : (records : List RecordValue) (r : RecordValue)
    → items_so_far (records ++ r ∷ []) ≡ items_so_far records ++ items_at (rows_so_far records) (row_after records r)
unfolding items_after
items_next records r =
    let rows : List Row = rows_so_far records in
    let row : Row = row_after records r in
    ap items (rows_so_far-snoc records r) ∙ items-append [] rows (row ∷ [])
    ∙ ap (λ (is : List Item). items rows ++ is) (append-nil (items_at rows row))

item_by : (kind : Kind) (row : Row) (r : RecordValue) → record_of row ≡ r → own_item kind row ≡ item_of kind r
item_by kinds.Hdr row r e = ap (λ (x : RecordValue). Opened x ∷ []) e
item_by kinds.Grh row r e = ap (λ (x : RecordValue). GroupOpened x ∷ []) e
item_by kinds.Grt row r e = ap (λ (x : RecordValue). GroupClosed x ∷ []) e
item_by kind row r e = refl

all_front : (P : RecordValue → Type 0) (xs : List RecordValue) (x : RecordValue) → AllByRecursion P (xs ++ x ∷ [])
    → AllByRecursion P xs
all_front P [] x h = tt
all_front P (y ∷ xs) x h = (h.0, all_front P xs x h.1)

-- ---- one more record ends the open transaction

closes_by : (records : List RecordValue) (r : RecordValue) → AllByRecursion IsRecord (records ++ r ∷ [])
    → length records ≤ 99999999 → continues_transaction (row_after records r) ≡ false
    → open_of (records ++ r ∷ []) ≡ cond (is_in_transaction r.kind) (r ∷ []) [] → Closes records r
closes_by records r h few n e =
    let row : Row = row_after records r in
    let given = hands records row (all_front IsRecord records r h) few n in
    let own : own_item r.kind row ≡ item_of r.kind r =
    item_by r.kind row r (record_of-row_of _ r (all_last IsRecord records r h)) in
    record {
      open_now = e;
      given = items_next records r
          ∙ ap (λ (is : List Item). items_so_far records ++ is)
          (given.gives ∙ ap (λ (is : List Item). ended_transaction (open_of records) ++ is) own)
          ∙ sym (append_assoc (items_so_far records) (ended_transaction (open_of records)) (item_of r.kind r));
    }

ends_by : (records : List RecordValue) (r : RecordValue) (b : Bool) → is_in_transaction r.kind ≡ b
    → AllByRecursion IsRecord (records ++ r ∷ []) → length records ≤ 99999999
    → continues_open (map symbol_of records) (symbol_of r) ≡ false → Closes records r
ends_by records r true inside h few e =
    let header : is_header records r ≡ true =
    not_false (is_header records r)
    (sym (goes_inside (map symbol_of records) (symbol_of r) (inner_record_symbol r ∙ inside)) ∙ e) in
    let first : continues_transaction (row_after records r) ≡ false =
    ap₂ (λ (b : Bool) (n : ℕ). b && not (n == 0)) inside (first_sequence records r inside header) in
    closes_by records r h few first (open_header records r inside header ∙ ap (λ (b : Bool). cond b (r ∷ []) []) (sym inside))
  where
    not_false : (b : Bool) → not b ≡ false → b ≡ true
    not_false true k = refl
    not_false false k = absurd (true≢false k)
ends_by records r false outside h few e =
    let around : continues_transaction (row_after records r) ≡ false =
    ap (λ (b : Bool). b && not (record_sequence (row_after records r) == 0)) outside in
    closes_by records r h few around (open_outside records r outside ∙ ap (λ (b : Bool). cond b (r ∷ []) []) (sym outside))

pub ends_closes : (records : List RecordValue) (r : RecordValue) → AllByRecursion IsRecord (records ++ r ∷ [])
    → Continues Any (map symbol_of (records ++ r ∷ [])) → length records ≤ 99999999
    → continues_open (map symbol_of records) (symbol_of r) ≡ false → Closes records r
ends_closes records r h g few e = ends_by records r (is_in_transaction r.kind) refl h few e
