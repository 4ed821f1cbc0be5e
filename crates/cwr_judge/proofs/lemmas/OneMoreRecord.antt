-- What one more record does to the open transaction: what is counted of it, and its record sequence.
use Rattle.std.proofs.Common.{◌≡◌, ℕ, ◌+◌, ◌-◌, ◌^◌, ◌<◌, Bool, true, false, not, cond, ◌&&◌, List, [], ◌∷◌, ◌++◌, length, map}
use Rattle.std.proofs.Common.{drop, refl, sym, ap, ap₂, ◌∙◌, arith, true≢false}
use Rattle.std.specs.Prelude.{Option, Some, None, ◌==◌}
use Rattle.std.proofs.lemmas.Bool.{ne_eqb, eq-eqb}
use Rattle.std.proofs.lemmas.List.{length-append, length-drop, drop-append-le, drop_all, drop_at, map-append}
use Rattle.cwr_fields.specs.declared.codes.TransactionType.{TransactionType}
use Rattle.cwr_fields.specs.declared.codes.TransactionType.TheVariants.{Agreement, NewWork, RevisedWork, Acknowledgement}
use Rattle.cwr_fields.specs.declared.kinds.Kind.{Kind}
use Rattle.cwr_fields.specs.declared.kinds.Kind.TheVariants as kinds
use Rattle.cwr_lines.specs.Format.Records.{RecordValue, row_of}
use Rattle.cwr_shape.specs.declared.symbols.Symbol.{Symbol}
use Rattle.cwr_shape.specs.declared.symbols.Symbol.TheVariants.{Plain, Grh}
use Rattle.cwr_shape.specs.declared.tallies.Counts.{Counts}
use Rattle.cwr_shape.specs.Format.NextSymbols as tallies_there
use Rattle.cwr_shape.specs.Format.NextSymbols.{is_header_of, transactions_begun, open_type, after_header, counts_of, scope_by}
use Rattle.cwr_shape.specs.Format.NextSymbols.{scope_after, open_records}
use Rattle.cwr_shape.specs.Format.ExpectedNumbers.{expected_numbers, expected_inside}
use Rattle.cwr_shape.specs.Steps.Counting.{counts_with, counts_with_header, counts_with_other}
use Rattle.cwr_shape.proofs.lemmas.OneMore.{last_or-snoc, counts-snoc}
use Rattle.cwr_values.specs.Format.Values.{symbol_of, symbol_by}
use Rattle.cwr_values.specs.Format.Begins.{row_after}
use Rattle.cwr_fields.specs.Format.Kinds.{is_in_transaction}
use Rattle.cwr_judge.specs.Format.Items.{record_sequence}
use Rattle.cwr_judge.specs.Steps.Open.{open_of, continues_open}
use Rattle.cwr_judge.proofs.lemmas.ItemsOfTransactions.{sequence_of}

-- ---- a record and its symbol

-- a symbol stands in a transaction
abbrev pub IsInner : Symbol → Type 0
IsInner s = tallies_there.has_open_transaction (scope_by (Some s)) ≡ true

inner_by : (kind : Kind) (r : RecordValue)
    → tallies_there.has_open_transaction (scope_by (Some (symbol_by kind r))) ≡ is_in_transaction kind
inner_by kinds.Ipa r = refl
inner_by kinds.Grh r = refl
inner_by kind r = refl

-- a record stands in a transaction where its symbol does
pub inner_record_symbol : (r : RecordValue)
    → tallies_there.has_open_transaction (scope_by (Some (symbol_of r))) ≡ is_in_transaction r.kind
inner_record_symbol r = inner_by r.kind r

-- it is a header where the symbol of its kind is one
header_by : (ty : TransactionType) (kind : Kind) (r : RecordValue) → is_in_transaction kind ≡ true
    → is_header_of ty (Plain kind) ≡ is_header_of ty (symbol_by kind r)
header_by Agreement kinds.Ipa r h = refl
header_by NewWork kinds.Ipa r h = refl
header_by RevisedWork kinds.Ipa r h = refl
header_by Acknowledgement kinds.Ipa r h = refl
header_by ty kinds.Grh r h = absurd (true≢false (sym h))
header_by ty kind r h = refl

expected_by : (ty : TransactionType) (c : Counts) (kind : Kind) → is_in_transaction kind ≡ true
    → expected_numbers ty c kind ≡ expected_inside (is_header_of ty (Plain kind)) c
expected_by ty c kinds.Hdr h = absurd (true≢false (sym h))
expected_by ty c kinds.Grh h = absurd (true≢false (sym h))
expected_by ty c kinds.Grt h = absurd (true≢false (sym h))
expected_by ty c kinds.Trl h = absurd (true≢false (sym h))
expected_by ty c kind h = refl

-- the record is a header of the open type
abbrev pub is_header : List RecordValue → RecordValue → Bool
is_header before r = is_header_of (open_type (map symbol_of before)) (symbol_of r)

-- how many records stand after the last header
abbrev pub count_after_header : List RecordValue → ℕ
count_after_header records = length (after_header (map symbol_of records))

-- ---- record sequences

row_inside : (before : List RecordValue) (r : RecordValue) (b : Bool) → is_in_transaction r.kind ≡ true → is_header before r ≡ b
    → row_after before r ≡ row_of (expected_inside b (counts_of (map symbol_of before))) r
row_inside before r b inside h =
    let xs : List Symbol = map symbol_of before in
    ap (λ (ns : List ℕ). row_of ns r) (expected_by (open_type xs) (counts_of xs) r.kind inside
    ∙ ap (λ (c : Bool). expected_inside c (counts_of xs)) (header_by (open_type xs) r.kind r inside ∙ h))

-- that of a header is 0
pub first_sequence : (before : List RecordValue) (r : RecordValue) → is_in_transaction r.kind ≡ true → is_header before r ≡ true
    → record_sequence (row_after before r) ≡ 0
first_sequence before r inside h =
    ap record_sequence (row_inside before r true inside h)
    ∙ sequence_of (counts_of (map symbol_of before)).in_group 0 r inside (omega arith)

-- that of any other record is one more than stand after the header
pub later_sequence : (before : List RecordValue) (r : RecordValue) → is_in_transaction r.kind ≡ true → is_header before r ≡ false
    → count_after_header before + 1 < 10 ^ 8 → record_sequence (row_after before r) ≡ count_after_header before + 1
later_sequence before r inside h less =
    ap record_sequence (row_inside before r false inside h)
    ∙ sequence_of ((counts_of (map symbol_of before)).in_group - 1) (count_after_header before + 1) r inside less

pub row_sequence : (before : List RecordValue) (r : RecordValue) (b : Bool) → is_in_transaction r.kind ≡ true
    → is_header before r ≡ b → count_after_header before + 1 < 10 ^ 8
    → record_sequence (row_after before r) ≡ cond b 0 (count_after_header before + 1)
row_sequence before r true inside h less = first_sequence before r inside h
row_sequence before r false inside h less = later_sequence before r inside h less

-- ---- what one more symbol changes

with_after : (ty : TransactionType) (c : Counts) (s : Symbol) → IsInner s
    → (counts_with ty c s).after_header ≡ cond (is_header_of ty s) 0 (c.after_header + 1)
with_after ty c (Grh t) h = absurd (true≢false (sym h))
with_after ty c s h = by (is_header_of ty s)
  where
    by : (b : Bool) → (cond b (counts_with_header c) (counts_with_other c)).after_header ≡ cond b 0 (c.after_header + 1)
    by true = refl
    by false = refl

with_begun : (ty : TransactionType) (c : Counts) (s : Symbol) → IsInner s
    → (counts_with ty c s).transactions ≡ c.transactions + cond (is_header_of ty s) 1 0
with_begun ty c (Grh t) h = absurd (true≢false (sym h))
with_begun ty c s h = by (is_header_of ty s)
  where
    by : (b : Bool) → (cond b (counts_with_header c) (counts_with_other c)).transactions ≡ c.transactions + cond b 1 0
    by true = refl
    by false = omega arith

after-snoc : (xs : List Symbol) (s : Symbol) → IsInner s
    → length (after_header (xs ++ s ∷ [])) ≡ cond (is_header_of (open_type xs) s) 0 (length (after_header xs) + 1)
after-snoc xs s h = ap (λ (c : Counts). c.after_header) (sym (counts-snoc xs s)) ∙ with_after (open_type xs) (counts_of xs) s h

begun-snoc : (xs : List Symbol) (s : Symbol) → IsInner s → transactions_begun Acknowledgement (xs ++ s ∷ [])
    ≡ transactions_begun Acknowledgement xs + cond (is_header_of (open_type xs) s) 1 0
begun-snoc xs s h = ap (λ (c : Counts). c.transactions) (sym (counts-snoc xs s)) ∙ with_begun (open_type xs) (counts_of xs) s h

pub scope-snoc : (xs : List Symbol) (s : Symbol)
    → tallies_there.has_open_transaction (scope_after (xs ++ s ∷ [])) ≡ tallies_there.has_open_transaction (scope_by (Some s))
scope-snoc xs s = ap (λ (o : Option Symbol). tallies_there.has_open_transaction (scope_by o)) (last_or-snoc None xs s)

-- a symbol in a transaction continues it where it is no header
pub goes_inside : (xs : List Symbol) (s : Symbol) → IsInner s → continues_open xs s ≡ not (is_header_of (open_type xs) s)
goes_inside xs s h =
    ap₂ (λ (n : ℕ) (b : Bool). (n == transactions_begun Acknowledgement xs) && b) (begun-snoc xs s h) (scope-snoc xs s ∙ h)
    ∙ by (transactions_begun Acknowledgement xs) (is_header_of (open_type xs) s)
  where
    by : (n : ℕ) (b : Bool) → (((n + cond b 1 0) == n) && true) ≡ not b
    by n true = ap (λ (b : Bool). b && true) (ne_eqb (n + 1) n (λ e. omega (arith, e)))
    by n false = ap (λ (b : Bool). b && true) (eq-eqb (n + 0) n (omega arith))

-- ---- the open transaction with one more record

pub symbols-snoc : (records : List RecordValue) (r : RecordValue)
    → map symbol_of (records ++ r ∷ []) ≡ map symbol_of records ++ symbol_of r ∷ []
symbols-snoc records r = map-append symbol_of records (r ∷ [])

pub open_inside : (records : List RecordValue) (r : RecordValue) → is_in_transaction r.kind ≡ true
    → open_records (map symbol_of (records ++ r ∷ [])) ≡ 1 + cond (is_header records r) 0 (count_after_header records + 1)
open_inside records r h =
    let xs : List Symbol = map symbol_of records in
    ap open_records (symbols-snoc records r)
    ∙ ap₂ (λ (b : Bool) (n : ℕ). cond b (1 + n) 0) (scope-snoc xs (symbol_of r) ∙ inner_record_symbol r ∙ h)
    (after-snoc xs (symbol_of r) (inner_record_symbol r ∙ h))

pub open_outside : (records : List RecordValue) (r : RecordValue) → is_in_transaction r.kind ≡ false
    → open_of (records ++ r ∷ []) ≡ []
open_outside records r h =
    let xs : List Symbol = map symbol_of records in
    let none : open_records (map symbol_of (records ++ r ∷ [])) ≡ 0 =
    ap open_records (symbols-snoc records r)
    ∙ ap (λ (b : Bool). cond b (1 + length (after_header (xs ++ symbol_of r ∷ []))) 0)
    (scope-snoc xs (symbol_of r) ∙ inner_record_symbol r ∙ h) in
    drop_all (length (records ++ r ∷ []) - open_records (map symbol_of (records ++ r ∷ []))) (records ++ r ∷ [])
    (omega (arith, none))

pub some_open : (records : List RecordValue) (r : RecordValue) → is_in_transaction r.kind ≡ true
    → 0 < length (open_of (records ++ r ∷ []))
some_open records r h =
    omega (
      arith,
      open_inside records r h,
      length-append records (r ∷ []),
      length-drop (length (records ++ r ∷ []) - open_records (map symbol_of (records ++ r ∷ []))) (records ++ r ∷ []),
    )

-- a header is the whole of the transaction that it begins
pub open_header : (records : List RecordValue) (r : RecordValue) → is_in_transaction r.kind ≡ true → is_header records r ≡ true
    → open_of (records ++ r ∷ []) ≡ r ∷ []
open_header records r inside h =
    let one : open_records (map symbol_of (records ++ r ∷ [])) ≡ 1 =
    open_inside records r inside ∙ ap (λ (b : Bool). 1 + cond b 0 (count_after_header records + 1)) h in
    drop_at records (r ∷ []) (length (records ++ r ∷ []) - open_records (map symbol_of (records ++ r ∷ [])))
    (omega (arith, one, length-append records (r ∷ [])))

-- any other record is one more of the open one
pub open_longer : (records : List RecordValue) (r : RecordValue) → is_in_transaction r.kind ≡ true → is_header records r ≡ false
    → tallies_there.has_open_transaction (scope_after (map symbol_of records)) ≡ true
    → open_of (records ++ r ∷ []) ≡ open_of records ++ r ∷ []
open_longer records r inside h is_open =
    let xs : List Symbol = map symbol_of records in
    let more : open_records (map symbol_of (records ++ r ∷ [])) ≡ 1 + (count_after_header records + 1) =
    open_inside records r inside ∙ ap (λ (b : Bool). 1 + cond b 0 (count_after_header records + 1)) h in
    let now : open_records xs ≡ 1 + count_after_header records =
    ap (λ (b : Bool). cond b (1 + count_after_header records) 0) is_open in
    let same : length (records ++ r ∷ []) - open_records (map symbol_of (records ++ r ∷ [])) ≡ length records - open_records xs =
    omega (arith, more, now, length-append records (r ∷ [])) in
    ap (λ (n : ℕ). drop n (records ++ r ∷ [])) same
    ∙ drop-append-le (length records - open_records xs) records (r ∷ []) (omega arith)
