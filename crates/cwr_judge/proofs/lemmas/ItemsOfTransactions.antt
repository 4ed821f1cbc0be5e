-- The items that the rows of transactions give, one after another.
use Rattle.std.proofs.Common.{◌≡◌, ℕ, suc, ◌+◌, ◌-◌, ◌^◌, ◌<◌, ◌≤◌, Bool, true, false, not, cond, ◌&&◌, List, [], ◌∷◌, ◌++◌}
use Rattle.std.proofs.Common.{length, map, drop, refl, sym, ap, ap₂, subst, ◌∙◌, arith, append_assoc, append-nil, true≢false}
use Rattle.std.specs.Prelude.{Option, Some, None, slice_index_or, ◌==◌, sum}
use Rattle.std.specs.List.{AllByRecursion, last_or}
use Rattle.std.proofs.lemmas.Bool.{ne_eqb}
use Rattle.std.proofs.lemmas.List.{length-append}
use Rattle.std.proofs.lemmas.List.Sums.{sum_by-cons}
use Rattle.std.proofs.Math.Seq.{drop-append_seam}
use Rattle.cwr_fields.specs.Format.Bytes.{digits, number_of}
use Rattle.cwr_fields.proofs.lemmas.Digits.{number_of-digits}
use Rattle.cwr_fields.specs.declared.codes.TransactionType.{TransactionType}
use Rattle.cwr_fields.specs.declared.kinds.Kind.{Kind}
use Rattle.cwr_fields.specs.declared.kinds.Kind.TheVariants as kinds
use Rattle.cwr_fields.specs.Format.Layouts.{fields_after_type}
use Rattle.cwr_lines.specs.Format.Records.{RecordValue, IsRecord, Row, row_cells, row_of, record_of}
use Rattle.cwr_lines.proofs.lemmas.RowLaws.{record_of-row_of}
use Rattle.cwr_shape.proofs.lemmas.HeadFirst.{part_class}
use Rattle.cwr_values.specs.Format.Values.{symbol_by}
use Rattle.cwr_values.proofs.lemmas.RowsByParts.{rows_inside, rows_of_transactions}
use Rattle.cwr_values.specs.declared.items.Item.{Item}
use Rattle.cwr_values.specs.declared.items.Item.TheVariants.{Transaction}
use Rattle.cwr_fields.specs.Format.Kinds.{is_in_transaction, is_in_transaction}
use Rattle.cwr_judge.specs.Format.Items.{record_sequence, continues_transaction, ends_transaction, transaction_at_end, own_item}
use Rattle.cwr_judge.specs.Format.Items.{items_at, items_after}
use Rattle.cwr_judge.specs.Format.Items.{record_sequence, continues_transaction, ends_transaction, transaction_at_end, own_item}
use Rattle.cwr_judge.specs.Format.Items.{items_at, items_after}

pub items-append : (before xs ys : List Row)
    → items_after before (xs ++ ys) ≡ items_after before xs ++ items_after (before ++ xs) ys
unfolding items_after
items-append before [] ys = ap (λ (b : List Row). items_after b ys) (sym (append-nil before))
items-append before (x ∷ xs) ys =
    ap (λ (is : List Item). items_at before x ++ is) (items-append (before ++ x ∷ []) xs ys
    ∙ ap (λ (b : List Row). items_after (before ++ x ∷ []) xs ++ items_after b ys) (append_assoc before (x ∷ []) xs))
    ∙ sym (append_assoc (items_at before x) (items_after (before ++ x ∷ []) xs) (items_after (before ++ x ∷ xs) ys))

pub last-snoc : (d : Option Row) (xs : List Row) (x : Row) → last_or d (xs ++ x ∷ []) ≡ Some x
last-snoc d [] x = refl
last-snoc d (y ∷ xs) x = last-snoc (Some y) xs x

pub inside_kind : (ty : TransactionType) (k : Kind) (r : RecordValue) → (part_class ty (symbol_by k r) ≡ 0 → ⊥)
    → is_in_transaction k ≡ true
inside_kind ty kinds.Hdr r h = absurd (h refl)
inside_kind ty kinds.Grh r h = absurd (h refl)
inside_kind ty kinds.Grt r h = absurd (h refl)
inside_kind ty kinds.Trl r h = absurd (h refl)
inside_kind ty k r h = refl

-- the third cell of such a record's row is its record sequence
sequence_cell : (j k : ℕ) (kind : Kind) (cells : List (List ℕ)) → is_in_transaction kind ≡ true
    → slice_index_or (row_cells (fields_after_type kind) (j ∷ k ∷ []) cells) 1 [] ≡ digits 8 k
sequence_cell j k kinds.Hdr cells h = absurd (true≢false (sym h))
sequence_cell j k kinds.Grh cells h = absurd (true≢false (sym h))
sequence_cell j k kinds.Grt cells h = absurd (true≢false (sym h))
sequence_cell j k kinds.Trl cells h = absurd (true≢false (sym h))
sequence_cell j k kind cells h = refl

pub sequence_of : (j k : ℕ) (r : RecordValue) → is_in_transaction r.kind ≡ true → k < 10 ^ 8
    → record_sequence (row_of (j ∷ k ∷ []) r) ≡ k
sequence_of j k r h less = ap number_of (sequence_cell j k r.kind r.cells h) ∙ number_of-digits 8 k less

pub no_item : (kind : Kind) (row : Row) → is_in_transaction kind ≡ true → own_item kind row ≡ []
no_item kinds.Hdr row h = absurd (true≢false (sym h))
no_item kinds.Grh row h = absurd (true≢false (sym h))
no_item kinds.Grt row h = absurd (true≢false (sym h))
no_item kinds.Trl row h = absurd (true≢false (sym h))
no_item kind row h = refl

-- ---- what is handed out at the next row

-- a row that begins something gives these items, and then its own
abbrev pub Ready : List Row → List Item → Type 0
Ready before emit = (row : Row) → continues_transaction row ≡ false → items_at before row ≡ emit ++ own_item row.kind row

-- after a row that stands in no transaction nothing waits
pub idle : (before : List Row) (row : Row) → is_in_transaction row.kind ≡ false → Ready (before ++ row ∷ []) []
idle before row h next n =
    ap (λ (o : Option Row). cond (ends_transaction o next) (Transaction (transaction_at_end o (before ++ row ∷ [])) ∷ []) []
    ++ own_item next.kind next) (last-snoc None before row)
    ∙ ap (λ (b : Bool). cond (b && not (continues_transaction next))
    (Transaction (transaction_at_end (Some row) (before ++ row ∷ [])) ∷ []) [] ++ own_item next.kind next) h

pub start : Ready [] []
start row n = refl

-- records of a transaction that stand at the end of the rows
record Pending (before : List Row) (j : ℕ) (p : List RecordValue) : Type 0 where
  front : List Row
  text : before ≡ front ++ rows_inside j 0 p
  inside : AllByRecursion (λ r. is_in_transaction r.kind ≡ true) p
  in_order : AllByRecursion IsRecord p
  short : length p ≤ 10 ^ 8

length-rows_inside : (j k : ℕ) (rs : List RecordValue) → length (rows_inside j k rs) ≡ length rs
length-rows_inside j k [] = refl
length-rows_inside j k (r ∷ rs) = ap suc (length-rows_inside j (k + 1) rs)

rows_inside-snoc : (j k : ℕ) (rs : List RecordValue) (r : RecordValue)
    → rows_inside j k (rs ++ r ∷ []) ≡ rows_inside j k rs ++ row_of (j ∷ (k + length rs) ∷ []) r ∷ []
rows_inside-snoc j k [] r = ap (λ (n : ℕ). row_of (j ∷ n ∷ []) r ∷ []) (omega arith)
rows_inside-snoc j k (s ∷ rs) r =
    let next : k + 1 + length rs ≡ k + length (s ∷ rs) = omega arith in
    ap (λ (xs : List Row). row_of (j ∷ k ∷ []) s ∷ xs)
    (rows_inside-snoc j (k + 1) rs r ∙ ap (λ (n : ℕ). rows_inside j (k + 1) rs ++ row_of (j ∷ n ∷ []) r ∷ []) next)

records_inside : (j k : ℕ) (rs : List RecordValue) → AllByRecursion IsRecord rs → map record_of (rows_inside j k rs) ≡ rs
records_inside j k [] h = refl
records_inside j k (r ∷ rs) h =
    ap₂ (λ (a : RecordValue) (xs : List RecordValue). a ∷ xs) (record_of-row_of (j ∷ k ∷ []) r h.0)
    (records_inside j (k + 1) rs h.1)

-- a list that isn't empty ends with an element
pub record Snoc (xs : List RecordValue) : Type 0 where
  pub front : List RecordValue
  pub last : RecordValue
  pub whole : xs ≡ front ++ last ∷ []

pub snoc_of : (x : RecordValue) (xs : List RecordValue) → Snoc (x ∷ xs)
snoc_of x [] = record { front = []; last = x; whole = refl }
snoc_of x (y ∷ xs) =
    let s = snoc_of y xs in record { front = x ∷ s.front; last = s.last; whole = ap (λ (zs : List RecordValue). x ∷ zs) s.whole }

pub all_last : (P : RecordValue → Type 0) (xs : List RecordValue) (x : RecordValue) → AllByRecursion P (xs ++ x ∷ []) → P x
all_last P [] x h = h.0
all_last P (y ∷ xs) x h = all_last P xs x h.1

all_snoc : (P : RecordValue → Type 0) (xs : List RecordValue) (x : RecordValue) → AllByRecursion P xs → P x
    → AllByRecursion P (xs ++ x ∷ [])
all_snoc P [] x h p = (p, tt)
all_snoc P (y ∷ xs) x h p = (h.0, all_snoc P xs x h.1 p)

-- the last row of a transaction that stands at the end
record Ends (before : List Row) (j : ℕ) (p : List RecordValue) : Type 0 where
  last : Row
  is_last : last_or None before ≡ Some last
  inside : is_in_transaction last.kind ≡ true
  sequence : 1 + record_sequence last ≡ length p

ends_of : (before : List Row) (j : ℕ) (p : List RecordValue) → Pending before j p → 0 < length p → Ends before j p
ends_of before j [] h some = absurd (omega arith)
ends_of before j (r ∷ rs) h some =
    let s = snoc_of r rs in
    let many : length (r ∷ rs) ≡ length s.front + 1 = ap length s.whole ∙ length-append s.front (s.last ∷ []) in
    let row : Row = row_of (j ∷ (0 + length s.front) ∷ []) s.last in
    let text : before ≡ (h.front ++ rows_inside j 0 s.front) ++ row ∷ [] =
    h.text ∙ ap (λ (p : List RecordValue). h.front ++ rows_inside j 0 p) s.whole
    ∙ ap (λ (x : List Row). h.front ++ x) (rows_inside-snoc j 0 s.front s.last)
    ∙ sym (append_assoc h.front (rows_inside j 0 s.front) (row ∷ [])) in
    let inside : is_in_transaction s.last.kind ≡ true =
    all_last (λ (x : RecordValue). is_in_transaction x.kind ≡ true) s.front s.last
    (subst (AllByRecursion (λ (x : RecordValue). is_in_transaction x.kind ≡ true)) s.whole h.inside) in
    let sequence : record_sequence row ≡ 0 + length s.front =
    sequence_of j (0 + length s.front) s.last inside (omega (arith, h.short, many)) in
    record {
      last = row;
      is_last = ap (last_or None) text ∙ last-snoc None (h.front ++ rows_inside j 0 s.front) row;
      inside = inside;
      sequence = omega arith;
    }

-- a transaction that stands at the end waits
waits : (before : List Row) (j : ℕ) (p : List RecordValue) → Pending before j p → 0 < length p → Ready before (Transaction p ∷ [])
waits before j p h some next n =
    let e = ends_of before j p h some in
    let back : length before - (1 + record_sequence e.last) ≡ length h.front =
    omega (arith, ap length h.text, length-append h.front (rows_inside j 0 p), length-rows_inside j 0 p, e.sequence) in
    let whole : transaction_at_end (Some e.last) before ≡ p =
    ap₂ (λ (m : ℕ) (b : List Row). map record_of (drop m b)) back h.text
    ∙ ap (map record_of) (drop-append_seam h.front (rows_inside j 0 p)) ∙ records_inside j 0 p h.in_order in
    ap (λ (o : Option Row). cond (ends_transaction o next) (Transaction (transaction_at_end o before) ∷ []) []
    ++ own_item next.kind next) e.is_last
    ∙ ap₂ (λ (b c : Bool). cond (b && not c) (Transaction (transaction_at_end (Some e.last) before) ∷ []) []
    ++ own_item next.kind next) e.inside n
    ∙ ap (λ (t : List RecordValue). Transaction t ∷ own_item next.kind next) whole

-- a record of the transaction continues it
stays : (before : List Row) (j : ℕ) (p : List RecordValue) (r : RecordValue) → Pending before j p → 0 < length p
    → length p < 10 ^ 8 → is_in_transaction r.kind ≡ true
    → items_at before (row_of (j ∷ length p ∷ []) r) ≡ []
stays before j p r h some short inside =
    let row : Row = row_of (j ∷ length p ∷ []) r in
    let e = ends_of before j p h some in
    let later : (record_sequence row == 0) ≡ false =
    ne_eqb (record_sequence row) 0 (λ z. omega (arith, z, sequence_of j (length p) r inside short)) in
    let on : continues_transaction row ≡ true = ap₂ (λ (b c : Bool). b && not c) inside later in
    ap (λ (o : Option Row). cond (ends_transaction o row) (Transaction (transaction_at_end o before) ∷ []) []
    ++ own_item row.kind row) e.is_last
    ∙ ap₂ (λ (b c : Bool). cond (b && not c) (Transaction (transaction_at_end (Some e.last) before) ∷ []) []
    ++ own_item row.kind row) e.inside on
    ∙ no_item r.kind row inside

longer : (before : List Row) (j : ℕ) (p : List RecordValue) (r : RecordValue) → Pending before j p → length p < 10 ^ 8
    → is_in_transaction r.kind ≡ true → IsRecord r
    → Pending (before ++ row_of (j ∷ length p ∷ []) r ∷ []) j (p ++ r ∷ [])
longer before j p r h short inside in_order = record {
  front = h.front;
  text =
      ap (λ (b : List Row). b ++ row_of (j ∷ length p ∷ []) r ∷ []) h.text
      ∙ append_assoc h.front (rows_inside j 0 p) (row_of (j ∷ length p ∷ []) r ∷ [])
      ∙ ap (λ (x : List Row). h.front ++ x)
      (ap (λ (n : ℕ). rows_inside j 0 p ++ row_of (j ∷ n ∷ []) r ∷ []) (omega arith) ∙ sym (rows_inside-snoc j 0 p r));
  inside = all_snoc (λ (x : RecordValue). is_in_transaction x.kind ≡ true) p r h.inside inside;
  in_order = all_snoc IsRecord p r h.in_order in_order;
  short = omega (arith, length-append p (r ∷ []));
}

-- ---- transaction by transaction

-- the rest of a transaction gives nothing, and all of it then waits
record Stayed (before xs : List Row) (j : ℕ) (t : List RecordValue) : Type 0 where
  nothing : items_after before xs ≡ []
  pending : Pending (before ++ xs) j t

rest_stays : (before : List Row) (j : ℕ) (p rs : List RecordValue) → Pending before j p → 0 < length p
    → length p + length rs ≤ 10 ^ 8
    → AllByRecursion (λ r. is_in_transaction r.kind ≡ true) rs → AllByRecursion IsRecord rs
    → Stayed before (rows_inside j (length p) rs) j (p ++ rs)
unfolding items_after
rest_stays before j p [] h some short inside in_order = record {
  nothing = refl;
  pending =
      subst (λ (b : List Row). Pending b j (p ++ [])) (sym (append-nil before))
      (subst (λ (q : List RecordValue). Pending before j q) (sym (append-nil p)) h);
}
rest_stays before j p (r ∷ rs) h some short inside in_order =
    let row : Row = row_of (j ∷ length p ∷ []) r in
    let longer_by_one : length (p ++ r ∷ []) ≡ length p + 1 = length-append p (r ∷ []) in
    let next =
    rest_stays (before ++ row ∷ []) j (p ++ r ∷ []) rs (longer before j p r h (omega arith) inside.0 in_order.0) (omega arith)
    (omega (arith, longer_by_one, short)) inside.1 in_order.1 in
    let rows_same : rows_inside j (length (p ++ r ∷ [])) rs ≡ rows_inside j (length p + 1) rs =
    ap (λ (n : ℕ). rows_inside j n rs) longer_by_one in record {
      nothing =
          ap₂ (λ (a b : List Item). a ++ b) (stays before j p r h some (omega arith) inside.0)
          (ap (items_after (before ++ row ∷ [])) (sym rows_same) ∙ next.nothing);
      pending =
          subst (λ (b : List Row). Pending b j (p ++ r ∷ rs)) (append_assoc before (row ∷ [])
          (rows_inside j (length (p ++ r ∷ [])) rs) ∙ ap (λ (x : List Row). before ++ row ∷ x) rows_same)
          (subst (λ (q : List RecordValue). Pending ((before ++ row ∷ []) ++ rows_inside j (length (p ++ r ∷ [])) rs) j q)
          (append_assoc p (r ∷ []) rs) next.pending);
    }

-- a transaction: some records, each in order and of a kind that stands in one
pub record IsInsideRow (t : List RecordValue) : Type 0 where
  pub some : 0 < length t
  pub inside : AllByRecursion (λ r. is_in_transaction r.kind ≡ true) t
  pub in_order : AllByRecursion IsRecord t

-- it gives what was ready, and then waits itself
record Begun (before xs : List Row) (emit : List Item) (t : List RecordValue) : Type 0 where
  given : items_after before xs ≡ emit
  ready : Ready (before ++ xs) (Transaction t ∷ [])

begun : (before : List Row) (emit : List Item) (j : ℕ) (t : List RecordValue) → Ready before emit → IsInsideRow t
    → length t ≤ 10 ^ 8 → Begun before (rows_inside j 0 t) emit t
unfolding items_after
begun before emit j [] h t short = absurd (omega (arith, t.some))
begun before emit j (r ∷ rs) h t short =
    let row : Row = row_of (j ∷ 0 ∷ []) r in
    let first : continues_transaction row ≡ false =
    ap₂ (λ (b : Bool) (n : ℕ). b && not (n == 0)) t.inside.0 (sequence_of j 0 r t.inside.0 (omega arith)) in
    let here : items_at before row ≡ emit =
    h row first ∙ ap (λ (x : List Item). emit ++ x) (no_item r.kind row t.inside.0) ∙ append-nil emit in
    let pending : Pending (before ++ row ∷ []) j (r ∷ []) =
    record { front = before; text = refl; inside = (t.inside.0, tt); in_order = (t.in_order.0, tt); short = omega arith } in
    let rest = rest_stays (before ++ row ∷ []) j (r ∷ []) rs pending (omega arith) (omega arith) t.inside.1 t.in_order.1 in
    let whole : (before ++ row ∷ []) ++ rows_inside j 1 rs ≡ before ++ rows_inside j 0 (r ∷ rs) =
    append_assoc before (row ∷ []) (rows_inside j 1 rs) in record {
      given = ap₂ (λ (a b : List Item). a ++ b) here rest.nothing ∙ append-nil emit;
      ready =
          waits (before ++ rows_inside j 0 (r ∷ rs)) j (r ∷ rs)
          (subst (λ (b : List Row). Pending b j (r ∷ rs)) whole rest.pending) (omega arith);
    }

-- what rows and then others give
pub items_given : (before xs ys : List Row) (is js : List Item) → items_after before xs ≡ is → items_after (before ++ xs) ys ≡ js
    → items_after before (xs ++ ys) ≡ is ++ js
items_given before xs ys is js e f = items-append before xs ys ∙ ap₂ (λ (a b : List Item). a ++ b) e f

after_these : (is js ks whole : List Item) → js ++ ks ≡ whole → (is ++ js) ++ ks ≡ is ++ whole
after_these is js ks whole e = append_assoc is js ks ∙ ap (λ (x : List Item). is ++ x) e

-- transactions one after the other: all but the last are given, and that one is ready
pub record Walked (before xs : List Row) (whole : List Item) : Type 0 where
  pub given : List Item
  pub left : List Item
  pub gives : items_after before xs ≡ given
  pub ready : Ready (before ++ xs) left
  pub in_all : given ++ left ≡ whole

pub transactions_walked : (before : List Row) (emit : List Item) (j : ℕ) (ts : List (List RecordValue)) → Ready before emit
    → AllByRecursion IsInsideRow ts → sum (map length ts) ≤ 10 ^ 8
    → Walked before (rows_of_transactions j ts) (emit ++ map Transaction ts)
unfolding items_after
transactions_walked before emit j [] h ts short = record {
  given = [];
  left = emit;
  gives = refl;
  ready = subst (λ (b : List Row). Ready b emit) (sym (append-nil before)) h;
  in_all = sym (append-nil emit);
}
transactions_walked before emit j (t ∷ ts) h inside short =
    let total : sum (map length (t ∷ ts)) ≡ length t + sum (map length ts) =
    sum_by-cons (λ (x : ℕ). x) (length t) (map length ts) in
    let one = begun before emit j t h inside.0 (omega arith) in
    let rest =
    transactions_walked (before ++ rows_inside j 0 t) (Transaction t ∷ []) (j + 1) ts one.ready inside.1 (omega arith) in
    record {
      given = emit ++ rest.given;
      left = rest.left;
      gives = items_given before (rows_inside j 0 t) (rows_of_transactions (j + 1) ts) emit rest.given one.given rest.gives;
      ready =
          subst (λ (b : List Row). Ready b rest.left) (append_assoc before (rows_inside j 0 t) (rows_of_transactions (j + 1) ts))
          rest.ready;
      in_all = after_these emit rest.given rest.left (map Transaction (t ∷ ts)) rest.in_all;
    }
