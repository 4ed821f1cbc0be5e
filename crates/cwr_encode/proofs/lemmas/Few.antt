-- A transmission within the limits has no more groups and records than any limits allow.
use Rattle.std.proofs.Common.{◌≡◌, ℕ, ◌≤◌, List, [], ◌∷◌, length, map, ap, ◌∙◌, arith}
use Rattle.std.specs.Prelude.{sum, sum_by}
use Rattle.std.specs.List.{AllByRecursion}
use Rattle.std.proofs.lemmas.List.{length-map}
use Rattle.std.proofs.lemmas.List.Sums.{sum_by-cons}
use Rattle.cwr_fields.specs.declared.codes.TransactionType.{TransactionType}
use Rattle.cwr_lines.specs.Format.Records.{RecordValue}
use Rattle.cwr_shape.specs.declared.limits.Limits.{Limits}
use Rattle.cwr_shape.specs.Format.Ranges.{AreInRange}
use Rattle.cwr_shape.specs.Format.Numbers.{group_records, all_records}
use Rattle.cwr_shape.specs.Format.Outlines.{symbols_of}
use Rattle.cwr_shape.specs.Format.Shapes.{IsShape}
use Rattle.cwr_shape.proofs.lemmas.TransactionNumbers.{Headed, headed_shape}
use Rattle.cwr_values.specs.Format.Values.{GroupValue, TransmissionValue, IsTransmission, IsTransaction, IsGroup, FitsIn, type_of}
use Rattle.cwr_values.specs.Format.Values.{symbol_of, outline_of, outline_of_group}
use Rattle.cwr_values.specs.Format.Rows.{records_of, lengths_of_value}
use Rattle.cwr_values.proofs.lemmas.Spelling.{length-records_of}
use Rattle.cwr_values.proofs.lemmas.OneSpelling.{symbols-outline}
use Rattle.cwr_encode.specs.Steps.GroupTexts.{HasFewRecords, IsFew}

some_length : {A : Type 0} (x : A) (l : List A) → 1 ≤ length (x ∷ l)
some_length x l = omega arith

one_record : (ty : TransactionType) (t : List RecordValue) → IsShape ty (map symbol_of t) → 1 ≤ length t
one_record ty t shape =
    let h : Headed ty (map symbol_of t) =
    headed_shape ty (map symbol_of t) shape in omega (arith, ap length h.whole, some_length h.head h.rest, length-map t symbol_of)

-- each transaction has a record
no_fewer : (ty : TransactionType) (ts : List (List RecordValue)) → AllByRecursion (IsTransaction ty) ts
    → length ts ≤ sum (map length ts)
no_fewer ty [] h = omega arith
no_fewer ty (t ∷ ts) h =
    omega (arith, sum_by-cons (λ (x : ℕ). x) (length t) (map length ts), one_record ty t h.0.1, no_fewer ty ts h.1)

in_all : (gs : List GroupValue) → AllByRecursion IsGroup gs
    → sum_by length (map (λ g. map length g.transactions) gs) ≤ sum_by group_records (map (λ g. map length g.transactions) gs)
in_all [] h = omega arith
in_all (g ∷ gs) h =
    let one = sum_by-cons length (map length g.transactions) (map (λ f. map length f.transactions) gs) in
    let two = sum_by-cons group_records (map length g.transactions) (map (λ f. map length f.transactions) gs) in
    omega (arith, one, two, length-map g.transactions length, no_fewer (type_of g.head) g.transactions h.0.each, in_all gs h.1)

short : (m : ℕ) (ts : List (List RecordValue)) → AllByRecursion (λ t. length t ≤ m) (map (map symbol_of) ts) → m ≤ 999999
    → AllByRecursion (λ t. length t ≤ 999999) ts
short m [] h few = tt
short m (t ∷ ts) h few = (omega (arith, h.0, few, length-map t symbol_of), short m ts h.1 few)

groups_few : (m : ℕ) (gs : List GroupValue) → AllByRecursion IsGroup gs
    → AllByRecursion (λ g. AllByRecursion (λ t. length t ≤ m) g.transactions) (map outline_of_group gs) → m ≤ 999999
    → sum_by group_records (map (λ g. map length g.transactions) gs) ≤ 99999999 → AllByRecursion HasFewRecords gs
groups_few m [] h k few sum = tt
groups_few m (g ∷ gs) h k few total =
    let all = sum_by-cons group_records (map length g.transactions) (map (λ f. map length f.transactions) gs) in (
      record {
        transactions = omega (arith, all, total, no_fewer (type_of g.head) g.transactions h.0.each);
        records = omega (arith, all, total);
        each = short m g.transactions k.0 few;
      },
      groups_few m gs h.1 k.1 few (omega (arith, all, total)),
    )

pub few_of : (limits : Limits) (v : TransmissionValue) → AreInRange limits → IsTransmission v → FitsIn limits v → IsFew v
few_of limits v range h k =
    let symbols : length (symbols_of (outline_of v)) ≡ length (records_of v) =
    ap length (symbols-outline v h) ∙ length-map (records_of v) symbol_of in
    let records : all_records (lengths_of_value v) ≤ 99999999 =
    omega (arith, k.0, symbols, length-records_of v, range.most_records) in
    record {
      groups = omega (arith, k.1, length-map v.groups outline_of_group, range.most_groups);
      transactions = omega (arith, records, in_all v.groups h.each);
      records = records;
      each = groups_few limits.transaction v.groups h.each k.2 range.most_transaction (omega (arith, records));
    }
