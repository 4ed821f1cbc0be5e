-- A transaction with the header of a type is of that type, a group takes it, and what counting its records gives.
use Rattle.std.proofs.Common.{◌≡◌, ℕ, ◌+◌, ◌-◌, ◌^◌, ◌≤◌, min, List, [], ◌∷◌, ◌++◌, length, map, take, refl, sym, ap, subst, ◌∙◌}
use Rattle.std.proofs.Common.{arith}
use Rattle.std.specs.Prelude.{sum, sum_by}
use Rattle.std.specs.List.{AllByRecursion}
use Rattle.std.proofs.lemmas.List.{take_all}
use Rattle.std.proofs.lemmas.List.Sums.{sum_by-cons}
use Rattle.cwr_fields.specs.declared.codes.TransactionType.{TransactionType}
use Rattle.cwr_fields.specs.declared.codes.TransactionType.TheVariants.{Agreement, NewWork, RevisedWork, Acknowledgement}
use Rattle.cwr_fields.specs.declared.kinds.Kind.{Kind}
use Rattle.cwr_lines.specs.Format.Records.{RecordValue}
use Rattle.cwr_shape.specs.Format.Numbers.{group_records}
use Rattle.cwr_shape.specs.Format.NextSymbols.{header_kind}
use Rattle.cwr_values.specs.Format.Values.{GroupValue, TransmissionValue, IsTransaction, symbol_of, symbol_by, type_of}
use Rattle.cwr_values.specs.Format.Begun.{IsBegun, IsBegunGroup, IsWholeTransaction, HasHeaderOf}
use Rattle.cwr_values.specs.Format.Rows.{rows}
use Rattle.cwr_values.proofs.lemmas.Beginnings.{header_of, shape_type}
use Rattle.cwr_values.proofs.lemmas.Spelling.{length-rows, length-records_of}

header_of-kind : (ty : TransactionType) (r : RecordValue) → header_of (symbol_by (header_kind ty) r) ≡ ty
header_of-kind Agreement r = refl
header_of-kind NewWork r = refl
header_of-kind RevisedWork r = refl
header_of-kind Acknowledgement r = refl

-- a whole transaction that begins with the type's header is of the type
pub of_type : (ty : TransactionType) (records : List RecordValue) → IsBegun records → HasHeaderOf ty records
    → IsWholeTransaction records → IsTransaction ty records
of_type ty [] begun h w = absurd h
of_type ty (r ∷ records) begun h w =
    let same : ty ≡ w.0 =
    sym (header_of-kind ty r) ∙ sym (ap (λ (k : Kind). header_of (symbol_by k r)) h)
    ∙ shape_type w.0 (symbol_of r) (map symbol_of records) w.1 in
    subst (λ (t : TransactionType). IsTransaction t (r ∷ records)) (sym same) (begun.each, w.1)

all_more : {X : Type 0} (P : X → Type 0) (xs : List X) (x : X) → AllByRecursion P xs → P x → AllByRecursion P (xs ++ x ∷ [])
all_more P [] x h k = (k, tt)
all_more P (y ∷ xs) x h k = (h.0, all_more P xs x h.1 k)

-- a group with one more transaction of its type
pub takes_more : (head foot : RecordValue) (kept items : List (List RecordValue)) (t : List RecordValue)
    → IsBegunGroup (record { head = head; transactions = kept; foot = foot }) → IsTransaction (type_of head) t
    → items ≡ kept ++ t ∷ []
    → IsBegunGroup (record { head = head; transactions = items; foot = foot })
takes_more head foot kept items t h k e =
    record {
      head = h.head;
      each =
          subst (AllByRecursion (IsTransaction (type_of head))) (sym e) (all_more (IsTransaction (type_of head)) kept t h.each k);
      foot = h.foot;
    }

-- ---- how many records

lengths-sum : (ts : List (List RecordValue)) → sum_by length ts ≡ sum (map length ts)
lengths-sum [] = refl
lengths-sum (t ∷ ts) =
    omega (arith, sum_by-cons length t ts, sum_by-cons (λ (x : ℕ). x) (length t) (map length ts), lengths-sum ts)

pub group_counted : (g : GroupValue) (items : List (List RecordValue)) (i n : ℕ)
    → n ≡ min (2 + sum_by length (take i items)) (2 ^ 64 - 1) → length items ≤ i → items ≡ g.transactions
    → n ≡ min (group_records (map length g.transactions)) (2 ^ 64 - 1)
group_counted g items i n e h same =
    let whole : sum_by length (take i items) ≡ sum (map length g.transactions) =
    ap (sum_by length) (take_all i items h ∙ same) ∙ lengths-sum g.transactions in
    omega (arith, e, whole)

-- the records of a group
abbrev pub count_records : GroupValue → ℕ
count_records g = group_records (map length g.transactions)

groups-sum : (gs : List GroupValue) → sum_by count_records gs ≡ sum_by group_records (map (λ g. map length g.transactions) gs)
groups-sum [] = refl
groups-sum (g ∷ gs) =
    omega (
      arith,
      sum_by-cons count_records g gs,
      sum_by-cons group_records (map length g.transactions) (map (λ h. map length h.transactions) gs),
      groups-sum gs,
    )

pub transmission_counted : (v : TransmissionValue) (items : List GroupValue) (i n : ℕ)
    → n ≡ min (2 + sum_by count_records (take i items)) (2 ^ 64 - 1) → length items ≤ i → items ≡ v.groups
    → n ≡ min (length (rows v)) (2 ^ 64 - 1)
transmission_counted v items i n e h same =
    let whole : sum_by count_records (take i items) ≡ sum_by group_records (map (λ g. map length g.transactions) v.groups) =
    ap (sum_by count_records) (take_all i items h ∙ same) ∙ groups-sum v.groups in
    omega (arith, e, whole, length-rows v, length-records_of v)
