-- A transmission whose works are sent as new or as revised ones is one, within the limits that it was within.
use Rattle.std.proofs.Common.{◌≡◌, ℕ, zero, suc, ◌+◌, ◌<◌, ◌≤◌, Bool, true, false, List, [], ◌∷◌, ◌++◌, length, map, Option, Some, None}
use Rattle.std.proofs.Common.{refl, sym, ap, ap₂, subst, ◌∙◌, arith, inl, inr, take, drop, append_assoc}
use Rattle.std.specs.Prelude.{◌⊎◌, ◌||◌, filter, not, slice_get, unwrap_or, if◌then◌else◌}
use Rattle.std.specs.List.{AllByRecursion, AllZip}
use Rattle.std.specs.Str.{bytes_eq}
use Rattle.std.proofs.lemmas.List.{length-map, map-append, take-append-drop, take_all}
use Rattle.cwr_fields.specs.declared.codes.TransactionType.{TransactionType}
use Rattle.cwr_fields.specs.declared.codes.TransactionType.TheVariants as types
use Rattle.cwr_fields.specs.declared.cell_types.CellType.TheVariants.{Code}
use Rattle.cwr_fields.specs.declared.tables.Table.TheVariants as tables
use Rattle.cwr_fields.specs.declared.kinds.Kind.{Kind}
use Rattle.cwr_fields.specs.declared.kinds.Kind.TheVariants as kinds
use Rattle.cwr_fields.specs.Format.Kinds.{letters}
use Rattle.cwr_fields.specs.Format.Layouts.{FieldLayout, layout}
use Rattle.cwr_fields.proofs.lemmas.CellTests as cell_tests
use Rattle.cwr_fields.proofs.lemmas.CellTests.{holds_sound}
use Rattle.cwr_lines.specs.Format.Carried.{set_cell}
use Rattle.cwr_lines.specs.Format.Records.{IsCellOf, IsRecord, RecordValue, carried_fields}
use Rattle.cwr_shape.specs.declared.limits.Limits.{Limits}
use Rattle.cwr_shape.specs.declared.symbols.Symbol.{Symbol}
use Rattle.cwr_shape.specs.declared.symbols.Symbol.TheVariants.{Plain, Grh}
use Rattle.cwr_shape.specs.Format.Candidates.{type_in}
use Rattle.cwr_shape.specs.Format.NextSymbols.{header_kind}
use Rattle.cwr_shape.specs.Format.Outlines.{symbols_of}
use Rattle.cwr_shape.specs.Format.Shapes.{BeginsShape, IsShape, Matches, Pattern, carrying, many, publisher, some, tail_record, writer}
use Rattle.cwr_shape.specs.Format.Shapes.{◌then◌, a, block, copy}
use Rattle.cwr_shape.proofs.lemmas.HeadFirst.{rest_after_head}
use Rattle.cwr_values.specs.Format.Begun.{BeginsWithOneMore}
use Rattle.cwr_values.specs.Format.Values.{GroupValue, TransmissionValue, FitsIn, IsGroup, IsRecordOf, IsTransaction}
use Rattle.cwr_values.specs.Format.Values.{IsTransmission, outline_of_group, symbol_by, symbol_of, type_of}
use Rattle.cwr_values.proofs.lemmas.Beginnings.{header_of, shape_type}
use Rattle.cwr_values.proofs.lemmas.OneTransmissionOfRecords.{head_symbol, plain_kind}
use Rattle.cwr_findings.specs.Format.Findings.{is_a}
use Rattle.cwr_findings.specs.Format.Headers.{is_work}
use Rattle.cwr_findings.proofs.lemmas.KindTests as tests
use Rattle.cwr_select.specs.declared.changes.WorkKind.{WorkKind}
use Rattle.cwr_select.specs.declared.changes.WorkKind.TheVariants.{NewWork, RevisedWork}
use Rattle.cwr_select.specs.Format.Sent.{group_as, head_as, header_as, kind_of, opens_works, sent_as, transaction_as}
use Rattle.cwr_select.specs.Steps.Headers.{IsWholeCell}
use Rattle.cwr_select.proofs.lemmas.SelectedFits.{all_symbols, group_more, in_groups, in_transactions, transactions_more}

-- ---- the header of a work

pub work_kind : (r : RecordValue) → is_work r ≡ true → (r.kind ≡ kinds.Nwr) ⊎ (r.kind ≡ kinds.Rev)
work_kind r e = by (is_a kinds.Nwr r) refl
  where
    by : (b : Bool) → is_a kinds.Nwr r ≡ b → (r.kind ≡ kinds.Nwr) ⊎ (r.kind ≡ kinds.Rev)
    by true new = inl (tests.kind_of kinds.Nwr r new)
    by false old = inr (tests.kind_of kinds.Rev r (sym (ap (λ (b : Bool). b || is_a kinds.Rev r) old) ∙ e))

-- the kind is that of a work's header
abbrev is_work_kind : Kind → Bool
is_work_kind k = bytes_eq (letters k) (letters kinds.Nwr) || bytes_eq (letters k) (letters kinds.Rev)

-- both kinds of works have the same fields
pub same_fields : (works : WorkKind) (r : RecordValue) → is_work r ≡ true → layout (kind_of works) ≡ layout r.kind
same_fields works r e = by works (work_kind r e)
  where
    by : (w : WorkKind) → (r.kind ≡ kinds.Nwr) ⊎ (r.kind ≡ kinds.Rev) → layout (kind_of w) ≡ layout r.kind
    by NewWork (inl k) = ap layout (sym k)
    by NewWork (inr k) = ap layout (sym k)
    by RevisedWork (inl k) = ap layout (sym k)
    by RevisedWork (inr k) = ap layout (sym k)

pub header_is : (works : WorkKind) (r : RecordValue) → is_work r ≡ true
    → header_as works r ≡ record { kind = kind_of works; cells = r.cells }
header_is works r e = ap (λ (b : Bool). if b then record { kind = kind_of works; cells = r.cells } else r) e

pub header_stays : (works : WorkKind) (r : RecordValue) → is_work r ≡ false → header_as works r ≡ r
header_stays works r e = ap (λ (b : Bool). if b then record { kind = kind_of works; cells = r.cells } else r) e

pub right_cells : (works : WorkKind) (r : RecordValue) → is_work r ≡ true → IsRecord r
    → IsRecord (record { kind = kind_of works; cells = r.cells })
right_cells works r e h =
    subst (λ (l : List FieldLayout). AllZip IsCellOf (filter (λ f. not f.derived) l) r.cells) (sym (same_fields works r e)) h

pub right_header_as : (works : WorkKind) (r : RecordValue) → IsRecord r → IsRecord (header_as works r)
right_header_as works r h = by (is_work r) refl
  where
    by : (b : Bool) → is_work r ≡ b → IsRecord (header_as works r)
    by true e = subst IsRecord (sym (header_is works r e)) (right_cells works r e h)
    by false e = subst IsRecord (sym (header_stays works r e)) h

-- ---- the order of a transaction

-- what may follow the header of a work
abbrev body : Pattern
body = carrying (many publisher then some writer then many tail_record)

abbrev pub type_as : WorkKind → TransactionType
type_as NewWork = types.NewWork
type_as RevisedWork = types.RevisedWork

as_work : (works : WorkKind) (xs : List Symbol) → Matches body xs → IsShape (type_as works) (Plain (kind_of works) ∷ xs)
as_work NewWork xs m = (Plain kinds.Nwr ∷ [], xs, refl, (Plain kinds.Nwr, (0, (omega arith, refl)), refl), m)
as_work RevisedWork xs m = (Plain kinds.Rev ∷ [], xs, refl, (Plain kinds.Rev, (0, (omega arith, refl)), refl), m)

header_symbol : (works : WorkKind) (r : RecordValue) → is_work r ≡ true → symbol_of (header_as works r) ≡ Plain (kind_of works)
header_symbol works r e = ap symbol_of (header_is works r e) ∙ by works
  where
    by : (w : WorkKind) → symbol_by (kind_of w) (record { kind = kind_of w; cells = r.cells }) ≡ Plain (kind_of w)
    by NewWork = refl
    by RevisedWork = refl

after_header : (ty : TransactionType) (s : Symbol) (xs : List Symbol) → (s ≡ Plain kinds.Nwr) ⊎ (s ≡ Plain kinds.Rev)
    → IsShape ty (s ∷ xs) → Matches body xs
after_header ty s xs (inl e) m =
    let same : ty ≡ types.NewWork = sym (shape_type ty s xs m) ∙ ap header_of e in
    let own : IsShape types.NewWork (s ∷ xs) = subst (λ (t : TransactionType). IsShape t (s ∷ xs)) same m in
    let rest = rest_after_head (Plain kinds.Nwr) body (s ∷ xs) own in
    let others : xs ≡ rest.0 = cc (rest.1) in
    subst (Matches body) (sym others) rest.2
after_header ty s xs (inr e) m =
    let same : ty ≡ types.RevisedWork = sym (shape_type ty s xs m) ∙ ap header_of e in
    let own : IsShape types.RevisedWork (s ∷ xs) = subst (λ (t : TransactionType). IsShape t (s ∷ xs)) same m in
    let rest = rest_after_head (Plain kinds.Rev) body (s ∷ xs) own in
    let others : xs ≡ rest.0 = cc (rest.1) in
    subst (Matches body) (sym others) rest.2

work_symbol : (r : RecordValue) → is_work r ≡ true → (symbol_of r ≡ Plain kinds.Nwr) ⊎ (symbol_of r ≡ Plain kinds.Rev)
work_symbol r e = by (work_kind r e)
  where
    by : (r.kind ≡ kinds.Nwr) ⊎ (r.kind ≡ kinds.Rev) → (symbol_of r ≡ Plain kinds.Nwr) ⊎ (symbol_of r ≡ Plain kinds.Rev)
    by (inl k) = inl (ap (λ (x : Kind). symbol_by x r) k)
    by (inr k) = inr (ap (λ (x : Kind). symbol_by x r) k)

-- what continues a work continues it with its other header
pub reshaped : (works : WorkKind) (ty : TransactionType) (r : RecordValue) (xs : List Symbol) → is_work r ≡ true
    → IsShape ty (symbol_of r ∷ xs) → IsShape (type_as works) (symbol_of (header_as works r) ∷ xs)
reshaped works ty r xs e m =
    subst (λ (s : Symbol). IsShape (type_as works) (s ∷ xs)) (sym (header_symbol works r e))
    (as_work works xs (after_header ty (symbol_of r) xs (work_symbol r e) m))

-- so the first records of the one begin a transaction
pub begun_as : (works : WorkKind) (r : RecordValue) (records : List RecordValue) (i : ℕ) → is_work r ≡ true
    → BeginsShape (map symbol_of (r ∷ records)) → BeginsShape (map symbol_of (header_as works r ∷ take i records))
begun_as works r records i e h =
    let whole = reshaped works h.0 r (map symbol_of records ++ h.1) e h.2 in
    let split : map symbol_of records ++ h.1 ≡ map symbol_of (take i records) ++ (map symbol_of (drop i records) ++ h.1) =
    ap (λ (l : List RecordValue). map symbol_of l ++ h.1) (sym (take-append-drop i records))
    ∙ ap (λ (l : List Symbol). l ++ h.1) (map-append symbol_of (take i records) (drop i records))
    ∙ append_assoc (map symbol_of (take i records)) (map symbol_of (drop i records)) h.1 in (
      type_as works,
      map symbol_of (drop i records) ++ h.1,
      subst (λ (l : List Symbol). IsShape (type_as works) (symbol_of (header_as works r) ∷ l)) split whole,
    )

same_length : (works : WorkKind) (t : List RecordValue) → length (transaction_as works t) ≡ length t
same_length works [] = refl
same_length works (r ∷ records) = refl

-- ---- its records one after another

-- the first of them is its header
pub split_first : (t : List RecordValue) (r : RecordValue) → slice_get t 0 ≡ Some r → (rest : List RecordValue) × (t ≡ r ∷ rest)
split_first [] r e = absurd (cc e)
split_first (x ∷ rest) r e = let same : x ≡ r = cc e in (rest, ap (λ (y : RecordValue). y ∷ rest) same)

-- each place has a record
pub within : (t : List RecordValue) (i : ℕ) → i < length t → slice_get t i ≡ None → ⊥
within [] i h e = absurd (omega (arith, h))
within (r ∷ t) zero h e = absurd (cc e)
within (r ∷ t) (suc i) h e = within t i (omega (arith, h)) e

pub begins_header : (works : WorkKind) (t : List RecordValue) (r : RecordValue) → slice_get t 0 ≡ Some r → is_work r ≡ true
    → BeginsShape (map symbol_of t) → BeginsShape (symbol_of (header_as works r) ∷ [])
begins_header works t r e work h =
    let split = split_first t r e in
    begun_as works r split.0 0 work (subst (λ (l : List RecordValue). BeginsShape (map symbol_of l)) split.1 h)

pub first_sent : (works : WorkKind) (t : List RecordValue) (r : RecordValue) → slice_get t 0 ≡ Some r
    → take 1 (transaction_as works t) ≡ header_as works r ∷ []
first_sent works t r e =
    let split = split_first t r e in ap (λ (l : List RecordValue). take 1 (transaction_as works l)) split.1

next_in : {X : Type 0} (xs : List X) (i : ℕ) (x : X) → slice_get xs i ≡ Some x → take i xs ++ x ∷ [] ≡ take (suc i) xs
next_in [] i x e = absurd (cc e)
next_in {X = X} (y ∷ xs) zero x e = let same : y ≡ x = cc e in ap (λ (z : X). z ∷ []) (sym same)
next_in {X = X} (y ∷ xs) (suc i) x e = ap (λ (l : List X). y ∷ l) (next_in xs i x e)

pub next_sent : (works : WorkKind) (t : List RecordValue) (i : ℕ) (x : RecordValue) → 1 ≤ i → slice_get t i ≡ Some x
    → take i (transaction_as works t) ++ x ∷ [] ≡ take (suc i) (transaction_as works t)
next_sent works [] i x some e = absurd (cc e)
next_sent works (r ∷ records) zero x some e = absurd (omega (arith, some))
next_sent works (r ∷ records) (suc i) x some e = next_in (header_as works r ∷ records) (suc i) x e

-- so they begin a transaction
pub begins_sent : (works : WorkKind) (t : List RecordValue) (r : RecordValue) (i : ℕ) → slice_get t 0 ≡ Some r → is_work r ≡ true
    → BeginsShape (map symbol_of t) → BeginsShape (map symbol_of (take (suc i) (transaction_as works t)))
begins_sent works t r i e work h =
    let split = split_first t r e in
    subst (λ (l : List RecordValue). BeginsShape (map symbol_of (take (suc i) (transaction_as works l)))) (sym split.1)
    (begun_as works r split.0 i work (subst (λ (l : List RecordValue). BeginsShape (map symbol_of l)) split.1 h))

pub begins_next : (works : WorkKind) (t : List RecordValue) (r : RecordValue) (i : ℕ) (x : RecordValue) (sent : List RecordValue)
    → slice_get t 0 ≡ Some r → is_work r ≡ true → BeginsShape (map symbol_of t) → 1 ≤ i → slice_get t i ≡ Some x
    → sent ≡ take i (transaction_as works t) → BeginsWithOneMore sent x
begins_next works t r i x sent e work h some at is =
    let next : map symbol_of (take (suc i) (transaction_as works t)) ≡ map symbol_of sent ++ symbol_of x ∷ [] =
    ap (map symbol_of) (sym (next_sent works t i x some at) ∙ ap (λ (l : List RecordValue). l ++ x ∷ []) (sym is))
    ∙ map-append symbol_of sent (x ∷ []) in
    subst BeginsShape next (begins_sent works t r i e work h)

pub all_sent : (works : WorkKind) (t : List RecordValue) (i : ℕ) → length t ≤ i
    → take i (transaction_as works t) ≡ transaction_as works t
all_sent works t i h = take_all i (transaction_as works t) (omega (arith, h, same_length works t))

-- ---- a transaction

-- a transaction has the header of its type
kind_in : (ty : TransactionType) (r : RecordValue) (records : List RecordValue) → IsTransaction ty (r ∷ records)
    → r.kind ≡ header_kind ty
kind_in types.Agreement r records h =
    let rest = rest_after_head (Plain kinds.Agr) (carrying (some block)) (map symbol_of (r ∷ records)) h.1 in
    plain_kind r.kind r kinds.Agr (cc rest.1)
kind_in types.NewWork r records h =
    let rest = rest_after_head (Plain kinds.Nwr) body (map symbol_of (r ∷ records)) h.1 in
    plain_kind r.kind r kinds.Nwr (cc rest.1)
kind_in types.RevisedWork r records h =
    let rest = rest_after_head (Plain kinds.Rev) body (map symbol_of (r ∷ records)) h.1 in
    plain_kind r.kind r kinds.Rev (cc rest.1)
kind_in types.Acknowledgement r records h =
    let rest = rest_after_head (Plain kinds.Ack) (many (a kinds.Msg) then copy) (map symbol_of (r ∷ records)) h.1 in
    plain_kind r.kind r kinds.Ack (cc rest.1)

some_record : (ty : TransactionType) → IsTransaction ty [] → ⊥
some_record types.Agreement h = absurd (cc (rest_after_head (Plain kinds.Agr) (carrying (some block)) [] h.1).1)
some_record types.NewWork h = absurd (cc (rest_after_head (Plain kinds.Nwr) body [] h.1).1)
some_record types.RevisedWork h = absurd (cc (rest_after_head (Plain kinds.Rev) body [] h.1).1)
some_record types.Acknowledgement h = absurd (cc (rest_after_head (Plain kinds.Ack) (many (a kinds.Msg) then copy) [] h.1).1)

-- the type is one of works, and it isn't
abbrev of_works : TransactionType → Bool
of_works ty = opens_works (Grh ty)

is_work_of : (ty : TransactionType) (r : RecordValue) → r.kind ≡ header_kind ty → is_work r ≡ of_works ty
is_work_of types.Agreement r e = ap is_work_kind e
is_work_of types.NewWork r e = ap is_work_kind e
is_work_of types.RevisedWork r e = ap is_work_kind e
is_work_of types.Acknowledgement r e = ap is_work_kind e

-- a work is one of the type that it is sent as
right_work : (works : WorkKind) (ty : TransactionType) (t : List RecordValue) → of_works ty ≡ true → IsTransaction ty t
    → IsTransaction (type_as works) (transaction_as works t)
right_work works ty [] e h = absurd (some_record ty h)
right_work works ty (r ∷ records) e h =
    let work : is_work r ≡ true = is_work_of ty r (kind_in ty r records h) ∙ e in
    ((right_header_as works r h.0.0, h.0.1), reshaped works ty r (map symbol_of records) work h.1)

-- and another stays
other_stays : (works : WorkKind) (ty : TransactionType) (t : List RecordValue) → of_works ty ≡ false → IsTransaction ty t
    → transaction_as works t ≡ t
other_stays works ty [] e h = refl
other_stays works ty (r ∷ records) e h =
    let none : is_work r ≡ false = is_work_of ty r (kind_in ty r records h) ∙ e in
    ap (λ (x : RecordValue). x ∷ records) (header_stays works r none)

-- ---- GRH

-- a GRH of works, and of what type
pub opens : (r : RecordValue) → opens_works (symbol_of r) ≡ true → r.kind ≡ kinds.Grh
opens r e = by (symbol_of r) refl e
  where
    by : (s : Symbol) → symbol_of r ≡ s → opens_works s ≡ true → r.kind ≡ kinds.Grh
    by (Grh ty) same h = (head_symbol r.kind r ty same).0
    by s same h = absurd (cc h)

-- its four cells
record AreHeadCells (r : RecordValue) : Type 0 where
  ty : List ℕ
  version : List ℕ
  batch : List ℕ
  submission : List ℕ
  record_is : r ≡ record { kind = kinds.Grh; cells = ty ∷ version ∷ batch ∷ submission ∷ [] }

head_cells : (r : RecordValue) → r.kind ≡ kinds.Grh → IsRecord r → AreHeadCells r
head_cells r e h = by r.cells refl (subst (λ (k : Kind). AllZip IsCellOf (carried_fields k) r.cells) e h)
  where
    by : (cells : List (List ℕ)) → r.cells ≡ cells → AllZip IsCellOf (carried_fields kinds.Grh) cells → AreHeadCells r
    by (ty ∷ version ∷ batch ∷ submission ∷ []) is k = record {
      ty = ty;
      version = version;
      batch = batch;
      submission = submission;
      record_is = λ i. record { kind = e i; cells = is i };
    }
    by [] is k = absurd k
    by (ty ∷ []) is k = absurd k.1
    by (ty ∷ version ∷ []) is k = absurd k.1.1
    by (ty ∷ version ∷ batch ∷ []) is k = absurd k.1.1.1
    by (ty ∷ version ∷ batch ∷ submission ∷ more ∷ cells) is k = absurd k.1.1.1.1

-- the letters of the header are the code of the type
pub letters_fit : (works : WorkKind) → IsWholeCell kinds.Grh 2 (letters (kind_of works))
unfolding cell_tests.holds_test
letters_fit NewWork = (refl, holds_sound (Code tables.TransactionType) (letters kinds.Nwr) refl)
letters_fit RevisedWork = (refl, holds_sound (Code tables.TransactionType) (letters kinds.Rev) refl)

pub right_head : (works : WorkKind) (r : RecordValue) → r.kind ≡ kinds.Grh → IsRecord r
    → IsRecord (set_cell 2 (letters (kind_of works)) r)
right_head works r e h =
    let c = head_cells r e h in
    let own : AllZip IsCellOf (carried_fields kinds.Grh) (c.ty ∷ c.version ∷ c.batch ∷ c.submission ∷ []) =
    subst IsRecord c.record_is h in
    subst (λ (s : RecordValue). IsRecord (set_cell 2 (letters (kind_of works)) s)) (sym c.record_is) (letters_fit works, own.1)

type_set : (works : WorkKind) (r : RecordValue) → r.kind ≡ kinds.Grh → IsRecord r
    → type_of (set_cell 2 (letters (kind_of works)) r) ≡ type_as works
type_set works r e h =
    let c = head_cells r e h in
    ap (λ (s : RecordValue). type_of (set_cell 2 (letters (kind_of works)) s)) c.record_is ∙ by works
  where
    by : (w : WorkKind) → unwrap_or (type_in (letters (kind_of w))) types.Acknowledgement ≡ type_as w
    by NewWork = refl
    by RevisedWork = refl

pub head_is : (works : WorkKind) (r : RecordValue) → opens_works (symbol_of r) ≡ true
    → head_as works r ≡ set_cell 2 (letters (kind_of works)) r
head_is works r e = ap (λ (b : Bool). if b then set_cell 2 (letters (kind_of works)) r else r) e

pub head_stays : (works : WorkKind) (r : RecordValue) → opens_works (symbol_of r) ≡ false → head_as works r ≡ r
head_stays works r e = ap (λ (b : Bool). if b then set_cell 2 (letters (kind_of works)) r else r) e

-- ---- a group

each_as : (P Q : List RecordValue → Type 0) (f : List RecordValue → List RecordValue) (ts : List (List RecordValue))
    → ((t : List RecordValue) → P t → Q (f t)) → AllByRecursion P ts → AllByRecursion Q (map f ts)
each_as P Q f [] on h = tt
each_as P Q f (t ∷ ts) on h = (on t h.0, each_as P Q f ts on h.1)

right_group_as : (works : WorkKind) (g : GroupValue) → IsGroup g → IsGroup (group_as works g)
right_group_as works g h = by (opens_works (symbol_of g.head)) refl
  where
    ty : TransactionType
    ty = type_of g.head

    same : symbol_of g.head ≡ Grh ty
    same = ap (λ (k : Kind). symbol_by k g.head) h.head.0

    some_left : 0 < length (map (transaction_as works) g.transactions)
    some_left = omega (arith, h.some_transaction, length-map g.transactions (transaction_as works))

    by : (b : Bool) → opens_works (symbol_of g.head) ≡ b → IsGroup (group_as works g)
    by true e =
        let own : of_works ty ≡ true = ap opens_works (sym same) ∙ e in
        let head : head_as works g.head ≡ set_cell 2 (letters (kind_of works)) g.head = head_is works g.head e in
        let named : type_of (head_as works g.head) ≡ type_as works =
        ap type_of head ∙ type_set works g.head h.head.0 h.head.1 in
        record {
          head = subst (IsRecordOf kinds.Grh) (sym head) (h.head.0, right_head works g.head h.head.0 h.head.1);
          some_transaction = some_left;
          each =
              subst (λ (t : TransactionType). AllByRecursion (IsTransaction t) (map (transaction_as works) g.transactions))
              (sym named)
              (each_as (IsTransaction ty) (IsTransaction (type_as works)) (transaction_as works) g.transactions
              (λ t k. right_work works ty t own k) h.each);
          foot = h.foot;
        }
    by false e =
        let own : of_works ty ≡ false = ap opens_works (sym same) ∙ e in
        let head : head_as works g.head ≡ g.head = head_stays works g.head e in
        record {
          head = subst (IsRecordOf kinds.Grh) (sym head) h.head;
          some_transaction = some_left;
          each =
              subst (λ (r : RecordValue). AllByRecursion (IsTransaction (type_of r)) (map (transaction_as works) g.transactions))
              (sym head)
              (each_as (IsTransaction ty) (IsTransaction ty) (transaction_as works) g.transactions
              (λ t k. subst (IsTransaction ty) (sym (other_stays works ty t own k)) k) h.each);
          foot = h.foot;
        }

-- ---- the limits

same_records : (works : WorkKind) (ts : List (List RecordValue))
    → in_transactions (map (transaction_as works) ts) ≡ in_transactions ts
same_records works [] = refl
same_records works (t ∷ ts) =
    transactions_more (transaction_as works t) (map (transaction_as works) ts)
    ∙ ap₂ (λ (n m : ℕ). n + m) (same_length works t) (same_records works ts) ∙ sym (transactions_more t ts)

all_records : (works : WorkKind) (gs : List GroupValue) → in_groups (map (group_as works) gs) ≡ in_groups gs
all_records works [] = refl
all_records works (g ∷ gs) =
    group_more (group_as works g) (map (group_as works) gs)
    ∙ ap₂ (λ (n m : ℕ). n + 2 + m) (same_records works g.transactions) (all_records works gs) ∙ sym (group_more g gs)

keeps_limit : (works : WorkKind) (limit : ℕ) (ts : List (List RecordValue)) → AllByRecursion (λ t. length t ≤ limit) (map (map symbol_of) ts)
    → AllByRecursion (λ t. length t ≤ limit) (map (map symbol_of) (map (transaction_as works) ts))
keeps_limit works limit [] h = tt
keeps_limit works limit ([] ∷ ts) h = (h.0, keeps_limit works limit ts h.1)
keeps_limit works limit ((r ∷ records) ∷ ts) h = (h.0, keeps_limit works limit ts h.1)

keep_limits : (works : WorkKind) (limit : ℕ) (gs : List GroupValue)
    → AllByRecursion (λ g. AllByRecursion (λ t. length t ≤ limit) g.transactions) (map outline_of_group gs)
    → AllByRecursion (λ g. AllByRecursion (λ t. length t ≤ limit) g.transactions) (map outline_of_group (map (group_as works) gs))
keep_limits works limit [] h = tt
keep_limits works limit (g ∷ gs) h = (keeps_limit works limit g.transactions h.0, keep_limits works limit gs h.1)

-- ---- a transmission

right_groups : (works : WorkKind) (gs : List GroupValue) → AllByRecursion IsGroup gs
    → AllByRecursion IsGroup (map (group_as works) gs)
right_groups works [] h = tt
right_groups works (g ∷ gs) h = (right_group_as works g h.0, right_groups works gs h.1)

pub sent_right : (works : Option WorkKind) (v : TransmissionValue) → IsTransmission v → IsTransmission (sent_as works v)
sent_right None v h = h
sent_right (Some works) v h = record {
  opening = h.opening;
  some_group = omega (arith, h.some_group, length-map v.groups (group_as works));
  each = right_groups works v.groups h.each;
}

pub sent_fits : (limits : Limits) (works : Option WorkKind) (v : TransmissionValue) → FitsIn limits v
    → FitsIn limits (sent_as works v)
sent_fits limits None v h = h
sent_fits limits (Some works) v h =
    let gs : List GroupValue = map (group_as works) v.groups in
    let m : length (symbols_of (map outline_of_group v.groups)) ≤ limits.records = h.0 in
    let w : length (map outline_of_group v.groups) ≤ limits.groups = h.1 in (
      omega (arith, m, all_symbols v.groups, all_symbols gs, all_records works v.groups),
      omega (
        arith,
        w,
        length-map v.groups outline_of_group,
        length-map gs outline_of_group,
        length-map v.groups (group_as works),
      ),
      keep_limits works limits.transaction v.groups h.2,
    )

-- what is sent as it is
pub same_sent : (works : WorkKind) (t : List RecordValue) (r : RecordValue) → slice_get t 0 ≡ Some r
    → (is_work r ≡ false) ⊎ (r.kind ≡ kind_of works) → transaction_as works t ≡ t
same_sent works t r e (inl none) =
    let split = split_first t r e in
    ap (transaction_as works) split.1 ∙ ap (λ (x : RecordValue). x ∷ split.0) (header_stays works r none) ∙ sym split.1
same_sent works t r e (inr same) =
    let split = split_first t r e in
    ap (transaction_as works) split.1 ∙ ap (λ (x : RecordValue). x ∷ split.0) (own (is_work r) refl) ∙ sym split.1
  where
    own : (b : Bool) → is_work r ≡ b → header_as works r ≡ r
    own true work = header_is works r work ∙ (λ i. record { kind = sym same i; cells = r.cells })
    own false none = header_stays works r none
