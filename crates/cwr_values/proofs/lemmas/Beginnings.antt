-- Records begin a transaction of one type, by their header.
use Rattle.std.proofs.Common.{◌≡◌, ℕ, zero, suc, ◌<◌, ◌≤◌, Bool, ltb, ltb-false, false, List, [], ◌∷◌, ◌++◌, length, map, Option}
use Rattle.std.proofs.Common.{None, refl, sym, ap, subst, ◌∙◌, arith, true≢false}
use Rattle.std.specs.Prelude.{◌↔◌, IsSome, IsTrue, is_some}
use Rattle.std.specs.List.{AllByRecursion}
use Rattle.cwr_fields.specs.declared.codes.TransactionType.{TransactionType}
use Rattle.cwr_fields.specs.declared.codes.TransactionType.TheVariants.{Agreement, NewWork, RevisedWork, Acknowledgement}
use Rattle.cwr_fields.specs.declared.kinds.Kind.TheVariants as kinds
use Rattle.cwr_lines.specs.Format.Records.{RecordValue, IsRecord}
use Rattle.cwr_shape.specs.declared.symbols.Symbol.{Symbol}
use Rattle.cwr_shape.specs.declared.symbols.Symbol.TheVariants.{Plain}
use Rattle.cwr_shape.specs.declared.stages.TransactionStep.{TransactionStep}
use Rattle.std.specs.Prelude.{Result, Ok, Err, slice_get}
use Rattle.cwr_values.specs.declared.transactions.PushFault.{PushFault}
use Rattle.cwr_values.specs.declared.transactions.PushFault.TheVariants.{Misplaced, Memory}
use Rattle.cwr_shape.specs.Format.Shapes.{IsShape, BeginsShape}
use Rattle.cwr_shape.specs.Steps.Left.{ContinuesIn, StandsAtStep}
use Rattle.cwr_shape.proofs.lemmas.HeadFirst.{part_class, head_first}
use Rattle.cwr_shape.proofs.lemmas.StepPatterns.{stands_goes}
use Rattle.cwr_values.specs.Format.Values.{symbol_of}
use Rattle.cwr_values.specs.Format.Begun.{IsBegun, IsWholeTransaction, BeginsWithOneMore}
use Rattle.cwr_values.specs.Steps.Begun.{IsStepAfter, IsStepWith, KeepsTransaction}

-- the type whose header the symbol is
abbrev pub header_of : Symbol → TransactionType
header_of (Plain kinds.Agr) = Agreement
header_of (Plain kinds.Nwr) = NewWork
header_of (Plain kinds.Rev) = RevisedWork
header_of s = Acknowledgement

header_named : (ty : TransactionType) (s : Symbol) → part_class ty s ≡ 1 → header_of s ≡ ty
header_named Agreement (Plain kinds.Agr) h = refl
header_named NewWork (Plain kinds.Nwr) h = refl
header_named RevisedWork (Plain kinds.Rev) h = refl
header_named Acknowledgement (Plain kinds.Ack) h = refl
header_named ty s h = absurd (omega (arith, h))

-- a shape's type is that of its first symbol
pub shape_type : (ty : TransactionType) (s : Symbol) (xs : List Symbol) → IsShape ty (s ∷ xs) → header_of s ≡ ty
shape_type ty s xs shape =
    let h = head_first ty (s ∷ xs) shape in
    let same : s ≡ h.head = cc h.whole in
    ap header_of same ∙ header_named ty h.head h.is_head

one_type_by : (ty tz : TransactionType) (front rest more : List Symbol) → 0 < length front → IsShape ty (front ++ rest)
    → IsShape tz (front ++ more) → ty ≡ tz
one_type_by ty tz [] rest more some p q = absurd (omega arith)
one_type_by ty tz (s ∷ front) rest more some p q = sym (shape_type ty s (front ++ rest) p) ∙ shape_type tz s (front ++ more) q

-- what begins a transaction continues in its own type alone
pub goes_in : (ty : TransactionType) (xs : List Symbol) (step : TransactionStep) (s : Symbol) → 0 < length xs
    → StandsAtStep ty xs step → ContinuesIn ty (xs ++ s ∷ []) ↔ BeginsShape (xs ++ s ∷ [])
goes_in ty xs step s some st = (
  λ g. (ty, g.0, g.1),
  λ b. let own = stands_goes ty xs step st in
      let same : ty ≡ b.0 = one_type_by ty b.0 xs own.0 (s ∷ b.1) some own.1 (subst (IsShape b.0) (appended xs s b.1) b.2) in
      (b.1, subst (λ (t : TransactionType). IsShape t ((xs ++ s ∷ []) ++ b.1)) (sym same) b.2),
)
  where
    appended : (ys : List Symbol) (t : Symbol) (zs : List Symbol) → (ys ++ t ∷ []) ++ zs ≡ ys ++ (t ∷ zs)
    appended [] t zs = refl
    appended (y ∷ ys) t zs = ap (λ (l : List Symbol). y ∷ l) (appended ys t zs)

-- kept records begin a transaction
pub keeps_begun : (step : TransactionStep) (kept records : List RecordValue) → KeepsTransaction step kept → kept ≡ records
    → IsBegun records
keeps_begun step kept records k e =
    let own = stands_goes k.stands.0 (map symbol_of kept) step k.stands.1 in
    subst IsBegun e (record { each = k.each; begins = (k.stands.0, own.0, own.1) })

length_map : (records : List RecordValue) → length (map symbol_of records) ≡ length records
length_map [] = refl
length_map (r ∷ records) = omega (arith, length_map records)

-- and are whole where they are one of their own type
pub whole_in : (step : TransactionStep) (records : List RecordValue) (k : KeepsTransaction step records)
    → IsShape k.stands.0 (map symbol_of records) ↔ IsWholeTransaction records
whole_in step records k = (
  λ shape. (k.stands.0, shape),
  λ w. let own = stands_goes k.stands.0 (map symbol_of records) step k.stands.1 in
      let same : k.stands.0 ≡ w.0 =
      one_type_by k.stands.0 w.0 (map symbol_of records) own.0 [] (omega (arith, k.some, length_map records)) own.1
      (subst (IsShape w.0) (sym (nil (map symbol_of records))) w.1) in
      subst (λ (t : TransactionType). IsShape t (map symbol_of records)) (sym same) w.1,
)
  where
    nil : (xs : List Symbol) → xs ++ [] ≡ xs
    nil [] = refl
    nil (x ∷ xs) = ap (λ (l : List Symbol). x ∷ l) (nil xs)

pub none_is_some : (o : Option TransactionStep) (P : Type 0) → o ≡ None → IsSome o ↔ P → ¬ P
none_is_some o P e t p = true≢false (sym (sym (ap is_some e) ∙ t.1 p))

-- where no type begins by the symbol, no transaction does
pub begins_none : (s : Symbol) (a b c d : Option TransactionStep) → a ≡ None → b ≡ None → c ≡ None → d ≡ None
    → IsSome a ↔ ContinuesIn Agreement (s ∷ []) → IsSome b ↔ ContinuesIn NewWork (s ∷ []) → IsSome c
    ↔ ContinuesIn RevisedWork (s ∷ []) → IsSome d ↔ ContinuesIn Acknowledgement (s ∷ [])
    → ¬ BeginsShape (s ∷ [])
begins_none s a b c d p q r t f g h k (Agreement, r0, m) = none_is_some a (ContinuesIn Agreement (s ∷ [])) p f (r0, m)
begins_none s a b c d p q r t f g h k (NewWork, r0, m) = none_is_some b (ContinuesIn NewWork (s ∷ [])) q g (r0, m)
begins_none s a b c d p q r t f g h k (RevisedWork, r0, m) = none_is_some c (ContinuesIn RevisedWork (s ∷ [])) r h (r0, m)
begins_none s a b c d p q r t f g h k (Acknowledgement, r0, m) = none_is_some d (ContinuesIn Acknowledgement (s ∷ [])) t k (r0, m)

-- one more record continues where some transaction begins with it
pub more_exact : (step : TransactionStep) (kept records : List RecordValue) (s : Symbol) (r : RecordValue)
    (o : Option TransactionStep) → KeepsTransaction step kept → kept ≡ records → s ≡ symbol_of r
    → ((t : TransactionType) (xs : List Symbol) → StandsAtStep t xs step → IsSome o ↔ ContinuesIn t (xs ++ s ∷ [])) → IsSome o
    ↔ BeginsWithOneMore records r
more_exact step kept records s r o k e f t =
    let own = t k.stands.0 (map symbol_of kept) k.stands.1 in
    let all = goes_in k.stands.0 (map symbol_of kept) step s (omega (arith, k.some, length_map kept)) k.stands.1 in
    let both : IsSome o ↔ BeginsShape (map symbol_of kept ++ s ∷ []) = (λ h. all.0 (own.0 h), λ b. own.1 (all.1 b)) in
    subst (λ (rs : List RecordValue). IsSome o ↔ BeginsWithOneMore rs r) e
    (subst (λ (u : Symbol). IsSome o ↔ BeginsShape (map symbol_of kept ++ u ∷ [])) f both)

-- and the step after it is the one after both
pub more_stands : (step to : TransactionStep) (kept records : List RecordValue) (s : Symbol) (r : RecordValue)
    → KeepsTransaction step kept → kept ≡ records → s ≡ symbol_of r
    → ((t : TransactionType) (xs : List Symbol) → StandsAtStep t xs step → StandsAtStep t (xs ++ s ∷ []) to)
    → IsStepWith records r to
more_stands step to kept records s r k e f t =
    subst (λ (rs : List RecordValue). IsStepWith rs r to) e
    (subst (λ (u : Symbol). IsStepAfter (map symbol_of kept ++ u ∷ []) to) f
    (k.stands.0, t k.stands.0 (map symbol_of kept) k.stands.1))

map_more : (records : List RecordValue) (r : RecordValue)
    → map symbol_of (records ++ r ∷ []) ≡ map symbol_of records ++ symbol_of r ∷ []
map_more [] r = refl
map_more (x ∷ records) r = ap (λ (l : List Symbol). symbol_of x ∷ l) (map_more records r)

all_more : (records : List RecordValue) (r : RecordValue) → AllByRecursion IsRecord records → IsRecord r
    → AllByRecursion IsRecord (records ++ r ∷ [])
all_more [] r h k = (k, tt)
all_more (x ∷ records) r h k = (h.0, all_more records r h.1 k)

longer : (records : List RecordValue) (r : RecordValue) → 0 < length (records ++ r ∷ [])
longer [] r = omega arith
longer (x ∷ records) r = omega arith

-- and is kept with the step after it
pub keeps_more : (to : TransactionStep) (kept records items : List RecordValue) (r : RecordValue) → AllByRecursion IsRecord kept
    → kept ≡ records → IsRecord r → IsStepWith records r to → items ≡ kept ++ r ∷ [] → KeepsTransaction to items
keeps_more to kept records items r all f h st e =
    let own : IsStepWith kept r to = subst (λ (rs : List RecordValue). IsStepWith rs r to) (sym f) st in
    let whole : KeepsTransaction to (kept ++ r ∷ []) = record {
      some = longer kept r;
      each = all_more kept r all h;
      stands = subst (λ (xs : List Symbol). IsStepAfter xs to) (sym (map_more kept r)) own;
    } in
    subst (KeepsTransaction to) (sym e) whole

-- a test of the step is one of the records
pub complete_exact : (step : TransactionStep) (kept records : List RecordValue) (b : Bool) → KeepsTransaction step kept
    → kept ≡ records → ((t : TransactionType) (xs : List Symbol) → StandsAtStep t xs step → IsTrue b ↔ IsShape t xs) → IsTrue b
    ↔ IsWholeTransaction records
complete_exact step kept records b k e t =
    let own = t k.stands.0 (map symbol_of kept) k.stands.1 in
    let all = whole_in step kept k in
    subst (λ (rs : List RecordValue). IsTrue b ↔ IsWholeTransaction rs) e (λ h. all.0 (own.0 h), λ w. own.1 (all.1 w))

pub ok_is_refused : (Ok (tt {0}) ≡ Err Misplaced) → ⊥
ok_is_refused e = cc e

pub memory_is_misplaced : (x : Result (Unit {0}) PushFault) → x ≡ Err Memory → x ≡ Err Misplaced → ⊥
memory_is_misplaced x e f = two_faults (cc (e, f))
  where
    two_faults : Memory ≡ Misplaced → ⊥
    two_faults k = cc k

-- after the end there is no record
none_after : (xs : List RecordValue) (i : ℕ) → length xs ≤ i → None ≡ slice_get xs i
none_after [] i h = refl
none_after (x ∷ xs) zero h = absurd (omega (arith, h))
none_after (x ∷ xs) (suc i) h = none_after xs i (omega (arith, h))

pub none_there : (records kept items : List RecordValue) (i : ℕ) → false ≡ ltb i (length items) → items ≡ kept → kept ≡ records
    → None ≡ slice_get records i
none_there records kept items i h e f =
    none_after records i (ltb-false i (length records) (sym (ap (λ (rs : List RecordValue). ltb i (length rs)) (e ∙ f)) ∙ sym h))
