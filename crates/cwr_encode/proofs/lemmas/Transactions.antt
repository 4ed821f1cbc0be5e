-- What a call knows that adds a whole transaction.
use Rattle.std.proofs.Common.{◌≡◌, ℕ, ◌+◌, ◌≤◌, ◌<◌, Bool, true, false, cond, List, [], ◌∷◌, ◌++◌, length, map, Option, Some}
use Rattle.std.proofs.Common.{None, refl, sym, ap, subst, ◌∙◌, arith, append_assoc, ltb-false, ltb-true}
use Rattle.std.specs.Prelude.{◌↔◌, nat_lt, slice_get, option_map, unwrap_or, Result, Err}
use Rattle.std.proofs.lemmas.List.{map-append, length-map}
use Rattle.cwr_fields.specs.declared.codes.TransactionType.{TransactionType}
use Rattle.cwr_fields.specs.declared.codes.TransactionType.TheVariants.{Agreement, NewWork, RevisedWork, Acknowledgement}
use Rattle.cwr_fields.specs.declared.kinds.Kind.{Kind}
use Rattle.cwr_fields.specs.declared.kinds.Kind.TheVariants as kinds
use Rattle.cwr_lines.specs.Format.Records.{RecordValue}
use Rattle.cwr_shape.specs.declared.symbols.Symbol.{Symbol}
use Rattle.cwr_shape.specs.declared.symbols.Symbol.TheVariants.{Plain}
use Rattle.cwr_shape.specs.declared.limits.LimitKind.{LimitKind}
use Rattle.cwr_shape.specs.declared.limits.LimitKind.TheVariants.{Records, Groups, Transaction}
use Rattle.cwr_shape.specs.declared.tallies.Counts.{Counts}
use Rattle.cwr_shape.specs.Format.Numbers.{number_in}
use Rattle.cwr_shape.specs.Format.Shapes.{IsShape}
use Rattle.cwr_shape.specs.Format.Outlines.{IsWithin, Continues}
use Rattle.cwr_shape.specs.Format.AnyTransmission.{Any}
use Rattle.cwr_shape.specs.Format.NextSymbols.{header_kind, open_type, counts_of}
use Rattle.cwr_shape.specs.Steps.Tallies.{TallyValue, IsTallyOf, KeepsTally}
use Rattle.cwr_shape.specs.Format.ExpectedNumbers.{expected_numbers}
use Rattle.cwr_values.specs.Format.Values.{symbol_of}
use Rattle.cwr_values.specs.Format.Begun.{IsBegun, HasHeaderOf, IsWholeTransaction}
use Rattle.cwr_values.specs.Format.Begins.{numbers_after}
use Rattle.cwr_values.proofs.lemmas.Grouping.{of_type}
use Rattle.cwr_values.proofs.lemmas.RowAt.{kind_of_symbol}
use Rattle.cwr_shape.specs.declared.stages.TransactionStep.{TransactionStep}
use Rattle.cwr_shape.specs.Steps.Tallies.{MayComeWhole}
use Rattle.cwr_values.specs.Steps.Begun.{IsStepAfter}
use Rattle.cwr_encode.specs.declared.encoders.Encoder.{Encoder}
use Rattle.cwr_encode.specs.declared.encoders.EncodeFault.{EncodeFault}
use Rattle.cwr_encode.specs.declared.encoders.EncodeFault.TheVariants.{Limit, WrongKind}
use Rattle.cwr_devices.specs.Steps.Sinks.{HasWritten, Puts}
use Rattle.cwr_encode.specs.Steps.Texts.{text_from}
use Rattle.cwr_encode.specs.Format.Encoders.{part_of, JudgesTransaction}
use Rattle.cwr_encode.specs.Steps.Encoders.{TakesTransactions, IsNextNumber, passed_with, RepresentsMore}
use Rattle.cwr_encode.proofs.lemmas.Adding.{part-append, all_more}
use Rattle.cwr_encode.proofs.lemmas.Reaching.{Reaches, reaches, goes_front}
use Rattle.cwr_encode.proofs.lemmas.TransactionTexts.{transaction_text}

-- ---- sums

abbrev pub Passed : TallyValue → ℕ → Option LimitKind → Type 0
Passed t n None = (t.counts.records + 2 + n ≤ t.limits.records) × (n ≤ t.limits.transaction)
Passed t n (Some Records) = t.limits.records < t.counts.records + 2 + n
Passed t n (Some Groups) = ⊥
Passed t n (Some Transaction) = (t.counts.records + 2 + n ≤ t.limits.records) × (t.limits.transaction < n)

passes : (t : TallyValue) (n : ℕ) → Passed t n (passed_with t n)
passes t n = by (nat_lt t.limits.records (t.counts.records + 2 + n)) (nat_lt t.limits.transaction n) refl refl
  where
    by : (x y : Bool) → nat_lt t.limits.records (t.counts.records + 2 + n) ≡ x → nat_lt t.limits.transaction n ≡ y
        → Passed t n (cond x (Some Records) (cond y (Some Transaction) None))
    by true y h k = ltb-true t.limits.records (t.counts.records + 2 + n) h
    by false true h k = (ltb-false t.limits.records (t.counts.records + 2 + n) h, ltb-true t.limits.transaction n k)
    by false false h k = (ltb-false t.limits.records (t.counts.records + 2 + n) h, ltb-false t.limits.transaction n k)

pub passed_as : (t : TallyValue) (n : ℕ) (o p : Option LimitKind) → o ≡ passed_with t n → o ≡ p → Passed t n p
passed_as t n o p e f = subst (Passed t n) (sym e ∙ f) (passes t n)

-- ---- a whole transaction of the open group's type

-- what is known of it once it isn't refused as incomplete
pub record Whole (ty : TransactionType) (t : List RecordValue) : Type 0 where
  pub begun : IsBegun t
  pub header : HasHeaderOf ty t
  pub whole : IsWholeTransaction t
  pub shape : IsShape ty (map symbol_of t)

pub whole_of : (ty : TransactionType) (t : List RecordValue) (b d : Bool) → IsBegun t → (b ≡ true) ↔ HasHeaderOf ty t → b ≡ true
    → (d ≡ true) ↔ IsWholeTransaction t → d ≡ true → Whole ty t
whole_of ty t b d begun h b_is w d_is =
    record { begun = begun; header = h.0 b_is; whole = w.0 d_is; shape = (of_type ty t begun (h.0 b_is) (w.0 d_is)).1 }

pub reach : (tally : TallyValue) (xs : List Symbol) (ty : TransactionType) (t : List RecordValue) → IsTallyOf tally xs
    → TakesTransactions ty xs → Whole ty t → Reaches tally xs (map symbol_of t)
reach tally xs ty t st ready w = reaches tally xs (map symbol_of t) ty st ready.same_type ready.inside ready.between w.shape

pub header_there : (xs : List Symbol) (ty : TransactionType) (t : List RecordValue) → TakesTransactions ty xs → HasHeaderOf ty t
    → HasHeaderOf (open_type xs) t
header_there xs ty t ready h = subst (λ (u : TransactionType). HasHeaderOf u t) (sym ready.same_type) h

pub wrong_type : (tally : TallyValue) (xs : List Symbol) (ty : TransactionType) (t : List RecordValue) (b : Bool)
    → TakesTransactions ty xs → (b ≡ true) ↔ HasHeaderOf ty t → b ≡ false → JudgesTransaction tally.limits t xs (Err WrongKind)
wrong_type tally xs ty t b ready h b_is =
    (ready.inside, λ k. absurd (cc (sym (h.1 (subst (λ (u : TransactionType). HasHeaderOf u t) ready.same_type k)) ∙ b_is)))

long : (t : List RecordValue) → length (map symbol_of t) ≡ length t
long t = length-map t symbol_of

pub limit_judged : (tally : TallyValue) (xs : List Symbol) (ty : TransactionType) (t : List RecordValue) (o : Option LimitKind)
    (limit : LimitKind) → IsTallyOf tally xs → TakesTransactions ty xs → Whole ty t
    → o ≡ passed_with tally (length t) → o ≡ Some limit → JudgesTransaction tally.limits t xs (Err (Limit limit))
limit_judged tally xs ty t o limit st ready w e f = by limit (passed_as tally (length t) o (Some limit) e f)
  where
    r : Reaches tally xs (map symbol_of t)
    r = reach tally xs ty t st ready w

    by : (l : LimitKind) → Passed tally (length t) (Some l) → JudgesTransaction tally.limits t xs (Err (Limit l))
    by Records h = (
      ready.inside,
      header_there xs ty t ready w.header,
      w.whole,
      (goes_front (xs ++ map symbol_of t) (Plain kinds.Grt ∷ []) r.ends, λ g. omega (arith, h, r.records.0 g, long t)),
    )
    by Groups h = absurd h
    by Transaction h = (
      ready.inside,
      header_there xs ty t ready w.header,
      w.whole,
      (r.records.1 (omega (arith, h.0, long t)), r.groups, λ g. omega (arith, h.1, r.transaction.0 g, long t)),
    )

-- it is within the limits
pub comes_within : (tally : TallyValue) (xs : List Symbol) (ty : TransactionType) (t : List RecordValue) (o : Option LimitKind)
    → IsTallyOf tally xs → TakesTransactions ty xs → Whole ty t
    → o ≡ passed_with tally (length t) → o ≡ None → Continues (IsWithin tally.limits) (xs ++ map symbol_of t)
comes_within tally xs ty t o st ready w e f =
    let h = passed_as tally (length t) o None e f in
    (reach tally xs ty t st ready w).both (omega (arith, h.0, long t)) (omega (arith, h.1, long t))

pub few_records : (tally : TallyValue) (t : List RecordValue) (o : Option LimitKind) → KeepsTally tally
    → o ≡ passed_with tally (length t) → o ≡ None → length t ≤ 999999
few_records tally t o kept e f =
    let h = passed_as tally (length t) o None e f in omega (arith, h.1, kept.counts.in_range.most_transaction)

-- its records may come at once
pub comes_whole : (tally : TallyValue) (xs : List Symbol) (ty : TransactionType) (t : List RecordValue) (o : Option LimitKind)
    (n : ℕ) (step : TransactionStep) → IsTallyOf tally xs → TakesTransactions ty xs → Whole ty t
    → o ≡ passed_with tally (length t) → o ≡ None → n ≡ length t → IsStepAfter (map symbol_of t) step
    → MayComeWhole tally ty n step xs (map symbol_of t)
comes_whole tally xs ty t o n step st ready w e f many ends = record {
  same_type = ready.same_type;
  shape = w.shape;
  long = long t ∙ sym many;
  ends = ends;
  within = comes_within tally xs ty t o st ready w e f;
}

pub fits_whole : (tally : TallyValue) (t : List RecordValue) (o : Option LimitKind) (n : ℕ)
    → o ≡ passed_with tally (length t) → o ≡ None → n ≡ length t → tally.counts.records + n ≤ tally.limits.records
fits_whole tally t o n e f many = let h = passed_as tally (length t) o None e f in omega (arith, h.0, many)

-- ---- its number

header_number : (ty : TransactionType) (c : Counts)
    → unwrap_or (number_in (header_kind ty) 2 (expected_numbers ty c (header_kind ty))) 0 ≡ c.in_group
header_number Agreement c = refl
header_number NewWork c = refl
header_number RevisedWork c = refl
header_number Acknowledgement c = refl

pub number_known : (tally : TallyValue) (xs : List Symbol) (ty : TransactionType) (t : List RecordValue) (kind : Kind) (n : ℕ)
    → IsTallyOf tally xs → TakesTransactions ty xs → Whole ty t
    → Some kind ≡ option_map (λ r. r.kind) (slice_get t 0) → IsNextNumber tally kind 2 n → n ≡ (counts_of xs).in_group
number_known tally xs ty [] kind n st ready w k next = absurd (cc k)
number_known tally xs ty (r ∷ rs) kind n st ready w k next =
    let same : kind ≡ r.kind = cc k in
    let named : kind ≡ header_kind ty = same ∙ w.header in
    let goes = goes_front (xs ++ map symbol_of (r ∷ rs)) (Plain kinds.Grt ∷ []) (reach tally xs ty (r ∷ rs) st ready w).ends in
    let first : Continues Any (xs ++ symbol_of r ∷ []) =
    goes_front (xs ++ symbol_of r ∷ []) (map symbol_of rs)
    (subst (Continues Any) (sym (append_assoc xs (symbol_of r ∷ []) (map symbol_of rs))) goes) in
    next xs (symbol_of r) st (kind_of_symbol r ∙ sym same) first
    ∙ ap (λ (j : Kind). unwrap_or (number_in j 2 (numbers_after xs j)) 0) named
    ∙ ap
    (λ (u : TransactionType). unwrap_or (number_in (header_kind ty) 2 (expected_numbers u (counts_of xs) (header_kind ty))) 0)
    ready.same_type
    ∙ header_number ty (counts_of xs)

-- ---- the encoder with it

pub transaction_added : {W : Type 0} (contents : W → Option (List ℕ)) (failures : W → ℕ) (old new : Encoder W)
    (ty : TransactionType) (t : List RecordValue) (kind : Kind) (n : ℕ) (result : Result (Unit {0}) EncodeFault)
    → ((xs : List Symbol) → IsTallyOf old.tally xs → TakesTransactions ty xs) → Whole ty t
    → Some kind ≡ option_map (λ r. r.kind) (slice_get t 0) → IsNextNumber old.tally kind 2 n
    → ((xs : List Symbol) → IsTallyOf old.tally xs → IsTallyOf new.tally (xs ++ map symbol_of t))
    → Puts contents failures (text_from n 0 t) result old.sink new.sink → RepresentsMore contents t old new
transaction_added contents failures old new ty t kind n result ready w k next stands p start records e =
    let xs : List Symbol = map symbol_of records in
    let all : map symbol_of (records ++ t) ≡ xs ++ map symbol_of t = map-append symbol_of records t in
    let ends = (reach old.tally xs ty t e.counted (ready xs e.counted) w).ends in
    let number : n ≡ (counts_of xs).in_group = number_known old.tally xs ty t kind n e.counted (ready xs e.counted) w k next in
    let text : part_of (records ++ t) ≡ part_of records ++ text_from n 0 t =
    part-append records t ∙ ap (λ (l : List ℕ). part_of records ++ l)
    (transaction_text ty records t (ready xs e.counted).same_type w.shape ∙ ap (λ (m : ℕ). text_from m 0 t) (sym number)) in
    record {
      counted = subst (IsTallyOf new.tally) (sym all) (stands xs e.counted);
      in_order = all_more records t e.in_order w.begun.each;
      between = λ inside. subst (λ (l : List Symbol). Continues Any (l ++ Plain kinds.Grt ∷ [])) (sym all) ends;
      written =
          subst (λ (l : List ℕ). HasWritten contents start l new.sink) (sym text) (p.written start (part_of records) e.written);
    }
