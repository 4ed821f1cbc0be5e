-- What a tally counts of a whole transaction at once, and the stage that this comes to.
use Rattle.std.proofs.Common.{◌≡◌, ℕ, ◌+◌, ◌-◌, ◌≤◌, Bool, true, cond, List, [], ◌∷◌, ◌++◌, length, drop, Option, Some, None}
use Rattle.std.proofs.Common.{refl, sym, ap, subst, ◌∙◌, arith, true≢false}
use Rattle.std.specs.List.{last_or, list_all}
use Rattle.std.proofs.lemmas.Bool.{and_parts}
use Rattle.std.proofs.lemmas.List.{length-append, drop_at}
use Rattle.cwr_fields.specs.declared.codes.TransactionType.{TransactionType}
use Rattle.cwr_fields.specs.declared.codes.TransactionType.TheVariants.{Agreement, NewWork, RevisedWork, Acknowledgement}
use Rattle.cwr_fields.specs.declared.kinds.Kind.{Kind}
use Rattle.cwr_fields.specs.declared.kinds.Kind.TheVariants as kinds
use Rattle.cwr_shape.specs.declared.symbols.Symbol.{Symbol}
use Rattle.cwr_shape.specs.declared.symbols.Symbol.TheVariants.{Plain, Grh}
use Rattle.cwr_shape.specs.declared.stages.Stage.{Stage}
use Rattle.cwr_shape.specs.declared.stages.Stage.TheVariants as stages
use Rattle.cwr_shape.specs.declared.stages.TransactionStep.{TransactionStep}
use Rattle.cwr_shape.specs.declared.tallies.Counts.{Counts}
use Rattle.cwr_shape.specs.Format.AnyTransmission.{Any}
use Rattle.cwr_shape.specs.Format.NextSymbols.{after_header, counts_of, has_open_transaction, header_kind, open_records, open_type}
use Rattle.cwr_shape.specs.Format.NextSymbols.{scope_after, scope_by}
use Rattle.cwr_shape.specs.Format.Outlines.{Continues, IsWithin}
use Rattle.cwr_shape.specs.Format.Ranges.{LimitValues}
use Rattle.cwr_shape.specs.Format.Shapes.{IsShape, a, block, carrying, copy, many, publisher, some, tail_record, writer, ◌then◌}
use Rattle.cwr_shape.specs.Steps.Counting.{counts_with_transaction, HaveRoom}
use Rattle.cwr_shape.specs.Steps.Left.{StandsAt, StandsAtStep, StandsInside, in_group}
use Rattle.cwr_shape.specs.Steps.Stages.{stage_after}
use Rattle.cwr_shape.specs.Steps.Tallies.{IsTallyOf, KeepsCounts, KeepsTally, MayComeWhole, TallyValue}
use Rattle.cwr_shape.proofs.lemmas.CountedOn.{counted_after_transaction}
use Rattle.cwr_shape.proofs.lemmas.HeadFirst.{rest_after_head}
use Rattle.cwr_shape.proofs.lemmas.OpenTransactions.{open_stands}
use Rattle.cwr_shape.proofs.lemmas.StepPatterns.{stands_goes}
use Rattle.cwr_shape.proofs.lemmas.TallySteps.{stands_type}
use Rattle.cwr_shape.proofs.lemmas.TransactionNumbers.{Moved, counted_on, counts_after, headed_shape, is_inner, walks_transaction}

-- ---- a transaction begins with the header of its type

begins : (ty : TransactionType) (xs : List Symbol) → IsShape ty xs
    → (rest : List Symbol) × (xs ≡ Plain (header_kind ty) ∷ rest)
begins Agreement xs m = let b = rest_after_head (Plain kinds.Agr) (carrying (some block)) xs m in (b.0, b.1)
begins NewWork xs m =
    let b =
    rest_after_head (Plain kinds.Nwr) (carrying (many publisher then some writer then many tail_record)) xs m in (b.0, b.1)
begins RevisedWork xs m =
    let b =
    rest_after_head (Plain kinds.Rev) (carrying (many publisher then some writer then many tail_record)) xs m in (b.0, b.1)
begins Acknowledgement xs m = let b = rest_after_head (Plain kinds.Ack) (many (a kinds.Msg) then copy) xs m in (b.0, b.1)

one_header : (t u : TransactionType) → header_kind t ≡ header_kind u → t ≡ u
one_header Agreement Agreement e = refl
one_header NewWork NewWork e = refl
one_header RevisedWork RevisedWork e = refl
one_header Acknowledgement Acknowledgement e = refl
one_header t u e = absurd (cc e)

same_head : (j k : Kind) (xs ys rest : List Symbol) → xs ≡ Plain j ∷ ys → xs ++ rest ≡ Plain k ∷ (ys ++ rest) → j ≡ k
same_head j k xs ys rest e f = cc (sym f ∙ ap (λ (l : List Symbol). l ++ rest) e)

-- records that are a whole transaction of one type begin none of another
one_type : (ty of : TransactionType) (xs : List Symbol) (step : TransactionStep) → IsShape ty xs → StandsAtStep of xs step → of ≡ ty
one_type ty of xs step shape st =
    let mine = begins ty xs shape in
    let goes = stands_goes of xs step st in
    let other = begins of (xs ++ goes.0) goes.1 in
    let heads : Plain (header_kind of) ∷ other.0 ≡ Plain (header_kind ty) ∷ (mine.0 ++ goes.0) =
    sym other.1 ∙ ap (λ (l : List Symbol). l ++ goes.0) mine.1 in
    one_header of ty (cc heads)

-- ---- after it a transaction is open

open_head : (ty : TransactionType) → has_open_transaction (scope_by (Some (Plain (header_kind ty)))) ≡ true
open_head Agreement = refl
open_head NewWork = refl
open_head RevisedWork = refl
open_head Acknowledgement = refl

open_inner : (ty : TransactionType) (s : Symbol) → is_inner ty s ≡ true → has_open_transaction (scope_by (Some s)) ≡ true
open_inner ty (Grh t) h = absurd (true≢false (sym h))
open_inner ty (Plain kinds.Grh) h = absurd (true≢false (sym h))
open_inner ty (Plain kinds.Hdr) h = absurd (true≢false (sym h))
open_inner ty (Plain kinds.Grt) h = absurd (true≢false (sym h))
open_inner ty (Plain kinds.Trl) h = absurd (true≢false (sym h))
open_inner ty s h = refl

open_rest : (ty : TransactionType) (o : Option Symbol) (rest : List Symbol) → has_open_transaction (scope_by o) ≡ true
    → list_all (is_inner ty) rest ≡ true → has_open_transaction (scope_by (last_or o rest)) ≡ true
open_rest ty o [] h all = h
open_rest ty o (s ∷ rest) h all =
    let p = and_parts (is_inner ty s) (list_all (is_inner ty) rest) all in
    open_rest ty (Some s) rest (open_inner ty s p.0) p.1

last_of : (o : Option Symbol) (xs ys : List Symbol) → last_or o (xs ++ ys) ≡ last_or (last_or o xs) ys
last_of o [] ys = refl
last_of o (x ∷ xs) ys = last_of (Some x) xs ys

open_after : (ty : TransactionType) (xs whole : List Symbol) → IsShape ty whole
    → has_open_transaction (scope_after (xs ++ whole)) ≡ true
open_after ty xs whole shape =
    let h = headed_shape ty whole shape in
    let b = begins ty whole shape in
    let same : h.head ∷ h.rest ≡ Plain (header_kind ty) ∷ b.0 = sym h.whole ∙ b.1 in
    let head : h.head ≡ Plain (header_kind ty) = cc same in
    let first : has_open_transaction (scope_by (Some h.head)) ≡ true =
    ap (λ (s : Symbol). has_open_transaction (scope_by (Some s))) head ∙ open_head ty in
    ap (λ (o : Option Symbol). has_open_transaction (scope_by o))
    (last_of None xs whole ∙ ap (last_or (last_or None xs)) h.whole)
    ∙ open_rest ty (Some h.head) h.rest first h.inner

-- ---- the stage that it comes to

any_goes : (limits : LimitValues) (xs : List Symbol) → Continues (IsWithin limits) xs → Continues Any xs
any_goes limits xs g = (g.0, g.1, tt, g.3)

named_by : (stage : Stage) (ty : TransactionType) (step : TransactionStep) (xs whole : List Symbol) → StandsAt (xs ++ whole) stage
    → StandsInside stage whole → open_type (xs ++ whole) ≡ ty → StandsAtStep ty whole step → stage ≡ stages.Within ty step
named_by (stages.Within u s) ty step xs whole st inside e k =
    let same : u ≡ ty = stands_type (xs ++ whole) u s st ∙ e in
    inside.named ∙ ap (λ (v : TransactionType). stage_after (in_group v whole)) same ∙ sym k.named
named_by stage ty step xs whole st inside e k = absurd inside

comes_to : (t : TallyValue) (ty : TransactionType) (n : ℕ) (step : TransactionStep) (xs whole : List Symbol)
    → MayComeWhole t ty n step xs whole → StandsAt (xs ++ whole) (stages.Within ty step)
comes_to t ty n step xs whole m =
    let stage : Stage = stage_after (xs ++ whole) in
    let st : StandsAt (xs ++ whole) stage =
    record { begins = any_goes t.limits (xs ++ whole) m.within; named = refl } in
    let is_open = open_after ty xs whole m.shape in
    let on = counted_after_transaction ty xs whole m.same_type m.shape in
    let many : open_records (xs ++ whole) ≡ length whole =
    ap (λ (b : Bool). cond b (1 + length (after_header (xs ++ whole))) 0) is_open ∙ omega (arith, on.counted_after) in
    let start : length xs ≡ length (xs ++ whole) - open_records (xs ++ whole) = omega (arith, many, length-append xs whole) in
    let last : drop (length (xs ++ whole) - open_records (xs ++ whole)) (xs ++ whole) ≡ whole =
    drop_at xs whole (length (xs ++ whole) - open_records (xs ++ whole)) start in
    let inside : StandsInside stage whole =
    subst (StandsInside stage) last (open_stands (xs ++ whole) stage st is_open) in
    let ends : StandsAtStep ty whole step =
    subst (λ (u : TransactionType). StandsAtStep u whole step) (one_type ty m.ends.0 whole step m.shape m.ends.1) m.ends.1 in
    subst (StandsAt (xs ++ whole)) (named_by stage ty step xs whole st inside on.same_type ends) st

-- ---- what is counted

same_counts : (b c : Counts) → b.records ≡ c.records → b.groups ≡ c.groups → b.transactions ≡ c.transactions
    → b.in_group ≡ c.in_group → b.after_grh ≡ c.after_grh → b.after_header ≡ c.after_header → b ≡ c
same_counts b c d e f g h k = λ i. record {
  records = d i;
  groups = e i;
  transactions = f i;
  in_group = g i;
  after_grh = h i;
  after_header = k i;
}

counts_over : (ty : TransactionType) (xs whole : List Symbol) → open_type xs ≡ ty → IsShape ty whole
    → counts_with_transaction (counts_of xs) (length whole) ≡ counts_of (xs ++ whole)
counts_over ty xs whole e shape =
    let on = counted_after_transaction ty xs whole e shape in
    let after : counts_after ty (counts_of xs) whole ≡ counts_of (xs ++ whole) =
    ap (λ (u : TransactionType). counts_after u (counts_of xs) whole) (sym e) ∙ counted_on xs whole in
    let moved : Moved (counts_of xs) (counts_of (xs ++ whole)) (length whole) 1 =
    subst (λ (c : Counts). Moved (counts_of xs) c (length whole) 1) after (walks_transaction ty (counts_of xs) whole shape).moved in
    same_counts (counts_with_transaction (counts_of xs) (length whole)) (counts_of (xs ++ whole)) (sym moved.records_more)
    (sym moved.groups_same) (sym moved.transactions_more) (sym moved.in_group_more) (sym moved.after_more)
    (omega (arith, on.counted_after))

some_long : (ty : TransactionType) (whole : List Symbol) → IsShape ty whole → 1 ≤ length whole
some_long ty whole shape = let b = begins ty whole shape in omega (arith, ap length b.1)

keeps_over : (limits : LimitValues) (c : Counts) (n : ℕ) → KeepsCounts limits c → c.records + n ≤ limits.records → 1 ≤ n
    → KeepsCounts limits (counts_with_transaction c n)
keeps_over limits c n k h one = record {
  in_range = k.in_range;
  records = h;
  groups = k.groups;
  transactions = omega (arith, k.transactions, one);
  in_group = omega (arith, k.in_group, one);
  after_grh = omega (arith, k.after_grh);
  after_header = omega arith;
}

-- ---- the tally

-- with the transaction
abbrev pub over : TallyValue → TransactionType → ℕ → TransactionStep → TallyValue
over t ty n step =
    record { limits = t.limits; stage = stages.Within ty step; counts = counts_with_transaction t.counts n }

pub stands_over : (t : TallyValue) (ty : TransactionType) (n : ℕ) (step : TransactionStep) (xs whole : List Symbol)
    → IsTallyOf t xs → MayComeWhole t ty n step xs whole → IsTallyOf (over t ty n step) (xs ++ whole)
stands_over t ty n step xs whole st m = record {
  stands = comes_to t ty n step xs whole m;
  counted =
      ap (λ (c : Counts). counts_with_transaction c n) st.counted
      ∙ ap (counts_with_transaction (counts_of xs)) (sym m.long) ∙ counts_over ty xs whole m.same_type m.shape;
  within = m.within;
}

pub keeps_whole : (t : TallyValue) (ty : TransactionType) (n : ℕ) (step : TransactionStep) → KeepsTally t
    → (xs whole : List Symbol) × IsTallyOf t xs × MayComeWhole t ty n step xs whole → t.counts.records + n ≤ t.limits.records
    → KeepsTally (over t ty n step)
keeps_whole t ty n step k (xs, whole, st, m) h = record {
  counts = keeps_over t.limits t.counts n k.counts h (omega (arith, some_long ty whole m.shape, m.long));
  stands = (xs ++ whole, stands_over t ty n step xs whole st m);
}

-- the counts have room
pub room_over : (limits : LimitValues) (c : Counts) → KeepsCounts limits c → HaveRoom c
room_over limits c k = record {
  records = omega (arith, k.records, k.in_range.most_records);
  groups = omega (arith, k.groups, k.in_range.most_groups);
  transactions = omega (arith, k.transactions, k.records, k.in_range.most_records);
  in_group = omega (arith, k.in_group, k.records, k.in_range.most_records);
  after_grh = omega (arith, k.after_grh, k.records, k.in_range.most_records);
  after_header = omega (arith, k.after_header, k.records, k.in_range.most_records);
}

pub few_over : (limits : LimitValues) (c : Counts) (n : ℕ) → KeepsCounts limits c → c.records + n ≤ limits.records → n ≤ 99999999
few_over limits c n k h = omega (arith, h, k.in_range.most_records)
