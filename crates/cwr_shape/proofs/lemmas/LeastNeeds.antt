-- From each stage no way to end has a lower number than the table.
use Rattle.std.proofs.Common.{◌≡◌, ℕ, ◌+◌, ◌≤◌, Bool, true, false, cond, ◌&&◌, List, [], ◌∷◌, length, Option, Some, None, refl}
use Rattle.std.proofs.Common.{sym, ap, subst, ◌∙◌, arith, true≢false, leb-true, eqb-true}
use Rattle.std.specs.Prelude.{nat_le, ◌==◌}
use Rattle.std.specs.List.{list_all, count_by}
use Rattle.std.specs.Str.{bytes_eq}
use Rattle.std.proofs.lemmas.Bool.{and_parts}
use Rattle.std.proofs.lemmas.List.Sums.{sum_by-cons}
use Rattle.std.proofs.lemmas.Slice.Eq.{bytes_eq-Decides}
use Rattle.cwr_fields.specs.declared.codes.Role.TheVariants.{Assignor, Acquirer}
use Rattle.cwr_fields.specs.declared.codes.TransactionType.{TransactionType}
use Rattle.cwr_fields.specs.declared.codes.TransactionType.TheVariants.{Agreement, NewWork, RevisedWork, Acknowledgement}
use Rattle.cwr_fields.specs.declared.kinds.Kind.TheVariants as kinds
use Rattle.cwr_shape.specs.declared.symbols.Symbol.{Symbol}
use Rattle.cwr_shape.specs.declared.symbols.Symbol.TheVariants.{Plain, Grh}
use Rattle.cwr_shape.specs.declared.stages.Stage.{Stage}
use Rattle.cwr_shape.specs.declared.stages.Stage.TheVariants as stages
use Rattle.cwr_shape.specs.declared.stages.TransactionStep.{TransactionStep}
use Rattle.cwr_shape.specs.declared.stages.TransactionStep.TheVariants as steps
use Rattle.cwr_shape.specs.Format.LastSymbols.{is_grh}
use Rattle.cwr_shape.specs.Steps.NextStages.{next_stage}
use Rattle.cwr_shape.specs.Steps.Left.{is_stage, is_inside, StandsAt}
use Rattle.cwr_shape.specs.Format.NextSymbols.{is_header_of, type_after}
use Rattle.cwr_shape.specs.Steps.Needs.{is_later_of, later_records, first_transaction, transaction_to_come, AreNeeds, needs_at}
use Rattle.cwr_shape.proofs.lemmas.Matcher.{symbol_text, same_text}
use Rattle.cwr_shape.proofs.lemmas.AllSymbols.{all_symbols, of_each}
use Rattle.cwr_shape.proofs.lemmas.StagePatterns.{next_is_stage}
use Rattle.cwr_shape.proofs.lemmas.StageRuns.{run, run_first}
use Rattle.cwr_shape.proofs.lemmas.StageStands.{stands_leaves}
use Rattle.cwr_shape.proofs.lemmas.WaysToEnd.{way_out, ends, way_out_has, runs_whole, whole_runs}

-- ---- no way needs less

abbrev pub same_type_text : TransactionType → TransactionType → Bool
same_type_text t u = bytes_eq (symbol_text (Grh t)) (symbol_text (Grh u))

abbrev pub need : TransactionType → TransactionStep → ℕ
need ty step = (needs_at (stages.Within ty step)).transaction

-- a transaction of the type is open, and needs one record less at most
unfoldable pub goes_down : TransactionType → ℕ → Stage → Bool
goes_down ty n (stages.Within u step) = same_type_text ty u && (is_inside step && nat_le n (1 + need u step))
goes_down ty n to = false

-- an open transaction continues with a later record, or needs nothing more; where none is open, a header opens one
unfoldable pub lowers_transaction : Stage → Symbol → Stage → Bool
lowers_transaction (stages.Within ty step) s to =
    cond (is_inside step) (cond (is_later_of ty s) (goes_down ty (need ty step) to) (need ty step == 0))
    (is_header_of ty s && goes_down ty (need ty step) to)
lowers_transaction stage s to = true

-- a symbol lowers each need by what it is, at most
unfoldable pub lowers_to : Stage → Symbol → Option Stage → Bool
lowers_to stage s None = true
lowers_to stage s (Some to) = nat_le (needs_at stage).records (1 + (needs_at to).records)
    && (nat_le (needs_at stage).groups (cond (is_grh s) 1 0 + (needs_at to).groups) && lowers_transaction stage s to)

unfoldable pub lowers : Stage → Symbol → Bool
lowers stage s = lowers_to stage s (next_stage stage s)

all_lower : (stage : Stage) → is_stage stage ≡ true → list_all (lowers stage) all_symbols ≡ true
unfolding lowers lowers_to lowers_transaction goes_down
all_lower stages.Start h = refl
all_lower stages.Opened h = refl
all_lower stages.Closed h = refl
all_lower stages.Ended h = refl
all_lower (stages.Within Agreement steps.InGroup) h = refl
all_lower (stages.Within Agreement steps.Agreed) h = refl
all_lower (stages.Within Agreement steps.Territories) h = refl
all_lower (stages.Within Agreement (steps.OneSide Assignor)) h = refl
all_lower (stages.Within Agreement (steps.OneSide Acquirer)) h = refl
all_lower (stages.Within Agreement steps.Both) h = refl
all_lower (stages.Within NewWork steps.InGroup) h = refl
all_lower (stages.Within NewWork steps.Work) h = refl
all_lower (stages.Within NewWork steps.Controlled) h = refl
all_lower (stages.Within NewWork steps.Other) h = refl
all_lower (stages.Within NewWork steps.Writer) h = refl
all_lower (stages.Within NewWork steps.OtherWriter) h = refl
all_lower (stages.Within NewWork steps.Tail) h = refl
all_lower (stages.Within RevisedWork steps.InGroup) h = refl
all_lower (stages.Within RevisedWork steps.Work) h = refl
all_lower (stages.Within RevisedWork steps.Controlled) h = refl
all_lower (stages.Within RevisedWork steps.Other) h = refl
all_lower (stages.Within RevisedWork steps.Writer) h = refl
all_lower (stages.Within RevisedWork steps.OtherWriter) h = refl
all_lower (stages.Within RevisedWork steps.Tail) h = refl
all_lower (stages.Within Acknowledgement steps.InGroup) h = refl
all_lower (stages.Within Acknowledgement steps.Acked) h = refl
all_lower (stages.Within Acknowledgement steps.Agreed) h = refl
all_lower (stages.Within Acknowledgement steps.Territories) h = refl
all_lower (stages.Within Acknowledgement (steps.OneSide Assignor)) h = refl
all_lower (stages.Within Acknowledgement (steps.OneSide Acquirer)) h = refl
all_lower (stages.Within Acknowledgement steps.Both) h = refl
all_lower (stages.Within Acknowledgement steps.Work) h = refl
all_lower (stages.Within Acknowledgement steps.Controlled) h = refl
all_lower (stages.Within Acknowledgement steps.Other) h = refl
all_lower (stages.Within Acknowledgement steps.Writer) h = refl
all_lower (stages.Within Acknowledgement steps.OtherWriter) h = refl
all_lower (stages.Within Acknowledgement steps.Tail) h = refl
all_lower stage h = absurd (true≢false (sym h))

record Lowers (stage : Stage) (s : Symbol) (to : Stage) : Type 0 where
  records : (needs_at stage).records ≤ 1 + (needs_at to).records
  groups : (needs_at stage).groups ≤ cond (is_grh s) 1 0 + (needs_at to).groups
  transaction : lowers_transaction stage s to ≡ true

lowered_by : (stage : Stage) (s : Symbol) (to : Stage) (o : Option Stage) → o ≡ Some to → lowers_to stage s o ≡ true
    → Lowers stage s to
unfolding lowers_to
lowered_by stage s to None e h = absurd (cc e)
lowered_by stage s to (Some other) e h =
    let there : other ≡ to = cc e in
    let a = and_parts (nat_le (needs_at stage).records (1 + (needs_at other).records)) _ h in
    let b = and_parts (nat_le (needs_at stage).groups (cond (is_grh s) 1 0 + (needs_at other).groups)) _ a.1 in
    subst (Lowers stage s) there (record { records = leb-true _ _ a.0; groups = leb-true _ _ b.0; transaction = b.1 })

lowered : (stage : Stage) (s : Symbol) (to : Stage) → is_stage stage ≡ true → next_stage stage s ≡ Some to → Lowers stage s to
unfolding lowers
lowered stage s to real e = lowered_by stage s to (next_stage stage s) e (of_each (lowers stage) s (all_lower stage real))

one_stage : (x y : Stage) → Some x ≡ Some y → x ≡ y
one_stage x y e = cc e

pub least_records : (stage : Stage) (rest : List Symbol) → is_stage stage ≡ true → run stage rest ≡ Some stages.Ended
    → (needs_at stage).records ≤ length rest
unfolding run
least_records stage [] real e = omega (arith, ap (λ (t : Stage). (needs_at t).records) (one_stage stage stages.Ended e))
least_records stage (s ∷ rest) real e =
    let first = run_first stage s rest stages.Ended e in
    omega (
      arith,
      (lowered stage s first.0 real first.1).records,
      least_records first.0 rest (next_is_stage stage s first.0 real first.1) first.2,
    )

pub least_groups : (stage : Stage) (rest : List Symbol) → is_stage stage ≡ true → run stage rest ≡ Some stages.Ended
    → (needs_at stage).groups ≤ count_by is_grh rest
unfolding run
least_groups stage [] real e = omega (arith, ap (λ (t : Stage). (needs_at t).groups) (one_stage stage stages.Ended e))
least_groups stage (s ∷ rest) real e =
    let first = run_first stage s rest stages.Ended e in
    omega (
      arith,
      (lowered stage s first.0 real first.1).groups,
      least_groups first.0 rest (next_is_stage stage s first.0 real first.1) first.2,
      sum_by-cons (λ x. cond (is_grh x) 1 0) s rest,
    )

record GoesDown (ty : TransactionType) (n : ℕ) (to : Stage) : Type 0 where
  step : TransactionStep
  is : to ≡ stages.Within ty step
  inside : is_inside step ≡ true
  low : n ≤ 1 + need ty step

one_type : (t u : TransactionType) → Grh t ≡ Grh u → t ≡ u
one_type t u e = cc e

went_down : (ty : TransactionType) (n : ℕ) (to : Stage) → goes_down ty n to ≡ true → GoesDown ty n to
unfolding goes_down
went_down ty n (stages.Within u step) h =
    let a = and_parts (same_type_text ty u) (is_inside step && nat_le n (1 + need u step)) h in
    let b = and_parts (is_inside step) (nat_le n (1 + need u step)) a.1 in
    let same : ty ≡ u =
    one_type ty u (same_text (Grh ty) (Grh u) ((bytes_eq-Decides (symbol_text (Grh ty)) (symbol_text (Grh u))).0 a.0)) in
    subst (λ (t : TransactionType). GoesDown t n (stages.Within u step)) (sym same)
    (record { step = step; is = refl; inside = b.0; low = leb-true _ _ b.1 })
went_down ty n to h = absurd (true≢false (sym h))

no_end : (ty : TransactionType) (step : TransactionStep) → Some (stages.Within ty step) ≡ Some stages.Ended → ⊥
no_end ty step e = differ (one_stage (stages.Within ty step) stages.Ended e)
  where
    differ : stages.Within ty step ≡ stages.Ended → ⊥
    differ k = cc k

-- inside a transaction
least_later : (ty : TransactionType) (step : TransactionStep) (rest : List Symbol) → is_stage (stages.Within ty step) ≡ true
    → is_inside step ≡ true → run (stages.Within ty step) rest ≡ Some stages.Ended
    → need ty step ≤ later_records ty rest
unfolding run lowers_transaction
least_later ty step [] real inside e = absurd (no_end ty step e)
least_later ty step (s ∷ rest) real inside e =
    let first = run_first (stages.Within ty step) s rest stages.Ended e in
    let low : cond true (cond (is_later_of ty s) (goes_down ty (need ty step) first.0) (need ty step == 0))
    (is_header_of ty s && goes_down ty (need ty step) first.0) ≡ true
    = ap (λ (b : Bool). cond b (cond (is_later_of ty s) (goes_down ty (need ty step) first.0) (need ty step == 0))
    (is_header_of ty s && goes_down ty (need ty step) first.0)) (sym inside)
    ∙ (lowered (stages.Within ty step) s first.0 real first.1).transaction in
    by_later (is_later_of ty s) first.0 low (next_is_stage (stages.Within ty step) s first.0 real first.1) first.2
    (λ st r i k. least_later ty st rest r i k)
  where
    by_later : (b : Bool) (to : Stage) → cond b (goes_down ty (need ty step) to) (need ty step == 0) ≡ true → is_stage to ≡ true
        → run to rest ≡ Some stages.Ended
        → ((st : TransactionStep) → is_stage (stages.Within ty st) ≡ true → is_inside st ≡ true
        → run (stages.Within ty st) rest ≡ Some stages.Ended → need ty st ≤ later_records ty rest)
        → need ty step ≤ cond b (1 + later_records ty rest) 0
    by_later false to h r k f = omega (arith, eqb-true (need ty step) 0 h)
    by_later true to h r k f =
        let down = went_down ty (need ty step) to h in
        omega (
          arith,
          down.low,
          f down.step (subst (λ (t : Stage). is_stage t ≡ true) down.is r) down.inside
              (subst (λ (t : Stage). run t rest ≡ Some stages.Ended) down.is k),
        )

-- before a transaction: the header opens one
least_first : (ty : TransactionType) (rest : List Symbol) → run (stages.Within ty steps.InGroup) rest ≡ Some stages.Ended
    → need ty steps.InGroup ≤ first_transaction ty rest
unfolding run lowers_transaction
least_first ty [] e = absurd (no_end ty steps.InGroup e)
least_first ty (s ∷ rest) e =
    let first = run_first (stages.Within ty steps.InGroup) s rest stages.Ended e in
    let h =
    and_parts (is_header_of ty s) (goes_down ty (need ty steps.InGroup) first.0)
    (lowered (stages.Within ty steps.InGroup) s first.0 refl first.1).transaction in
    let down = went_down ty (need ty steps.InGroup) first.0 h.1 in
    let real = next_is_stage (stages.Within ty steps.InGroup) s first.0 refl first.1 in
    let later =
    least_later ty down.step rest (subst (λ (t : Stage). is_stage t ≡ true) down.is real) down.inside
    (subst (λ (t : Stage). run t rest ≡ Some stages.Ended) down.is first.2) in
    by_header (is_header_of ty s) h.0 (omega (arith, down.low, later))
  where
    by_header : (b : Bool) → b ≡ true → need ty steps.InGroup ≤ 1 + later_records ty rest
        → need ty steps.InGroup ≤ cond b (1 + later_records ty rest) (first_transaction (type_after ty s) rest)
    by_header true h k = k
    by_header false h k = absurd (true≢false (sym h))

-- before a group
some_transaction : (ty : TransactionType) (rest : List Symbol) → run (stages.Within ty steps.InGroup) rest ≡ Some stages.Ended
    → 1 ≤ first_transaction ty rest
some_transaction Agreement rest e = omega (arith, least_first Agreement rest e)
some_transaction NewWork rest e = omega (arith, least_first NewWork rest e)
some_transaction RevisedWork rest e = omega (arith, least_first RevisedWork rest e)
some_transaction Acknowledgement rest e = omega (arith, least_first Acknowledgement rest e)

none_on : (s : Stage) → None ≡ Some s → ⊥
none_on s e = cc e

least_opened : (rest : List Symbol) → run stages.Opened rest ≡ Some stages.Ended → 1 ≤ first_transaction Acknowledgement rest
unfolding run
least_opened [] e = absurd (differ (one_stage stages.Opened stages.Ended e))
  where
    differ : stages.Opened ≡ stages.Ended → ⊥
    differ k = cc k
least_opened (Grh ty ∷ rest) e = some_transaction ty rest e
least_opened (s ∷ rest) e = absurd (none_on stages.Ended e)

least_start : (rest : List Symbol) → run stages.Start rest ≡ Some stages.Ended → 1 ≤ first_transaction Acknowledgement rest
unfolding run
least_start [] e = absurd (differ (one_stage stages.Start stages.Ended e))
  where
    differ : stages.Start ≡ stages.Ended → ⊥
    differ k = cc k
least_start (Plain kinds.Hdr ∷ rest) e = least_opened rest e
least_start (s ∷ rest) e = absurd (none_on stages.Ended e)

pub least_transaction : (stage : Stage) (rest : List Symbol) → is_stage stage ≡ true → run stage rest ≡ Some stages.Ended
    → (needs_at stage).transaction ≤ transaction_to_come stage rest
least_transaction stages.Start rest real e = least_start rest e
least_transaction stages.Opened rest real e = least_opened rest e
least_transaction stages.Closed rest real e = omega arith
least_transaction stages.Ended rest real e = omega arith
least_transaction (stages.Within ty steps.InGroup) rest real e = least_first ty rest e
least_transaction (stages.Within ty step) rest real e = least_later ty step rest real refl e

-- ---- after records that stand at the stage

pub are_needs : (xs : List Symbol) (stage : Stage) → StandsAt xs stage → AreNeeds xs (needs_at stage)
are_needs xs stage st =
    let here = stands_leaves xs stage st in
    let numbers = way_out_has stage here.real in
    record {
      met = (
        way_out stage,
        record {
          whole = runs_whole xs (way_out stage) stage st (ends stage here.real);
          records_more = numbers.records;
          groups_more = numbers.groups;
          transaction_more = numbers.transaction ∙ ap (λ (t : Stage). transaction_to_come t (way_out stage)) st.named;
        },
      );
      least = λ rest others e.
          let on = whole_runs xs rest stage st e.whole in
          record {
            records = omega (arith, e.records_more, least_records stage rest here.real on);
            groups = omega (arith, e.groups_more, least_groups stage rest here.real on);
            transaction =
                omega (
                  arith,
                  e.transaction_more,
                  ap (λ (t : Stage). transaction_to_come t rest) st.named,
                  least_transaction stage rest here.real on,
                );
          };
    }
