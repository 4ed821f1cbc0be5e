-- A report after transactions of which nothing is told: it is as if these had been read and their lines put.
use Rattle.std.proofs.Common.{◌≡◌, ℕ, ◌+◌, ◌≤◌, Bool, List, [], ◌∷◌, ◌++◌, length, map, Option, Some, refl, sym, ap, subst, ◌∙◌}
use Rattle.std.proofs.Common.{append_assoc, append-nil, arith}
use Rattle.std.specs.Prelude.{IfSome, IsTrue, Result, sum_by}
use Rattle.std.specs.List.{AllByRecursion}
use Rattle.std.proofs.lemmas.List.Sums.{sum_by-cons}
use Rattle.cwr_lines.specs.Format.Records.{RecordValue}
use Rattle.cwr_shape.specs.declared.limits.Limits.{Limits}
use Rattle.cwr_values.specs.declared.items.Item.{Item}
use Rattle.cwr_values.specs.declared.items.Item.TheVariants as items
use Rattle.cwr_decode.specs.declared.machine.Passed.{Passed}
use Rattle.cwr_decode.specs.declared.readings.ReadFault.{ReadFault}
use Rattle.cwr_decode.specs.Steps.Machines.{Standing, again}
use Rattle.cwr_decode.specs.Steps.Passing.{ReadsPassing}
use Rattle.cwr_decode.specs.Steps.Readings.{Reads, answer_of}
use Rattle.cwr_decode.specs.Steps.Runs.{IsReadingOn}
use Rattle.cwr_decode.proofs.lemmas.PassedOver.{passes_nothing}
use Rattle.cwr_decode.proofs.lemmas.PassedReading.{read_passing}
use Rattle.cwr_devices.specs.declared.sinks.Sink.{Sink}
use Rattle.cwr_tools.specs.declared.totals.Totals.{Totals}
use Rattle.cwr_tools.specs.Format.Reports.{ItemLines}
use Rattle.cwr_tools.specs.Steps.Counts.{IsCount}
use Rattle.cwr_tools.specs.Steps.Passing.{IsPassed, ReadsTold, totals_passing}
use Rattle.cwr_tools.specs.Steps.Reports.{IsPut, PassesOver}
use Rattle.cwr_tools.specs.Steps.Verdicts.{totals_with}
use Rattle.cwr_tools.proofs.lemmas.CountedTotals.{count_more, has_room, total}
use Rattle.cwr_tools.proofs.lemmas.ReportsOn.{IsReporting}

-- ---- what is passed over

-- the numbers with those of so many transactions and records
abbrev with_numbers : Totals → ℕ → ℕ → Totals
with_numbers c transactions records = totals_passing c (record { used = 0; transactions = transactions; records = records })

same_numbers : (c : Totals) (groups transactions in_group records : ℕ) → groups ≡ c.groups → transactions ≡ c.transactions
    → in_group ≡ c.in_group → records ≡ c.records
    → let other : Totals = record
    { groups = groups; transactions = transactions; in_group = in_group; before_group = c.before_group; records = records } in
    c ≡ other
same_numbers c groups transactions in_group records g t i r =
    λ j. record { groups = sym g j; transactions = sym t j; in_group = sym i j; before_group = c.before_group; records = sym r j }

-- the numbers are those of the transactions too
counts_passed : (c : Totals) (given : List Item) (wholes : List (List RecordValue)) → IsCount c given
    → IsCount (with_numbers c (length wholes) (sum_by length wholes)) (given ++ map items.Transaction wholes)
counts_passed c given [] k =
    subst (IsCount (with_numbers c 0 0)) (sym (append-nil given))
    (subst (λ (x : Totals). IsCount x given) (same_numbers c c.groups (c.transactions + 0) (c.in_group + 0) (c.records + 0) refl
    (omega arith) (omega arith) (omega arith)) k)
counts_passed c given (whole ∷ wholes) k =
    let item : Item = items.Transaction whole in
    let one : Totals = totals_with c item in
    subst (IsCount (with_numbers c (length (whole ∷ wholes)) (sum_by length (whole ∷ wholes))))
    (append_assoc given (item ∷ []) (map items.Transaction wholes))
    (subst (λ (x : Totals). IsCount x ((given ++ item ∷ []) ++ map items.Transaction wholes))
    (same_numbers (with_numbers one (length wholes) (sum_by length wholes)) c.groups (c.transactions + length (whole ∷ wholes))
    (c.in_group + length (whole ∷ wholes)) (c.records + sum_by length (whole ∷ wholes))
    (omega arith) (omega arith) (omega arith) (omega (arith, sum_by-cons length whole wholes)))
    (counts_passed one (given ++ item ∷ []) wholes (count_more c given item k)))

-- they have no lines, and what stands before them stands after them
stands_passed : (is_so : List RecordValue → Type 0) (of : ItemLines) (stands : List Item → Type 0) → PassesOver is_so of stands
    → (given : List Item) (wholes : List (List RecordValue)) → AllByRecursion is_so wholes → stands given
    → (of.lines (given ++ map items.Transaction wholes) ≡ of.lines given) × stands (given ++ map items.Transaction wholes)
stands_passed is_so of stands over given [] all here =
    (ap of.lines (append-nil given), subst stands (sym (append-nil given)) here)
stands_passed is_so of stands over given (whole ∷ wholes) all here =
    let item : Item = items.Transaction whole in
    let one = over given whole all.0 here in
    let rest = stands_passed is_so of stands over (given ++ item ∷ []) wholes all.1 one.1 in
    let same : (given ++ item ∷ []) ++ map items.Transaction wholes ≡ given ++ map items.Transaction (whole ∷ wholes) =
    append_assoc given (item ∷ []) (map items.Transaction wholes) in
    (ap of.lines (sym same) ∙ rest.0 ∙ one.0, subst stands same rest.1)

-- ---- what a run has put

told_numbers : (is_so : List RecordValue → Type 0) (d new : Standing) (left after : Option (List ℕ)) (c more : Totals)
    (given : List Item) (answer : Result (Option Item) ReadFault) (k : IsCount c given)
    (t : ReadsTold is_so d left c answer new after more)
    → IsCount (totals_passing c t.passed) (given ++ map items.Transaction t.reads.passes.wholes)
told_numbers is_so d new left after c more given answer k t =
    let p = t.reads.passes in
    subst (λ (x : Totals). IsCount x (given ++ map items.Transaction p.wholes))
    (same_numbers (with_numbers c (length p.wholes) (sum_by length p.wholes)) c.groups (c.transactions + t.passed.transactions)
    (c.in_group + t.passed.transactions) (c.records + t.passed.records)
    refl (ap (λ (n : ℕ). c.transactions + n) p.transactions) (ap (λ (n : ℕ). c.in_group + n) p.transactions)
    (ap (λ (n : ℕ). c.records + n) p.records))
    (counts_passed c given p.wholes k)

-- the numbers are small enough to be counted
told_totals : (is_so : List RecordValue → Type 0) (limits : Limits) (d new : Standing) (before left after : Option (List ℕ))
    (c more : Totals) (given : List Item) (answer : Result (Option Item) ReadFault)
    (reading : IsReadingOn limits d before left given) (k : IsCount c given)
    (t : ReadsTold is_so d left c answer new after more) → more ≡ totals_passing c t.passed
told_totals is_so limits d new before left after c more given answer reading k t =
    let p = t.reads.passes in
    let room =
    has_room limits t.reads.between before t.reads.left_between (totals_passing c t.passed)
    (given ++ map items.Transaction p.wholes)
    (read_passing is_so limits d t.reads.between before left t.reads.left_between given t.passed reading p)
    (told_numbers is_so d new left after c more given answer k t) in
    t.counted (record {
      transactions = omega (arith, room.transactions);
      in_group = omega (arith, room.in_group);
      records = omega (arith, room.records);
    })

told_counts : (is_so : List RecordValue → Type 0) (limits : Limits) (d new : Standing) (before left after : Option (List ℕ))
    (c more : Totals) (given : List Item) (answer : Result (Option Item) ReadFault)
    (reading : IsReadingOn limits d before left given) (k : IsCount c given)
    (t : ReadsTold is_so d left c answer new after more) → IsCount more (given ++ map items.Transaction t.reads.passes.wholes)
told_counts is_so limits d new before left after c more given answer reading k t =
    subst (λ (x : Totals). IsCount x (given ++ map items.Transaction t.reads.passes.wholes))
    (sym (told_totals is_so limits d new before left after c more given answer reading k t))
    (told_numbers is_so d new left after c more given answer k t)

pub told_reporting : {W : Type 0} (is_so : List RecordValue → Type 0) (of : ItemLines) (stands : List Item → Type 0)
    (limits : Limits) (d new : Standing) (before left after : Option (List ℕ)) (contents : W → Option (List ℕ)) (failures : W → ℕ)
    (c more : Totals) (old sink : Sink W) (answer : Result (Option Item) ReadFault)
    → PassesOver is_so of stands → IsReporting of stands limits d before left contents failures c old sink
    → (t : ReadsTold is_so d left c answer new after more)
    → IsReporting of stands limits t.reads.between before t.reads.left_between contents failures more old sink
told_reporting is_so of stands limits d new before left after contents failures c more old sink answer over h t =
    let p = t.reads.passes in
    let rest = stands_passed is_so of stands over h.given p.wholes p.clean h.here in
    record {
      given = h.given ++ map items.Transaction p.wholes;
      reading = read_passing is_so limits d t.reads.between before left t.reads.left_between h.given t.passed h.reading p;
      counts = told_counts is_so limits d new before left after c more h.given answer h.reading h.counts t;
      put = subst (λ (l : List ℕ). IsPut contents failures l old sink) (sym rest.0) h.put;
      here = rest.1;
    }

-- no number gets less
pub told_grows : {W : Type 0} (is_so : List RecordValue → Type 0) (of : ItemLines) (stands : List Item → Type 0) (limits : Limits)
    (d new : Standing) (before left after : Option (List ℕ)) (contents : W → Option (List ℕ)) (failures : W → ℕ) (c more : Totals)
    (old sink : Sink W) (answer : Result (Option Item) ReadFault)
    → IsReporting of stands limits d before left contents failures c old sink → ReadsTold is_so d left c answer new after more
    → total c ≤ total more
told_grows is_so of stands limits d new before left after contents failures c more old sink answer h t =
    let e = told_totals is_so limits d new before left after c more h.given answer h.reading h.counts t in
    omega (arith, ap (λ (x : Totals). x.groups) e, ap (λ (x : Totals). x.transactions) e, ap (λ (x : Totals). x.records) e)

-- ---- what is read

-- of clean transactions nothing is told, where such are passed over
pub passes_over : (passes : Bool) (is_clean : List RecordValue → Type 0) (of : ItemLines) (stands : List Item → Type 0)
    → (IsTrue passes → PassesOver is_clean of stands) → PassesOver (IsPassed passes is_clean) of stands
passes_over passes is_clean of stands over given t so here = over so.0 given t so.1 here

all_for : (P Q : List RecordValue → Type 0) → ((t : List RecordValue) → P t → Q t) → (wholes : List (List RecordValue))
    → AllByRecursion P wholes → AllByRecursion Q wholes
all_for P Q f [] all = tt
all_for P Q f (whole ∷ wholes) all = (f whole all.0, all_for P Q f wholes all.1)

-- what is passed over for one reason is for a weaker one
pub passing_for : (P Q : List RecordValue → Type 0) (old : Standing) (left : Option (List ℕ)) (passed : Passed)
    (answer : Result (Option Item) ReadFault) (new : Standing) (after : Option (List ℕ)) → ((t : List RecordValue) → P t → Q t)
    → ReadsPassing P old left passed answer new after → ReadsPassing Q old left passed answer new after
passing_for P Q old left passed answer new after f r =
    let p = r.passes in
    record {
      between = r.between;
      left_between = r.left_between;
      passes = record {
        bytes = p.bytes;
        consumed = p.consumed;
        wholes = p.wholes;
        clean = all_for P Q f p.wholes p.clean;
        transactions = p.transactions;
        records = p.records;
        stands = p.stands;
        live = p.live;
        spent = p.spent;
        limits = p.limits;
      };
      reads = r.reads;
      again = r.again;
    }

-- nothing was passed over
pub told_alone : (is_so : List RecordValue → Type 0) (old : Standing) (left : Option (List ℕ)) (c : Totals)
    (answer : Result (Option Item) ReadFault) (new : Standing) (after : Option (List ℕ)) → Reads old left answer new after
    → IfSome (again old.state) (λ outcome. (Some answer ≡ answer_of outcome) × (new ≡ old) × (after ≡ left))
    → ReadsTold is_so old left c answer new after c
told_alone is_so old left c answer new after reads same = record {
  passed = record { used = 0; transactions = 0; records = 0 };
  reads = record {
    between = old;
    left_between = left;
    passes = passes_nothing is_so old old left (record { used = 0; transactions = 0; records = 0 }) refl refl;
    reads = reads;
    again = same;
  };
  counted =
      λ fit. same_numbers c c.groups (c.transactions + 0) (c.in_group + 0) (c.records + 0) refl (omega arith) (omega arith)
      (omega arith);
}
