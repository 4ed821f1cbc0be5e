-- What bars a symbol: the first limit that what was counted and what must still come pass.
use Rattle.std.proofs.Common.{◌≡◌, ◌+◌, ◌≤◌, ◌<◌, Bool, true, false, cond, List, [], ◌∷◌, ◌++◌, Option, Some, None, refl, sym, ap}
use Rattle.std.proofs.Common.{subst, ◌∙◌, arith, ltb-false, ltb-true}
use Rattle.std.specs.Prelude.{◌↔◌, nat_lt}
use Rattle.cwr_shape.specs.declared.symbols.Symbol.{Symbol}
use Rattle.cwr_shape.specs.declared.stages.Stage.{Stage}
use Rattle.cwr_shape.specs.declared.limits.LimitKind.{LimitKind}
use Rattle.cwr_shape.specs.declared.limits.LimitKind.TheVariants.{Records, Groups, Transaction}
use Rattle.cwr_shape.specs.declared.tallies.Bar.TheVariants.{Limit}
use Rattle.cwr_shape.specs.declared.tallies.Counts.{Counts}
use Rattle.cwr_shape.specs.Format.Ranges.{LimitValues}
use Rattle.cwr_shape.specs.Format.Outlines.{KeepsTo, Continues}
use Rattle.cwr_shape.specs.Steps.Needs.{needs_at}
use Rattle.cwr_shape.specs.Steps.Left.{StandsAt}
use Rattle.cwr_shape.specs.Format.NextSymbols.{counts_of, open_records, MayCome, IsBarred}
use Rattle.cwr_shape.specs.Steps.Tallies.{TallyValue, IsTallyOf}
use Rattle.cwr_shape.specs.Steps.Counting.{stage_type, counts_with, open_at, passed_limit_at}
use Rattle.cwr_shape.proofs.lemmas.TallySteps.{counted_next, goes_next}
use Rattle.cwr_shape.proofs.lemmas.LimitsByNeeds.{records_reach, groups_reach, transaction_reach, transaction_goes, within_goes}
use Rattle.cwr_shape.proofs.lemmas.LimitsByNeeds.{open_named, KeptSoFar, kept_within, kept_next}

-- ---- what the counts say

-- what was counted and what must still come are within the limits
pub record HasRoom (limits : LimitValues) (stage : Stage) (c : Counts) : Type 0 where
  pub records : c.records + (needs_at stage).records ≤ limits.records
  pub groups : c.groups + (needs_at stage).groups ≤ limits.groups
  pub transaction : open_at stage c + (needs_at stage).transaction ≤ limits.transaction

-- what the first limit that is passed says
abbrev Passes : LimitValues → Stage → Counts → Option LimitKind → Type 0
Passes limits stage c None = HasRoom limits stage c
Passes limits stage c (Some Records) = limits.records < c.records + (needs_at stage).records
Passes limits stage c (Some Groups) =
    (c.records + (needs_at stage).records ≤ limits.records) × (limits.groups < c.groups + (needs_at stage).groups)
Passes limits stage c (Some Transaction) =
    (c.records + (needs_at stage).records ≤ limits.records) × (c.groups + (needs_at stage).groups ≤ limits.groups)
    × (limits.transaction < open_at stage c + (needs_at stage).transaction)

passes : (limits : LimitValues) (stage : Stage) (c : Counts) → Passes limits stage c (passed_limit_at limits stage c)
passes limits stage c =
    by_tests (nat_lt limits.records (c.records + (needs_at stage).records))
    (nat_lt limits.groups (c.groups + (needs_at stage).groups))
    (nat_lt limits.transaction (open_at stage c + (needs_at stage).transaction)) refl refl refl
  where
    by_tests : (x y z : Bool) → nat_lt limits.records (c.records + (needs_at stage).records) ≡ x
        → nat_lt limits.groups (c.groups + (needs_at stage).groups) ≡ y
        → nat_lt limits.transaction (open_at stage c + (needs_at stage).transaction) ≡ z
        → Passes limits stage c (cond x (Some Records) (cond y (Some Groups) (cond z (Some Transaction) None)))
    by_tests true y z h k l = ltb-true limits.records (c.records + (needs_at stage).records) h
    by_tests false true z h k l = (
      ltb-false limits.records (c.records + (needs_at stage).records) h,
      ltb-true limits.groups (c.groups + (needs_at stage).groups) k,
    )
    by_tests false false true h k l = (
      ltb-false limits.records (c.records + (needs_at stage).records) h,
      ltb-false limits.groups (c.groups + (needs_at stage).groups) k,
      ltb-true limits.transaction (open_at stage c + (needs_at stage).transaction) l,
    )
    by_tests false false false h k l = record {
      records = ltb-false limits.records (c.records + (needs_at stage).records) h;
      groups = ltb-false limits.groups (c.groups + (needs_at stage).groups) k;
      transaction = ltb-false limits.transaction (open_at stage c + (needs_at stage).transaction) l;
    }

-- ---- one symbol

-- what the calls know: a tally, symbols for which it stands, one more, the stage after it and what is counted with it
pub record Next (t : TallyValue) (xs : List Symbol) (s : Symbol) (next : Stage) (c : Counts) : Type 0 where
  pub before : IsTallyOf t xs
  pub on : StandsAt (xs ++ s ∷ []) next
  pub same : c ≡ counts_of (xs ++ s ∷ [])
  pub one : 1 ≤ t.limits.transaction
  pub kept : KeptSoFar t.limits xs

pub next_of : (t : TallyValue) (xs : List Symbol) (s : Symbol) (next : Stage) (c : Counts) → 1 ≤ t.limits.transaction
    → IsTallyOf t xs → StandsAt (xs ++ s ∷ []) next
    → c ≡ counts_with (stage_type t.stage) t.counts s → Next t xs s next c
next_of t xs s next c one st on e = record {
  before = st;
  on = on;
  same = e ∙ counted_next t xs s st (goes_next t xs s st on.begins);
  one = one;
  kept = kept_within t.limits xs st.within;
}

pub record_sum : (t : TallyValue) (xs : List Symbol) (s : Symbol) (next : Stage) (c : Counts) → Next t xs s next c
    → Continues (KeepsTo Records t.limits) (xs ++ s ∷ []) ↔ (c.records + (needs_at next).records ≤ t.limits.records)
record_sum t xs s next c n =
    let reach = records_reach t.limits (xs ++ s ∷ []) next n.on in (
      λ g. omega (arith, reach.0 g, ap (λ (d : Counts). d.records) n.same),
      λ h. reach.1 (omega (arith, h, ap (λ (d : Counts). d.records) n.same)),
    )

pub group_sum : (t : TallyValue) (xs : List Symbol) (s : Symbol) (next : Stage) (c : Counts) → Next t xs s next c
    → Continues (KeepsTo Groups t.limits) (xs ++ s ∷ []) ↔ (c.groups + (needs_at next).groups ≤ t.limits.groups)
group_sum t xs s next c n =
    let reach = groups_reach t.limits (xs ++ s ∷ []) next n.on in (
      λ g. omega (arith, reach.0 g, ap (λ (d : Counts). d.groups) n.same),
      λ h. reach.1 (omega (arith, h, ap (λ (d : Counts). d.groups) n.same)),
    )

opened : (t : TallyValue) (xs : List Symbol) (s : Symbol) (next : Stage) (c : Counts) → Next t xs s next c
    → open_records (xs ++ s ∷ []) ≡ open_at next c
opened t xs s next c n = open_named (xs ++ s ∷ []) next n.on ∙ ap (open_at next) (sym n.same)

-- with room for it the open transaction isn't too long yet
kept_on : (t : TallyValue) (xs : List Symbol) (s : Symbol) (next : Stage) (c : Counts) → Next t xs s next c
    → open_at next c + (needs_at next).transaction ≤ t.limits.transaction → KeptSoFar t.limits (xs ++ s ∷ [])
kept_on t xs s next c n h = kept_next t.limits xs s n.kept (omega (arith, h, opened t xs s next c n))

pub transaction_sum : (t : TallyValue) (xs : List Symbol) (s : Symbol) (next : Stage) (c : Counts) → Next t xs s next c
    → Continues (KeepsTo Transaction t.limits) (xs ++ s ∷ [])
    ↔ (open_at next c + (needs_at next).transaction ≤ t.limits.transaction)
transaction_sum t xs s next c n = (
  λ g. omega (arith, transaction_reach t.limits (xs ++ s ∷ []) next n.on n.one g, opened t xs s next c n),
  λ h. transaction_goes t.limits (xs ++ s ∷ []) next n.on n.one (kept_on t xs s next c n h)
      (omega (arith, h, opened t xs s next c n)),
)

pub room_comes : (t : TallyValue) (xs : List Symbol) (s : Symbol) (next : Stage) (c : Counts) → Next t xs s next c
    → HasRoom t.limits next c → MayCome t.limits xs s
room_comes t xs s next c n h =
    within_goes t.limits (xs ++ s ∷ []) next n.on n.one (kept_on t xs s next c n h.transaction)
    (omega (arith, h.records, ap (λ (d : Counts). d.records) n.same))
    (omega (arith, h.groups, ap (λ (d : Counts). d.groups) n.same)) (omega (arith, h.transaction, opened t xs s next c n))

pub comes_room : (t : TallyValue) (xs : List Symbol) (s : Symbol) (next : Stage) (c : Counts) → Next t xs s next c
    → MayCome t.limits xs s → HasRoom t.limits next c
comes_room t xs s next c n g = record {
  records = (record_sum t xs s next c n).0 (g.0, g.1, g.2.0, g.3);
  groups = (group_sum t xs s next c n).0 (g.0, g.1, g.2.1, g.3);
  transaction = (transaction_sum t xs s next c n).0 (g.0, g.1, g.2.2, g.3);
}

pub may_come : (t : TallyValue) (xs : List Symbol) (s : Symbol) (next : Stage) (c : Counts) (p : Option LimitKind)
    → Next t xs s next c → p ≡ passed_limit_at t.limits next c → p ≡ None → MayCome t.limits xs s
may_come t xs s next c p n e f = room_comes t xs s next c n (subst (Passes t.limits next c) (sym e ∙ f) (passes t.limits next c))

pub is_barred : (t : TallyValue) (xs : List Symbol) (s : Symbol) (next : Stage) (c : Counts) (p : Option LimitKind)
    (limit : LimitKind) → Next t xs s next c → p ≡ passed_limit_at t.limits next c → p ≡ Some limit
    → IsBarred t.limits xs s (Limit limit)
is_barred t xs s next c p limit n e f = by limit (subst (Passes t.limits next c) (sym e ∙ f) (passes t.limits next c))
  where
    by : (l : LimitKind) → Passes t.limits next c (Some l) → IsBarred t.limits xs s (Limit l)
    by Records h = (n.on.begins, λ g. omega (arith, h, (record_sum t xs s next c n).0 g))
    by Groups h = ((record_sum t xs s next c n).1 h.0, λ g. omega (arith, h.1, (group_sum t xs s next c n).0 g))
    by Transaction h = (
      (record_sum t xs s next c n).1 h.0,
      (group_sum t xs s next c n).1 h.1,
      λ g. omega (arith, h.2, (transaction_sum t xs s next c n).0 g),
    )
