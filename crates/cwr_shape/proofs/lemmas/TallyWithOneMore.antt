-- A tally with one symbol more, and one of no symbols.
use Rattle.std.proofs.Common.{◌≡◌, ◌≤◌, Bool, true, false, cond, List, [], ◌∷◌, ◌++◌, refl, sym, ap, subst, arith}
use Rattle.cwr_fields.specs.declared.codes.TransactionType.{TransactionType}
use Rattle.cwr_shape.specs.declared.symbols.Symbol.{Symbol}
use Rattle.cwr_shape.specs.declared.symbols.Symbol.TheVariants.{Grh}
use Rattle.cwr_shape.specs.declared.stages.Stage.{Stage}
use Rattle.cwr_shape.specs.declared.stages.Stage.TheVariants as stages
use Rattle.cwr_shape.specs.declared.tallies.Counts.{Counts}
use Rattle.cwr_shape.specs.Format.Ranges.{LimitValues, AreInRange}
use Rattle.cwr_shape.specs.Format.Outlines.{IsWithin, Continues}
use Rattle.cwr_shape.specs.Format.AnyTransmission.{Any}
use Rattle.cwr_shape.specs.Steps.Left.{StandsAt}
use Rattle.cwr_shape.specs.Format.NextSymbols.{is_header_of, counts_of, MayCome}
use Rattle.cwr_shape.specs.Steps.Tallies.{TallyValue, IsTallyOf, IsAdmitted, KeepsCounts, KeepsTally}
use Rattle.cwr_shape.specs.Steps.Counting.{stage_type, HaveRoom, counts_with, counts_with_header, counts_with_other}
use Rattle.cwr_shape.proofs.lemmas.TallySteps.{goes_next, stands_next}
use Rattle.cwr_shape.proofs.lemmas.LimitsByNeeds.{within_goes}
use Rattle.cwr_shape.proofs.lemmas.FirstBars.{Next, next_of, room_comes, comes_room}

-- ---- the tally with one symbol more

record IsBounded (c : Counts) : Type 0 where
  transactions : c.transactions ≤ c.records
  in_group : c.in_group ≤ c.records
  after_grh : c.after_grh ≤ c.records
  after_header : c.after_header ≤ c.records

bounded_inside : (b : Bool) (c : Counts) → IsBounded c → IsBounded (cond b (counts_with_header c) (counts_with_other c))
bounded_inside true c h =
    record {
      transactions = omega (arith, h.transactions);
      in_group = omega (arith, h.in_group);
      after_grh = omega (arith, h.after_grh);
      after_header = omega arith;
    }
bounded_inside false c h =
    record {
      transactions = omega (arith, h.transactions);
      in_group = omega (arith, h.in_group);
      after_grh = omega (arith, h.after_grh);
      after_header = omega (arith, h.after_header);
    }

bounded_next : (ty : TransactionType) (c : Counts) (s : Symbol) → IsBounded c → IsBounded (counts_with ty c s)
bounded_next ty c (Grh t) h =
    record
    { transactions = omega (arith, h.transactions); in_group = omega arith; after_grh = omega arith; after_header = omega arith }
bounded_next ty c s h = bounded_inside (is_header_of ty s) c h

keeps_next : (t : TallyValue) (xs : List Symbol) (s : Symbol) (next : Stage) (c : Counts) → KeepsCounts t.limits t.counts
    → Next t xs s next c → MayCome t.limits xs s → c ≡ counts_with (stage_type t.stage) t.counts s → KeepsCounts t.limits c
keeps_next t xs s next c k n m e =
    let room = comes_room t xs s next c n m in
    let bounds : IsBounded c = subst IsBounded (sym e)
    (bounded_next (stage_type t.stage) t.counts s (record
    { transactions = k.transactions; in_group = k.in_group; after_grh = k.after_grh; after_header = k.after_header })) in
    record {
      in_range = k.in_range;
      records = omega (arith, room.records);
      groups = omega (arith, room.groups);
      transactions = bounds.transactions;
      in_group = bounds.in_group;
      after_grh = bounds.after_grh;
      after_header = bounds.after_header;
    }

room_inside : (b : Bool) (limits : LimitValues) (c : Counts) → KeepsCounts limits c
    → HaveRoom (cond b (counts_with_header c) (counts_with_other c))
room_inside true limits c k = record {
  records = omega (arith, k.records, k.in_range.most_records);
  groups = omega (arith, k.groups, k.in_range.most_groups);
  transactions = omega (arith, k.transactions, k.records, k.in_range.most_records);
  in_group = omega (arith, k.in_group, k.records, k.in_range.most_records);
  after_grh = omega (arith, k.after_grh, k.records, k.in_range.most_records);
  after_header = omega arith;
}
room_inside false limits c k = record {
  records = omega (arith, k.records, k.in_range.most_records);
  groups = omega (arith, k.groups, k.in_range.most_groups);
  transactions = omega (arith, k.transactions, k.records, k.in_range.most_records);
  in_group = omega (arith, k.in_group, k.records, k.in_range.most_records);
  after_grh = omega (arith, k.after_grh, k.records, k.in_range.most_records);
  after_header = omega (arith, k.after_header, k.records, k.in_range.most_records);
}

room_next : (ty : TransactionType) (limits : LimitValues) (c : Counts) (s : Symbol) → KeepsCounts limits c
    → HaveRoom (counts_with ty c s)
room_next ty limits c (Grh t) k = record {
  records = omega (arith, k.records, k.in_range.most_records);
  groups = omega (arith, k.groups, k.in_range.most_groups);
  transactions = omega (arith, k.transactions, k.records, k.in_range.most_records);
  in_group = omega arith;
  after_grh = omega arith;
  after_header = omega arith;
}
room_next ty limits c s k = room_inside (is_header_of ty s) limits c k

-- counts that keep to limits have room with one symbol more, too
pub room_with : (ty : TransactionType) (limits : LimitValues) (c next : Counts) (s : Symbol) → KeepsCounts limits c
    → next ≡ counts_with ty c s → HaveRoom next
room_with ty limits c next s k e = subst HaveRoom (sym e) (room_next ty limits c s k)

-- What may come after some symbols that a tally represents may come after all of them.
pub comes_for_all : (t : TallyValue) (xs ys : List Symbol) (s : Symbol) (next : Stage) (c : Counts) → Next t xs s next c
    → Next t ys s next c → MayCome t.limits xs s → MayCome t.limits ys s
comes_for_all t xs ys s next c n m g = room_comes t ys s next c m (comes_room t xs s next c n g)

-- the tally represents one symbol more, for all that it represented
pub stands_more : (t : TallyValue) (s : Symbol) (next : Stage) (c : Counts) → 1 ≤ t.limits.transaction → IsAdmitted t s
    → ((xs : List Symbol) → StandsAt xs t.stage → StandsAt (xs ++ s ∷ []) next)
    → c ≡ counts_with (stage_type t.stage) t.counts s → (xs : List Symbol) → IsTallyOf t xs
    → IsTallyOf (record { limits = t.limits; stage = next; counts = c }) (xs ++ s ∷ [])
stands_more t s next c one a on e xs st =
    let n = next_of t a.0 s next c one a.1 (on a.0 a.1.stands) e in
    let m = next_of t xs s next c one st (on xs st.stands) e in
    stands_next t (record { limits = t.limits; stage = next; counts = c }) xs s st m.on (goes_next t xs s st m.on.begins) e
    (comes_for_all t a.0 xs s next c n m a.2)

pub keeps_tally : (t : TallyValue) (s : Symbol) (stage : Stage) (c : Counts) → KeepsTally t → IsAdmitted t s
    → ((xs : List Symbol) → StandsAt xs t.stage → StandsAt (xs ++ s ∷ []) stage)
    → c ≡ counts_with (stage_type t.stage) t.counts s → KeepsTally (record { limits = t.limits; stage = stage; counts = c })
keeps_tally t s stage c k a on e = record {
  counts =
      keeps_next t a.0 s stage c k.counts (next_of t a.0 s stage c k.counts.in_range.least_transaction a.1 (on a.0 a.1.stands) e)
      a.2 e;
  stands = (a.0 ++ s ∷ [], stands_more t s stage c k.counts.in_range.least_transaction a on e a.0 a.1);
}

-- after no symbols
pub stands_new : (limits : LimitValues) (stage : Stage) (c : Counts) → AreInRange limits → StandsAt [] stage → c ≡ counts_of []
    → IsTallyOf (record { limits = limits; stage = stage; counts = c }) []
stands_new limits stage c r st e = record {
  stands = st;
  counted = e;
  within = subst (λ (x : Stage). Continues (IsWithin limits) []) st.named
      (within_goes limits [] stages.Start (record { begins = st.begins; named = refl }) r.least_transaction tt
      (omega (arith, r.least_records)) (omega (arith, r.least_groups)) (omega (arith, r.least_transaction)));
}

pub keeps_new : (limits : LimitValues) (stage : Stage) (c : Counts) → AreInRange limits → StandsAt [] stage → c ≡ counts_of []
    → KeepsTally (record { limits = limits; stage = stage; counts = c })
keeps_new limits stage c r st e = record {
  counts = record {
    in_range = r;
    records = omega (arith, ap (λ (d : Counts). d.records) e);
    groups = omega (arith, ap (λ (d : Counts). d.groups) e);
    transactions = omega (arith, ap (λ (d : Counts). d.transactions) e, ap (λ (d : Counts). d.records) e);
    in_group = omega (arith, ap (λ (d : Counts). d.in_group) e, ap (λ (d : Counts). d.records) e);
    after_grh = omega (arith, ap (λ (d : Counts). d.after_grh) e, ap (λ (d : Counts). d.records) e);
    after_header = omega (arith, ap (λ (d : Counts). d.after_header) e, ap (λ (d : Counts). d.records) e);
  };
  stands = ([], stands_new limits stage c r st e);
}

-- what may come has a next stage
pub admitted_goes : (t : TallyValue) (s : Symbol) → IsAdmitted t s
    → (xs : List Symbol) × StandsAt xs t.stage × Continues Any (xs ++ s ∷ [])
admitted_goes t s a = (a.0, a.1.stands, (a.2.0, a.2.1, tt, a.2.3))
