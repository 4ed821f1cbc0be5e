-- A transmission within a limit continues from some symbols exactly where what is counted of them and what must still come are within it.
use Rattle.std.proofs.Common.{◌≡◌, ℕ, ◌+◌, ◌≤◌, Bool, true, false, cond, not, List, [], ◌∷◌, ◌++◌, length, Some}
use Rattle.std.proofs.Common.{refl, sym, ap, subst, arith, true≢false}
use Rattle.std.specs.Prelude.{◌↔◌}
use Rattle.std.specs.List.{count_by}
use Rattle.std.proofs.lemmas.Bool.{and_parts}
use Rattle.std.proofs.lemmas.List.{length-append}
use Rattle.std.proofs.lemmas.List.Sums.{sum_by-append}
use Rattle.cwr_fields.specs.declared.codes.Role.TheVariants.{Assignor, Acquirer}
use Rattle.cwr_fields.specs.declared.codes.TransactionType.{TransactionType}
use Rattle.cwr_fields.specs.declared.codes.TransactionType.TheVariants.{Agreement, NewWork, RevisedWork, Acknowledgement}
use Rattle.cwr_fields.specs.declared.kinds.Kind.TheVariants as kinds
use Rattle.cwr_shape.specs.declared.symbols.Symbol.{Symbol}
use Rattle.cwr_shape.specs.declared.symbols.Symbol.TheVariants.{Plain, Ipa, Grh}
use Rattle.cwr_shape.specs.declared.stages.Stage.{Stage}
use Rattle.cwr_shape.specs.declared.stages.Stage.TheVariants as stages
use Rattle.cwr_shape.specs.declared.stages.TransactionStep.TheVariants as steps
use Rattle.cwr_shape.specs.declared.limits.LimitKind.TheVariants.{Records, Groups, Transaction}
use Rattle.cwr_shape.specs.declared.tallies.Counts.{Counts}
use Rattle.cwr_shape.specs.Format.Ranges.{LimitValues}
use Rattle.cwr_shape.specs.Format.Outlines.{IsWhole, KeepsTo, IsWithin, Continues}
use Rattle.cwr_shape.specs.declared.tallies.Scope.{Scope}
use Rattle.cwr_shape.specs.Format.LastSymbols.{is_grh}
use Rattle.cwr_shape.specs.Steps.Left.{is_stage, StandsAt}
use Rattle.cwr_shape.specs.Format.NextSymbols.{is_header_of, type_after, open_type, counts_of, has_open_transaction, open_records}
use Rattle.cwr_shape.specs.Steps.Counting.{counts_with, counts_with_header, counts_with_other, open_at}
use Rattle.cwr_shape.specs.Steps.Needs.{is_later_of, later_records, first_transaction, needs_at}
use Rattle.cwr_shape.proofs.lemmas.OneMore.{types_after, open_type_after}
use Rattle.cwr_shape.proofs.lemmas.TransactionNumbers.{counts_after, counted}
use Rattle.cwr_shape.proofs.lemmas.StageRuns.{run}
use Rattle.cwr_shape.proofs.lemmas.StageStands.{stands_leaves}
use Rattle.cwr_shape.proofs.lemmas.TallySteps.{stands_type}
use Rattle.cwr_shape.proofs.lemmas.ScopesNamed.{scope_stands}
use Rattle.cwr_shape.proofs.lemmas.WithinByFronts.{Keeps, is_of_transaction, open_by, keeps_front, open_records-snoc, fronts_forth}
use Rattle.cwr_shape.proofs.lemmas.WithinByFronts.{keeps_whole, whole_keeps, groups_counted}
use Rattle.cwr_shape.proofs.lemmas.WaysToEnd.{way_out, ends, way_out_has, runs_whole, whole_runs}
use Rattle.cwr_shape.proofs.lemmas.LeastNeeds.{least_records, least_groups, least_transaction}

-- ---- the walk over the open transaction, in two parts

keeps-append : (limit : ℕ) (ty : TransactionType) (c : Counts) (xs ys : List Symbol) → Keeps limit ty c xs
    → Keeps limit (types_after ty xs) (counts_after ty c xs) ys → Keeps limit ty c (xs ++ ys)
keeps-append limit ty c [] ys h k = k
keeps-append limit ty c (s ∷ xs) ys h k = (h.0, keeps-append limit (type_after ty s) (counts_with ty c s) xs ys h.1 k)

keeps_after : (limit : ℕ) (ty : TransactionType) (c : Counts) (xs ys : List Symbol) → Keeps limit ty c (xs ++ ys)
    → Keeps limit (types_after ty xs) (counts_after ty c xs) ys
keeps_after limit ty c [] ys h = h
keeps_after limit ty c (s ∷ xs) ys h = keeps_after limit (type_after ty s) (counts_with ty c s) xs ys h.1

-- after the symbols
abbrev pub KeepsFrom : ℕ → List Symbol → List Symbol → Type 0
KeepsFrom limit xs rest = Keeps limit (open_type xs) (counts_of xs) rest

pub from_start : (limit : ℕ) (xs rest : List Symbol) → Keeps limit Acknowledgement (counts_of []) (xs ++ rest)
    → KeepsFrom limit xs rest
from_start limit xs rest h =
    subst (λ (c : Counts). Keeps limit (open_type xs) c rest) (counted xs)
    (subst (λ (ty : TransactionType). Keeps limit ty (counts_after Acknowledgement (counts_of []) xs) rest)
    (sym (open_type_after xs))
    (keeps_after limit Acknowledgement (counts_of []) xs rest h))

pub to_start : (limit : ℕ) (xs rest : List Symbol) → Keeps limit Acknowledgement (counts_of []) xs → KeepsFrom limit xs rest
    → Keeps limit Acknowledgement (counts_of []) (xs ++ rest)
to_start limit xs rest h k =
    keeps-append limit Acknowledgement (counts_of []) xs rest h
    (subst (λ (ty : TransactionType). Keeps limit ty (counts_after Acknowledgement (counts_of []) xs) rest) (open_type_after xs)
    (subst (λ (c : Counts). Keeps limit (open_type xs) c rest) (sym (counted xs)) k))

-- ---- what keeps to the limit has room for what comes

-- a later record is counted as one
later_counts : (ty : TransactionType) (c : Counts) (s : Symbol) → is_later_of ty s ≡ true
    → (is_of_transaction s ≡ true) × (counts_with ty c s ≡ counts_with_other c) × (type_after ty s ≡ ty)
later_counts ty c (Grh t) h = absurd (true≢false (sym h))
later_counts ty c (Plain kind) h =
    let p =
    and_parts (is_of_transaction (Plain kind)) (not (is_header_of ty (Plain kind))) h in
    (p.0, by_header (is_header_of ty (Plain kind)) p.1, refl)
  where
    by_header : (b : Bool) → not b ≡ true → cond b (counts_with_header c) (counts_with_other c) ≡ counts_with_other c
    by_header false k = refl
    by_header true k = absurd (true≢false (sym k))
later_counts ty c (Ipa role) h =
    let p =
    and_parts (is_of_transaction (Ipa role)) (not (is_header_of ty (Ipa role))) h in
    (p.0, by_header (is_header_of ty (Ipa role)) p.1, refl)
  where
    by_header : (b : Bool) → not b ≡ true → cond b (counts_with_header c) (counts_with_other c) ≡ counts_with_other c
    by_header false k = refl
    by_header true k = absurd (true≢false (sym k))

room_later : (limit : ℕ) (ty : TransactionType) (c : Counts) (rest : List Symbol) → 1 + c.after_header ≤ limit
    → Keeps limit ty c rest → 1 + c.after_header + later_records ty rest ≤ limit
room_later limit ty c [] h k = omega (arith, h)
room_later limit ty c (s ∷ rest) h k = by_later (is_later_of ty s) refl
    (λ e. let l = later_counts ty c s e in
    room_later limit ty (counts_with_other c) rest
    (subst (λ (b : Bool). cond b (1 + (counts_with_other c).after_header) 0 ≤ limit) l.0
    (subst (λ (d : Counts). open_by s d ≤ limit) l.1 k.0))
    (subst (λ (u : TransactionType). Keeps limit u (counts_with_other c) rest) l.2
    (subst (λ (d : Counts). Keeps limit (type_after ty s) d rest) l.1 k.1)))
  where
    by_later : (b : Bool) → is_later_of ty s ≡ b
        → (is_later_of ty s ≡ true → 1 + (c.after_header + 1) + later_records ty rest ≤ limit)
        → 1 + c.after_header + cond b (1 + later_records ty rest) 0 ≤ limit
    by_later true e f = omega (arith, f e)
    by_later false e f = omega (arith, h)

header_counts : (ty : TransactionType) (c : Counts) (s : Symbol) → is_header_of ty s ≡ true
    → (is_of_transaction s ≡ true) × (counts_with ty c s ≡ counts_with_header c) × (type_after ty s ≡ ty)
header_counts Agreement c (Plain kinds.Agr) h = (refl, refl, refl)
header_counts NewWork c (Plain kinds.Nwr) h = (refl, refl, refl)
header_counts RevisedWork c (Plain kinds.Rev) h = (refl, refl, refl)
header_counts Acknowledgement c (Plain kinds.Ack) h = (refl, refl, refl)
header_counts ty c s h = absurd (true≢false (sym h))

room_first : (limit : ℕ) (ty : TransactionType) (c : Counts) (rest : List Symbol) → Keeps limit ty c rest
    → first_transaction ty rest ≤ limit
room_first limit ty c [] k = omega arith
room_first limit ty c (s ∷ rest) k = by_header (is_header_of ty s) refl
    (λ e. let l = header_counts ty c s e in
    room_later limit ty (counts_with_header c) rest
    (subst (λ (b : Bool). cond b (1 + (counts_with_header c).after_header) 0 ≤ limit) l.0
    (subst (λ (d : Counts). open_by s d ≤ limit) l.1 k.0))
    (subst (λ (u : TransactionType). Keeps limit u (counts_with_header c) rest) l.2
    (subst (λ (d : Counts). Keeps limit (type_after ty s) d rest) l.1 k.1)))
    (room_first limit (type_after ty s) (counts_with ty c s) rest k.1)
  where
    by_header : (b : Bool) → is_header_of ty s ≡ b → (is_header_of ty s ≡ true → 1 + 0 + later_records ty rest ≤ limit)
        → first_transaction (type_after ty s) rest ≤ limit
        → cond b (1 + later_records ty rest) (first_transaction (type_after ty s) rest) ≤ limit
    by_header true e f g = omega (arith, f e)
    by_header false e f g = g

-- ---- the way out keeps to the limit where there is room for it

-- where the stage is in a group, it names the type
abbrev pub NamesType : Stage → TransactionType → Type 0
NamesType (stages.Within t step) ty = t ≡ ty
NamesType stage ty = Unit {0}

pub way_keeps : (limit : ℕ) (ty : TransactionType) (c : Counts) (stage : Stage) → is_stage stage ≡ true → 1 ≤ limit
    → NamesType stage ty → open_at stage c + (needs_at stage).transaction ≤ limit → Keeps limit ty c (way_out stage)
way_keeps limit ty c stages.Start real one t h = (
  omega (arith, h, one),
  (omega (arith, h, one), (omega (arith, h, one), (omega (arith, h, one), (omega (arith, h, one), tt)))),
)
way_keeps limit ty c stages.Opened real one t h =
    (omega (arith, h, one), (omega (arith, h, one), (omega (arith, h, one), (omega (arith, h, one), tt))))
way_keeps limit ty c stages.Closed real one t h = (omega (arith, h, one), tt)
way_keeps limit ty c stages.Ended real one t h = tt
way_keeps limit ty c (stages.Within Agreement steps.InGroup) real one t h =
    subst (λ (u : TransactionType). Keeps limit u c (way_out (stages.Within Agreement steps.InGroup))) t (
      omega (
        arith,
        h,
        one,
      ),
      (
        omega (arith, h, one),
        (omega (arith, h, one), (omega (arith, h, one), (omega (arith, h, one), (omega (arith, h, one), tt)))),
      ),
    )
way_keeps limit ty c (stages.Within Agreement steps.Agreed) real one t h =
    subst (λ (u : TransactionType). Keeps limit u c (way_out (stages.Within Agreement steps.Agreed))) t (
      omega (arith, h, one),
      (omega (arith, h, one), (omega (arith, h, one), (omega (arith, h, one), (omega (arith, h, one), tt)))),
    )
way_keeps limit ty c (stages.Within Agreement steps.Territories) real one t h =
    subst (λ (u : TransactionType). Keeps limit u c (way_out (stages.Within Agreement steps.Territories))) t
    (omega (arith, h, one), (omega (arith, h, one), (omega (arith, h, one), (omega (arith, h, one), tt))))
way_keeps limit ty c (stages.Within Agreement (steps.OneSide Assignor)) real one t h =
    subst (λ (u : TransactionType). Keeps limit u c (way_out (stages.Within Agreement (steps.OneSide Assignor)))) t
    (omega (arith, h, one), (omega (arith, h, one), (omega (arith, h, one), tt)))
way_keeps limit ty c (stages.Within Agreement (steps.OneSide Acquirer)) real one t h =
    subst (λ (u : TransactionType). Keeps limit u c (way_out (stages.Within Agreement (steps.OneSide Acquirer)))) t
    (omega (arith, h, one), (omega (arith, h, one), (omega (arith, h, one), tt)))
way_keeps limit ty c (stages.Within Agreement steps.Both) real one t h =
    subst (λ (u : TransactionType). Keeps limit u c (way_out (stages.Within Agreement steps.Both))) t
    (omega (arith, h, one), (omega (arith, h, one), tt))
way_keeps limit ty c (stages.Within NewWork steps.InGroup) real one t h =
    subst (λ (u : TransactionType). Keeps limit u c (way_out (stages.Within NewWork steps.InGroup))) t
    (omega (arith, h, one), (omega (arith, h, one), (omega (arith, h, one), (omega (arith, h, one), tt))))
way_keeps limit ty c (stages.Within NewWork steps.Work) real one t h =
    subst (λ (u : TransactionType). Keeps limit u c (way_out (stages.Within NewWork steps.Work))) t
    (omega (arith, h, one), (omega (arith, h, one), (omega (arith, h, one), tt)))
way_keeps limit ty c (stages.Within NewWork steps.Controlled) real one t h =
    subst (λ (u : TransactionType). Keeps limit u c (way_out (stages.Within NewWork steps.Controlled))) t
    (omega (arith, h, one), (omega (arith, h, one), (omega (arith, h, one), tt)))
way_keeps limit ty c (stages.Within NewWork steps.Other) real one t h =
    subst (λ (u : TransactionType). Keeps limit u c (way_out (stages.Within NewWork steps.Other))) t
    (omega (arith, h, one), (omega (arith, h, one), (omega (arith, h, one), tt)))
way_keeps limit ty c (stages.Within NewWork steps.Writer) real one t h =
    subst (λ (u : TransactionType). Keeps limit u c (way_out (stages.Within NewWork steps.Writer))) t
    (omega (arith, h, one), (omega (arith, h, one), tt))
way_keeps limit ty c (stages.Within NewWork steps.OtherWriter) real one t h =
    subst (λ (u : TransactionType). Keeps limit u c (way_out (stages.Within NewWork steps.OtherWriter))) t
    (omega (arith, h, one), (omega (arith, h, one), tt))
way_keeps limit ty c (stages.Within NewWork steps.Tail) real one t h =
    subst (λ (u : TransactionType). Keeps limit u c (way_out (stages.Within NewWork steps.Tail))) t
    (omega (arith, h, one), (omega (arith, h, one), tt))
way_keeps limit ty c (stages.Within RevisedWork steps.InGroup) real one t h =
    subst (λ (u : TransactionType). Keeps limit u c (way_out (stages.Within RevisedWork steps.InGroup))) t
    (omega (arith, h, one), (omega (arith, h, one), (omega (arith, h, one), (omega (arith, h, one), tt))))
way_keeps limit ty c (stages.Within RevisedWork steps.Work) real one t h =
    subst (λ (u : TransactionType). Keeps limit u c (way_out (stages.Within RevisedWork steps.Work))) t
    (omega (arith, h, one), (omega (arith, h, one), (omega (arith, h, one), tt)))
way_keeps limit ty c (stages.Within RevisedWork steps.Controlled) real one t h =
    subst (λ (u : TransactionType). Keeps limit u c (way_out (stages.Within RevisedWork steps.Controlled))) t
    (omega (arith, h, one), (omega (arith, h, one), (omega (arith, h, one), tt)))
way_keeps limit ty c (stages.Within RevisedWork steps.Other) real one t h =
    subst (λ (u : TransactionType). Keeps limit u c (way_out (stages.Within RevisedWork steps.Other))) t
    (omega (arith, h, one), (omega (arith, h, one), (omega (arith, h, one), tt)))
way_keeps limit ty c (stages.Within RevisedWork steps.Writer) real one t h =
    subst (λ (u : TransactionType). Keeps limit u c (way_out (stages.Within RevisedWork steps.Writer))) t
    (omega (arith, h, one), (omega (arith, h, one), tt))
way_keeps limit ty c (stages.Within RevisedWork steps.OtherWriter) real one t h =
    subst (λ (u : TransactionType). Keeps limit u c (way_out (stages.Within RevisedWork steps.OtherWriter))) t
    (omega (arith, h, one), (omega (arith, h, one), tt))
way_keeps limit ty c (stages.Within RevisedWork steps.Tail) real one t h =
    subst (λ (u : TransactionType). Keeps limit u c (way_out (stages.Within RevisedWork steps.Tail))) t
    (omega (arith, h, one), (omega (arith, h, one), tt))
way_keeps limit ty c (stages.Within Acknowledgement steps.InGroup) real one t h =
    subst (λ (u : TransactionType). Keeps limit u c (way_out (stages.Within Acknowledgement steps.InGroup))) t
    (omega (arith, h, one), (omega (arith, h, one), (omega (arith, h, one), tt)))
way_keeps limit ty c (stages.Within Acknowledgement steps.Acked) real one t h =
    subst (λ (u : TransactionType). Keeps limit u c (way_out (stages.Within Acknowledgement steps.Acked))) t
    (omega (arith, h, one), (omega (arith, h, one), tt))
way_keeps limit ty c (stages.Within Acknowledgement steps.Agreed) real one t h =
    subst (λ (u : TransactionType). Keeps limit u c (way_out (stages.Within Acknowledgement steps.Agreed))) t (
      omega
          (arith, h, one),
      (omega (arith, h, one), (omega (arith, h, one), (omega (arith, h, one), (omega (arith, h, one), tt)))),
    )
way_keeps limit ty c (stages.Within Acknowledgement steps.Territories) real one t h =
    subst (λ (u : TransactionType). Keeps limit u c (way_out (stages.Within Acknowledgement steps.Territories))) t
    (omega (arith, h, one), (omega (arith, h, one), (omega (arith, h, one), (omega (arith, h, one), tt))))
way_keeps limit ty c (stages.Within Acknowledgement (steps.OneSide Assignor)) real one t h =
    subst (λ (u : TransactionType). Keeps limit u c (way_out (stages.Within Acknowledgement (steps.OneSide Assignor)))) t
    (omega (arith, h, one), (omega (arith, h, one), (omega (arith, h, one), tt)))
way_keeps limit ty c (stages.Within Acknowledgement (steps.OneSide Acquirer)) real one t h =
    subst (λ (u : TransactionType). Keeps limit u c (way_out (stages.Within Acknowledgement (steps.OneSide Acquirer)))) t
    (omega (arith, h, one), (omega (arith, h, one), (omega (arith, h, one), tt)))
way_keeps limit ty c (stages.Within Acknowledgement steps.Both) real one t h =
    subst (λ (u : TransactionType). Keeps limit u c (way_out (stages.Within Acknowledgement steps.Both))) t
    (omega (arith, h, one), (omega (arith, h, one), tt))
way_keeps limit ty c (stages.Within Acknowledgement steps.Work) real one t h =
    subst (λ (u : TransactionType). Keeps limit u c (way_out (stages.Within Acknowledgement steps.Work))) t
    (omega (arith, h, one), (omega (arith, h, one), (omega (arith, h, one), tt)))
way_keeps limit ty c (stages.Within Acknowledgement steps.Controlled) real one t h =
    subst (λ (u : TransactionType). Keeps limit u c (way_out (stages.Within Acknowledgement steps.Controlled))) t
    (omega (arith, h, one), (omega (arith, h, one), (omega (arith, h, one), tt)))
way_keeps limit ty c (stages.Within Acknowledgement steps.Other) real one t h =
    subst (λ (u : TransactionType). Keeps limit u c (way_out (stages.Within Acknowledgement steps.Other))) t
    (omega (arith, h, one), (omega (arith, h, one), (omega (arith, h, one), tt)))
way_keeps limit ty c (stages.Within Acknowledgement steps.Writer) real one t h =
    subst (λ (u : TransactionType). Keeps limit u c (way_out (stages.Within Acknowledgement steps.Writer))) t
    (omega (arith, h, one), (omega (arith, h, one), tt))
way_keeps limit ty c (stages.Within Acknowledgement steps.OtherWriter) real one t h =
    subst (λ (u : TransactionType). Keeps limit u c (way_out (stages.Within Acknowledgement steps.OtherWriter))) t
    (omega (arith, h, one), (omega (arith, h, one), tt))
way_keeps limit ty c (stages.Within Acknowledgement steps.Tail) real one t h =
    subst (λ (u : TransactionType). Keeps limit u c (way_out (stages.Within Acknowledgement steps.Tail))) t
    (omega (arith, h, one), (omega (arith, h, one), tt))
way_keeps limit ty c stage real one t h = absurd (true≢false (sym real))

-- ---- after symbols that stand at a stage

pub open_named : (ys : List Symbol) (stage : Stage) → StandsAt ys stage → open_records ys ≡ open_at stage (counts_of ys)
open_named ys stage st =
    ap (λ (p : Scope). cond (has_open_transaction p) (1 + (counts_of ys).after_header) 0) (sym (scope_stands ys stage st))

names_type : (ys : List Symbol) (stage : Stage) → StandsAt ys stage → NamesType stage (open_type ys)
names_type ys (stages.Within ty step) st = stands_type ys ty step st
names_type ys stages.Start st = tt
names_type ys stages.Opened st = tt
names_type ys stages.Closed st = tt
names_type ys stages.Ended st = tt

-- the whole transmission by the way out
abbrev out : (ys : List Symbol) (stage : Stage) → StandsAt ys stage → IsWhole (ys ++ way_out stage)
out ys stage st = runs_whole ys (way_out stage) stage st (ends stage (stands_leaves ys stage st).real)

pub records_reach : (limits : LimitValues) (ys : List Symbol) (stage : Stage) → StandsAt ys stage
    → Continues (KeepsTo Records limits) ys ↔ (length ys + (needs_at stage).records ≤ limits.records)
records_reach limits ys stage st = (
  λ g. let least =
      least_records stage g.3.0 (stands_leaves ys stage st).real (whole_runs ys g.3.0 stage st (g.0, g.1, sym g.3.1)) in
      omega (arith, least, g.2, ap length g.3.1, length-append ys g.3.0),
  λ h. let w = out ys stage st in (
    w.0,
    w.1,
    omega (
      arith,
      h,
      ap length w.2,
      length-append ys (way_out stage),
      (way_out_has stage (stands_leaves ys stage st).real).records,
    ),
    (way_out stage, sym w.2),
  ),
)

grh_in : (xs ys : List Symbol) → count_by is_grh (xs ++ ys) ≡ count_by is_grh xs + count_by is_grh ys
grh_in xs ys = sum_by-append (λ x. cond (is_grh x) 1 0) xs ys

pub groups_reach : (limits : LimitValues) (ys : List Symbol) (stage : Stage) → StandsAt ys stage
    → Continues (KeepsTo Groups limits) ys ↔ (count_by is_grh ys + (needs_at stage).groups ≤ limits.groups)
groups_reach limits ys stage st = (
  λ g. let least =
      least_groups stage g.3.0 (stands_leaves ys stage st).real (whole_runs ys g.3.0 stage st (g.0, g.1, sym g.3.1)) in
      omega (arith, least, g.2, groups_counted g.0 g.1, ap (count_by is_grh) g.3.1, grh_in ys g.3.0),
  λ h. let w = out ys stage st in (
    w.0,
    w.1,
    omega (
      arith,
      h,
      groups_counted w.0 w.1,
      ap (count_by is_grh) w.2,
      grh_in ys (way_out stage),
      (way_out_has stage (stands_leaves ys stage st).real).groups,
    ),
    (way_out stage, sym w.2),
  ),
)

-- the symbols so far keep to the limit of a transaction
abbrev pub KeptSoFar : LimitValues → List Symbol → Type 0
KeptSoFar limits ys = Keeps limits.transaction Acknowledgement (counts_of []) ys

room_at : (limit : ℕ) (ty : TransactionType) (c : Counts) (stage : Stage) (rest : List Symbol) → is_stage stage ≡ true → 1 ≤ limit
    → NamesType stage ty → run stage rest ≡ Some stages.Ended
    → open_at stage c ≤ limit → Keeps limit ty c rest → open_at stage c + (needs_at stage).transaction ≤ limit
room_at limit ty c stages.Start rest real one t e h k = omega (arith, one)
room_at limit ty c stages.Opened rest real one t e h k = omega (arith, one)
room_at limit ty c stages.Closed rest real one t e h k = omega arith
room_at limit ty c stages.Ended rest real one t e h k = omega arith
room_at limit ty c (stages.Within u steps.InGroup) rest real one t e h k =
    omega (
      arith,
      least_transaction (stages.Within u steps.InGroup) rest real e,
      room_first limit ty c rest k,
      ap (λ (v : TransactionType). first_transaction v rest) t,
    )
room_at limit ty c (stages.Within u step) rest real one t e h k =
    omega (
      arith,
      least_transaction (stages.Within u step) rest real e,
      room_later limit ty c rest h k,
      ap (λ (v : TransactionType). later_records v rest) t,
    )

pub transaction_reach : (limits : LimitValues) (ys : List Symbol) (stage : Stage) → StandsAt ys stage → 1 ≤ limits.transaction
    → Continues (KeepsTo Transaction limits) ys
    → open_records ys + (needs_at stage).transaction ≤ limits.transaction
transaction_reach limits ys stage st one g =
    let kept : Keeps limits.transaction Acknowledgement (counts_of []) (ys ++ g.3.0) =
    subst (Keeps limits.transaction Acknowledgement (counts_of [])) g.3.1 (keeps_whole limits g.0 g.1 g.2) in
    let few : open_records ys ≤ limits.transaction =
    fronts_forth limits.transaction [] ys (omega arith)
    (keeps_front limits.transaction Acknowledgement (counts_of []) ys g.3.0 kept) in
    let sum =
    room_at limits.transaction (open_type ys) (counts_of ys) stage g.3.0 (stands_leaves ys stage st).real one
    (names_type ys stage st) (whole_runs ys g.3.0 stage st (g.0, g.1, sym g.3.1))
    (omega (arith, few, open_named ys stage st)) (from_start limits.transaction ys g.3.0 kept) in
    omega (arith, sum, open_named ys stage st)

-- the way out keeps to the limit of a transaction
out_keeps : (limits : LimitValues) (ys : List Symbol) (stage : Stage) (st : StandsAt ys stage) → 1 ≤ limits.transaction
    → KeptSoFar limits ys → open_records ys + (needs_at stage).transaction ≤ limits.transaction
    → KeepsTo Transaction limits (out ys stage st).0
out_keeps limits ys stage st one kept h =
    let w = out ys stage st in
    whole_keeps limits w.0 w.1 (subst (Keeps limits.transaction Acknowledgement (counts_of [])) w.2
    (to_start limits.transaction ys (way_out stage) kept
    (way_keeps limits.transaction (open_type ys) (counts_of ys) stage (stands_leaves ys stage st).real one
    (names_type ys stage st) (omega (arith, h, open_named ys stage st)))))

pub transaction_goes : (limits : LimitValues) (ys : List Symbol) (stage : Stage) → StandsAt ys stage → 1 ≤ limits.transaction
    → KeptSoFar limits ys → open_records ys + (needs_at stage).transaction ≤ limits.transaction
    → Continues (KeepsTo Transaction limits) ys
transaction_goes limits ys stage st one kept h =
    let w = out ys stage st in (w.0, w.1, out_keeps limits ys stage st one kept h, (way_out stage, sym w.2))

-- One way out keeps to all three limits at once.
pub within_goes : (limits : LimitValues) (ys : List Symbol) (stage : Stage) → StandsAt ys stage → 1 ≤ limits.transaction
    → KeptSoFar limits ys
    → length ys + (needs_at stage).records ≤ limits.records → count_by is_grh ys + (needs_at stage).groups ≤ limits.groups
    → open_records ys + (needs_at stage).transaction ≤ limits.transaction
    → Continues (IsWithin limits) ys
within_goes limits ys stage st one kept r g t =
    let w = out ys stage st in
    let has = way_out_has stage (stands_leaves ys stage st).real in (
      w.0,
      w.1,
      (
        omega (arith, r, ap length w.2, length-append ys (way_out stage), has.records),
        omega (arith, g, groups_counted w.0 w.1, ap (count_by is_grh) w.2, grh_in ys (way_out stage), has.groups),
        out_keeps limits ys stage st one kept t,
      ),
      (way_out stage, sym w.2),
    )

-- what a transmission within the limits begins with keeps to the limit of a transaction
pub kept_within : (limits : LimitValues) (ys : List Symbol) → Continues (IsWithin limits) ys → KeptSoFar limits ys
kept_within limits ys g =
    keeps_front limits.transaction Acknowledgement (counts_of []) ys g.3.0
    (subst (Keeps limits.transaction Acknowledgement (counts_of [])) g.3.1 (keeps_whole limits g.0 g.1 g.2.2))

-- and with one more symbol, where the open transaction isn't too long then
pub kept_next : (limits : LimitValues) (xs : List Symbol) (s : Symbol) → KeptSoFar limits xs
    → open_records (xs ++ s ∷ []) ≤ limits.transaction → KeptSoFar limits (xs ++ s ∷ [])
kept_next limits xs s kept h = to_start limits.transaction xs (s ∷ []) kept (omega (arith, h, open_records-snoc xs s), tt)
