-- The front of a transmission: its tally is small, what a lint holds after it is fair and fresh, and its next row is gone on with.
use Rattle.std.proofs.Common.{◌≡◌, ℕ, ◌+◌, ◌≤◌, Bool, true, false, cond, true≢false, List, [], ◌∷◌, ◌++◌, Option, Some, None}
use Rattle.std.proofs.Common.{refl, sym, ap, subst, ◌∙◌, arith, append_assoc, append-nil}
use Rattle.std.specs.Prelude.{IfSome, IsSome, is_some}
use Rattle.std.proofs.lemmas.List.{length-append}
use Rattle.cwr_fields.specs.declared.codes.TransactionType.{TransactionType}
use Rattle.cwr_fields.specs.declared.codes.TransactionType.TheVariants.{Agreement, NewWork, RevisedWork, Acknowledgement}
use Rattle.cwr_fields.specs.declared.kinds.Kind.TheVariants as kinds
use Rattle.cwr_shape.specs.declared.limits.LimitKind.TheVariants.{Records, Groups}
use Rattle.cwr_shape.specs.declared.symbols.Symbol.{Symbol}
use Rattle.cwr_shape.specs.declared.symbols.Symbol.TheVariants.{Plain, Ipa, Grh}
use Rattle.cwr_shape.specs.declared.stages.Stage.{Stage}
use Rattle.cwr_shape.specs.declared.stages.Stage.TheVariants.{Start, Opened, Within, Closed, Ended}
use Rattle.cwr_shape.specs.declared.stages.TransactionStep.{TransactionStep}
use Rattle.cwr_shape.specs.declared.stages.TransactionStep.TheVariants as steps
use Rattle.cwr_shape.specs.declared.tallies.Counts.{Counts}
use Rattle.cwr_shape.specs.Format.LastSymbols.{is_grh}
use Rattle.cwr_shape.specs.Format.NextSymbols.{MayCome, counts_of, is_header_of, open_type}
use Rattle.cwr_shape.specs.Format.Outlines.{Continues, IsWithin, KeepsTo}
use Rattle.cwr_shape.specs.Format.Ranges.{AreInRange, LimitValues}
use Rattle.cwr_shape.specs.Steps.Counting.{HaveRoom, counts_with, counts_with_header, counts_with_other, stage_type}
use Rattle.cwr_shape.specs.Steps.Left.{StandsAt}
use Rattle.cwr_shape.specs.Steps.NextStages.{next_stage}
use Rattle.cwr_shape.specs.Steps.Tallies.{IsTallyOf}
use Rattle.cwr_shape.proofs.lemmas.LimitsByNeeds.{groups_reach, records_reach}
use Rattle.cwr_shape.proofs.lemmas.OneMore.{count_by-snoc, counts-snoc}
use Rattle.cwr_shape.proofs.lemmas.StageStands.{next_exact, next_stands, stands_run, stands_start}
use Rattle.cwr_shape.proofs.lemmas.TallySteps.{counted_next}
use Rattle.cwr_shape.proofs.lemmas.WhatMayCome.{comes_any}
use Rattle.cwr_lint_lines.specs.Steps.Fronts.{state_at}
use Rattle.cwr_lint.proofs.lemmas.FairStates.{Fair, Fresh}
use Rattle.cwr_lint.proofs.lemmas.RowsGoOn.{AreSmall}
use Rattle.cwr_lint.proofs.lemmas.StagesWithin.{first_step, foot_goes, further_goes, header_goes, foot_is, inside_is, is_before, is_foot}
use Rattle.cwr_lint.proofs.lemmas.StagesWithin.{is_further}

-- ---- counts are bounded by the records

record Bounded (c : Counts) : Type 0 where
  transactions : c.transactions ≤ c.records
  in_group : c.in_group ≤ c.records
  after_grh : c.after_grh ≤ c.records
  after_header : c.after_header ≤ c.records

bounded_by : (b : Bool) (c : Counts) → Bounded c → Bounded (cond b (counts_with_header c) (counts_with_other c))
bounded_by true c h =
    record {
      transactions = omega (arith, h.transactions);
      in_group = omega (arith, h.in_group);
      after_grh = omega (arith, h.after_grh);
      after_header = omega arith;
    }
bounded_by false c h =
    record {
      transactions = omega (arith, h.transactions);
      in_group = omega (arith, h.in_group);
      after_grh = omega (arith, h.after_grh);
      after_header = omega (arith, h.after_header);
    }

bounded_with : (ty : TransactionType) (c : Counts) (s : Symbol) → Bounded c → Bounded (counts_with ty c s)
bounded_with ty c (Grh t) h =
    record
    { transactions = omega (arith, h.transactions); in_group = omega arith; after_grh = omega arith; after_header = omega arith }
bounded_with ty c (Plain kind) h = bounded_by (is_header_of ty (Plain kind)) c h
bounded_with ty c (Ipa role) h = bounded_by (is_header_of ty (Ipa role)) c h

bounded_on : (done rest : List Symbol) → Bounded (counts_of done) → Bounded (counts_of (done ++ rest))
bounded_on done [] h = subst (λ (xs : List Symbol). Bounded (counts_of xs)) (sym (append-nil done)) h
bounded_on done (s ∷ rest) h = subst (λ (xs : List Symbol). Bounded (counts_of xs)) (append_assoc done (s ∷ []) rest)
    (bounded_on (done ++ s ∷ []) rest (subst Bounded (counts-snoc done s) (bounded_with (open_type done) (counts_of done) s h)))

bounded : (xs : List Symbol) → Bounded (counts_of xs)
bounded xs =
    bounded_on [] xs
    (record { transactions = omega arith; in_group = omega arith; after_grh = omega arith; after_header = omega arith })

-- ---- one more symbol

one_grh : (s : Symbol) (ty : TransactionType) → s ≡ Grh ty → cond {A = ℕ} (is_grh s) 1 0 ≡ 1
one_grh s ty e = ap (λ (b : Bool). cond {A = ℕ} b 1 0) (ap is_grh e)

-- the front of a transmission, and its next symbol
pub record ComesNext (limits : LimitValues) (xs : List Symbol) (stage : Stage) (s : Symbol) : Type 0 where
  pub to : Stage
  pub next : next_stage stage s ≡ Some to
  pub stands : StandsAt (xs ++ s ∷ []) to
  pub small : AreSmall (counts_of xs) s to

to_records : (limits : LimitValues) (xs : List Symbol) → Continues (IsWithin limits) xs → Continues (KeepsTo Records limits) xs
to_records limits xs g = (g.0, g.1, g.2.0, g.3)

to_groups : (limits : LimitValues) (xs : List Symbol) → Continues (IsWithin limits) xs → Continues (KeepsTo Groups limits) xs
to_groups limits xs g = (g.0, g.1, g.2.1, g.3)

pub comes_next : (limits : LimitValues) (xs : List Symbol) (stage : Stage) (s : Symbol) → AreInRange limits → StandsAt xs stage
    → MayCome limits xs s → ComesNext limits xs stage s
comes_next limits xs stage s range st comes = by (next_stage stage s) refl
  where
    there : IsSome (next_stage stage s)
    there = (next_exact xs stage s (next_stage stage s) refl st).1 (comes_any limits xs s comes)

    by : (o : Option Stage) → next_stage stage s ≡ o → ComesNext limits xs stage s
    by None e = absurd (true≢false (sym there ∙ ap is_some e))
    by (Some to) e =
        let stands : StandsAt (xs ++ s ∷ []) to =
        subst (λ (o : Option Stage). IfSome o (StandsAt (xs ++ s ∷ []))) e
        (next_stands xs stage s (next_stage stage s) refl st) in
        let records = (records_reach limits (xs ++ s ∷ []) to stands).0 (to_records limits (xs ++ s ∷ []) comes) in
        let groups = (groups_reach limits (xs ++ s ∷ []) to stands).0 (to_groups limits (xs ++ s ∷ []) comes) in
        let few = bounded xs in
        record {
          to = to;
          next = e;
          stands = stands;
          small = record {
            records = omega (arith, records, range.most_records, length-append xs (s ∷ []));
            groups = omega (arith, groups, range.most_groups, count_by-snoc is_grh xs s);
            head = λ ty it. omega (arith, groups, range.most_groups, count_by-snoc is_grh xs s, one_grh s ty it);
            transactions = few.transactions;
            in_group = few.in_group;
            after_grh = few.after_grh;
            after_header = few.after_header;
          };
        }

-- ---- what a stage says of the counts

abbrev pub CountsFit : Stage → Counts → Type 0
CountsFit (Within ty steps.InGroup) c = c.in_group ≡ 0
CountsFit (Within ty step) c = 1 ≤ c.in_group
CountsFit stage c = Unit {0}

inside_fits : (ty : TransactionType) (step : TransactionStep) (c : Counts) → is_before step ≡ false → 1 ≤ c.in_group
    → CountsFit (Within ty step) c
inside_fits ty steps.InGroup c h some = absurd (true≢false h)
inside_fits ty step c h some = some

some_inside : (ty : TransactionType) (step : TransactionStep) (c : Counts) → is_before step ≡ false → CountsFit (Within ty step) c
    → 1 ≤ c.in_group
some_inside ty steps.InGroup c h fit = absurd (true≢false h)
some_inside ty step c h fit = fit

not_before_first : (ty : TransactionType) → is_before (first_step ty) ≡ false
not_before_first Agreement = refl
not_before_first NewWork = refl
not_before_first RevisedWork = refl
not_before_first Acknowledgement = refl

plain_counts : (ty : TransactionType) (c : Counts) (s : Symbol) → is_header_of ty s ≡ false → is_grh s ≡ false
    → (counts_with ty c s).in_group ≡ c.in_group
plain_counts ty c (Grh t) h g = absurd (true≢false g)
plain_counts ty c (Plain kind) h g = ap (λ (b : Bool). (cond b (counts_with_header c) (counts_with_other c)).in_group) h
plain_counts ty c (Ipa role) h g = ap (λ (b : Bool). (cond b (counts_with_header c) (counts_with_other c)).in_group) h

header_counts : (ty : TransactionType) (c : Counts) (s : Symbol) → is_header_of ty s ≡ true
    → (counts_with ty c s).in_group ≡ c.in_group + 1
header_counts Agreement c (Plain kinds.Agr) h = refl
header_counts NewWork c (Plain kinds.Nwr) h = refl
header_counts RevisedWork c (Plain kinds.Rev) h = refl
header_counts Acknowledgement c (Plain kinds.Ack) h = refl
header_counts ty c s h = absurd (true≢false (sym h))

further_no_grh : (ty : TransactionType) (s : Symbol) → is_further ty s ≡ true → is_grh s ≡ false
further_no_grh ty (Grh t) h = absurd (true≢false (sym h))
further_no_grh ty (Plain kind) h = refl
further_no_grh ty (Ipa role) h = refl

fits_within : (ty : TransactionType) (step : TransactionStep) (c : Counts) (s : Symbol) (to : Stage)
    → CountsFit (Within ty step) c → next_stage (Within ty step) s ≡ Some to → CountsFit to (counts_with ty c s)
fits_within ty step c s to fit e = by (is_foot s) (is_header_of ty s) refl refl
  where
    by : (foot header : Bool) → is_foot s ≡ foot → is_header_of ty s ≡ header → CountsFit to (counts_with ty c s)
    by true header f d =
        subst (λ (x : Stage). CountsFit x (counts_with ty c s))
        (sym (foot_goes ty step to (ap (next_stage (Within ty step)) (sym (foot_is s f)) ∙ e))) tt
    by false true f d =
        subst (λ (x : Stage). CountsFit x (counts_with ty c s)) (sym (header_goes ty step s to e d))
        (inside_fits ty (first_step ty) (counts_with ty c s) (not_before_first ty) (omega (arith, header_counts ty c s d)))
    by false false f d =
        let further = further_goes ty step s to e d f in
        let later = inside_is ty to further.inside in
        let some : 1 ≤ c.in_group = some_inside ty step c further.begun fit in
        subst (λ (x : Stage). CountsFit x (counts_with ty c s)) (sym later.1) (inside_fits ty later.0 (counts_with ty c s) later.2
        (omega (arith, some, plain_counts ty c s d (further_no_grh ty s further.further))))

pub fits_next : (stage : Stage) (c : Counts) (s : Symbol) (to : Stage) → CountsFit stage c → next_stage stage s ≡ Some to
    → CountsFit to (counts_with (stage_type stage) c s)
fits_next (Within ty step) c s to fit e = fits_within ty step c s to fit e
fits_next Start c (Plain kinds.Hdr) to fit e =
    let it : Opened ≡ to = cc e in subst (λ (x : Stage). CountsFit x (counts_with Acknowledgement c (Plain kinds.Hdr))) it tt
fits_next Opened c (Grh ty) to fit e =
    let it : Within ty steps.InGroup ≡ to =
    cc e in subst (λ (x : Stage). CountsFit x (counts_with Acknowledgement c (Grh ty))) it refl
fits_next Closed c (Grh ty) to fit e =
    let it : Within ty steps.InGroup ≡ to =
    cc e in subst (λ (x : Stage). CountsFit x (counts_with Acknowledgement c (Grh ty))) it refl
fits_next Closed c (Plain kinds.Trl) to fit e =
    let it : Ended ≡ to = cc e in subst (λ (x : Stage). CountsFit x (counts_with Acknowledgement c (Plain kinds.Trl))) it tt
fits_next stage c s to fit e = absurd (cc e)

-- ---- the stage of a front

pub one_stage : (xs : List Symbol) (a b : Stage) → StandsAt xs a → StandsAt xs b → a ≡ b
one_stage xs a b p q = let same : Some a ≡ Some b = sym (stands_run xs a p) ∙ stands_run xs b q in cc same

pub tally_at : (limits : LimitValues) (xs : List Symbol) (stage : Stage) → StandsAt xs stage → Continues (IsWithin limits) xs
    → IsTallyOf (record { limits = limits; stage = stage; counts = counts_of xs }) xs
tally_at limits xs stage st w = record { stands = st; counted = refl; within = w }

-- it isn't the start, once a symbol came
pub record Reaches (xs : List Symbol) : Type 0 where
  pub stage : Stage
  pub stands : StandsAt xs stage
  pub fits : CountsFit stage (counts_of xs)

pub front_continues : (limits : LimitValues) (done : List Symbol) (s : Symbol) (rest : List Symbol)
    → Continues (IsWithin limits) (done ++ s ∷ rest) → MayCome limits done s
front_continues limits done s rest g = (
  g.0,
  g.1,
  g.2,
  (
    rest ++ g.3.0,
    g.3.1 ∙ ap (λ (l : List Symbol). l ++ g.3.0) (sym (append_assoc done (s ∷ []) rest))
        ∙ append_assoc (done ++ s ∷ []) rest g.3.0,
  ),
)

pub front_itself : (limits : LimitValues) (done rest : List Symbol) → Continues (IsWithin limits) (done ++ rest)
    → Continues (IsWithin limits) done
front_itself limits done rest g = (g.0, g.1, g.2, (rest ++ g.3.0, g.3.1 ∙ append_assoc done rest g.3.0))

reaches_on : (limits : LimitValues) (done rest : List Symbol) (stage : Stage) → AreInRange limits → StandsAt done stage
    → CountsFit stage (counts_of done) → Continues (IsWithin limits) (done ++ rest) → Reaches (done ++ rest)
reaches_on limits done [] stage range st fit g =
    subst Reaches (sym (append-nil done)) (record { stage = stage; stands = st; fits = fit })
reaches_on limits done (s ∷ rest) stage range st fit g =
    let on = comes_next limits done stage s range st (front_continues limits done s rest g) in
    let counted : counts_with (stage_type stage) (counts_of done) s ≡ counts_of (done ++ s ∷ []) =
    counted_next (record { limits = limits; stage = stage; counts = counts_of done }) done s
    (tally_at limits done stage st (front_itself limits done (s ∷ rest) g)) (ap is_some on.next) in
    subst Reaches (append_assoc done (s ∷ []) rest) (reaches_on limits (done ++ s ∷ []) rest on.to range on.stands
    (subst (CountsFit on.to) counted (fits_next stage (counts_of done) s on.to fit on.next))
    (subst (Continues (IsWithin limits)) (sym (append_assoc done (s ∷ []) rest)) g))

pub reaches : (limits : LimitValues) (xs : List Symbol) → AreInRange limits → Continues (IsWithin limits) xs → Reaches xs
reaches limits xs range g = reaches_on limits [] xs Start range stands_start tt g

-- ---- what a lint holds there

pub fair_at : (stage : Stage) (c : Counts) (lines : ℕ) → lines ≡ c.records → CountsFit stage c → HaveRoom c
    → Fair stage c (state_at stage c lines)
fair_at (Within ty steps.InGroup) c lines e fit room = record {
  stage_is = refl;
  since = e;
  groups = refl;
  headers = refl;
  ids = omega (arith, room.groups);
  group = (
    record
        { id = refl; ty_is = refl; declared = refl; lines = omega (arith, room.after_grh); headers = sym fit; next = sym fit },
    refl,
    refl,
  );
}
fair_at (Within ty step) c lines e fit room = record {
  stage_is = refl;
  since = e;
  groups = refl;
  headers = refl;
  ids = omega (arith, room.groups);
  group = (
    record { id = refl; ty_is = refl; declared = refl; lines = omega (arith, room.after_grh); headers = refl; next = refl },
    record { number = omega (arith, fit); next = omega (arith, room.after_header) },
  );
}
fair_at Start c lines e fit room =
    record { stage_is = refl; since = e; groups = refl; headers = refl; ids = omega (arith, room.groups); group = tt }
fair_at Opened c lines e fit room =
    record { stage_is = refl; since = e; groups = refl; headers = refl; ids = omega (arith, room.groups); group = tt }
fair_at Closed c lines e fit room =
    record { stage_is = refl; since = e; groups = refl; headers = refl; ids = omega (arith, room.groups); group = tt }
fair_at Ended c lines e fit room =
    record { stage_is = refl; since = e; groups = refl; headers = refl; ids = omega (arith, room.groups); group = tt }

pub fresh_at : (stage : Stage) (c : Counts) (lines : ℕ) → Fresh (state_at stage c lines)
fresh_at (Within ty steps.InGroup) c lines = record { ids = refl; group = (refl, tt) }
fresh_at (Within ty step) c lines = record { ids = refl; group = (refl, record { other = refl; next = refl }) }
fresh_at Start c lines = record { ids = refl; group = tt }
fresh_at Opened c lines = record { ids = refl; group = tt }
fresh_at Closed c lines = record { ids = refl; group = tt }
fresh_at Ended c lines = record { ids = refl; group = tt }
