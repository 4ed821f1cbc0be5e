-- What may come at the stages between calls, within the limits.
use Rattle.std.proofs.Common.{◌≡◌, ◌+◌, ◌≤◌, ◌<◌, Bool, true, false, not, cond, List, [], ◌∷◌, ◌++◌, length, Option, Some, None}
use Rattle.std.proofs.Common.{refl, sym, ap, subst, ◌∙◌, inl, inr, arith, true≢false}
use Rattle.std.specs.Prelude.{is_some}
use Rattle.std.specs.List.{count_by, last_or, after_last, list_any, AllByRecursion}
use Rattle.std.proofs.lemmas.List.{length-append}
use Rattle.std.proofs.lemmas.List.Sums.{sum_by-append}
use Rattle.cwr_fields.specs.declared.codes.TransactionType.{TransactionType}
use Rattle.cwr_fields.specs.declared.codes.TransactionType.TheVariants.{Agreement, NewWork, RevisedWork, Acknowledgement}
use Rattle.cwr_fields.specs.declared.kinds.Kind.TheVariants as kinds
use Rattle.cwr_shape.specs.declared.symbols.Symbol.{Symbol}
use Rattle.cwr_shape.specs.declared.symbols.Symbol.TheVariants.{Plain, Ipa, Grh}
use Rattle.cwr_shape.specs.declared.stages.Stage.{Stage}
use Rattle.cwr_shape.specs.declared.stages.Stage.TheVariants as stages
use Rattle.cwr_shape.specs.declared.stages.TransactionStep.{TransactionStep}
use Rattle.cwr_shape.specs.declared.stages.TransactionStep.TheVariants as steps
use Rattle.cwr_shape.specs.declared.tallies.Counts.{Counts}
use Rattle.cwr_shape.specs.Format.Ranges.{LimitValues}
use Rattle.cwr_shape.specs.declared.tallies.Scope.TheVariants as scopes
use Rattle.cwr_shape.specs.Format.Shapes.{IsShape, without_carried}
use Rattle.cwr_shape.specs.Format.Outlines.{GroupOutline, IsGroupOutline, IsWithin, Continues}
use Rattle.cwr_shape.specs.Format.LastSymbols.{is_grh, latest, group_of}
use Rattle.cwr_shape.specs.Steps.Stages.{is_ipa, is_ipa_of, is_writer, other_role, pwr_step, stage_by}
use Rattle.cwr_shape.specs.Steps.NextStages.{header_step, within, next_stage}
use Rattle.cwr_shape.specs.Steps.Needs.{needs_at}
use Rattle.cwr_shape.specs.Format.AnyTransmission.{Any}
use Rattle.cwr_shape.specs.Steps.Left.{StandsAt}
use Rattle.cwr_shape.specs.Format.NextSymbols.{MayCome, open_records}
use Rattle.cwr_shape.specs.Steps.Tallies.{TallyValue, IsTallyOf}
use Rattle.cwr_shape.specs.Format.NextSymbols as tallies_there
use Rattle.cwr_shape.specs.Format.NextSymbols.{scope_by}
use Rattle.cwr_shape.specs.Steps.Counting.{open_at, scope_at}
use Rattle.cwr_shape.proofs.lemmas.ScopesNamed.{AreLast, last_without, carried_opens, scope_stands}
use Rattle.cwr_shape.proofs.lemmas.StageStands.{next_exact, next_stands}
use Rattle.cwr_shape.proofs.lemmas.TransactionNumbers.{Headed, headed_shape}
use Rattle.cwr_shape.proofs.lemmas.LimitsByNeeds.{records_reach, groups_reach, within_goes, open_named, kept_within, kept_next}
use Rattle.cwr_encode.specs.declared.encoders.Reached.TheVariants as reached_to
use Rattle.cwr_encode.specs.Format.Encoders.{reached, reached_by, MayBeginGroup}
use Rattle.cwr_encode.specs.Steps.Encoders.{reached_at}

-- ---- stages and the last record

pub reached_named : (o : Option Symbol) (xs : List Symbol) → reached_at (stage_by o xs) ≡ reached_by o
reached_named None xs = refl
reached_named (Some (Plain kinds.Hdr)) xs = refl
reached_named (Some (Plain kinds.Grt)) xs = refl
reached_named (Some (Plain kinds.Trl)) xs = refl
reached_named (Some (Plain kinds.Pwr)) xs = by_writer (latest is_writer xs)
  where
    by_writer : (w : Option Symbol) → reached_at (stages.Within (group_of (latest is_grh xs)) (pwr_step w)) ≡ reached_to.Inside
    by_writer (Some (Plain kinds.Owr)) = refl
    by_writer w = refl
reached_named (Some (Ipa role)) xs = by_side (list_any (is_ipa_of (other_role role)) (after_last (λ s. not (is_ipa s)) xs))
  where
    by_side : (b : Bool)
        → reached_at (stages.Within (group_of (latest is_grh xs)) (cond b steps.Both (steps.OneSide role))) ≡ reached_to.Inside
    by_side true = refl
    by_side false = refl
reached_named (Some s) xs = refl

pub reached_stands : (xs : List Symbol) (stage : Stage) → StandsAt xs stage → reached_at stage ≡ reached xs
reached_stands xs stage st = by (last_without xs)
  where
    inside : (s : Stage) → scope_at s ≡ scopes.Transaction → reached_at s ≡ reached_to.Inside
    inside (stages.Within ty steps.InGroup) e = absurd (cc e)
    inside (stages.Within ty step) e = refl
    inside s e = absurd (cc e)

    inner : (s : Symbol) → scope_by (Some s) ≡ scopes.Transaction → reached_by (Some s) ≡ reached_to.Inside
    inner (Plain kinds.Hdr) e = absurd (cc e)
    inner (Grh ty) e = absurd (cc e)
    inner (Plain kinds.Grt) e = absurd (cc e)
    inner (Plain kinds.Trl) e = absurd (cc e)
    inner s e = refl

    by : AreLast (last_or None xs) (last_or None (without_carried xs)) → reached_at stage ≡ reached xs
    by (inl same) =
        ap reached_at st.named ∙ reached_named (last_or None (without_carried xs)) (without_carried xs) ∙ ap reached_by same
    by (inr (s, last, e)) =
        inside stage (scope_stands xs stage st ∙ ap scope_by last ∙ carried_opens s e) ∙ sym (inner s (carried_opens s e))
        ∙ ap reached_by (sym last)

-- ---- one record more, after which less is needed

some_length : {A : Type 0} (x : A) (l : List A) → 1 ≤ length (x ∷ l)
some_length x l = omega arith

one_record : (ty : TransactionType) (t : List Symbol) → IsShape ty t → 1 ≤ length t
one_record ty t shape =
    let h : Headed ty t = headed_shape ty t shape in omega (arith, ap length h.whole, some_length h.head h.rest)

one_transaction : (limits : LimitValues) (ty : TransactionType) (ts : List (List Symbol)) → 0 < length ts
    → AllByRecursion (IsShape ty) ts → AllByRecursion (λ t. length t ≤ limits.transaction) ts → 1 ≤ limits.transaction
one_transaction limits ty [] n h k = absurd (omega (arith, n))
one_transaction limits ty (t ∷ ts) n h k = omega (arith, one_record ty t h.0, k.0)

one_group : (limits : LimitValues) (gs : List GroupOutline) → 0 < length gs → AllByRecursion IsGroupOutline gs
    → AllByRecursion (λ g. AllByRecursion (λ t. length t ≤ limits.transaction) g.transactions) gs → 1 ≤ limits.transaction
one_group limits [] n h k = absurd (omega (arith, n))
one_group limits (g ∷ gs) n h k = one_transaction limits g.ty g.transactions h.0.0 h.0.1 k.0

-- some transmission is within the limits, so a transaction may have a record
pub least_transaction : (limits : LimitValues) (xs : List Symbol) → Continues (IsWithin limits) xs → 1 ≤ limits.transaction
least_transaction limits xs g = one_group limits g.0 g.1.0 g.1.1 g.2.2

-- what comes between transactions comes within the limits, since it was among what must still come
pub comes_by : (t : TallyValue) (xs : List Symbol) (s : Symbol) (stage next : Stage) → IsTallyOf t xs → t.stage ≡ stage
    → next_stage stage s ≡ Some next → count_by is_grh (s ∷ []) ≡ 0
    → (needs_at next).records + 1 ≤ (needs_at stage).records → (needs_at next).groups ≤ (needs_at stage).groups
    → (needs_at next).transaction ≤ 1 → ((c : Counts) → open_at next c ≡ 0) → MayCome t.limits xs s
comes_by t xs s stage next st at goes no_group r g n closed =
    let here : StandsAt xs stage = subst (StandsAt xs) at st.stands in
    let on : StandsAt (xs ++ s ∷ []) next = next_stands xs stage s (Some next) (sym goes) here in
    let one : 1 ≤ t.limits.transaction = least_transaction t.limits xs st.within in
    let within = st.within in
    let records = (records_reach t.limits xs stage here).0 (within.0, within.1, within.2.0, within.3) in
    let groups = (groups_reach t.limits xs stage here).0 (within.0, within.1, within.2.1, within.3) in
    let counted : count_by is_grh (xs ++ s ∷ []) ≡ count_by is_grh xs + count_by is_grh (s ∷ []) =
    sum_by-append (λ x. cond (is_grh x) 1 0) xs (s ∷ []) in
    let none : open_records (xs ++ s ∷ []) ≡ 0 =
    open_named (xs ++ s ∷ []) next on ∙ closed (tallies_there.counts_of (xs ++ s ∷ [])) in
    within_goes t.limits (xs ++ s ∷ []) next on one
    (kept_next t.limits xs s (kept_within t.limits xs within) (omega (arith, none)))
    (omega (arith, records, r, length-append xs (s ∷ []))) (omega (arith, groups, g, counted, no_group))
    (omega (arith, none, n, one))

-- ---- HDR

pub opening_comes : (t : TallyValue) (xs : List Symbol) → IsTallyOf t xs → reached xs ≡ reached_to.Nothing
    → MayCome t.limits xs (Plain kinds.Hdr)
opening_comes t xs st e = by t.stage refl (reached_stands xs t.stage st.stands ∙ e)
  where
    by : (stage : Stage) → t.stage ≡ stage → reached_at stage ≡ reached_to.Nothing → MayCome t.limits xs (Plain kinds.Hdr)
    by stages.Start at h =
        comes_by t xs (Plain kinds.Hdr) stages.Start stages.Opened st at refl refl (omega arith) (omega arith) (omega arith)
        (λ c. refl)
    by stages.Opened at h = absurd (cc h)
    by stages.Closed at h = absurd (cc h)
    by stages.Ended at h = absurd (cc h)
    by (stages.Within ty steps.InGroup) at h = absurd (cc h)
    by (stages.Within ty step) at h = absurd (cc h)

no_header : (ty : TransactionType) → header_step ty (Plain kinds.Hdr) ≡ None
no_header Agreement = refl
no_header NewWork = refl
no_header RevisedWork = refl
no_header Acknowledgement = refl

pub opening_at : (xs : List Symbol) (stage : Stage) → StandsAt xs stage → Continues Any (xs ++ Plain kinds.Hdr ∷ [])
    → reached xs ≡ reached_to.Nothing
opening_at xs stage st g =
    sym (reached_stands xs stage st)
    ∙ by stage ((next_exact xs stage (Plain kinds.Hdr) (next_stage stage (Plain kinds.Hdr)) refl st).1 g)
  where
    next_none : (ty : TransactionType) → is_some (within ty (header_step ty (Plain kinds.Hdr))) ≡ true → ⊥
    next_none ty h = true≢false (sym h ∙ ap (λ (o : Option TransactionStep). is_some (within ty o)) (no_header ty))

    by : (stage : Stage) → is_some (next_stage stage (Plain kinds.Hdr)) ≡ true → reached_at stage ≡ reached_to.Nothing
    by stages.Start h = refl
    by stages.Opened h = absurd (true≢false (sym h))
    by stages.Closed h = absurd (true≢false (sym h))
    by stages.Ended h = absurd (true≢false (sym h))
    by (stages.Within ty steps.InGroup) h = absurd (next_none ty h)
    by (stages.Within ty steps.Acked) h = absurd (next_none ty h)
    by (stages.Within ty steps.Both) h = absurd (next_none ty h)
    by (stages.Within ty steps.Writer) h = absurd (next_none ty h)
    by (stages.Within ty steps.OtherWriter) h = absurd (next_none ty h)
    by (stages.Within ty steps.Tail) h = absurd (next_none ty h)
    by (stages.Within ty step) h = absurd (true≢false (sym h))

pub opening_first : (t : TallyValue) (xs : List Symbol) → IsTallyOf t xs → MayCome t.limits xs (Plain kinds.Hdr)
    → reached xs ≡ reached_to.Nothing
opening_first t xs st g = opening_at xs t.stage st.stands (g.0, g.1, tt, g.3)

-- ---- GRT

-- a stage at which a group may end: a whole transaction came last
pub record Ending (stage : Stage) : Type 0 where
  pub goes : next_stage stage (Plain kinds.Grt) ≡ Some stages.Closed
  pub records : (needs_at stage).records ≡ 2
  pub groups : (needs_at stage).groups ≡ 0
  pub transaction : (needs_at stage).transaction ≡ 0
  pub inside : reached_at stage ≡ reached_to.Inside
  pub opened : (c : Counts) → open_at stage c ≡ 1 + c.after_header

no_foot : (ty : TransactionType) → header_step ty (Plain kinds.Grt) ≡ None
no_foot Agreement = refl
no_foot NewWork = refl
no_foot RevisedWork = refl
no_foot Acknowledgement = refl

pub ending : (stage : Stage) → is_some (next_stage stage (Plain kinds.Grt)) ≡ true → Ending stage
ending stages.Start h = absurd (true≢false (sym h))
ending stages.Opened h = absurd (true≢false (sym h))
ending stages.Closed h = absurd (true≢false (sym h))
ending stages.Ended h = absurd (true≢false (sym h))
ending (stages.Within ty steps.InGroup) h =
    absurd (true≢false (sym h ∙ ap (λ (o : Option TransactionStep). is_some (within ty o)) (no_foot ty)))
ending (stages.Within ty steps.Acked) h =
    record { goes = refl; records = refl; groups = refl; transaction = refl; inside = refl; opened = λ c. refl }
ending (stages.Within ty steps.Both) h =
    record { goes = refl; records = refl; groups = refl; transaction = refl; inside = refl; opened = λ c. refl }
ending (stages.Within ty steps.Writer) h =
    record { goes = refl; records = refl; groups = refl; transaction = refl; inside = refl; opened = λ c. refl }
ending (stages.Within ty steps.OtherWriter) h =
    record { goes = refl; records = refl; groups = refl; transaction = refl; inside = refl; opened = λ c. refl }
ending (stages.Within ty steps.Tail) h =
    record { goes = refl; records = refl; groups = refl; transaction = refl; inside = refl; opened = λ c. refl }
ending (stages.Within ty step) h = absurd (true≢false (sym h))

pub ending_at : (xs : List Symbol) (stage : Stage) → StandsAt xs stage → Continues Any (xs ++ Plain kinds.Grt ∷ []) → Ending stage
ending_at xs stage st g = ending stage ((next_exact xs stage (Plain kinds.Grt) (next_stage stage (Plain kinds.Grt)) refl st).1 g)

pub foot_comes : (t : TallyValue) (xs : List Symbol) → IsTallyOf t xs → Continues Any (xs ++ Plain kinds.Grt ∷ [])
    → MayCome t.limits xs (Plain kinds.Grt)
foot_comes t xs st g =
    let e = ending_at xs t.stage st.stands g in
    comes_by t xs (Plain kinds.Grt) t.stage stages.Closed st refl e.goes refl (omega (arith, e.records)) (omega arith)
    (omega arith) (λ c. refl)

pub foot_inside : (t : TallyValue) (xs : List Symbol) → IsTallyOf t xs → Continues Any (xs ++ Plain kinds.Grt ∷ [])
    → reached xs ≡ reached_to.Inside
foot_inside t xs st g = sym (reached_stands xs t.stage st.stands) ∙ (ending_at xs t.stage st.stands g).inside

-- ---- TRL

pub trailer_comes : (t : TallyValue) (xs : List Symbol) → IsTallyOf t xs → reached xs ≡ reached_to.GroupFoot
    → MayCome t.limits xs (Plain kinds.Trl) × (t.stage ≡ stages.Closed)
trailer_comes t xs st e = by t.stage refl (reached_stands xs t.stage st.stands ∙ e)
  where
    by : (stage : Stage) → t.stage ≡ stage → reached_at stage ≡ reached_to.GroupFoot
        → MayCome t.limits xs (Plain kinds.Trl) × (t.stage ≡ stages.Closed)
    by stages.Closed at h = (
      comes_by t xs (Plain kinds.Trl) stages.Closed stages.Ended st at refl refl (omega arith) (omega arith) (omega arith)
          (λ c. refl),
      at,
    )
    by stages.Start at h = absurd (cc h)
    by stages.Opened at h = absurd (cc h)
    by stages.Ended at h = absurd (cc h)
    by (stages.Within ty steps.InGroup) at h = absurd (cc h)
    by (stages.Within ty step) at h = absurd (cc h)

no_trailer : (ty : TransactionType) → header_step ty (Plain kinds.Trl) ≡ None
no_trailer Agreement = refl
no_trailer NewWork = refl
no_trailer RevisedWork = refl
no_trailer Acknowledgement = refl

pub trailer_last : (t : TallyValue) (xs : List Symbol) → IsTallyOf t xs → MayCome t.limits xs (Plain kinds.Trl)
    → reached xs ≡ reached_to.GroupFoot
trailer_last t xs st g =
    sym (reached_stands xs t.stage st.stands) ∙ by t.stage
    ((next_exact xs t.stage (Plain kinds.Trl) (next_stage t.stage (Plain kinds.Trl)) refl st.stands).1 (g.0, g.1, tt, g.3))
  where
    next_none : (ty : TransactionType) → is_some (within ty (header_step ty (Plain kinds.Trl))) ≡ true → ⊥
    next_none ty h = true≢false (sym h ∙ ap (λ (o : Option TransactionStep). is_some (within ty o)) (no_trailer ty))

    by : (stage : Stage) → is_some (next_stage stage (Plain kinds.Trl)) ≡ true → reached_at stage ≡ reached_to.GroupFoot
    by stages.Closed h = refl
    by stages.Start h = absurd (true≢false (sym h))
    by stages.Opened h = absurd (true≢false (sym h))
    by stages.Ended h = absurd (true≢false (sym h))
    by (stages.Within ty steps.InGroup) h = absurd (next_none ty h)
    by (stages.Within ty steps.Acked) h = absurd (next_none ty h)
    by (stages.Within ty steps.Both) h = absurd (next_none ty h)
    by (stages.Within ty steps.Writer) h = absurd (next_none ty h)
    by (stages.Within ty steps.OtherWriter) h = absurd (next_none ty h)
    by (stages.Within ty steps.Tail) h = absurd (next_none ty h)
    by (stages.Within ty step) h = absurd (true≢false (sym h))

-- ---- GRH

-- where a group may begin, transmissions continue by a GRH of each type
pub head_goes : (t : TallyValue) (xs : List Symbol) (ty : TransactionType) → IsTallyOf t xs → MayBeginGroup (reached xs)
    → Continues Any (xs ++ Grh ty ∷ [])
head_goes t xs ty st m = by t.stage st.stands (subst MayBeginGroup (sym (reached_stands xs t.stage st.stands)) m)
  where
    by : (stage : Stage) → StandsAt xs stage → MayBeginGroup (reached_at stage) → Continues Any (xs ++ Grh ty ∷ [])
    by stages.Opened s k = (next_exact xs stages.Opened (Grh ty) (Some (stages.Within ty steps.InGroup)) refl s).0 refl
    by stages.Closed s k = (next_exact xs stages.Closed (Grh ty) (Some (stages.Within ty steps.InGroup)) refl s).0 refl
    by stages.Start s k = absurd k
    by stages.Ended s k = absurd k
    by (stages.Within u steps.InGroup) s k = absurd k
    by (stages.Within u step) s k = absurd k
