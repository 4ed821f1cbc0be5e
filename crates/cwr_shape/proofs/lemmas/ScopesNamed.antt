-- What is open at a stage is what the last symbol says.
use Rattle.std.proofs.Common.{◌≡◌, Bool, true, false, cond, not, List, [], ◌∷◌, ◌++◌, Option, Some, None, refl, sym, ap, subst}
use Rattle.std.proofs.Common.{◌∙◌, inl, inr, true≢false, append_assoc, append-nil}
use Rattle.std.specs.Prelude.{◌⊎◌, is_some}
use Rattle.std.specs.List.{list_all, list_any, last_or, after_last}
use Rattle.cwr_fields.specs.declared.codes.TransactionType.TheVariants.{Agreement, NewWork, RevisedWork, Acknowledgement}
use Rattle.cwr_fields.specs.declared.kinds.Kind.TheVariants as kinds
use Rattle.cwr_shape.specs.declared.symbols.Symbol.{Symbol}
use Rattle.cwr_shape.specs.declared.symbols.Symbol.TheVariants.{Plain, Ipa}
use Rattle.cwr_shape.specs.declared.stages.Stage.{Stage}
use Rattle.cwr_shape.specs.declared.stages.Stage.TheVariants as stages
use Rattle.cwr_shape.specs.declared.stages.TransactionStep.TheVariants as steps
use Rattle.cwr_shape.specs.declared.tallies.Scope.{Scope}
use Rattle.cwr_shape.specs.declared.tallies.Scope.TheVariants as scopes
use Rattle.cwr_shape.specs.Format.Shapes.{is_carried_symbol, without_carried}
use Rattle.cwr_shape.specs.Format.LastSymbols.{is_grh, latest, group_of}
use Rattle.cwr_shape.specs.Steps.Stages.{is_ipa, is_ipa_of, is_writer, other_role, pwr_step, stage_by, stage_of}
use Rattle.cwr_shape.specs.Steps.NextStages.{next_stage}
use Rattle.cwr_shape.specs.Steps.Left.{StandsAt}
use Rattle.cwr_shape.specs.Format.NextSymbols.{scope_by, scope_after, has_open_transaction}
use Rattle.cwr_shape.specs.Steps.Counting.{scope_at}
use Rattle.cwr_shape.proofs.lemmas.Matcher.{without-cons, without-snoc}
use Rattle.cwr_shape.proofs.lemmas.OneMore.{last_or-snoc}
use Rattle.cwr_shape.proofs.lemmas.PrefixFree.{carried_symbols, carried_passes}
use Rattle.cwr_shape.proofs.lemmas.StageNames.{carried_stays, run_names}
use Rattle.cwr_shape.proofs.lemmas.StageRuns.{run, run_first, run_more, run_is_stage}
use Rattle.cwr_shape.proofs.lemmas.StageStands.{run_one, stands_run}

-- what is open is named by the last symbol
pub scope_named : (o : Option Symbol) (xs : List Symbol) → scope_at (stage_by o xs) ≡ scope_by o
scope_named None xs = refl
scope_named (Some (Plain kinds.Hdr)) xs = refl
scope_named (Some (Plain kinds.Grt)) xs = refl
scope_named (Some (Plain kinds.Trl)) xs = refl
scope_named (Some (Plain kinds.Pwr)) xs = by_writer (latest is_writer xs)
  where
    by_writer : (w : Option Symbol) → scope_at (stages.Within (group_of (latest is_grh xs)) (pwr_step w)) ≡ scopes.Transaction
    by_writer (Some (Plain kinds.Owr)) = refl
    by_writer w = refl
scope_named (Some (Ipa role)) xs = by_side (list_any (is_ipa_of (other_role role)) (after_last (λ s. not (is_ipa s)) xs))
  where
    by_side : (b : Bool)
        → scope_at (stages.Within (group_of (latest is_grh xs)) (cond b steps.Both (steps.OneSide role))) ≡ scopes.Transaction
    by_side true = refl
    by_side false = refl
scope_named (Some s) xs = refl

-- ---- the last symbol, and the last one that isn't carried

-- they are the same, or the last one is carried
abbrev pub AreLast : Option Symbol → Option Symbol → Type 0
AreLast last other = (other ≡ last) ⊎ ((s : Symbol) × (last ≡ Some s) × (is_carried_symbol s ≡ true))

last_so_far : (o p : Option Symbol) (xs : List Symbol) → AreLast o p → AreLast (last_or o xs) (last_or p (without_carried xs))
last_so_far o p [] h = h
last_so_far o p (s ∷ xs) h = by (is_carried_symbol s) refl (last_so_far (Some s) p xs) (last_so_far (Some s) (Some s) xs)
  where
    by : (b : Bool) → is_carried_symbol s ≡ b
        → (AreLast (Some s) p → AreLast (last_or (Some s) xs) (last_or p (without_carried xs)))
        → (AreLast (Some s) (Some s) → AreLast (last_or (Some s) xs) (last_or (Some s) (without_carried xs)))
        → AreLast (last_or (Some s) xs) (last_or p (without_carried (s ∷ xs)))
    by true e f g =
        subst (λ (ys : List Symbol). AreLast (last_or (Some s) xs) (last_or p ys)) (sym (without-cons s xs true e))
        (f (inr (s, refl, e)))
    by false e f g =
        subst (λ (ys : List Symbol). AreLast (last_or (Some s) xs) (last_or p ys)) (sym (without-cons s xs false e))
        (g (inl refl))

pub last_without : (xs : List Symbol) → AreLast (last_or None xs) (last_or None (without_carried xs))
last_without xs = last_so_far None None xs (inl refl)

-- ---- a carried record stands inside a transaction

-- the table has no stage after any carried symbol
abbrev Bars : Stage → Type 0
Bars stage = list_all (λ t. not (is_some (next_stage stage t))) carried_symbols ≡ true

barred : (stage : Stage) (s : Symbol) (to : Stage) → Bars stage → is_carried_symbol s ≡ true → next_stage stage s ≡ Some to → ⊥
barred stage s to none e on =
    true≢false (sym
    (sym (ap (λ (o : Option Stage). not (is_some o)) on) ∙ carried_passes (λ t. not (is_some (next_stage stage t))) s none e))

inside : (stage : Stage) (s : Symbol) (to : Stage) → is_carried_symbol s ≡ true → next_stage stage s ≡ Some to
    → scope_at stage ≡ scopes.Transaction
inside stages.Start s to e on = absurd (barred stages.Start s to refl e on)
inside stages.Opened s to e on = absurd (barred stages.Opened s to refl e on)
inside stages.Closed s to e on = absurd (barred stages.Closed s to refl e on)
inside stages.Ended s to e on = absurd (barred stages.Ended s to refl e on)
inside (stages.Within Agreement steps.InGroup) s to e on = absurd (barred (stages.Within Agreement steps.InGroup) s to refl e on)
inside (stages.Within NewWork steps.InGroup) s to e on = absurd (barred (stages.Within NewWork steps.InGroup) s to refl e on)
inside (stages.Within RevisedWork steps.InGroup) s to e on =
    absurd (barred (stages.Within RevisedWork steps.InGroup) s to refl e on)
inside (stages.Within Acknowledgement steps.InGroup) s to e on =
    absurd (barred (stages.Within Acknowledgement steps.InGroup) s to refl e on)
inside (stages.Within ty step) s to e on = refl

opens : (p : Scope) → has_open_transaction p ≡ true → p ≡ scopes.Transaction
opens scopes.Transaction h = refl
opens p h = absurd (true≢false (sym h))

pub carried_opens : (s : Symbol) → is_carried_symbol s ≡ true → scope_by (Some s) ≡ scopes.Transaction
carried_opens s e = opens (scope_by (Some s)) (carried_passes (λ t. has_open_transaction (scope_by (Some t))) s refl e)

-- ---- the stages of the table

scope_next : (xs : List Symbol) (s : Symbol) (mid to : Stage) (b : Bool) → is_carried_symbol s ≡ b
    → run stages.Start xs ≡ Some mid → next_stage mid s ≡ Some to → scope_at to ≡ scope_by (Some s)
scope_next xs s mid to true e at on =
    ap scope_at (carried_stays mid s to (run_is_stage stages.Start xs mid refl at) e on) ∙ inside mid s to e on
    ∙ sym (carried_opens s e)
scope_next xs s mid to false e at on =
    let there : run stages.Start (xs ++ s ∷ []) ≡ Some to = run_more stages.Start xs (s ∷ []) mid at ∙ run_one mid s to on in
    let ws : List Symbol = without_carried xs ++ s ∷ [] in
    let named : to ≡ stage_of ws = run_names (xs ++ s ∷ []) to there ∙ ap stage_of (without-snoc xs s false e) in
    ap scope_at named ∙ scope_named (last_or None ws) ws ∙ ap scope_by (last_or-snoc None (without_carried xs) s)

scope_walk : (front xs : List Symbol) (stage to : Stage) → run stages.Start front ≡ Some stage
    → scope_at stage ≡ scope_after front → run stage xs ≡ Some to → scope_at to ≡ scope_after (front ++ xs)
unfolding run
scope_walk front [] stage to at named on =
    let same : stage ≡ to = cc on in
    sym (ap scope_at same) ∙ named ∙ ap scope_after (sym (append-nil front))
scope_walk front (s ∷ xs) stage to at named on =
    let first = run_first stage s xs to on in
    let next : scope_at first.0 ≡ scope_after (front ++ s ∷ []) =
    scope_next front s stage first.0 (is_carried_symbol s) refl at first.1 ∙ ap scope_by (sym (last_or-snoc None front s)) in
    scope_walk (front ++ s ∷ []) xs first.0 to (run_more stages.Start front (s ∷ []) stage at ∙ run_one stage s first.0 first.1)
    next first.2
    ∙ ap scope_after (append_assoc front (s ∷ []) xs)

-- what is open at the stage where symbols stand is what the last of them says
pub scope_stands : (xs : List Symbol) (stage : Stage) → StandsAt xs stage → scope_at stage ≡ scope_after xs
unfolding run
scope_stands xs stage st = scope_walk [] xs stages.Start stage refl refl (stands_run xs stage st)
