-- A call whose records continue a transmission is no mistake of the caller: only a limit or the writer can refuse it.
use Rattle.std.proofs.Common.{◌≡◌, Bool, true, false, true≢false, List, [], ◌∷◌, ◌++◌, map, Option, None, refl, sym, ap, subst}
use Rattle.std.proofs.Common.{◌∙◌, append_assoc}
use Rattle.std.specs.Prelude.{is_some, Result, Ok, Err, if◌then◌else◌}
use Rattle.cwr_fields.specs.declared.codes.TransactionType.{TransactionType}
use Rattle.cwr_fields.specs.declared.codes.TransactionType.TheVariants.{Agreement, NewWork, RevisedWork, Acknowledgement}
use Rattle.cwr_fields.specs.declared.kinds.Kind.TheVariants as kinds
use Rattle.cwr_lines.specs.Format.Records.{RecordValue}
use Rattle.cwr_shape.specs.declared.symbols.Symbol.{Symbol}
use Rattle.cwr_shape.specs.declared.symbols.Symbol.TheVariants.{Plain, Grh}
use Rattle.cwr_shape.specs.declared.stages.Stage.{Stage}
use Rattle.cwr_shape.specs.declared.stages.Stage.TheVariants as stages
use Rattle.cwr_shape.specs.declared.stages.TransactionStep.{TransactionStep}
use Rattle.cwr_shape.specs.declared.stages.TransactionStep.TheVariants as steps
use Rattle.cwr_shape.specs.Format.Ranges.{LimitValues}
use Rattle.cwr_shape.specs.Format.Outlines.{Continues}
use Rattle.cwr_shape.specs.Steps.NextStages.{header_step, step_on, may_end, within, next_or_foot, on_or_next, next_stage}
use Rattle.cwr_shape.specs.Format.AnyTransmission.{Any}
use Rattle.cwr_shape.specs.Format.NextSymbols.{header_kind, open_type}
use Rattle.cwr_shape.specs.Steps.Tallies.{TallyValue, IsTallyOf}
use Rattle.cwr_shape.proofs.lemmas.StageStands.{next_exact}
use Rattle.cwr_values.specs.Format.Values.{symbol_of, type_of}
use Rattle.cwr_values.specs.Format.Begun.{HasHeaderOf, IsWholeTransaction}
use Rattle.cwr_encode.specs.declared.encoders.EncodeFault.{EncodeFault}
use Rattle.cwr_encode.specs.declared.encoders.EncodeFault.TheVariants.{OutOfOrder, WrongKind, Incomplete, Limit, Writer}
use Rattle.cwr_encode.specs.declared.encoders.Reached.TheVariants as reached_to
use Rattle.cwr_encode.specs.Format.Encoders.{reached, IsInGroup, MayBeginGroup, JudgesCall, JudgesOpening, JudgesGroup}
use Rattle.cwr_encode.specs.Format.Encoders.{JudgesTransaction, JudgesFoot, IsNoMistake}
use Rattle.cwr_encode.specs.Steps.Encoders.{reached_at}
use Rattle.cwr_encode.proofs.lemmas.Comes.{reached_stands, foot_inside, opening_at}
use Rattle.cwr_encode.proofs.lemmas.Adding.{plain_symbol}
use Rattle.cwr_encode.proofs.lemmas.Groups.{head_symbol}
use Rattle.cwr_encode.proofs.lemmas.Reaching.{goes_front}

-- ---- after a step that a symbol doesn't continue

unless_next : (u : TransactionType) (b : Bool) (o : Option TransactionStep) (s : Symbol) → o ≡ None
    → is_some (if b then on_or_next u o s else within u o) ≡ true → is_some (next_or_foot u s) ≡ true
unless_next u true o s e h = sym (ap (λ (p : Option TransactionStep). is_some (on_or_next u p s)) e) ∙ h
unless_next u false o s e h = absurd (true≢false (sym h ∙ ap (λ (p : Option TransactionStep). is_some (within u p)) e))

-- ---- GRH

no_head : (u ty : TransactionType) → header_step u (Grh ty) ≡ None
no_head Agreement ty = refl
no_head NewWork ty = refl
no_head RevisedWork ty = refl
no_head Acknowledgement ty = refl

no_head_inside : (step : TransactionStep) (ty : TransactionType) → step_on step (Grh ty) ≡ None
no_head_inside steps.InGroup ty = refl
no_head_inside step ty = refl

head_inside : (u ty : TransactionType) → is_some (next_or_foot u (Grh ty)) ≡ true → ⊥
head_inside u ty h = true≢false (sym h ∙ ap (λ (o : Option TransactionStep). is_some (within u o)) (no_head u ty))

head_at : (stage : Stage) (ty : TransactionType) → is_some (next_stage stage (Grh ty)) ≡ true → MayBeginGroup (reached_at stage)
head_at stages.Start ty h = absurd (true≢false (sym h))
head_at stages.Opened ty h = tt
head_at stages.Closed ty h = tt
head_at stages.Ended ty h = absurd (true≢false (sym h))
head_at (stages.Within u steps.InGroup) ty h = absurd (head_inside u ty h)
head_at (stages.Within u step) ty h =
    absurd (head_inside u ty (unless_next u (may_end step) (step_on step (Grh ty)) (Grh ty) (no_head_inside step ty) h))

-- ---- the header of a transaction

outside : (ty : TransactionType) → next_stage stages.Start (Plain (header_kind ty)) ≡ None
outside Agreement = refl
outside NewWork = refl
outside RevisedWork = refl
outside Acknowledgement = refl

after_group : (ty : TransactionType) → next_stage stages.Closed (Plain (header_kind ty)) ≡ None
after_group Agreement = refl
after_group NewWork = refl
after_group RevisedWork = refl
after_group Acknowledgement = refl

in_group_at : (u : TransactionType) (step : TransactionStep) → IsInGroup (reached_at (stages.Within u step))
in_group_at u steps.InGroup = tt
in_group_at u step = tt

-- where a header may come a group is open
header_at : (stage : Stage) (ty : TransactionType) → is_some (next_stage stage (Plain (header_kind ty))) ≡ true
    → IsInGroup (reached_at stage)
header_at stages.Start ty h = absurd (true≢false (sym h ∙ ap is_some (outside ty)))
header_at stages.Opened ty h = absurd (true≢false (sym h))
header_at stages.Closed ty h = absurd (true≢false (sym h ∙ ap is_some (after_group ty)))
header_at stages.Ended ty h = absurd (true≢false (sym h))
header_at (stages.Within u step) ty h = in_group_at u step

-- ---- each call

judged_no_mistake : {A comes right whole : Type 0} (limits : LimitValues) (xs added : List Symbol) (result : Result A EncodeFault)
    → comes → right → whole → JudgesCall comes right whole limits xs added result → IsNoMistake result
judged_no_mistake limits xs added (Ok x) c r w j = tt
judged_no_mistake limits xs added (Err (Limit limit)) c r w j = tt
judged_no_mistake limits xs added (Err (Writer written)) c r w j = tt
judged_no_mistake limits xs added (Err OutOfOrder) c r w j = absurd (j c)
judged_no_mistake limits xs added (Err WrongKind) c r w j = absurd (j.1 r)
judged_no_mistake limits xs added (Err Incomplete) c r w j = absurd (j.2 w)

pub no_mistake_opening : (t : TallyValue) (xs : List Symbol) (r : RecordValue) (result : Result (Unit {0}) EncodeFault)
    → IsTallyOf t xs → r.kind ≡ kinds.Hdr → Continues Any (xs ++ symbol_of r ∷ []) → JudgesOpening t.limits r xs result
    → IsNoMistake result
no_mistake_opening t xs r result st kind g j =
    let first =
    opening_at xs t.stage st.stands
    (subst (λ (s : Symbol). Continues Any (xs ++ s ∷ [])) (plain_symbol r kinds.Hdr kind refl) g) in
    judged_no_mistake t.limits xs (symbol_of r ∷ []) result first kind tt j

pub no_mistake_group : (t : TallyValue) (xs : List Symbol) (r : RecordValue) (result : Result (Unit {0}) EncodeFault)
    → IsTallyOf t xs → r.kind ≡ kinds.Grh → Continues Any (xs ++ symbol_of r ∷ []) → JudgesGroup t.limits r xs result
    → IsNoMistake result
no_mistake_group t xs r result st kind g j =
    let goes : Continues Any (xs ++ Grh (type_of r) ∷ []) =
    subst (λ (s : Symbol). Continues Any (xs ++ s ∷ [])) (head_symbol r kind) g in
    let at =
    head_at t.stage (type_of r)
    ((next_exact xs t.stage (Grh (type_of r)) (next_stage t.stage (Grh (type_of r))) refl st.stands).1 goes) in
    judged_no_mistake t.limits xs (symbol_of r ∷ []) result (subst MayBeginGroup (reached_stands xs t.stage st.stands) at) kind tt
    j

header_symbol : (ty : TransactionType) (r : RecordValue) → r.kind ≡ header_kind ty → symbol_of r ≡ Plain (header_kind ty)
header_symbol Agreement r e = plain_symbol r kinds.Agr e refl
header_symbol NewWork r e = plain_symbol r kinds.Nwr e refl
header_symbol RevisedWork r e = plain_symbol r kinds.Rev e refl
header_symbol Acknowledgement r e = plain_symbol r kinds.Ack e refl

header_first : (xs : List Symbol) (ty : TransactionType) (records : List RecordValue) → HasHeaderOf ty records
    → Continues Any (xs ++ map symbol_of records) → Continues Any (xs ++ Plain (header_kind ty) ∷ [])
header_first xs ty [] h g = absurd h
header_first xs ty (r ∷ rs) h g =
    subst (λ (s : Symbol). Continues Any (xs ++ s ∷ [])) (header_symbol ty r h)
    (goes_front (xs ++ symbol_of r ∷ []) (map symbol_of rs)
    (subst (Continues Any) (sym (append_assoc xs (symbol_of r ∷ []) (map symbol_of rs))) g))

pub no_mistake_transaction : (t : TallyValue) (xs : List Symbol) (records : List RecordValue)
    (result : Result (Unit {0}) EncodeFault) → IsTallyOf t xs → HasHeaderOf (open_type xs) records
    → IsWholeTransaction records → Continues Any (xs ++ map symbol_of records) → JudgesTransaction t.limits records xs result
    → IsNoMistake result
no_mistake_transaction t xs records result st header whole g j =
    let s : Symbol = Plain (header_kind (open_type xs)) in
    let o : IsInGroup (reached_at t.stage) =
    header_at t.stage (open_type xs)
    ((next_exact xs t.stage s (next_stage t.stage s) refl st.stands).1 (header_first xs (open_type xs) records header g)) in
    judged_no_mistake t.limits xs (map symbol_of records) result (subst IsInGroup (reached_stands xs t.stage st.stands) o) header
    whole j

pub no_mistake_foot : (t : TallyValue) (xs : List Symbol) (r : RecordValue) (result : Result (Unit {0}) EncodeFault)
    → IsTallyOf t xs → r.kind ≡ kinds.Grt → Continues Any (xs ++ symbol_of r ∷ []) → JudgesFoot t.limits r xs result
    → IsNoMistake result
no_mistake_foot t xs r result st kind g j =
    let inside : reached xs ≡ reached_to.Inside =
    foot_inside t xs st (subst (λ (s : Symbol). Continues Any (xs ++ s ∷ [])) (plain_symbol r kinds.Grt kind refl) g) in
    judged_no_mistake t.limits xs (symbol_of r ∷ []) result (subst IsInGroup (sym inside) tt) kind inside j
