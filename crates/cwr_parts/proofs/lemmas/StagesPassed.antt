-- The places that a split passes, and the parts that are whole then.
use Rattle.std.proofs.Common.{◌≡◌, ◌≢◌, ℕ, ◌+◌, ◌*◌, ◌<◌, Bool, true, false, inl, inr, List, [], ◌∷◌, ◌++◌, length, map, Option}
use Rattle.std.proofs.Common.{Some, None, refl, sym, ap, subst, ◌∙◌, append_assoc, append-nil}
use Rattle.std.specs.Prelude.{◌==◌, ◌⊎◌, flat_map, if◌then◌else◌}
use Rattle.cwr_lines.specs.Format.Records.{RecordValue}
use Rattle.cwr_shape.specs.declared.limits.Limits.{Limits}
use Rattle.cwr_values.specs.declared.items.Item.{Item}
use Rattle.cwr_values.specs.declared.items.Item.TheVariants.{Opened, GroupOpened, Transaction, GroupClosed, Ended}
use Rattle.cwr_values.specs.Format.Values.{GroupValue, TransmissionValue}
use Rattle.cwr_judge.specs.Format.Items.{group_items}
use Rattle.cwr_tools.specs.declared.verdicts.SplitReport.{SplitReport}
use Rattle.cwr_devices.specs.Format.Outputs.{AddsTexts}
use Rattle.cwr_parts.specs.Format.Splits.{split_of}
use Rattle.cwr_parts.specs.Steps.SplitItems.{HasCounted}
use Rattle.cwr_parts.specs.Steps.SplitStages.{SplitStage, Remains, Between, Inside, Over, Start, open_total, parts_at, parts_in}
use Rattle.cwr_parts.specs.Steps.SplitStages.{split_stage_after, stage_in, total_in}
use Rattle.cwr_parts.proofs.lemmas.StagesLeft.{next_between, next_inside}

-- ---- places

pub place_more : (n : ℕ) (stage : SplitStage) (given : List Item) (item : Item)
    → stage_in n stage (given ++ item ∷ []) ≡ split_stage_after n (stage_in n stage given) item
place_more n stage [] item = refl
place_more n stage (x ∷ given) item = place_more n (split_stage_after n stage x) given item

pub parts_more : (n : ℕ) (stage : SplitStage) (given : List Item) (item : Item)
    → parts_in n stage (given ++ item ∷ []) ≡ parts_in n stage given ++ parts_at n (stage_in n stage given) item
parts_more n stage [] item = append-nil (parts_at n stage item)
parts_more n stage (x ∷ given) item =
    ap (λ (l : List TransmissionValue). parts_at n stage x ++ l) (parts_more n (split_stage_after n stage x) given item)
    ∙ sym (append_assoc (parts_at n stage x) (parts_in n (split_stage_after n stage x) given)
    (parts_at n (stage_in n (split_stage_after n stage x) given) item))

-- only TRL is the end
pub over_after : (limits : Limits) (n : ℕ) (v : TransmissionValue) (whole : List TransmissionValue) (stage : SplitStage)
    (item : Item) (rest : List Item) → Remains limits n v whole stage (item ∷ rest) → split_stage_after n stage item ≡ Over → item
    ≡ Ended
over_after limits n v whole Start item rest h e =
    let is : item ≡ Opened v.opening =
    (let all : item ∷ rest ≡ Opened v.opening ∷ (flat_map group_items v.groups ++ Ended ∷ []) = h.0 in cc) in
    absurd (let f : Between v.opening [] ≡ Over = sym (ap (split_stage_after n Start) is) ∙ e in cc f)
over_after limits n v whole (Between o closed) item rest h e = by (next_between h.after item rest h.rest_is)
  where
    by : ((h.after ≡ []) × (item ≡ Ended) × (rest ≡ [])) ⊎ ((g : GroupValue) × (gs : List GroupValue) × (h.after ≡ g ∷ gs)
        × (item ≡ GroupOpened g.head)
        × (rest ≡ map Transaction g.transactions ++ GroupClosed g.foot ∷ (flat_map group_items gs ++ Ended ∷ []))) → item ≡ Ended
    by (inl x) = x.1
    by (inr g) =
        absurd (let f : Inside o closed g.0.head [] ≡ Over = sym (ap (split_stage_after n (Between o closed)) g.3) ∙ e in cc f)
over_after limits n v whole (Inside o closed head cur) item rest h e =
    by (next_inside h.todo h.foot (flat_map group_items h.after ++ Ended ∷ []) item rest h.rest_is)
  where
    inside : (b : Bool) (t : List RecordValue) → (if b then Inside o [] head [] else Inside o closed head (cur ++ t ∷ [])) ≡ Over
        → item ≡ Ended
    inside true t f = absurd (cc f)
    inside false t f = absurd (cc f)

    by : ((h.todo ≡ []) × (item ≡ GroupClosed h.foot) × (rest ≡ flat_map group_items h.after ++ Ended ∷ []))
        ⊎ ((t : List RecordValue) × (ts : List (List RecordValue)) × (h.todo ≡ t ∷ ts) × (item ≡ Transaction t)
        × (rest ≡ map Transaction ts ++ GroupClosed h.foot ∷ (flat_map group_items h.after ++ Ended ∷ []))) → item ≡ Ended
    by (inl x) =
        absurd (let f : split_stage_after n (Inside o closed head cur) (GroupClosed h.foot) ≡ Over =
        sym (ap (split_stage_after n (Inside o closed head cur)) x.1) ∙ e in cc f)
    by (inr t) =
        inside ((total_in closed + length cur + 1) == n) t.0 (sym (ap (split_stage_after n (Inside o closed head cur)) t.3) ∙ e)
over_after limits n v whole Over item rest h e = absurd (let none : item ∷ rest ≡ [] = h.0 in cc)

-- something is left before it
pub more_left : (limits : Limits) (n : ℕ) (v : TransmissionValue) (whole : List TransmissionValue) (stage : SplitStage)
    (item : Item) (rest : List Item) → Remains limits n v whole stage (item ∷ rest) → stage ≢ Over
more_left limits n v whole stage item rest h e =
    absurd (let left = subst (λ (p : SplitStage). Remains limits n v whole p (item ∷ rest)) e h in let none : item ∷ rest ≡ [] =
    left.0 in cc none)

-- the parts that are whole are the first ones
pub first_parts : (limits : Limits) (n : ℕ) (v : TransmissionValue) (whole : List TransmissionValue) (stage : SplitStage)
    (rest : List Item) → Remains limits n v whole stage rest → (more : List TransmissionValue) × (split_of n v ≡ whole ++ more)
first_parts limits n v whole Start rest h = (split_of n v, ap (λ (l : List TransmissionValue). l ++ split_of n v) (sym h.1))
first_parts limits n v whole (Between o closed) rest h = (_, h.split)
first_parts limits n v whole (Inside o closed head cur) rest h = (_, h.split)
first_parts limits n v whole Over rest h = ([], h.1 ∙ sym (append-nil whole))

-- the open part is not full
pub few_open : (limits : Limits) (n : ℕ) (v : TransmissionValue) (whole : List TransmissionValue) (stage : SplitStage)
    (rest : List Item) → 0 < n → Remains limits n v whole stage rest → open_total stage < n
few_open limits n v whole Start rest some h = some
few_open limits n v whole (Between o closed) rest some h = h.few
few_open limits n v whole (Inside o closed head cur) rest some h = h.few
few_open limits n v whole Over rest some h = some

pub counted_at : (n : ℕ) (stage : SplitStage) (report : SplitReport) → stage ≢ Over → HasCounted stage n report
    → report.outputs * n + open_total stage ≡ report.transactions
counted_at n Start report other h = h
counted_at n (Between o closed) report other h = h
counted_at n (Inside o closed head cur) report other h = h
counted_at n Over report other h = absurd (other refl)

-- nothing is left only at the end
pub is_over : (limits : Limits) (n : ℕ) (v : TransmissionValue) (whole : List TransmissionValue) (stage : SplitStage)
    → Remains limits n v whole stage [] → stage ≡ Over
is_over limits n v whole Start h =
    absurd (let none : [] ≡ Opened v.opening ∷ (flat_map group_items v.groups ++ Ended ∷ []) = h.0 in cc none)
is_over limits n v whole (Between o closed) h = by h.after h.rest_is
  where
    by : (after : List GroupValue) → [] ≡ flat_map group_items after ++ Ended ∷ [] → Between o closed ≡ Over
    by [] e = absurd (cc e)
    by (g ∷ gs) e =
        absurd (let f : [] ≡ GroupOpened g.head
        ∷ (((map Transaction g.transactions ++ GroupClosed g.foot ∷ []) ++ flat_map group_items gs) ++ Ended ∷ []) = e in cc f)
is_over limits n v whole (Inside o closed head cur) h = by h.todo h.rest_is
  where
    by : (todo : List (List RecordValue))
        → [] ≡ map Transaction todo ++ GroupClosed h.foot ∷ (flat_map group_items h.after ++ Ended ∷ [])
        → Inside o closed head cur ≡ Over
    by [] e = absurd (cc e)
    by (t ∷ ts) e =
        absurd (let f : []
        ≡ Transaction t ∷ (map Transaction ts ++ GroupClosed h.foot ∷ (flat_map group_items h.after ++ Ended ∷ [])) = e in cc f)
is_over limits n v whole Over h = refl

-- and then all parts are whole
pub at_end : (limits : Limits) (n : ℕ) (v : TransmissionValue) (whole : List TransmissionValue) (stage : SplitStage)
    → Remains limits n v whole stage [] → split_of n v ≡ whole
at_end limits n v whole stage h =
    (subst (λ (p : SplitStage). Remains limits n v whole p []) (is_over limits n v whole stage h) h).1

-- ---- texts

pub adds_more : (old mid new : Option (List (List ℕ))) (xs ys : List (List ℕ)) → AddsTexts old mid xs → AddsTexts mid new ys
    → AddsTexts old new (xs ++ ys)
adds_more None mid new xs ys h k = tt
adds_more (Some texts) None new xs ys h k = absurd h
adds_more (Some texts) (Some later) None xs ys h k = absurd k
adds_more (Some texts) (Some later) (Some now) xs ys h k = k ∙ ap (λ (l : List (List ℕ)). l ++ ys) h ∙ append_assoc texts xs ys

adds_same : (old new after : Option (List (List ℕ))) (xs : List (List ℕ)) → after ≡ new → AddsTexts old new xs
    → AddsTexts old after xs
adds_same old new after xs e h = subst (λ (o : Option (List (List ℕ))). AddsTexts old o xs) (sym e) h

pub adds_nothing : (old : Option (List (List ℕ))) → AddsTexts old old []
adds_nothing None = tt
adds_nothing (Some texts) = sym (append-nil texts)
