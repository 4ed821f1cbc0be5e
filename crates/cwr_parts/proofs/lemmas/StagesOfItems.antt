-- The stage that an item comes at in a split.
use Rattle.std.proofs.Common.{◌≡◌, ℕ, inl, inr, List, [], ◌∷◌, ◌++◌, map, Option, Some, None, refl, sym, subst, append-nil}
use Rattle.std.specs.Prelude.{◌⊎◌, flat_map}
use Rattle.cwr_lines.specs.Format.Records.{RecordValue}
use Rattle.cwr_shape.specs.declared.limits.Limits.{Limits}
use Rattle.cwr_values.specs.declared.items.Item.{Item}
use Rattle.cwr_values.specs.declared.items.Item.TheVariants.{Opened, GroupOpened, Transaction, GroupClosed, Ended}
use Rattle.cwr_values.specs.Format.Values.{GroupValue, TransmissionValue}
use Rattle.cwr_judge.specs.Format.Items.{group_items}
use Rattle.cwr_devices.specs.Format.Outputs.{AddsTexts}
use Rattle.cwr_parts.specs.Steps.SplitStages.{SplitStage, Remains, RemainsBetween, RemainsInside, Between, Inside, Over, Start}
use Rattle.cwr_parts.specs.Steps.SplitStages.{with_group}
use Rattle.cwr_parts.proofs.lemmas.StagesLeft.{after_foot, next_between, next_inside}

-- ---- the stage of an item

-- what an item says of the stage that it comes at
abbrev pub AtItem : Limits → ℕ → TransmissionValue → List TransmissionValue → Item → List Item → SplitStage → Type 0
AtItem limits n v whole (Opened r) rest stage = stage ≡ Start
AtItem limits n v whole (GroupOpened r) rest stage = (o : RecordValue) × (closed : List GroupValue) × (stage ≡ Between o closed)
AtItem limits n v whole (Transaction t) rest stage =
    (o : RecordValue) × (closed : List GroupValue) × (h : RecordValue) × (cur : List (List RecordValue))
    × (stage ≡ Inside o closed h cur)
    × (p : RemainsInside limits n v whole o closed h cur (Transaction t ∷ rest)) × (ts : List (List RecordValue))
    × (p.todo ≡ t ∷ ts)
AtItem limits n v whole (GroupClosed r) rest stage =
    (o : RecordValue) × (closed : List GroupValue) × (h : RecordValue) × (cur : List (List RecordValue))
    × (stage ≡ Inside o closed h cur)
    × RemainsBetween limits n v whole o (with_group closed h cur) rest
AtItem limits n v whole Ended rest stage =
    (o : RecordValue) × (closed : List GroupValue) × (stage ≡ Between o closed)
    × RemainsBetween limits n v whole o closed (Ended ∷ rest)

pub at_item : (limits : Limits) (n : ℕ) (v : TransmissionValue) (whole : List TransmissionValue) (stage : SplitStage)
    (item : Item) (rest : List Item) → Remains limits n v whole stage (item ∷ rest) → AtItem limits n v whole item rest stage
at_item limits n v whole Start item rest h =
    let is : item ≡ Opened v.opening =
    (let all : item ∷ rest ≡ Opened v.opening ∷ (flat_map group_items v.groups ++ Ended ∷ []) = h.0 in cc) in
    subst (λ (i : Item). AtItem limits n v whole i rest Start) (sym is) refl
at_item limits n v whole (Between o closed) item rest h = by (next_between h.after item rest h.rest_is)
  where
    by : ((h.after ≡ []) × (item ≡ Ended) × (rest ≡ [])) ⊎ ((g : GroupValue) × (gs : List GroupValue) × (h.after ≡ g ∷ gs)
        × (item ≡ GroupOpened g.head)
        × (rest ≡ map Transaction g.transactions ++ GroupClosed g.foot ∷ (flat_map group_items gs ++ Ended ∷ [])))
        → AtItem limits n v whole item rest (Between o closed)
    by (inl e) =
        subst
        (λ (i : Item). RemainsBetween limits n v whole o closed (i ∷ rest) → AtItem limits n v whole i rest (Between o closed))
        (sym e.1) (λ p. (o, closed, refl, p)) h
    by (inr g) = subst (λ (i : Item). AtItem limits n v whole i rest (Between o closed)) (sym g.3) (o, closed, refl)
at_item limits n v whole (Inside o closed head cur) item rest h =
    by (next_inside h.todo h.foot (flat_map group_items h.after ++ Ended ∷ []) item rest h.rest_is)
  where
    by : ((h.todo ≡ []) × (item ≡ GroupClosed h.foot) × (rest ≡ flat_map group_items h.after ++ Ended ∷ []))
        ⊎ ((t : List RecordValue) × (ts : List (List RecordValue)) × (h.todo ≡ t ∷ ts) × (item ≡ Transaction t)
        × (rest ≡ map Transaction ts ++ GroupClosed h.foot ∷ (flat_map group_items h.after ++ Ended ∷ [])))
        → AtItem limits n v whole item rest (Inside o closed head cur)
    by (inl e) = subst (λ (i : Item). AtItem limits n v whole i rest (Inside o closed head cur)) (sym e.1)
        (o, closed, head, cur, refl, after_foot limits n v whole o closed head cur item rest h e.0 e.2)
    by (inr t) =
        subst (λ (i : Item). (p : RemainsInside limits n v whole o closed head cur (i ∷ rest)) → p.todo ≡ t.0 ∷ t.1
        → AtItem limits n v whole i rest (Inside o closed head cur)) (sym t.3)
        (λ p e. (o, closed, head, cur, refl, p, t.1, e)) h t.2
at_item limits n v whole Over item rest h = absurd (let none : item ∷ rest ≡ [] = h.0 in cc)

-- ---- what is there already

pub adds_none : (old new : Option (List (List ℕ))) → new ≡ old → AddsTexts old new []
adds_none None new e = tt
adds_none (Some texts) new e =
    subst (λ (o : Option (List (List ℕ))). AddsTexts (Some texts) o []) (sym e) (sym (append-nil texts))
