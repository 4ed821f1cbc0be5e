-- What is left of a transmission that is split, after one item more.
use Rattle.std.proofs.Common.{◌≡◌, ℕ, ◌+◌, ◌<◌, Bool, inl, inr, List, [], ◌∷◌, ◌++◌, length, map, refl, sym, ap, ap₂, subst, ◌∙◌}
use Rattle.std.proofs.Common.{append_assoc, append-nil, arith}
use Rattle.std.specs.Prelude.{◌==◌, ◌⊎◌, ◌≢◌, flat_map, if◌then◌else◌}
use Rattle.std.specs.List.{AllByRecursion}
use Rattle.std.proofs.lemmas.Bool.Decides.{eqb_tells}
use Rattle.std.proofs.lemmas.List.{length-append, map-append}
use Rattle.std.proofs.lemmas.List.Sums.{sum_by-append}
use Rattle.cwr_fields.specs.declared.kinds.Kind.TheVariants as kinds
use Rattle.cwr_lines.specs.Format.Records.{RecordValue, blank_record}
use Rattle.cwr_lines.proofs.lemmas.RecordTest.{record_sound}
use Rattle.cwr_fields.proofs.lemmas.CellTests as tests
use Rattle.cwr_shape.specs.Format.Outlines.{GroupOutline, IsWithin}
use Rattle.cwr_shape.specs.declared.limits.Limits.{Limits}
use Rattle.cwr_values.specs.declared.items.Item.{Item}
use Rattle.cwr_values.specs.declared.items.Item.TheVariants.{Opened, GroupOpened, Transaction, GroupClosed, Ended}
use Rattle.cwr_values.specs.Format.Values.{GroupValue, TransmissionValue, FitsIn, IsGroup, IsRecordOf, IsTransmission}
use Rattle.cwr_values.specs.Format.Values.{IsTransaction, type_of, outline_of_group}
use Rattle.cwr_judge.specs.Format.Items.{group_items, value_items}
use Rattle.cwr_parts.specs.Format.Splits.{split_of}
use Rattle.cwr_parts.specs.Steps.SplitStages.{ArePartGroups, SplitStage, Remains, RemainsBetween, RemainsInside, Between, Inside}
use Rattle.cwr_parts.specs.Steps.SplitStages.{Over, Start, group_value, last_of, part_group, parts_at, parts_in}
use Rattle.cwr_parts.specs.Steps.SplitStages.{split_stage_after, stage_in, total_in, value_of, with_group}
use Rattle.cwr_parts.proofs.lemmas.FrontsFit.{fits_back, fits_front, fits_rest}
use Rattle.cwr_parts.proofs.lemmas.SplitParts.{any_foot, empty_group, first_part, last_part, no_part}

blank_grt : IsRecordOf kinds.Grt (blank_record kinds.Grt)
unfolding tests.holds_test
blank_grt = (refl, record_sound (blank_record kinds.Grt) refl)

-- ---- the next item

-- between groups
pub next_between : (after : List GroupValue) (item : Item) (rest : List Item)
    → item ∷ rest ≡ flat_map group_items after ++ Ended ∷ []
    → ((after ≡ []) × (item ≡ Ended) × (rest ≡ [])) ⊎ ((g : GroupValue) × (gs : List GroupValue) × (after ≡ g ∷ gs)
    × (item ≡ GroupOpened g.head)
    × (rest ≡ map Transaction g.transactions ++ GroupClosed g.foot ∷ (flat_map group_items gs ++ Ended ∷ [])))
next_between [] item rest e = inl (refl, (cc), (cc))
next_between (g ∷ gs) item rest e =
    let ts : List Item = map Transaction g.transactions in
    let left : List Item = (ts ++ GroupClosed g.foot ∷ []) ++ flat_map group_items gs ++ Ended ∷ [] in
    let f : item ∷ rest ≡ GroupOpened g.head ∷ left = e in
    let same : rest ≡ left = (cc) in
    inr (
      g,
      gs,
      refl,
      (cc),
      same ∙ append_assoc (ts ++ GroupClosed g.foot ∷ []) (flat_map group_items gs) (Ended ∷ [])
          ∙ append_assoc ts (GroupClosed g.foot ∷ []) (flat_map group_items gs ++ Ended ∷ []),
    )

-- in a group
pub next_inside : (todo : List (List RecordValue)) (f : RecordValue) (later : List Item) (item : Item) (rest : List Item)
    → item ∷ rest ≡ map Transaction todo ++ GroupClosed f ∷ later
    → ((todo ≡ []) × (item ≡ GroupClosed f) × (rest ≡ later)) ⊎ ((t : List RecordValue) × (ts : List (List RecordValue))
    × (todo ≡ t ∷ ts) × (item ≡ Transaction t) × (rest ≡ map Transaction ts ++ GroupClosed f ∷ later))
next_inside [] f later item rest e = inl (refl, (cc), (cc))
next_inside (t ∷ ts) f later item rest e = inr (t, ts, refl, (cc), (cc))

-- ---- HDR

pub opened : (limits : Limits) (n : ℕ) (v : TransmissionValue) (rest : List Item) → 0 < n → IsTransmission v → FitsIn limits v
    → rest ≡ flat_map group_items v.groups ++ Ended ∷ [] → RemainsBetween limits n v [] v.opening [] rest
opened limits n v rest some h fits e = record {
  after = v.groups;
  rest_is = e;
  opening = h.opening;
  right = tt;
  right_after = h.each;
  part = tt;
  few = some;
  within = fits;
  split = refl;
}

-- ---- GRH

pub entered : (limits : Limits) (n : ℕ) (v : TransmissionValue) (whole : List TransmissionValue) (o : RecordValue)
    (closed : List GroupValue) (item : Item) (rest : List Item) (p : RemainsBetween limits n v whole o closed (item ∷ rest))
    (g : GroupValue) (gs : List GroupValue)
    → p.after ≡ g ∷ gs → rest ≡ map Transaction g.transactions ++ GroupClosed g.foot ∷ (flat_map group_items gs ++ Ended ∷ [])
    → RemainsInside limits n v whole o closed g.head [] rest
entered limits n v whole o closed item rest p g gs e f =
    let right = subst (AllByRecursion IsGroup) e p.right_after in
    record {
      todo = g.transactions;
      foot = g.foot;
      after = gs;
      rest_is = f;
      opening = p.opening;
      right = p.right;
      head = right.0.head;
      each = right.0.each;
      some = inr right.0.some_transaction;
      right_after = right.1;
      part = p.part;
      few = omega (arith, p.few);
      within = subst (λ (l : List GroupValue). FitsIn limits (value_of o (closed ++ l))) e p.within;
      split = p.split ∙ ap (λ (l : List GroupValue). whole ++ split_of n (value_of o (closed ++ l))) e;
    }

-- ---- a transaction

-- that isn't the last of its part
pub went_on : (limits : Limits) (n : ℕ) (v : TransmissionValue) (whole : List TransmissionValue) (o : RecordValue)
    (closed : List GroupValue) (h : RecordValue) (cur : List (List RecordValue)) (item : Item) (rest : List Item)
    → (p : RemainsInside limits n v whole o closed h cur (item ∷ rest)) (t : List RecordValue) (ts : List (List RecordValue))
    → p.todo ≡ t ∷ ts → rest ≡ map Transaction ts ++ GroupClosed p.foot ∷ (flat_map group_items p.after ++ Ended ∷ [])
    → total_in closed + length cur + 1 ≢ n → RemainsInside limits n v whole o closed h (cur ++ t ∷ []) rest
went_on limits n v whole o closed h cur item rest p t ts e f other =
    let same : cur ++ p.todo ≡ (cur ++ t ∷ []) ++ ts =
    ap (λ (l : List (List RecordValue)). cur ++ l) e ∙ sym (append_assoc cur (t ∷ []) ts) in
    record {
      todo = ts;
      foot = p.foot;
      after = p.after;
      rest_is = f;
      opening = p.opening;
      right = p.right;
      head = p.head;
      each = subst (AllByRecursion (IsTransaction (type_of h))) same p.each;
      some = inr (omega (arith, length-append (cur ++ t ∷ []) ts, length-append cur (t ∷ [])));
      right_after = p.right_after;
      part = p.part;
      few = omega (arith, p.few, other, length-append cur (t ∷ []));
      within =
          subst (λ (l : List (List RecordValue)). FitsIn limits (value_of o (closed ++ group_value h l p.foot ∷ p.after))) same
          p.within;
      split =
          p.split ∙ ap
          (λ (l : List (List RecordValue)). whole ++ split_of n (value_of o (closed ++ group_value h l p.foot ∷ p.after))) same;
    }

each_later : {X : Type 0} (P : X → Type 0) (xs ys : List X) → AllByRecursion P (xs ++ ys) → AllByRecursion P ys
each_later P [] ys k = k
each_later P (x ∷ xs) ys k = each_later P xs ys k.1

each_more : {X : Type 0} (P : X → Type 0) (xs ys : List X) → AllByRecursion P xs → AllByRecursion P ys
    → AllByRecursion P (xs ++ ys)
each_more P [] ys h k = k
each_more P (x ∷ xs) ys h k = (h.0, each_more P xs ys h.1 k)

-- that is the last of its part
pub was_last : (limits : Limits) (n : ℕ) (v : TransmissionValue) (whole : List TransmissionValue) (o : RecordValue)
    (closed : List GroupValue) (h : RecordValue) (cur : List (List RecordValue)) (item : Item) (rest : List Item)
    → (p : RemainsInside limits n v whole o closed h cur (item ∷ rest)) (t : List RecordValue) (ts : List (List RecordValue))
    → p.todo ≡ t ∷ ts → rest ≡ map Transaction ts ++ GroupClosed p.foot ∷ (flat_map group_items p.after ++ Ended ∷ [])
    → 0 < n → total_in closed + length cur + 1 ≡ n
    → RemainsInside limits n v (whole ++ value_of o (closed ++ part_group h (cur ++ t ∷ []) ∷ []) ∷ []) o [] h [] rest
was_last limits n v whole o closed h cur item rest p t ts e f fits full =
    let with_it : List (List RecordValue) = cur ++ t ∷ [] in
    let part : TransmissionValue = value_of o (closed ++ part_group h with_it ∷ []) in
    let left : TransmissionValue = value_of o (group_value h ts p.foot ∷ p.after) in
    let same : cur ++ p.todo ≡ with_it ++ ts =
    ap (λ (l : List (List RecordValue)). cur ++ l) e ∙ sym (append_assoc cur (t ∷ []) ts) in
    record {
      todo = ts;
      foot = p.foot;
      after = p.after;
      rest_is = f;
      opening = p.opening;
      right = tt;
      head = p.head;
      each = each_later (IsTransaction (type_of h)) with_it ts (subst (AllByRecursion (IsTransaction (type_of h))) same p.each);
      some = inl refl;
      right_after = p.right_after;
      part = tt;
      few = omega (arith, fits);
      within =
          fits_back limits o closed p.after h with_it ts p.foot (subst
          (λ (l : List (List RecordValue)). FitsIn limits (value_of o (closed ++ group_value h l p.foot ∷ p.after))) same
          p.within);
      split =
          p.split ∙ ap
          (λ (l : List (List RecordValue)). whole ++ split_of n (value_of o (closed ++ group_value h l p.foot ∷ p.after))) same
          ∙ ap (λ (l : List TransmissionValue). whole ++ l) (first_part n o closed h with_it ts p.foot p.after fits p.part
          (omega (arith, length-append cur (t ∷ []))) (omega (arith, full, length-append cur (t ∷ []))))
          ∙ sym (append_assoc whole (part ∷ []) (split_of n left));
    }

-- ---- GRT

-- no transaction of its group is in the open part
closed_none : (limits : Limits) (n : ℕ) (v : TransmissionValue) (whole : List TransmissionValue) (o : RecordValue)
    (closed : List GroupValue) (h : RecordValue) (item : Item) (rest : List Item)
    → (p : RemainsInside limits n v whole o closed h [] (item ∷ rest)) → p.todo ≡ []
    → rest ≡ flat_map group_items p.after ++ Ended ∷ [] → closed ≡ [] → RemainsBetween limits n v whole o closed rest
closed_none limits n v whole o closed h item rest p e f none =
    let gone : closed ++ group_value h ([] ++ p.todo) p.foot ∷ p.after ≡ group_value h [] p.foot ∷ p.after =
    ap₂ (λ (c : List GroupValue) (l : List (List RecordValue)). c ++ group_value h l p.foot ∷ p.after) none e in
    let fewer : closed ++ p.after ≡ p.after = ap (λ (c : List GroupValue). c ++ p.after) none in
    record {
      after = p.after;
      rest_is = f;
      opening = p.opening;
      right = p.right;
      right_after = p.right_after;
      part = p.part;
      few = omega (arith, p.few);
      within = subst (λ (l : List GroupValue). FitsIn limits (value_of o l)) (sym fewer)
          (fits_rest limits o (group_value h [] p.foot) p.after
          (subst (λ (l : List GroupValue). FitsIn limits (value_of o l)) gone p.within));
      split =
          p.split ∙ ap (λ (l : List GroupValue). whole ++ split_of n (value_of o l)) gone
          ∙ ap (λ (l : List TransmissionValue). whole ++ l) (empty_group n o h p.foot p.after)
          ∙ ap (λ (l : List GroupValue). whole ++ split_of n (value_of o l)) (sym fewer);
    }

outlines_same : (A B : List GroupValue) (h : RecordValue) (ts : List (List RecordValue)) (f e : RecordValue)
    → map outline_of_group (A ++ group_value h ts f ∷ B) ≡ map outline_of_group (A ++ group_value h ts e ∷ B)
outlines_same A B h ts f e =
    map-append outline_of_group A (group_value h ts f ∷ B) ∙ sym (map-append outline_of_group A (group_value h ts e ∷ B))

closed_some : (limits : Limits) (n : ℕ) (v : TransmissionValue) (whole : List TransmissionValue) (o : RecordValue)
    (closed : List GroupValue) (h : RecordValue) (cur : List (List RecordValue)) (item : Item) (rest : List Item)
    → (p : RemainsInside limits n v whole o closed h cur (item ∷ rest)) → p.todo ≡ []
    → rest ≡ flat_map group_items p.after ++ Ended ∷ [] → 0 < length cur
    → RemainsBetween limits n v whole o (closed ++ part_group h cur ∷ []) rest
closed_some limits n v whole o closed h cur item rest p e f some =
    let same : cur ++ p.todo ≡ cur = ap (λ (l : List (List RecordValue)). cur ++ l) e ∙ append-nil cur in
    let joined : closed ++ part_group h cur ∷ p.after ≡ (closed ++ part_group h cur ∷ []) ++ p.after =
    sym (append_assoc closed (part_group h cur ∷ []) p.after) in
    record {
      after = p.after;
      rest_is = f;
      opening = p.opening;
      right =
          each_more IsGroup closed (part_group h cur ∷ []) p.right (
            record {
              head = p.head;
              some_transaction = some;
              each = subst (AllByRecursion (IsTransaction (type_of h))) same p.each;
              foot = blank_grt;
            },
            tt,
          );
      right_after = p.right_after;
      part =
          each_more (λ g. (0 < length g.transactions) × (g.foot ≡ blank_record kinds.Grt)) closed (part_group h cur ∷ []) p.part
          ((some, refl), tt);
      few = omega (arith, p.few, sum_by-append (λ (g : GroupValue). length g.transactions) closed (part_group h cur ∷ []));
      within = subst (λ (l : List GroupValue). FitsIn limits (value_of o l)) joined
          (subst (λ (l : List GroupOutline). IsWithin limits l)
          (outlines_same closed p.after h cur p.foot (blank_record kinds.Grt))
          (subst (λ (l : List (List RecordValue)). FitsIn limits (value_of o (closed ++ group_value h l p.foot ∷ p.after))) same
          p.within));
      split =
          p.split ∙ ap
          (λ (l : List (List RecordValue)). whole ++ split_of n (value_of o (closed ++ group_value h l p.foot ∷ p.after))) same
          ∙ ap (λ (l : List TransmissionValue). whole ++ l) (any_foot n o closed p.after h cur p.foot (blank_record kinds.Grt))
          ∙ ap (λ (l : List GroupValue). whole ++ split_of n (value_of o l)) joined;
    }

-- ---- TRL

last_parts : (n : ℕ) (o : RecordValue) (closed : List GroupValue) → 0 < n → ArePartGroups closed → total_in closed < n
    → split_of n (value_of o closed) ≡ last_of o closed
last_parts n o [] some part few = no_part n o some
last_parts n o (g ∷ gs) some part few =
    last_part n o (g ∷ gs) part (omega (arith, part.0.0, sum_by-append (λ (g : GroupValue). length g.transactions) (g ∷ []) gs))
    (omega (arith, few))

pub ended : (limits : Limits) (n : ℕ) (v : TransmissionValue) (whole : List TransmissionValue) (o : RecordValue)
    (closed : List GroupValue) (item : Item) (rest : List Item) (p : RemainsBetween limits n v whole o closed (item ∷ rest))
    → p.after ≡ [] → 0 < n
    → split_of n v ≡ whole ++ last_of o closed
ended limits n v whole o closed item rest p e some =
    p.split ∙ ap (λ (l : List GroupValue). whole ++ split_of n (value_of o l))
    (ap (λ (l : List GroupValue). closed ++ l) e ∙ append-nil closed)
    ∙ ap (λ (l : List TransmissionValue). whole ++ l) (last_parts n o closed some p.part p.few)

-- ---- any item

no_more : (limits : Limits) (n : ℕ) (v : TransmissionValue) (whole : List TransmissionValue) (p : SplitStage) (rest : List Item)
    → Remains limits n v whole p rest → Remains limits n v (whole ++ []) p rest
no_more limits n v whole p rest h = subst (λ (l : List TransmissionValue). Remains limits n v l p rest) (sym (append-nil whole)) h

pub after_foot : (limits : Limits) (n : ℕ) (v : TransmissionValue) (whole : List TransmissionValue) (o : RecordValue)
    (closed : List GroupValue) (h : RecordValue) (cur : List (List RecordValue)) (item : Item) (rest : List Item)
    → (p : RemainsInside limits n v whole o closed h cur (item ∷ rest)) → p.todo ≡ []
    → rest ≡ flat_map group_items p.after ++ Ended ∷ [] → RemainsBetween limits n v whole o (with_group closed h cur) rest
after_foot limits n v whole o closed h [] item rest p e f = by p.some
  where
    by : (closed ≡ []) ⊎ (0 < length ([] ++ p.todo)) → RemainsBetween limits n v whole o closed rest
    by (inl none) = closed_none limits n v whole o closed h item rest p e f none
    by (inr some) = absurd (omega (arith, some, ap length e))
after_foot limits n v whole o closed h (t ∷ ts) item rest p e f =
    closed_some limits n v whole o closed h (t ∷ ts) item rest p e f (omega arith)

after_transaction : (limits : Limits) (n : ℕ) (v : TransmissionValue) (whole : List TransmissionValue) (o : RecordValue)
    (closed : List GroupValue) (h : RecordValue) (cur : List (List RecordValue)) (item : Item) (rest : List Item)
    → (p : RemainsInside limits n v whole o closed h cur (item ∷ rest)) (t : List RecordValue) (ts : List (List RecordValue))
    → p.todo ≡ t ∷ ts → rest ≡ map Transaction ts ++ GroupClosed p.foot ∷ (flat_map group_items p.after ++ Ended ∷ [])
    → 0 < n → Remains limits n v (whole ++ parts_at n (Inside o closed h cur) (Transaction t))
    (split_stage_after n (Inside o closed h cur) (Transaction t)) rest
after_transaction limits n v whole o closed h cur item rest p t ts e f some =
    let At =
    λ (b : Bool). Remains limits n v
    (whole ++ (if b then value_of o (closed ++ part_group h (cur ++ t ∷ []) ∷ []) ∷ [] else []))
    (if b then Inside o [] h [] else Inside o closed h (cur ++ t ∷ [])) rest in
    elim (eqb_tells (total_in closed + length cur + 1) n) as (λ _. At ((total_in closed + length cur + 1) == n)) [
      | inl y ↦ subst At (sym y.0) (was_last limits n v whole o closed h cur item rest p t ts e f some y.1)
      | inr k ↦ subst At (sym k.0) (no_more limits n v whole (Inside o closed h (cur ++ t ∷ [])) rest
          (went_on limits n v whole o closed h cur item rest p t ts e f k.1))
    ]

pub next_remains : (limits : Limits) (n : ℕ) (v : TransmissionValue) (whole : List TransmissionValue) (stage : SplitStage)
    (item : Item) (rest : List Item) → 0 < n → IsTransmission v → FitsIn limits v → Remains limits n v whole stage (item ∷ rest)
    → Remains limits n v (whole ++ parts_at n stage item) (split_stage_after n stage item) rest
next_remains limits n v whole Start item rest some right fits h =
    let all : item ∷ rest ≡ Opened v.opening ∷ (flat_map group_items v.groups ++ Ended ∷ []) = h.0 in
    let is : item ≡ Opened v.opening = (cc) in
    let left : rest ≡ flat_map group_items v.groups ++ Ended ∷ [] = (cc) in
    subst (λ (i : Item). Remains limits n v (whole ++ parts_at n Start i) (split_stage_after n Start i) rest) (sym is)
    (subst (λ (l : List TransmissionValue). RemainsBetween limits n v l v.opening [] rest) (sym (append-nil whole ∙ h.1))
    (opened limits n v rest some right fits left))
next_remains limits n v whole (Between o closed) item rest some right fits h = by (next_between h.after item rest h.rest_is)
  where
    by : ((h.after ≡ []) × (item ≡ Ended) × (rest ≡ [])) ⊎ ((g : GroupValue) × (gs : List GroupValue) × (h.after ≡ g ∷ gs)
        × (item ≡ GroupOpened g.head)
        × (rest ≡ map Transaction g.transactions ++ GroupClosed g.foot ∷ (flat_map group_items gs ++ Ended ∷ [])))
        → Remains limits n v (whole ++ parts_at n (Between o closed) item) (split_stage_after n (Between o closed) item) rest
    by (inl e) =
        subst (λ (i : Item). Remains limits n v (whole ++ parts_at n (Between o closed) i)
        (split_stage_after n (Between o closed) i) rest) (sym e.1) (e.2, ended limits n v whole o closed item rest h e.0 some)
    by (inr g) =
        subst (λ (i : Item). Remains limits n v (whole ++ parts_at n (Between o closed) i)
        (split_stage_after n (Between o closed) i) rest) (sym g.3)
        (no_more limits n v whole (Inside o closed g.0.head []) rest
        (entered limits n v whole o closed item rest h g.0 g.1 g.2 g.4))
next_remains limits n v whole (Inside o closed head cur) item rest some right fits h =
    by (next_inside h.todo h.foot (flat_map group_items h.after ++ Ended ∷ []) item rest h.rest_is)
  where
    by : ((h.todo ≡ []) × (item ≡ GroupClosed h.foot) × (rest ≡ flat_map group_items h.after ++ Ended ∷ []))
        ⊎ ((t : List RecordValue) × (ts : List (List RecordValue)) × (h.todo ≡ t ∷ ts) × (item ≡ Transaction t)
        × (rest ≡ map Transaction ts ++ GroupClosed h.foot ∷ (flat_map group_items h.after ++ Ended ∷ [])))
        → Remains limits n v (whole ++ parts_at n (Inside o closed head cur) item)
        (split_stage_after n (Inside o closed head cur) item) rest
    by (inl e) =
        subst (λ (i : Item). Remains limits n v (whole ++ parts_at n (Inside o closed head cur) i)
        (split_stage_after n (Inside o closed head cur) i) rest) (sym e.1)
        (no_more limits n v whole (Between o (with_group closed head cur)) rest
        (after_foot limits n v whole o closed head cur item rest h e.0 e.2))
    by (inr t) =
        subst (λ (i : Item). Remains limits n v (whole ++ parts_at n (Inside o closed head cur) i)
        (split_stage_after n (Inside o closed head cur) i) rest) (sym t.3)
        (after_transaction limits n v whole o closed head cur item rest h t.0 t.1 t.2 t.4 some)
next_remains limits n v whole Over item rest some right fits h = absurd (let none : item ∷ rest ≡ [] = h.0 in cc)

-- after any items
remains_on : (limits : Limits) (n : ℕ) (v : TransmissionValue) (whole : List TransmissionValue) (stage : SplitStage)
    (given rest : List Item) → 0 < n → IsTransmission v → FitsIn limits v → Remains limits n v whole stage (given ++ rest)
    → Remains limits n v (whole ++ parts_in n stage given) (stage_in n stage given) rest
remains_on limits n v whole stage [] rest some right fits h = no_more limits n v whole stage rest h
remains_on limits n v whole stage (item ∷ given) rest some right fits h =
    let next = next_remains limits n v whole stage item (given ++ rest) some right fits h in
    let later =
    remains_on limits n v (whole ++ parts_at n stage item) (split_stage_after n stage item) given rest some right fits next in
    subst (λ (l : List TransmissionValue). Remains limits n v l (stage_in n (split_stage_after n stage item) given) rest)
    (append_assoc whole (parts_at n stage item) (parts_in n (split_stage_after n stage item) given)) later

pub remains_after : (limits : Limits) (n : ℕ) (v : TransmissionValue) (given rest : List Item) → 0 < n → IsTransmission v
    → FitsIn limits v → value_items v ≡ given ++ rest → Remains limits n v (parts_in n Start given) (stage_in n Start given) rest
remains_after limits n v given rest some right fits e = remains_on limits n v [] Start given rest some right fits (sym e, refl)

-- ---- the open part, closed

each_first : {X : Type 0} (P : X → Type 0) (xs ys : List X) → AllByRecursion P (xs ++ ys) → AllByRecursion P xs
each_first P [] ys k = tt
each_first P (x ∷ xs) ys k = (k.0, each_first P xs ys k.1)

-- with the next transaction it is a transmission within the limits
pub part_right : (limits : Limits) (n : ℕ) (v : TransmissionValue) (whole : List TransmissionValue) (o : RecordValue)
    (closed : List GroupValue) (h : RecordValue) (cur : List (List RecordValue)) (item : Item) (rest : List Item)
    → (p : RemainsInside limits n v whole o closed h cur (item ∷ rest)) (t : List RecordValue) (ts : List (List RecordValue))
    → p.todo ≡ t ∷ ts
    → IsTransmission (value_of o (closed ++ part_group h (cur ++ t ∷ []) ∷ []))
    × FitsIn limits (value_of o (closed ++ part_group h (cur ++ t ∷ []) ∷ []))
part_right limits n v whole o closed h cur item rest p t ts e =
    let with_it : List (List RecordValue) = cur ++ t ∷ [] in
    let same : cur ++ p.todo ≡ with_it ++ ts =
    ap (λ (l : List (List RecordValue)). cur ++ l) e ∙ sym (append_assoc cur (t ∷ []) ts) in
    let right : IsGroup (part_group h with_it) = record {
      head = p.head;
      some_transaction = omega (arith, length-append cur (t ∷ []));
      each = each_first (IsTransaction (type_of h)) with_it ts (subst (AllByRecursion (IsTransaction (type_of h))) same p.each);
      foot = blank_grt;
    } in (
      record {
        opening = p.opening;
        some_group = omega (arith, length-append closed (part_group h with_it ∷ []));
        each = each_more IsGroup closed (part_group h with_it ∷ []) p.right (right, tt);
      },
      fits_front limits o closed p.after h with_it ts p.foot (blank_record kinds.Grt) (subst
          (λ (l : List (List RecordValue)). FitsIn limits (value_of o (closed ++ group_value h l p.foot ∷ p.after))) same
          p.within),
    )
