-- Laws over what is selected: just what is chosen, with the rest all, and of what was selected all.
use Rattle.std.proofs.Common.{◌≡◌, ℕ, ◌+◌, ◌<◌, Bool, true, false, not, cond, List, [], ◌∷◌, ◌++◌, length, map, Option, Some, None}
use Rattle.std.proofs.Common.{refl, sym, ap, ap₂, subst, ◌∙◌, arith, inl, inr, append-nil}
use Rattle.std.specs.Prelude.{filter, option_map, if◌then◌else◌}
use Rattle.std.specs.List.{AllByRecursion, enumerate_from}
use Rattle.std.specs.Option.{option_map_or}
use Rattle.std.proofs.lemmas.Bool.{eq-eqb, lt-ltb}
use Rattle.std.proofs.lemmas.List.{map-append}
use Rattle.std.proofs.lemmas.List.Elements.{filter-append}
use Rattle.cwr_lines.specs.Format.Records.{RecordValue, blank_record}
use Rattle.cwr_fields.specs.declared.kinds.Kind.TheVariants as kinds
use Rattle.cwr_shape.specs.declared.limits.Limits.{Limits}
use Rattle.cwr_values.specs.Format.Values.{GroupValue, TransmissionValue, FitsIn, IsGroup, IsTransmission}
use Rattle.cwr_values.specs.Format.Rows.{canonical_text}
use Rattle.cwr_judge.specs.Format.Ends.{IsAccepted}
use Rattle.cwr_judge.proofs.lemmas.Accepted.{canonical_accepted}
use Rattle.cwr_select.specs.declared.changes.Changes.{Changes}
use Rattle.cwr_select.specs.Format.Created.{created_at}
use Rattle.cwr_select.specs.Format.Sent.{sent, sent_as}
use Rattle.cwr_select.specs.Format.Selections.{Choice, selected, selected_foot, selected_group, selected_groups}
use Rattle.cwr_select.specs.Format.Selections.{selected_transactions, with_groups}
use Rattle.cwr_select.specs.Format.Laws.{IsMerge, Placed, others, placed_in, selected_of, transactions_of}
use Rattle.cwr_select.proofs.lemmas.CreatedItems.{created_fits, created_right}
use Rattle.cwr_select.proofs.lemmas.SentWorks.{sent_fits, sent_right}
use Rattle.cwr_select.proofs.lemmas.SelectedFits.{any_group, each_group, selected_fits, some_of}
use Rattle.cwr_select.proofs.lemmas.SelectedItems.{group_first, group_later, has_some, none_in, selected_first, selected_later}

-- ---- what is selected is accepted

pub selection_accepted : (limits : Limits) (changes : Changes) (choice : Choice) (v w : TransmissionValue) → IsTransmission v
    → FitsIn limits v → sent changes choice v ≡ Some w
    → IsTransmission w × FitsIn limits w × IsAccepted limits (canonical_text w) w (length (canonical_text w))
selection_accepted limits changes choice v w whole fits e = by (selected choice made) refl
  where
    made : TransmissionValue
    made = created_at changes.created v

    accepted : (x : TransmissionValue) → IsTransmission x → FitsIn limits x
        → IsTransmission x × FitsIn limits x × IsAccepted limits (canonical_text x) x (length (canonical_text x))
    accepted x right within = (
      right,
      within,
      subst (λ (text : List ℕ). IsAccepted limits text x (length (canonical_text x))) (append-nil (canonical_text x))
          (canonical_accepted limits x [] right within),
    )

    by : (o : Option TransmissionValue) → selected choice made ≡ o
        → IsTransmission w × FitsIn limits w × IsAccepted limits (canonical_text w) w (length (canonical_text w))
    by None none = absurd (cc (sym (ap (option_map (sent_as changes.works)) none) ∙ e))
    by (Some x) some =
        let right =
        selected_fits limits choice made x (created_right changes.created v whole) (created_fits limits changes.created v fits)
        some in
        let same : sent_as changes.works x ≡ w = cc (sym (ap (option_map (sent_as changes.works)) some) ∙ e) in
        subst (λ (y : TransmissionValue). IsTransmission y × FitsIn limits y
        × IsAccepted limits (canonical_text y) y (length (canonical_text y))) same
        (accepted (sent_as changes.works x) (sent_right changes.works x right.0) (sent_fits limits changes.works x right.1))

-- ---- just what is chosen

-- a transaction under its group's GRH
abbrev Headed : Type 0
Headed = RecordValue × List RecordValue

abbrev headed : Placed → Headed
headed p = (p.2, p.3)

abbrev is_chosen : Choice → Placed → Bool
is_chosen choice p = choice p.0 p.1 p.3

abbrev chosen : Choice → List Placed → List Headed
chosen choice ps = map headed (filter (is_chosen choice) ps)

abbrev in_group : ℕ → RecordValue → ℕ → List (List RecordValue) → List Placed
in_group n head k ts = map (λ t. (n, t.0, head, t.1)) (enumerate_from k ts)

chosen_append : (choice : Choice) (ps qs : List Placed) → chosen choice (ps ++ qs) ≡ chosen choice ps ++ chosen choice qs
chosen_append choice ps qs =
    ap (map headed) (filter-append (is_chosen choice) ps qs)
    ∙ map-append headed (filter (is_chosen choice) ps) (filter (is_chosen choice) qs)

chosen_in_group : (choice : Choice) (n : ℕ) (head : RecordValue) (k : ℕ) (ts : List (List RecordValue))
    → map (λ t. (head, t)) (selected_transactions (choice n) k ts) ≡ chosen choice (in_group n head k ts)
chosen_in_group choice n head k [] = refl
chosen_in_group choice n head k (t ∷ ts) = by (choice n k t) refl (chosen_in_group choice n head (k + 1) ts)
  where
    rest : List Placed
    rest = in_group n head (k + 1) ts

    pair : List RecordValue → Headed
    pair u = (head, u)

    by : (b : Bool) → choice n k t ≡ b
        → map pair (selected_transactions (choice n) (k + 1) ts) ≡ chosen choice rest
        → map pair (selected_transactions (choice n) k (t ∷ ts)) ≡ chosen choice (in_group n head k (t ∷ ts))
    by true e same =
        ap (map pair) (selected_first (choice n) k t ts e) ∙ ap (λ (l : List Headed). (head, t) ∷ l) same
        ∙ sym (ap (λ (b : Bool). map headed (cond b ((n, k, head, t) ∷ filter (is_chosen choice) rest)
        (filter (is_chosen choice) rest))) e)
    by false e same =
        ap (map pair) (selected_later (choice n) k t ts e) ∙ same
        ∙ sym (ap (λ (b : Bool). map headed (cond b ((n, k, head, t) ∷ filter (is_chosen choice) rest)
        (filter (is_chosen choice) rest))) e)

chosen_in_groups : (choice : Choice) (n : ℕ) (gs : List GroupValue)
    → transactions_of (selected_groups choice n gs) ≡ chosen choice (placed_in n gs)
chosen_in_groups choice n [] = refl
chosen_in_groups choice n (g ∷ gs) = by (has_some one) refl (chosen_in_groups choice (n + 1) gs)
  where
    one : GroupValue
    one = selected_group choice n g

    own : map (λ t. (g.head, t)) one.transactions ≡ chosen choice (in_group n g.head 0 g.transactions)
    own = chosen_in_group choice n g.head 0 g.transactions

    by : (b : Bool) → has_some one ≡ b
        → transactions_of (selected_groups choice (n + 1) gs) ≡ chosen choice (placed_in (n + 1) gs)
        → transactions_of (selected_groups choice n (g ∷ gs)) ≡ chosen choice (placed_in n (g ∷ gs))
    by true e same =
        ap transactions_of (group_first choice n g gs e) ∙ ap₂ (λ (l m : List Headed). l ++ m) own same
        ∙ sym (chosen_append choice (in_group n g.head 0 g.transactions) (placed_in (n + 1) gs))
    by false e same =
        let none : chosen choice (in_group n g.head 0 g.transactions) ≡ [] =
        sym own ∙ ap (map (λ (t : List RecordValue). (g.head, t))) (none_in one.transactions e) in
        ap transactions_of (group_later choice n g gs e) ∙ same
        ∙ sym (ap (λ (l : List Headed). l ++ chosen choice (placed_in (n + 1) gs)) none)
        ∙ sym (chosen_append choice (in_group n g.head 0 g.transactions) (placed_in (n + 1) gs))

of_groups : (opening : RecordValue) (gs : List GroupValue)
    → option_map_or (λ (w : TransmissionValue). transactions_of w.groups) (with_groups opening gs) [] ≡ transactions_of gs
of_groups opening [] = refl
of_groups opening (g ∷ gs) = refl

pub chosen_selected : (choice : Choice) (v : TransmissionValue)
    → selected_of choice v ≡ map (λ p. (p.2, p.3)) (filter (λ p. choice p.0 p.1 p.3) (placed_in 1 v.groups))
chosen_selected choice v =
    of_groups v.opening (selected_groups choice 1 v.groups) ∙ chosen_in_groups choice 1 v.groups

-- ---- with the rest all

merged : {X Y : Type 0} (f : X → Y) (test : X → Bool) (xs : List X)
    → IsMerge (map f xs) (map f (filter test xs)) (map f (filter (λ x. not (test x)) xs))
merged f test [] = (refl, refl)
merged {X = X} {Y = Y} f test (x ∷ xs) = by (test x) refl (merged f test xs)
  where
    is : List X
    is = filter test xs

    isnt : List X
    isnt = filter (λ y. not (test y)) xs

    by : (b : Bool) → test x ≡ b → IsMerge (map f xs) (map f is) (map f isnt)
        → IsMerge (f x ∷ map f xs) (map f (cond (test x) (x ∷ is) is)) (map f (cond (not (test x)) (x ∷ isnt) isnt))
    by true e m = inl (
      map f is,
      ap (λ (b : Bool). map f (cond b (x ∷ is) is)) e,
      subst (λ (l : List X). IsMerge (map f xs) (map f is) (map f l))
          (sym (ap (λ (b : Bool). cond (not b) (x ∷ isnt) isnt) e)) m,
    )
    by false e m = inr (
      map f isnt,
      ap (λ (b : Bool). map f (cond (not b) (x ∷ isnt) isnt)) e,
      subst (λ (l : List X). IsMerge (map f xs) (map f l) (map f isnt)) (sym (ap (λ (b : Bool). cond b (x ∷ is) is) e)) m,
    )

all_in_group : (n : ℕ) (head : RecordValue) (k : ℕ) (ts : List (List RecordValue))
    → map (λ t. (head, t)) ts ≡ map headed (in_group n head k ts)
all_in_group n head k [] = refl
all_in_group n head k (t ∷ ts) = ap (λ (l : List Headed). (head, t) ∷ l) (all_in_group n head (k + 1) ts)

all_placed : (n : ℕ) (gs : List GroupValue) → transactions_of gs ≡ map headed (placed_in n gs)
all_placed n [] = refl
all_placed n (g ∷ gs) =
    ap₂ (λ (l m : List Headed). l ++ m) (all_in_group n g.head 0 g.transactions) (all_placed (n + 1) gs)
    ∙ sym (map-append headed (in_group n g.head 0 g.transactions) (placed_in (n + 1) gs))

pub others_rest : (choice : Choice) (v : TransmissionValue)
    → IsMerge (transactions_of v.groups) (selected_of choice v) (selected_of (others choice) v)
others_rest choice v =
    let ps : List Placed = placed_in 1 v.groups in
    subst (λ (l : List Headed). IsMerge l (selected_of choice v) (selected_of (others choice) v)) (sym (all_placed 1 v.groups))
    (subst (λ (l : List Headed). IsMerge (map headed ps) l (selected_of (others choice) v)) (sym (chosen_selected choice v))
    (subst (λ (l : List Headed). IsMerge (map headed ps) (chosen choice ps) l) (sym (chosen_selected (others choice) v))
    (merged headed (is_chosen choice) ps)))

-- ---- all

-- whatever its place, the transaction is chosen
abbrev IsChosen : Choice → List RecordValue → Type 0
IsChosen choice t = (group place : ℕ) → choice group place t ≡ true

same_transactions : (choice : Choice) (n k : ℕ) (ts : List (List RecordValue)) → AllByRecursion (IsChosen choice) ts
    → selected_transactions (choice n) k ts ≡ ts
same_transactions choice n k [] h = refl
same_transactions choice n k (t ∷ ts) h =
    selected_first (choice n) k t ts (h.0 n k)
    ∙ ap (λ (l : List (List RecordValue)). t ∷ l) (same_transactions choice n (k + 1) ts h.1)

same_group : (choice : Choice) (n : ℕ) (g : GroupValue) → AllByRecursion (IsChosen choice) g.transactions
    → selected_group choice n g ≡ g
same_group choice n g h =
    let all = same_transactions choice n 0 g.transactions h in
    let foot : selected_foot g.foot (length (selected_transactions (choice n) 0 g.transactions)) (length g.transactions)
    ≡ g.foot =
    ap (λ (l : List (List RecordValue)). selected_foot g.foot (length l) (length g.transactions)) all
    ∙ ap (λ (b : Bool). if b then g.foot else blank_record kinds.Grt)
    (eq-eqb (length g.transactions) (length g.transactions) refl) in
    λ i. record { head = g.head; transactions = all i; foot = foot i }

-- a group that has a transaction, of which each is chosen
abbrev AreChosen : Choice → GroupValue → Type 0
AreChosen choice g = (0 < length g.transactions) × AllByRecursion (IsChosen choice) g.transactions

same_groups : (choice : Choice) (n : ℕ) (gs : List GroupValue) → AllByRecursion (AreChosen choice) gs
    → selected_groups choice n gs ≡ gs
same_groups choice n [] h = refl
same_groups choice n (g ∷ gs) h =
    let same = same_group choice n g h.0.1 in
    let some : has_some (selected_group choice n g) ≡ true =
    ap has_some same ∙ lt-ltb 0 (length g.transactions) h.0.0 in
    group_first choice n g gs some
    ∙ ap₂ (λ (x : GroupValue) (l : List GroupValue). x ∷ l) same (same_groups choice (n + 1) gs h.1)

same_whole : (choice : Choice) (v : TransmissionValue) → 0 < length v.groups → AllByRecursion (AreChosen choice) v.groups
    → selected choice v ≡ Some v
same_whole choice v some h = ap (with_groups v.opening) (same_groups choice 1 v.groups h) ∙ by v.groups refl some
  where
    by : (gs : List GroupValue) → gs ≡ v.groups → 0 < length gs → with_groups v.opening gs ≡ Some v
    by [] e more = absurd (omega (arith, more))
    by (g ∷ gs) e more =
        let one : record { opening = v.opening; groups = g ∷ gs } ≡ v = λ i. record { opening = v.opening; groups = e i } in
        ap Some one

each_chosen : (choice : Choice) (ts : List (List RecordValue)) → ((group place : ℕ) (t : List RecordValue)
    → choice group place t ≡ true) → AllByRecursion (IsChosen choice) ts
each_chosen choice [] all = tt
each_chosen choice (t ∷ ts) all = ((λ group place. all group place t), each_chosen choice ts all)

groups_chosen : (choice : Choice) (gs : List GroupValue) → ((group place : ℕ) (t : List RecordValue)
    → choice group place t ≡ true) → AllByRecursion IsGroup gs → AllByRecursion (AreChosen choice) gs
groups_chosen choice [] all h = tt
groups_chosen choice (g ∷ gs) all h =
    ((h.0.some_transaction, each_chosen choice g.transactions all), groups_chosen choice gs all h.1)

pub all_selected : (choice : Choice) (v : TransmissionValue) → IsTransmission v
    → ((group place : ℕ) (t : List RecordValue) → choice group place t ≡ true) → selected choice v ≡ Some v
all_selected choice v whole all =
    same_whole choice v whole.some_group (groups_chosen choice v.groups all whole.each)

-- ---- twice

-- a choice by the records alone
abbrev by_records : (List RecordValue → Bool) → Choice
by_records test group place t = test t

each_kept : (test : List RecordValue → Bool) (k : ℕ) (ts : List (List RecordValue))
    → AllByRecursion (IsChosen (by_records test)) (selected_transactions (λ place t. test t) k ts)
each_kept test k [] = tt
each_kept test k (t ∷ ts) = by (test t) refl (each_kept test (k + 1) ts)
  where
    own : ℕ → List RecordValue → Bool
    own place u = test u

    by : (b : Bool) → test t ≡ b → AllByRecursion (IsChosen (by_records test)) (selected_transactions own (k + 1) ts)
        → AllByRecursion (IsChosen (by_records test)) (selected_transactions own k (t ∷ ts))
    by true e rest =
        subst (AllByRecursion (IsChosen (by_records test))) (sym (selected_first own k t ts e)) ((λ group place. e), rest)
    by false e rest = subst (AllByRecursion (IsChosen (by_records test))) (sym (selected_later own k t ts e)) rest

kept_chosen : (test : List RecordValue → Bool) (n : ℕ) (gs : List GroupValue)
    → AllByRecursion (AreChosen (by_records test)) (selected_groups (by_records test) n gs)
kept_chosen test n gs =
    each_group (λ g. Unit {0}) (AreChosen (by_records test)) (by_records test) n gs
    (λ m g h some. (some_of (length (selected_group (by_records test) m g).transactions) some, each_kept test 0 g.transactions))
    (any_group gs)

pub twice_once : (test : List RecordValue → Bool) (v w : TransmissionValue) → selected (λ group place t. test t) v ≡ Some w
    → selected (λ group place t. test t) w ≡ Some w
twice_once test v w e = by (selected_groups (by_records test) 1 v.groups) e (kept_chosen test 1 v.groups)
  where
    by : (gs : List GroupValue) → with_groups v.opening gs ≡ Some w → AllByRecursion (AreChosen (by_records test)) gs
        → selected (by_records test) w ≡ Some w
    by [] some each = absurd (cc)
    by (g ∷ gs) some each =
        let one : TransmissionValue = record { opening = v.opening; groups = g ∷ gs } in
        let same : one ≡ w = cc in
        subst (λ (x : TransmissionValue). selected (by_records test) x ≡ Some x) same
        (same_whole (by_records test) one (omega arith) each)
