-- A transmission that is split: its first part, and those of the rest.
use Rattle.std.proofs.Common.{◌≡◌, ℕ, ◌+◌, ◌<◌, ◌≤◌, Bool, true, false, inl, inr, List, [], ◌∷◌, ◌++◌, length, map, refl, sym, ap}
use Rattle.std.proofs.Common.{ap₂, subst, ◌∙◌, append_assoc, append-nil, arith}
use Rattle.std.specs.Prelude.{◌==◌, ◌⊎◌, cond, filter, flat_map, nat_lt}
use Rattle.std.specs.List.{AllByRecursion, enumerate_from, sum_by}
use Rattle.std.proofs.lemmas.Bool.{eq-eqb, ne_eqb, lt-ltb}
use Rattle.std.proofs.lemmas.Bool.Decides.{eqb_tells}
use Rattle.std.proofs.lemmas.Grind.{flat_map-append}
use Rattle.std.proofs.lemmas.List.{length-append, length-map, map-append}
use Rattle.std.proofs.lemmas.List.Elements.{filter-append}
use Rattle.std.proofs.lemmas.List.Sums.{sum_by-cons, sum_by-append}
use Rattle.cwr_fields.specs.declared.kinds.Kind.TheVariants as kinds
use Rattle.cwr_lines.specs.Format.Records.{RecordValue, blank_record}
use Rattle.cwr_values.specs.Format.Values.{GroupValue, TransmissionValue}
use Rattle.cwr_parts.specs.Format.Splits.{runs, group_part, split_of}
use Rattle.cwr_parts.proofs.lemmas.RunsOfLists.{runs_more, runs_none, runs_last, runs_mapped, map_same, map_twice}

-- a transmission of these groups
abbrev pub of_groups : RecordValue → List GroupValue → TransmissionValue
of_groups o gs = record { opening = o; groups = gs }

-- a group of these
abbrev pub group : RecordValue → List (List RecordValue) → RecordValue → GroupValue
group h ts f = record { head = h; transactions = ts; foot = f }

abbrev blank : RecordValue
blank = blank_record kinds.Grt

-- the groups of a part: each has a transaction and a blank GRT
abbrev pub ArePart : List GroupValue → Type 0
ArePart gs = AllByRecursion (λ g. (0 < length g.transactions) × (g.foot ≡ blank_record kinds.Grt)) gs

-- how many transactions they have
abbrev pub total : List GroupValue → ℕ
total gs = sum_by (λ g. length g.transactions) gs

-- ---- the groups and transactions, counted from a place

-- transactions, each under a place
abbrev Placed : Type 0
Placed = List (ℕ × List RecordValue)

-- those under the place
abbrev at : ℕ → Placed → List (List RecordValue)
at place run = map (λ p. p.1) (filter (λ p. p.0 == place) run)

-- what a run gives of the groups
abbrev groups_from : ℕ → Placed → List GroupValue → List GroupValue
groups_from k run gs = filter (λ g. nat_lt 0 (length g.transactions)) (map (λ p. group_part run p.0 p.1) (enumerate_from k gs))

-- the transactions of the groups, each under its group's place
abbrev transactions_from : ℕ → List GroupValue → Placed
transactions_from k gs = flat_map (λ g. map (λ t. (g.0, t)) g.1.transactions) (enumerate_from k gs)

-- so many places later
abbrev shift : ℕ → ℕ × List RecordValue → ℕ × List RecordValue
shift c p = (c + p.0, p.1)

-- the part that a run gives
abbrev part : RecordValue → List GroupValue → Placed → TransmissionValue
part o gs run = of_groups o (groups_from 0 run gs)

enumerate_append : {X : Type 0} (k : ℕ) (xs ys : List X)
    → enumerate_from k (xs ++ ys) ≡ enumerate_from k xs ++ enumerate_from (k + length xs) ys
enumerate_append k [] ys = ap (λ (j : ℕ). enumerate_from j ys) (omega arith)
enumerate_append {X = X} k (x ∷ xs) ys =
    ap (λ (l : List (ℕ × X)). (k, x) ∷ l)
    (enumerate_append (k + 1) xs ys ∙ ap (λ (j : ℕ). enumerate_from (k + 1) xs ++ enumerate_from j ys) (omega arith))

groups_append : (k : ℕ) (run : Placed) (A B : List GroupValue)
    → groups_from k run (A ++ B) ≡ groups_from k run A ++ groups_from (k + length A) run B
groups_append k run A B =
    let f : ℕ × GroupValue → GroupValue = λ p. group_part run p.0 p.1 in
    let some : GroupValue → Bool = λ g. nat_lt 0 (length g.transactions) in
    ap (λ (l : List (ℕ × GroupValue)). filter some (map f l)) (enumerate_append k A B)
    ∙ ap (filter some) (map-append f (enumerate_from k A) (enumerate_from (k + length A) B))
    ∙ filter-append some (map f (enumerate_from k A)) (map f (enumerate_from (k + length A) B))

transactions_append : (k : ℕ) (A B : List GroupValue)
    → transactions_from k (A ++ B) ≡ transactions_from k A ++ transactions_from (k + length A) B
transactions_append k A B =
    let f : ℕ × GroupValue → Placed = λ g. map (λ t. (g.0, t)) g.1.transactions in
    ap (flat_map f) (enumerate_append k A B) ∙ flat_map-append f (enumerate_from k A) (enumerate_from (k + length A) B)

-- ---- the transactions of a place

taken : (b : Bool) (p : ℕ × List RecordValue) (l : Placed)
    → map (λ q. q.1) (cond b (p ∷ l) l) ≡ cond b (p.1 ∷ map (λ q. q.1) l) (map (λ q. q.1) l)
taken true p l = refl
taken false p l = refl

at_first : (k : ℕ) (p : ℕ × List RecordValue) (run : Placed) → at k (p ∷ run) ≡ cond (p.0 == k) (p.1 ∷ at k run) (at k run)
at_first k p run = taken (p.0 == k) p (filter (λ q. q.0 == k) run)

at_passed : (k : ℕ) (p : ℕ × List RecordValue) (run : Placed) → (p.0 ≡ k → ⊥) → at k run ≡ [] → at k (p ∷ run) ≡ []
at_passed k p run other e = at_first k p run ∙ ap (λ (b : Bool). cond b (p.1 ∷ at k run) (at k run)) (ne_eqb p.0 k other) ∙ e

at_append : (k : ℕ) (r s : Placed) → at k (r ++ s) ≡ at k r ++ at k s
at_append k r s =
    ap (map (λ p. p.1)) (filter-append (λ p. p.0 == k) r s)
    ∙ map-append (λ p. p.1) (filter (λ p. p.0 == k) r) (filter (λ p. p.0 == k) s)

at_here : (k : ℕ) (ts : List (List RecordValue)) → at k (map (λ t. (k, t)) ts) ≡ ts
at_here k [] = refl
at_here k (t ∷ ts) =
    at_first k (k, t) (map (λ u. (k, u)) ts)
    ∙ ap (λ (b : Bool). cond b (t ∷ at k (map (λ u. (k, u)) ts)) (at k (map (λ u. (k, u)) ts))) (eq-eqb k k refl)
    ∙ ap (λ (l : List (List RecordValue)). t ∷ l) (at_here k ts)

at_there : (k j : ℕ) (ts : List (List RecordValue)) → (j ≡ k → ⊥) → at k (map (λ t. (j, t)) ts) ≡ []
at_there k j [] other = refl
at_there k j (t ∷ ts) other = at_passed k (j, t) (map (λ u. (j, u)) ts) other (at_there k j ts other)

-- none before the first group, and none after the last
at_outside : (k j : ℕ) (gs : List GroupValue) → ((i : ℕ) → i < length gs → j + i ≡ k → ⊥) → at k (transactions_from j gs) ≡ []
at_outside k j [] none = refl
at_outside k j (g ∷ gs) none =
    at_append k (map (λ t. (j, t)) g.transactions) (transactions_from (j + 1) gs)
    ∙ ap₂ (λ (x y : List (List RecordValue)). x ++ y) (at_there k j g.transactions (λ e. none 0 (omega arith) (omega (arith, e))))
    (at_outside k (j + 1) gs (λ i lt e. none (i + 1) (omega (arith, lt)) (omega (arith, e))))

at_shifted_below : (k c : ℕ) (run : Placed) → k < c → at k (map (shift c) run) ≡ []
at_shifted_below k c [] lt = refl
at_shifted_below k c (p ∷ run) lt =
    at_passed k (shift c p) (map (shift c) run) (λ e. omega (arith, e, lt)) (at_shifted_below k c run lt)

same_test : (c i k j : ℕ) → j ≡ c + k → ((c + i) == j) ≡ (i == k)
same_test c i k j e = by (eqb_tells i k)
  where
    by : (((i == k) ≡ true) × (i ≡ k)) ⊎ (((i == k) ≡ false) × (i ≡ k → ⊥)) → ((c + i) == j) ≡ (i == k)
    by (inl y) = eq-eqb (c + i) j (omega (arith, y.1, e)) ∙ sym y.0
    by (inr n) = ne_eqb (c + i) j (λ h. n.1 (omega (arith, h, e))) ∙ sym n.0

at_shifted : (c k j : ℕ) (run : Placed) → j ≡ c + k → at j (map (shift c) run) ≡ at k run
at_shifted c k j [] e = refl
at_shifted c k j (p ∷ run) e =
    at_first j (shift c p) (map (shift c) run)
    ∙ ap₂ (λ (b : Bool) (l : List (List RecordValue)). cond b (p.1 ∷ l) l) (same_test c p.0 k j e) (at_shifted c k j run e)
    ∙ sym (at_first k p run)

-- ---- the groups that a run gives

-- a first group before those that the others give, if it has transactions
abbrev with_first : RecordValue → List (List RecordValue) → List GroupValue → List GroupValue
with_first h ts rest = cond (nat_lt 0 (length ts)) (group h ts blank ∷ rest) rest

-- runs with the same transactions of each place give the same
groups_same : (k : ℕ) (r s : Placed) (gs : List GroupValue) → ((i : ℕ) → k ≤ i → i < k + length gs → at i r ≡ at i s)
    → groups_from k r gs ≡ groups_from k s gs
groups_same k r s [] same = refl
groups_same k r s (g ∷ gs) same =
    ap₂ (with_first g.head) (same k (omega arith) (omega arith))
    (groups_same (k + 1) r s gs (λ i le lt. same i (omega (arith, le)) (omega (arith, lt))))

groups_nowhere : (k : ℕ) (gs : List GroupValue) → groups_from k [] gs ≡ []
groups_nowhere k [] = refl
groups_nowhere k (g ∷ gs) = groups_nowhere (k + 1) gs

groups_none : (k : ℕ) (run : Placed) (gs : List GroupValue) → ((i : ℕ) → k ≤ i → i < k + length gs → at i run ≡ [])
    → groups_from k run gs ≡ []
groups_none k run gs none = groups_same k run [] gs none ∙ groups_nowhere k gs

groups_shifted : (c k j : ℕ) (run : Placed) (gs : List GroupValue) → j ≡ c + k
    → groups_from j (map (shift c) run) gs ≡ groups_from k run gs
groups_shifted c k j run [] e = refl
groups_shifted c k j run (g ∷ gs) e =
    ap₂ (with_first g.head) (at_shifted c k j run e) (groups_shifted c (k + 1) (j + 1) run gs (omega (arith, e)))

transactions_shifted : (c k j : ℕ) (gs : List GroupValue) → j ≡ c + k
    → transactions_from j gs ≡ map (shift c) (transactions_from k gs)
transactions_shifted c k j [] e = refl
transactions_shifted c k j (g ∷ gs) e =
    ap₂ (λ (x y : Placed). x ++ y)
    (ap (λ (i : ℕ). map (λ t. (i, t)) g.transactions) e ∙ sym (map_twice (shift c) (λ t. (k, t)) g.transactions))
    (transactions_shifted c (k + 1) (j + 1) gs (omega (arith, e)))
    ∙ sym (map-append (shift c) (map (λ t. (k, t)) g.transactions) (transactions_from (k + 1) gs))

-- a part has its own transactions
own : (k : ℕ) (gs : List GroupValue) → ArePart gs → groups_from k (transactions_from k gs) gs ≡ gs
own k [] h = refl
own k (g ∷ gs) h =
    let first : Placed = map (λ t. (k, t)) g.transactions in
    let rest : Placed = transactions_from (k + 1) gs in
    let here : at k (first ++ rest) ≡ g.transactions =
    at_append k first rest ∙ ap₂ (λ (x y : List (List RecordValue)). x ++ y) (at_here k g.transactions)
    (at_outside k (k + 1) gs (λ i lt e. omega (arith, e))) ∙ append-nil g.transactions in
    let later : groups_from (k + 1) (first ++ rest) gs ≡ gs =
    groups_same (k + 1) (first ++ rest) rest gs (λ i le lt. at_append i first rest
    ∙ ap (λ (l : List (List RecordValue)). l ++ at i rest) (at_there i k g.transactions (λ e. omega (arith, e, le))))
    ∙ own (k + 1) gs h.1 in
    ap₂ (with_first g.head) here later
    ∙ ap (λ (b : Bool). cond b (group g.head g.transactions blank ∷ gs) gs) (lt-ltb 0 (length g.transactions) h.0.0)
    ∙ ap (λ (f : RecordValue). group g.head g.transactions f ∷ gs) (sym h.0.1)

-- only the heads of the groups count, beside the run
groups_of_heads : (run : Placed) (A B : List GroupValue) (h : RecordValue) (xs ys : List (List RecordValue)) (f e : RecordValue)
    → groups_from 0 run (A ++ group h xs f ∷ B) ≡ groups_from 0 run (A ++ group h ys e ∷ B)
groups_of_heads run A B h xs ys f e = groups_append 0 run A (group h xs f ∷ B) ∙ sym (groups_append 0 run A (group h ys e ∷ B))

-- what GRT carries isn't in a part
pub any_foot : (n : ℕ) (o : RecordValue) (A B : List GroupValue) (h : RecordValue) (ts : List (List RecordValue))
    (f e : RecordValue) → split_of n (of_groups o (A ++ group h ts f ∷ B)) ≡ split_of n (of_groups o (A ++ group h ts e ∷ B))
any_foot n o A B h ts f e =
    let run : Placed = transactions_from 0 (A ++ group h ts e ∷ B) in
    ap (λ (r : Placed). map (part o (A ++ group h ts f ∷ B)) (runs n r))
    (transactions_append 0 A (group h ts f ∷ B) ∙ sym (transactions_append 0 A (group h ts e ∷ B)))
    ∙ map_same (part o (A ++ group h ts f ∷ B)) (part o (A ++ group h ts e ∷ B)) (runs n run)
    (λ r. ap (of_groups o) (groups_of_heads r A B h ts ts f e))

-- ---- the parts

-- runs of later groups give what they give without the groups before
later_groups : (A B : List GroupValue) (run : Placed) → groups_from 0 (map (shift (length A)) run) (A ++ B) ≡ groups_from 0 run B
later_groups A B run =
    let c : ℕ = length A in
    let moved : Placed = map (shift c) run in
    groups_append 0 moved A B
    ∙ ap₂ (λ (x y : List GroupValue). x ++ y) (groups_none 0 moved A (λ i le lt. at_shifted_below i c run (omega (arith, lt))))
    (groups_shifted c 0 (0 + c) run B (omega arith))

later_parts : (n : ℕ) (o : RecordValue) (A B : List GroupValue)
    → map (part o (A ++ B)) (runs n (transactions_from (length A) B)) ≡ split_of n (of_groups o B)
later_parts n o A B =
    let c : ℕ = length A in
    let all : Placed = transactions_from 0 B in
    ap (λ (r : Placed). map (part o (A ++ B)) (runs n r)) (transactions_shifted c 0 c B (omega arith))
    ∙ ap (map (part o (A ++ B))) (runs_mapped (shift c) n all)
    ∙ map_twice (part o (A ++ B)) (map (shift c)) (runs n all)
    ∙ map_same (λ r. part o (A ++ B) (map (shift c) r)) (part o B) (runs n all) (λ r. ap (of_groups o) (later_groups A B r))

-- a group without transactions is in no part
pub empty_group : (n : ℕ) (o h f : RecordValue) (B : List GroupValue)
    → split_of n (of_groups o (group h [] f ∷ B)) ≡ split_of n (of_groups o B)
empty_group n o h f B = later_parts n o (group h [] f ∷ []) B

-- as many transactions as the groups have in all
many : (k : ℕ) (gs : List GroupValue) → length (transactions_from k gs) ≡ total gs
many k [] = refl
many k (g ∷ gs) =
    length-append (map (λ t. (k, t)) g.transactions) (transactions_from (k + 1) gs)
    ∙ ap₂ (λ (i j : ℕ). i + j) (length-map g.transactions (λ t. (k, t))) (many (k + 1) gs)
    ∙ sym (sum_by-cons (λ g. length g.transactions) g gs)

one_run : (n : ℕ) (run : Placed) → 0 < length run → length run ≤ n → runs n run ≡ run ∷ []
one_run n [] some few = absurd (omega (arith, some))
one_run n (p ∷ run) some few = runs_last n p run few

-- what fills no run, or just one, is the last part
pub last_part : (n : ℕ) (o : RecordValue) (A : List GroupValue) → ArePart A → 0 < total A → total A ≤ n
    → split_of n (of_groups o A) ≡ of_groups o A ∷ []
last_part n o A are some few =
    let run : Placed = transactions_from 0 A in
    let m : length run ≡ total A = many 0 A in
    ap (map (part o A)) (one_run n run (subst (λ (k : ℕ). 0 < k) (sym m) some) (subst (λ (k : ℕ). k ≤ n) (sym m) few))
    ∙ ap (λ (gs : List GroupValue). of_groups o gs ∷ []) (own 0 A are)

-- no groups have no part
pub no_part : (n : ℕ) (o : RecordValue) → 0 < n → split_of n (of_groups o []) ≡ []
no_part n o some = ap (map (part o [])) (runs_none n some)

part_more : (A : List GroupValue) (g : GroupValue) → ArePart A → 0 < length g.transactions → g.foot ≡ blank
    → ArePart (A ++ g ∷ [])
part_more [] g are some e = ((some, e), tt)
part_more (a ∷ A) g are some e = (are.0, part_more A g are.1 some e)

-- the groups of a first run
first_groups : (A B : List GroupValue) (h f : RecordValue) (cur todo : List (List RecordValue)) → ArePart A → 0 < length cur
    → groups_from 0 (transactions_from 0 (A ++ group h cur blank ∷ [])) (A ++ group h (cur ++ todo) f ∷ B)
    ≡ A ++ group h cur blank ∷ []
first_groups A B h f cur todo are some =
    let front : List GroupValue = A ++ group h cur blank ∷ [] in
    let run : Placed = transactions_from 0 front in
    groups_of_heads run A B h (cur ++ todo) cur f blank
    ∙ ap (groups_from 0 run) (sym (append_assoc A (group h cur blank ∷ []) B))
    ∙ groups_append 0 run front B
    ∙ ap₂ (λ (x y : List GroupValue). x ++ y) (own 0 front (part_more A (group h cur blank) are some refl))
    (groups_none (0 + length front) run B (λ i le lt. at_outside i 0 front (λ j under e. omega (arith, le, under, e))))
    ∙ append-nil front

-- the transactions in a first run and the others
first_transactions : (A B : List GroupValue) (h f : RecordValue) (cur todo : List (List RecordValue))
    → transactions_from 0 (A ++ group h (cur ++ todo) f ∷ B)
    ≡ transactions_from 0 (A ++ group h cur blank ∷ []) ++ transactions_from (length A) (group h todo f ∷ B)
first_transactions A B h f cur todo =
    let c : ℕ = 0 + length A in
    let under : List (List RecordValue) → Placed = map (λ t. (c, t)) in
    let before : Placed = transactions_from 0 A in
    let after : Placed = transactions_from (c + 1) B in
    transactions_append 0 A (group h (cur ++ todo) f ∷ B)
    ∙ ap (λ (l : Placed). before ++ (l ++ after)) (map-append (λ t. (c, t)) cur todo)
    ∙ ap (λ (l : Placed). before ++ l) (append_assoc (under cur) (under todo) after)
    ∙ sym (append_assoc before (under cur) (under todo ++ after))
    ∙ ap₂ (λ (x y : Placed). x ++ y)
    (ap (λ (l : Placed). before ++ l) (sym (append-nil (under cur))) ∙ sym (transactions_append 0 A (group h cur blank ∷ [])))
    (ap (λ (k : ℕ). transactions_from k (group h todo f ∷ B)) (omega arith))

-- a full run is the first part
pub first_part : (n : ℕ) (o : RecordValue) (A : List GroupValue) (h : RecordValue) (cur todo : List (List RecordValue))
    (f : RecordValue) (B : List GroupValue) → 0 < n → ArePart A → 0 < length cur → total A + length cur ≡ n
    → split_of n (of_groups o (A ++ group h (cur ++ todo) f ∷ B))
    ≡ of_groups o (A ++ group h cur (blank_record kinds.Grt) ∷ []) ∷ split_of n (of_groups o (group h todo f ∷ B))
first_part n o A h cur todo f B fits are some full =
    let front : List GroupValue = A ++ group h cur blank ∷ [] in
    let gs : List GroupValue = A ++ group h (cur ++ todo) f ∷ B in
    let run : Placed = transactions_from 0 front in
    let rest : Placed = transactions_from (length A) (group h todo f ∷ B) in
    let as_many : length run ≡ n =
    many 0 front ∙ sum_by-append (λ g. length g.transactions) A (group h cur blank ∷ [])
    ∙ ap (λ (k : ℕ). total A + k) (omega arith) ∙ full in
    ap (λ (r : Placed). map (part o gs) (runs n r)) (first_transactions A B h f cur todo)
    ∙ ap (map (part o gs)) (runs_more n run rest fits as_many)
    ∙ ap₂ (λ (x : TransmissionValue) (l : List TransmissionValue). x ∷ l)
    (ap (of_groups o) (first_groups A B h f cur todo are some))
    (map_same (part o gs) (part o (A ++ group h todo f ∷ B)) (runs n rest)
    (λ r. ap (of_groups o) (groups_of_heads r A B h (cur ++ todo) todo f f))
    ∙ later_parts n o A (group h todo f ∷ B))
