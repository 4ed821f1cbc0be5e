-- What is watched for comes among items as among each.
use Rattle.std.proofs.Common.{◌≡◌, ℕ, zero, suc, ◌+◌, ◌≤◌, Bool, true, false, ◌||◌, List, [], ◌∷◌, ◌++◌, drop, Option, Some, None}
use Rattle.std.proofs.Common.{slice_get, refl, sym, ap, ◌∙◌, arith}
use Rattle.std.specs.Prelude.{nat_le}
use Rattle.std.proofs.lemmas.List.Sums.{sum_by-append, sum_by-cons}
use Rattle.std.proofs.lemmas.Bool.{le-leb, leb-true}
use Rattle.std.specs.List.{list_any}
use Rattle.cwr_shape.specs.declared.reasons.Level.{Level}
use Rattle.cwr_lines.specs.Format.Records.{RecordValue}
use Rattle.cwr_values.specs.declared.items.Item.{Item}
use Rattle.cwr_values.specs.declared.items.Item.TheVariants as items
use Rattle.cwr_findings.specs.declared.rules.Finding.{Finding}
use Rattle.cwr_findings.specs.Format.Findings.{findings}
use Rattle.cwr_tools.specs.Format.Watching.{any_from, findings_with, has_from, is_from, is_reached, is_reached_by, item_findings, item_has_from, reach}
use Rattle.cwr_tools.specs.Steps.Watching.{IsWorst, Sees}

-- one of the others, or this one
pub any_at : {A : Type 0} (p : A → Bool) (i : ℕ) (xs : List A) (x : A) → Some x ≡ slice_get xs i
    → list_any p (drop i xs) ≡ (p x || list_any p (drop (suc i) xs))
any_at p zero (y ∷ xs) x e = let same : x ≡ y = cc e in ap (λ (b : Bool). b || list_any p xs) (ap p (sym same))
any_at p zero [] x e = absurd (cc e)
any_at p (suc i) (y ∷ xs) x e = any_at p i xs x e
any_at p (suc i) [] x e = absurd (cc e)

pub any_past : {A : Type 0} (p : A → Bool) (i : ℕ) (xs : List A) → None ≡ slice_get xs i → list_any p (drop i xs) ≡ false
any_past p zero [] e = refl
any_past p zero (y ∷ xs) e = absurd (cc e)
any_past p (suc i) [] e = refl
any_past p (suc i) (y ∷ xs) e = any_past p i xs e

pub or_false : (b : Bool) → (b || false) ≡ b
or_false true = refl
or_false false = refl

pub or_assoc : (a b c : Bool) → ((a || b) || c) ≡ (a || (b || c))
or_assoc true b c = refl
or_assoc false b c = refl

any_append : {A : Type 0} (p : A → Bool) (xs ys : List A) → list_any p (xs ++ ys) ≡ (list_any p xs || list_any p ys)
any_append p [] ys = refl
any_append p (x ∷ xs) ys = ap (λ (b : Bool). p x || b) (any_append p xs ys) ∙ sym (or_assoc (p x) (list_any p xs) (list_any p ys))

-- ---- the worst level

-- of two levels the one that goes further is reached where either is
further : (asked v w : ℕ) → v ≤ w → nat_le asked w ≡ (nat_le asked w || nat_le asked v)
further asked v w le = by (nat_le asked v) refl
  where
    by : (b : Bool) → nat_le asked v ≡ b → nat_le asked w ≡ (nat_le asked w || nat_le asked v)
    by true e =
        let w_too : nat_le asked w ≡ true =
        le-leb asked w (omega (arith, le, leb-true asked v e)) in w_too ∙ sym (ap (λ (b : Bool). b || nat_le asked v) w_too)
    by false e = sym (ap (λ (b : Bool). nat_le asked w || b) e ∙ or_false (nat_le asked w))

nearer : (asked v w : ℕ) → w ≤ v → nat_le asked v ≡ (nat_le asked w || nat_le asked v)
nearer asked v w le = further asked w v le ∙ or_swap (nat_le asked v) (nat_le asked w)
  where
    or_swap : (a b : Bool) → (a || b) ≡ (b || a)
    or_swap true true = refl
    or_swap true false = refl
    or_swap false true = refl
    or_swap false false = refl

pub worst_stays : (worst level : Level) → reach level ≤ reach worst → (asked : Option Level)
    → is_reached asked (Some worst) ≡ (is_reached asked (Some worst) || is_reached_by asked level)
worst_stays worst level le None = refl
worst_stays worst level le (Some asked) = further (reach asked) (reach level) (reach worst) le

pub worst_changes : (worst level : Level) → reach worst ≤ reach level → (asked : Option Level)
    → is_reached asked (Some level) ≡ (is_reached asked (Some worst) || is_reached_by asked level)
worst_changes worst level le None = refl
worst_changes worst level le (Some asked) = nearer (reach asked) (reach level) (reach worst) le

-- the levels of one finding more
pub from_more : (asked : Option Level) (i : ℕ) (found : List Finding) (f : Finding) → Some f ≡ slice_get found i
    → has_from asked (drop i found) ≡ (is_reached_by asked f.level || has_from asked (drop (i + 1) found))
from_more None i found f e = refl
from_more (Some asked) i found f e =
    let next : suc i ≡ i + 1 = omega arith in
    any_at (λ (g : Finding). is_from asked g.level) i found f e
    ∙ ap (λ (k : ℕ). is_from asked f.level || list_any (λ (g : Finding). is_from asked g.level) (drop k found)) next

pub from_past : (asked : Option Level) (i : ℕ) (found : List Finding) → None ≡ slice_get found i
    → has_from asked (drop i found) ≡ false
from_past None i found e = refl
from_past (Some asked) i found e = any_past (λ (g : Finding). is_from asked g.level) i found e

-- ---- among items

-- nothing came in no items
pub worst_none : (worst : Option Level) → worst ≡ None → IsWorst worst []
worst_none worst e asked = ap (is_reached asked) e

-- what came in an item more
pub worst_more : (old new : Option Level) (given : List Item) (item : Item) → IsWorst old given → Sees old new (item ∷ [])
    → IsWorst new (given ++ item ∷ [])
worst_more old new given item is sees asked =
    sees asked ∙ ap (λ (b : Bool). b || any_from asked (item ∷ [])) (is asked)
    ∙ sym (any_append (item_has_from asked) given (item ∷ []))

-- an item without findings changes nothing
none_more : (given : List Item) (item : Item) (asked : Option Level) → item_has_from asked item ≡ false
    → any_from asked (given ++ item ∷ []) ≡ any_from asked given
none_more given item asked e =
    any_append (item_has_from asked) given (item ∷ [])
    ∙ ap (λ (b : Bool). any_from asked given || (b || false)) e
    ∙ or_false (any_from asked given)

clean_has_none : (t : List RecordValue) → findings t ≡ [] → (asked : Option Level)
    → item_has_from asked (items.Transaction t) ≡ false
clean_has_none t none None = refl
clean_has_none t none (Some asked) = ap (list_any (λ (f : Finding). is_from asked f.level)) none

pub worst_passed : (worst : Option Level) (given : List Item) (t : List RecordValue) → findings t ≡ [] → IsWorst worst given
    → IsWorst worst (given ++ items.Transaction t ∷ [])
worst_passed worst given t none is asked =
    is asked ∙ sym (none_more given (items.Transaction t) asked (clean_has_none t none asked))

-- an item that is no transaction
pub worst_other : (worst : Option Level) (given : List Item) (item : Item)
    → ((asked : Option Level) → item_has_from asked item ≡ false) → IsWorst worst given → IsWorst worst (given ++ item ∷ [])
worst_other worst given item none is asked = is asked ∙ sym (none_more given item asked (none asked))

-- ---- how many they are

-- so many with those of an item more
pub findings_more : (old new : ℕ) (given : List Item) (item : Item) → old ≡ findings_with 0 given
    → new ≡ findings_with old (item ∷ []) → new ≡ findings_with 0 (given ++ item ∷ [])
findings_more old new given item before adds =
    omega (arith, before, adds, sum_by-append item_findings given (item ∷ []))

-- an item without findings adds none
pub findings_none_more : (count : ℕ) (given : List Item) (item : Item) → item_findings item ≡ 0 → count ≡ findings_with 0 given
    → count ≡ findings_with 0 (given ++ item ∷ [])
findings_none_more count given item none before =
    omega (arith, before, none, sum_by-append item_findings given (item ∷ []), sum_by-cons item_findings item [])

-- what one transaction adds
pub sees_one : (old new : Option Level) (t : List RecordValue)
    → ((asked : Option Level) → is_reached asked new ≡ (is_reached asked old || has_from asked (findings t)))
    → Sees old new (items.Transaction t ∷ [])
sees_one old new t adds asked =
    adds asked ∙ ap (λ (b : Bool). is_reached asked old || b) (sym (or_false (has_from asked (findings t))))
