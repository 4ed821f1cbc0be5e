-- Days to come, whenever a transmission is sent.
use Rattle.std.proofs.Common.{◌≡◌, ℕ, ◌≤◌, Bool, true, false, cond, List, [], ◌∷◌, ◌++◌, map, Option, Some, None, refl, ap, ap₂}
use Rattle.std.proofs.Common.{arith}
use Rattle.std.specs.Prelude.{filter, flat_map}
use Rattle.std.specs.List.{enumerate_from}
use Rattle.std.specs.Option.{is_some}
use Rattle.std.proofs.lemmas.Bool.{le-ltb, ltb-false}
use Rattle.cwr_lines.specs.Format.Records.{RecordValue}
use Rattle.cwr_advice.specs.declared.rules.AdviceRule.{AdviceRule}
use Rattle.cwr_advice.specs.declared.rules.AdviceRule.TheVariants.{A1a, A1b, A2a, A2b, A2c, A2d, A2e, A2f, A2g, A2h, A3a, A3b}
use Rattle.cwr_advice.specs.declared.rules.AdviceRule.TheVariants.{A3c, A3d, A3e, A4a, A4b, A4c, A4d, A5a, A6a, A6b, A6c, A7a}
use Rattle.cwr_advice.specs.declared.rules.AdviceRule.TheVariants.{A8a, A8b, A8c, A8d, A8e, A9a, A9b, A9c}
use Rattle.cwr_advice.specs.declared.rules.Advice.{Advice}
use Rattle.cwr_advice.specs.declared.rules.Asked.{Asked}
use Rattle.cwr_advice.specs.declared.said.Said.{Said}
use Rattle.cwr_advice.specs.Format.Days.{day_in, is_after, is_to_come}
use Rattle.cwr_advice.specs.Format.Rules.{advice_at, advice_of, advice_of_asked, asked_of, breaks, cell_at, is_acknowledgement}
use Rattle.cwr_advice.specs.Format.Said.{before_all_days}

no_day : (day sent : Option ℕ) → is_some day ≡ false → is_after day sent ≡ false
no_day None sent e = refl
no_day (Some day) sent e = absurd (cc e)

-- what is no day is never to come
pub never_to_come : (sent : Option ℕ) (cell : List ℕ) → is_some (day_in cell) ≡ false → is_to_come sent cell ≡ false
never_to_come sent cell e = no_day (day_in cell) sent e

earliest : (day sent : Option ℕ) → is_after day (Some 0) ≡ false → is_after day sent ≡ false
earliest None sent e = refl
earliest (Some day) None e = refl
earliest (Some day) (Some sent) e = let none : day ≤ 0 = ltb-false 0 day e in le-ltb sent day (omega (arith, none))

-- ---- where no advice is on a transaction that is sent before all days, there is none

unbroken_later : (said : Said) (rule : AdviceRule) (t : List RecordValue) (k : ℕ) (r : RecordValue) (j : ℕ)
    → breaks (before_all_days said.characters) rule t k r j ≡ false → breaks said rule t k r j ≡ false
unbroken_later said A1a t k r j e = e
unbroken_later said A1b t k r j e = e
unbroken_later said A2a t k r j e = e
unbroken_later said A2b t k r j e = e
unbroken_later said A2c t k r j e = e
unbroken_later said A2d t k r j e = e
unbroken_later said A2e t k r j e = e
unbroken_later said A2f t k r j e = e
unbroken_later said A2g t k r j e = e
unbroken_later said A2h t k r j e = e
unbroken_later said A3a t k r j e = e
unbroken_later said A3b t k r j e = e
unbroken_later said A3c t k r j e = e
unbroken_later said A3d t k r j e = e
unbroken_later said A3e t k r j e = e
unbroken_later said A4a t k r j e = e
unbroken_later said A4b t k r j e = e
unbroken_later said A4c t k r j e = e
unbroken_later said A4d t k r j e = e
unbroken_later said A5a t k r j e = e
unbroken_later said A6a t k r j e = e
unbroken_later said A6b t k r j e = e
unbroken_later said A6c t k r j e = e
unbroken_later said A7a t k r j e = e
unbroken_later said A8a t k r j e = e
unbroken_later said A8b t k r j e = e
unbroken_later said A8c t k r j e = e
unbroken_later said A8d t k r j e = e
unbroken_later said A8e t k r j e = earliest (day_in (cell_at r j)) said.sent e
unbroken_later said A9a t k r j e = e
unbroken_later said A9b t k r j e = e
unbroken_later said A9c t k r j e = e

kept_none : {X : Type 0} → (b : Bool) (x : X) (l : List X) → cond b (x ∷ l) l ≡ [] → (b ≡ false) × (l ≡ [])
kept_none true x l e = absurd (cc e)
kept_none false x l e = (refl, e)

left_none : {X : Type 0} → (b : Bool) (x : X) (l : List X) → b ≡ false → l ≡ [] → cond b (x ∷ l) l ≡ []
left_none true x l e none = absurd (cc e)
left_none false x l e none = none

none_kept_later : {X : Type 0} → (p q : X → Bool) → ((x : X) → p x ≡ false → q x ≡ false) → (l : List X) → filter p l ≡ []
    → filter q l ≡ []
none_kept_later p q less [] e = refl
none_kept_later p q less (x ∷ l) e =
    let parts = kept_none (p x) x (filter p l) e in
    left_none (q x) x (filter q l) (less x parts.0) (none_kept_later p q less l parts.1)

unmapped : {X Y : Type 0} → (f : X → Y) (l : List X) → map f l ≡ [] → l ≡ []
unmapped f [] e = refl
unmapped f (x ∷ l) e = absurd (cc e)

both_none : {X : Type 0} → (a b : List X) → a ++ b ≡ [] → (a ≡ []) × (b ≡ [])
both_none [] b e = (refl, e)
both_none (x ∷ a) b e = absurd (cc e)

none_flat_later : {X Y : Type 0} → (f g : X → List Y) → ((x : X) → f x ≡ [] → g x ≡ []) → (l : List X) → flat_map f l ≡ []
    → flat_map g l ≡ []
none_flat_later f g less [] e = refl
none_flat_later {Y = Y} f g less (x ∷ l) e =
    let parts = both_none (f x) (flat_map f l) e in
    ap₂ (λ (a b : List Y). a ++ b) (less x parts.0) (none_flat_later f g less l parts.1)

none_at_later : (said : Said) (t : List RecordValue) (k : ℕ) (r : RecordValue)
    → advice_at (before_all_days said.characters) t k r ≡ [] → advice_at said t k r ≡ []
none_at_later said t k r e =
    ap (map (advice_of_asked k)) (none_kept_later
    (λ (asked : Asked). breaks (before_all_days said.characters) asked.rule t k r asked.field)
    (λ (asked : Asked). breaks said asked.rule t k r asked.field)
    (λ asked h. unbroken_later said asked.rule t k r asked.field h) (asked_of r.kind)
    (unmapped (advice_of_asked k) _ e))

either_later : (b : Bool) (l m : List Advice) → (l ≡ [] → m ≡ []) → cond b [] l ≡ [] → cond b [] m ≡ []
either_later true l m less e = refl
either_later false l m less e = less e

pub none_later : (said : Said) (t : List RecordValue) → advice_of (before_all_days said.characters) t ≡ [] → advice_of said t ≡ []
unfolding advice_of
none_later said t e =
    either_later (is_acknowledgement t)
    (flat_map (λ p. advice_at (before_all_days said.characters) t p.0 p.1) (enumerate_from 0 t))
    (flat_map (λ p. advice_at said t p.0 p.1) (enumerate_from 0 t))
    (none_flat_later (λ (p : ℕ × RecordValue). advice_at (before_all_days said.characters) t p.0 p.1)
    (λ (p : ℕ × RecordValue). advice_at said t p.0 p.1) (λ p h. none_at_later said t p.0 p.1 h) (enumerate_from 0 t)) e
