-- Whether something that is told has a level, among items as among each.
use Rattle.std.proofs.Common.{◌≡◌, ℕ, suc, ◌+◌, Bool, false, ◌||◌, List, [], ◌∷◌, ◌++◌, drop, take, Option, Some, None}
use Rattle.std.proofs.Common.{slice_get, refl, sym, ap, ap₂, ◌∙◌, arith, append_assoc, append-nil}
use Rattle.std.specs.Prelude.{◌&&◌, Result, Ok, Err, OnOk}
use Rattle.std.specs.List.{list_any}
use Rattle.std.specs.Option.{is_some}
use Rattle.cwr_lines.specs.Format.Records.{RecordValue}
use Rattle.cwr_shape.specs.declared.reasons.Level.{Level}
use Rattle.cwr_values.specs.declared.items.Item.{Item}
use Rattle.cwr_values.specs.declared.items.Item.TheVariants.{Transaction}
use Rattle.cwr_findings.specs.declared.rules.Finding.{Finding}
use Rattle.cwr_findings.specs.Format.Findings.{findings}
use Rattle.cwr_tools.specs.Format.Watching.{has_from, is_reached}
use Rattle.cwr_tools.proofs.lemmas.FindingsWatched.{any_at, or_assoc, or_false}
use Rattle.cwr_advice.specs.declared.rules.Advice.{Advice}
use Rattle.cwr_advice.specs.declared.said.Said.{Said}
use Rattle.cwr_advice.specs.Format.Rules.{advice_of, cell_at}
use Rattle.cwr_advise.specs.declared.repeats.Place.{Place}
use Rattle.cwr_advise.specs.declared.repeats.Repeated.{Repeated}
use Rattle.cwr_advise.specs.Format.AdviceLevels.{advice_reaches, any_reaches, any_reaches_after, item_reaches, own_reaches}
use Rattle.cwr_advise.specs.Format.AdviceLines.{said_in}
use Rattle.cwr_advise.specs.Format.RepeatedWorks.{is_repeated, place_of, repeated_advice, work_header, works_in}
use Rattle.cwr_advise.specs.Steps.KeptWorks.{reaches_at}
use Rattle.cwr_advise.proofs.lemmas.WorksKept.{none_taken}

pub any_next : {A : Type 0} (p : A → Bool) (i : ℕ) (xs : List A) (x : A) → Some x ≡ slice_get xs i
    → list_any p (drop i xs) ≡ (p x || list_any p (drop (i + 1) xs))
any_next p i xs x e =
    let next : suc i ≡ i + 1 = omega arith in any_at p i xs x e ∙ ap (λ (k : ℕ). p x || list_any p (drop k xs)) next

-- ---- one item more

after_more : (limit : ℕ) (asked : Option Level) (before given : List Item) (item : Item)
    → any_reaches_after limit asked before (given ++ item ∷ [])
    ≡ (any_reaches_after limit asked before given || item_reaches limit asked (before ++ given) item)
after_more limit asked before [] item =
    or_false (item_reaches limit asked before item)
    ∙ sym (ap (λ (b : List Item). item_reaches limit asked b item) (append-nil before))
after_more limit asked before (x ∷ given) item =
    ap (λ (b : Bool). item_reaches limit asked before x || b) (after_more limit asked (before ++ x ∷ []) given item)
    ∙ sym (or_assoc (item_reaches limit asked before x) (any_reaches_after limit asked (before ++ x ∷ []) given)
    (item_reaches limit asked ((before ++ x ∷ []) ++ given) item))
    ∙ ap (λ (b : List Item). (item_reaches limit asked before x || any_reaches_after limit asked (before ++ x ∷ []) given)
    || item_reaches limit asked b item) (append_assoc before (x ∷ []) given)

any_more : (limit : ℕ) (asked : Option Level) (given : List Item) (item : Item)
    → any_reaches limit asked (given ++ item ∷ []) ≡ (any_reaches limit asked given || item_reaches limit asked given item)
unfolding any_reaches
any_more limit asked given item = after_more limit asked [] given item

-- ---- findings, and then advice

pub on_all : {E : Type 0} (r : Result (Unit {0}) E) (P : Type 0) → P → OnOk r P
on_all (Ok u) P p = p
on_all (Err e) P p = tt

-- with the findings in a transaction, and then with the advice on it
pub seen_both : {E : Type 0} (old mid new : Option Level) (said : Said) (t : List RecordValue) (r : Result (Unit {0}) E)
    → ((asked : Option Level) → is_reached asked mid ≡ (is_reached asked old || has_from asked (findings t)))
    → ((asked : Option Level) → is_reached asked new
    ≡ (is_reached asked mid || list_any (advice_reaches asked) (advice_of said t)))
    → OnOk r ((asked : Option Level) → is_reached asked new ≡ (is_reached asked old || own_reaches asked said (Transaction t)))
seen_both old mid new said t r first second =
    on_all r _ (λ asked. second asked ∙ ap (λ (b : Bool). b || list_any (advice_reaches asked) (advice_of said t)) (first asked)
    ∙ or_assoc (is_reached asked old) (has_from asked (findings t)) (list_any (advice_reaches asked) (advice_of said t)))

-- of what is no transaction nothing is told
pub seen_other : (worst : Option Level) (said : Said) (item : Item)
    → ((asked : Option Level) → own_reaches asked said item ≡ false) → (asked : Option Level)
    → is_reached asked worst ≡ (is_reached asked worst || own_reaches asked said item)
seen_other worst said item none asked =
    sym (ap (λ (b : Bool). is_reached asked worst || b) (none asked) ∙ or_false (is_reached asked worst))

-- what is told of an item itself, and then of it among the works before
pub seen_all : {E : Type 0} (old mid new : Option Level) (said : Said) (item : Item) (told : Repeated) (r : Result (Unit {0}) E)
    → ((asked : Option Level) → is_reached asked mid ≡ (is_reached asked old || own_reaches asked said item))
    → ((asked : Option Level) → is_reached asked new
    ≡ (is_reached asked mid || (is_some told.first && advice_reaches asked repeated_advice)))
    → OnOk r ((asked : Option Level) → is_reached asked new ≡ (is_reached asked old || reaches_at asked said item told))
seen_all old mid new said item told r first second =
    on_all r _ (λ asked. second asked
    ∙ ap (λ (b : Bool). b || (is_some told.first && advice_reaches asked repeated_advice)) (first asked)
    ∙ or_assoc (is_reached asked old) (own_reaches asked said item)
    (is_some told.first && advice_reaches asked repeated_advice))

-- nothing was told of no items
pub worst_none : (worst : Option Level) (limit : ℕ) → worst ≡ None → (asked : Option Level)
    → is_reached asked worst ≡ any_reaches limit asked []
unfolding any_reaches
worst_none worst limit e asked = ap (is_reached asked) e

-- with what is told of an item more
pub worst_told : (old new : Option Level) (limit : ℕ) (given : List Item) (item : Item) (said : Said) (told : Repeated)
    → ((asked : Option Level) → is_reached asked old ≡ any_reaches limit asked given) → said ≡ said_in given
    → is_some told.first ≡ is_repeated limit given item
    → ((asked : Option Level) → is_reached asked new ≡ (is_reached asked old || reaches_at asked said item told))
    → (asked : Option Level) → is_reached asked new ≡ any_reaches limit asked (given ++ item ∷ [])
worst_told old new limit given item said told is e first sees asked =
    sees asked
    ∙ ap₂ (λ (b : Bool) (s : Said). b || (own_reaches asked s item || (is_some told.first && advice_reaches asked repeated_advice)))
    (is asked) e
    ∙ ap (λ (b : Bool). any_reaches limit asked given || (own_reaches asked (said_in given) item
    || (b && advice_reaches asked repeated_advice))) first
    ∙ sym (any_more limit asked given item)

-- ---- what is passed over

none_any : {A : Type 0} (p : A → Bool) → ((x : A) → p x ≡ false) → (xs : List A) → list_any p xs ≡ false
none_any p none [] = refl
none_any p none (x ∷ xs) = ap₂ (λ (a b : Bool). a || b) (none x) (none_any p none xs)

pub never_repeated : (given : List Item) (item : Item) → is_repeated 0 given item ≡ false
never_repeated given item =
    none_any (λ h. is_some (place_of (cell_at h 6) (take 0 (works_in given))))
    (λ h. ap (λ (works : List (List ℕ × Place)). is_some (place_of (cell_at h 6) works)) (none_taken (works_in given)))
    (work_header item)

no_finding : (asked : Option Level) → has_from asked [] ≡ false
no_finding None = refl
no_finding (Some level) = refl

none_own : (asked : Option Level) (said : Said) (t : List RecordValue) → findings t ≡ [] → advice_of said t ≡ []
    → own_reaches asked said (Transaction t) ≡ false
none_own asked said t none quiet =
    ap₂ (λ (f : List Finding) (a : List Advice). has_from asked f || list_any (advice_reaches asked) a) none quiet
    ∙ ap (λ (b : Bool). b || false) (no_finding asked)

-- a transaction without findings, and without advice on it, where no numbers are kept
pub worst_passed : (worst : Option Level) (limit : ℕ) (given : List Item) (t : List RecordValue) → limit ≡ 0 → findings t ≡ []
    → advice_of (said_in given) t ≡ []
    → ((asked : Option Level) → is_reached asked worst ≡ any_reaches limit asked given) → (asked : Option Level)
    → is_reached asked worst ≡ any_reaches limit asked (given ++ Transaction t ∷ [])
worst_passed worst limit given t zero none quiet is asked =
    is asked
    ∙ sym (any_more limit asked given (Transaction t)
    ∙ ap₂ (λ (own repeated : Bool). any_reaches limit asked given || (own || (repeated && advice_reaches asked repeated_advice)))
    (none_own asked (said_in given) t none quiet)
    (ap (λ (n : ℕ). is_repeated n given (Transaction t)) zero ∙ never_repeated given (Transaction t))
    ∙ or_false (any_reaches limit asked given))

-- ---- after a run
