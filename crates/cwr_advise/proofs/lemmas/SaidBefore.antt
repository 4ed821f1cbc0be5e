-- What the items say of the transmission, with one item more.
use Rattle.std.proofs.Common.{◌≡◌, ◌+◌, true, List, [], ◌∷◌, ◌++◌, length, map, refl, sym, ap, ◌∙◌, arith, append-nil}
use Rattle.std.specs.Prelude.{◌≢◌, Option, Some, None, nat_lt, unwrap_or}
use Rattle.std.specs.List.{flat_map, last_or}
use Rattle.std.proofs.lemmas.Bool.{lt-ltb, ltb-true}
use Rattle.std.proofs.lemmas.Grind.{flat_map-append}
use Rattle.std.proofs.lemmas.List.{map-append}
use Rattle.cwr_lines.specs.Format.Records.{RecordValue}
use Rattle.cwr_values.specs.declared.items.Item.{Item}
use Rattle.cwr_values.specs.declared.items.Item.TheVariants.{Opened}
use Rattle.cwr_advice.specs.declared.characters.Characters.{Characters}
use Rattle.cwr_advice.specs.declared.characters.Characters.TheVariants.{Unsaid, Utf8, Other}
use Rattle.cwr_advice.specs.declared.said.Said.{Said}
use Rattle.cwr_advice.specs.Format.Rules.{advice_of}
use Rattle.cwr_advice.specs.Format.Said.{before_all_days, nothing_said, said_by}
use Rattle.cwr_advice.proofs.lemmas.EarlyDays.{none_later}
use Rattle.cwr_advise.specs.Format.AdviceLines.{header_in, said_in}
use Rattle.cwr_tools.proofs.lemmas.ReportSteps.{some_there}

last_of : {A : Type 0} → (o : Option A) (xs : List A) (x : A) → last_or o (xs ++ x ∷ []) ≡ Some x
last_of o [] x = refl
last_of o (y ∷ xs) x = last_of (Some y) xs x

-- a header more
pub said_now : (items : List Item) (h : RecordValue) → said_by h ≡ said_in (items ++ Opened h ∷ [])
said_now items h =
    sym (ap (λ (l : List RecordValue). unwrap_or (last_or None (map said_by l)) nothing_said)
    (flat_map-append header_in items (Opened h ∷ []))
    ∙ ap (λ (l : List Said). unwrap_or (last_or None l) nothing_said) (map-append said_by (flat_map header_in items) (h ∷ []))
    ∙ ap (λ (o : Option Said). unwrap_or o nothing_said) (last_of None (map said_by (flat_map header_in items)) (said_by h)))

-- another item more
pub said_still : (items : List Item) (item : Item) → header_in item ≡ [] → said_in items ≡ said_in (items ++ item ∷ [])
said_still items item e =
    sym (ap (λ (l : List RecordValue). unwrap_or (last_or None (map said_by l)) nothing_said)
    (flat_map-append header_in items (item ∷ []) ∙ ap (λ (l : List RecordValue). flat_map header_in items ++ (l ++ [])) e
    ∙ append-nil (flat_map header_in items)))

not_none : {A : Type 0} → (xs : List A) → nat_lt 0 (length xs) ≡ true → xs ≢ []
not_none [] h e = cc h
not_none (x ∷ xs) h e = cc e

-- advice where a transmission is sent on some day is advice where all days are to come
some_early : (said : Said) (t : List RecordValue) → nat_lt 0 (length (advice_of said t)) ≡ true
    → nat_lt 0 (length (advice_of (before_all_days said.characters) t)) ≡ true
some_early said t h =
    some_there (advice_of (before_all_days said.characters) t) (λ none. not_none (advice_of said t) h (none_later said t none))

one_of : (characters : Characters) (t : List RecordValue) → nat_lt 0 (length (advice_of (before_all_days characters) t)) ≡ true
    → nat_lt 0 (length (advice_of (before_all_days Unsaid) t) + length (advice_of (before_all_days Utf8) t) + length
    (advice_of (before_all_days Other) t)) ≡ true
one_of Unsaid t h = lt-ltb 0 _ (omega (arith, ltb-true 0 (length (advice_of (before_all_days Unsaid) t)) h))
one_of Utf8 t h = lt-ltb 0 _ (omega (arith, ltb-true 0 (length (advice_of (before_all_days Utf8) t)) h))
one_of Other t h = lt-ltb 0 _ (omega (arith, ltb-true 0 (length (advice_of (before_all_days Other) t)) h))

-- and where some of the three is said of characters
pub said_some : (said : Said) (t : List RecordValue) → nat_lt 0 (length (advice_of said t)) ≡ true
    → nat_lt 0 (length (advice_of (before_all_days Unsaid) t) + length (advice_of (before_all_days Utf8) t) + length
    (advice_of (before_all_days Other) t)) ≡ true
said_some said t h = one_of said.characters t (some_early said t h)
