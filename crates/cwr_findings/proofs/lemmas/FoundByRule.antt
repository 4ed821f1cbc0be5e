-- The findings at a record, rule by rule.
use Rattle.std.proofs.Common.{◌≡◌, ℕ, zero, suc, ◌+◌, ◌<◌, ◌≤◌, Bool, true, false, cond, List, [], ◌∷◌, ◌++◌, length, map, take}
use Rattle.std.proofs.Common.{get_or, refl, sym, ap, ◌∙◌, arith, nat_eq, append_assoc, true≢false}
use Rattle.std.specs.Prelude.{OnErr, Ok, Err, Result, Some, filter, slice_get, ◌&&◌, ◌||◌}
use Rattle.std.proofs.lemmas.Bool.{and_parts, eqb-true}
use Rattle.std.proofs.lemmas.List.{append-nil, map-append, take_all}
use Rattle.std.proofs.lemmas.List.Elements.{filter_more}
use Rattle.cwr_fields.specs.declared.kinds.Kind.TheVariants as kinds
use Rattle.cwr_lines.specs.Format.Records.{RecordValue}
use Rattle.cwr_findings.specs.declared.rules.Rule.{Rule}
use Rattle.cwr_findings.specs.declared.rules.Rule.TheVariants.{V1, V2, V3, V4, V5, V6, V7, V8, V9, V10, V11}
use Rattle.cwr_findings.specs.declared.rules.Finding.{Finding}
use Rattle.cwr_findings.specs.Format.Findings.{breaks, is_a, is_work, is_agreement, field_of_rule, level_of_rule, all_rules}
use Rattle.cwr_findings.specs.Format.Findings.{findings_at}
use Rattle.cwr_findings.specs.Steps.Walks.{can_break, is_kind, rules_on}
use Rattle.cwr_findings.proofs.lemmas.RuleTests.{first_of_work, first_of_agreement, or_none}

-- the finding of a rule at a record
abbrev pub finding_of : ℕ → ℕ → RecordValue → Rule → Finding
finding_of n k r rule = record { rec = n + k; field = field_of_rule rule r.kind; rule = rule; level = level_of_rule rule }

-- the findings of these rules at a record
abbrev pub found_by : ℕ → List RecordValue → ℕ → RecordValue → List Rule → List Finding
found_by n t k r rules = map (finding_of n k r) (filter (λ rule. breaks rule t k r) rules)

-- ---- a rule is broken only by the kinds that can break it

header_at : (t : List RecordValue) (k : ℕ) (r : RecordValue) (x : Bool) → slice_get t k ≡ Some r
    → (is_work t && nat_eq k 0 && x) ≡ true → (is_kind kinds.Nwr r.kind || is_kind kinds.Rev r.kind) ≡ true
header_at t k r x there h =
    let p = and_parts (is_work t && nat_eq k 0) x h in
    let q = and_parts (is_work t) (nat_eq k 0) p.0 in
    let first : slice_get t 0 ≡ Some r = ap (slice_get t) (sym (eqb-true k 0 q.1)) ∙ there in
    sym (or_none (is_a kinds.Nwr r || is_a kinds.Rev r)) ∙ first_of_work t r first ∙ q.0

agreement_at : (t : List RecordValue) (k : ℕ) (r : RecordValue) (x : Bool) → slice_get t k ≡ Some r
    → (is_agreement t && nat_eq k 0 && x) ≡ true → is_kind kinds.Agr r.kind ≡ true
agreement_at t k r x there h =
    let p = and_parts (is_agreement t && nat_eq k 0) x h in
    let q = and_parts (is_agreement t) (nat_eq k 0) p.0 in
    let first : slice_get t 0 ≡ Some r = ap (slice_get t) (sym (eqb-true k 0 q.1)) ∙ there in
    sym (or_none (is_a kinds.Agr r)) ∙ first_of_agreement t r first ∙ q.0

one_of_two : (a b x y : Bool) → ((a && x) || (b && y)) ≡ true → (a || b) ≡ true
one_of_two true b x y h = refl
one_of_two false true x y h = refl
one_of_two false false x y h = h

first_of_three : (a b c : Bool) → (a && b && c) ≡ true → a ≡ true
first_of_three true b c h = refl
first_of_three false b c h = h

second_of_three : (a b c : Bool) → (a && b && c) ≡ true → b ≡ true
second_of_three true true c h = refl
second_of_three true false c h = h
second_of_three false true c h = refl
second_of_three false false c h = h

second_of_four : (a b c d : Bool) → (a && b && c && d) ≡ true → b ≡ true
second_of_four a b c d h = second_of_three a b c (and_parts (a && b && c) d h).0

pub broken_can_be : (rule : Rule) (t : List RecordValue) (k : ℕ) (r : RecordValue) → slice_get t k ≡ Some r
    → breaks rule t k r ≡ true → can_break rule r.kind ≡ true
broken_can_be V1 t k r there h = first_of_three (can_break V1 r.kind) _ _ h
broken_can_be V2 t k r there h =
    one_of_two (is_kind kinds.Spt r.kind) (is_kind kinds.Swt r.kind) _ _ (and_parts (is_work t) _ h).1
broken_can_be V3 t k r there h = header_at t k r _ there h
broken_can_be V4 t k r there h = header_at t k r _ there h
broken_can_be V5 t k r there h = header_at t k r _ there h
broken_can_be V6 t k r there h = header_at t k r _ there h
broken_can_be V7 t k r there h = second_of_three (is_work t) (is_a kinds.Pwr r) _ h
broken_can_be V8 t k r there h = second_of_three (is_work t) (is_a kinds.Ewt r) _ h
broken_can_be V9 t k r there h = header_at t k r _ there h
broken_can_be V10 t k r there h = agreement_at t k r _ there h
broken_can_be V11 t k r there h = second_of_four (is_agreement t) (is_a kinds.Ter r) _ _ h

filter_by : (p q : Rule → Bool) (x : Rule) (l : List Rule) (a b : Bool) → p x ≡ a → q x ≡ b → (a ≡ true → b ≡ true)
    → filter p (filter q l) ≡ filter p l → filter p (filter q (x ∷ l)) ≡ filter p (x ∷ l)
filter_by p q x l true true e f h rest = rw (f, e) (ap (λ (m : List Rule). x ∷ m) rest)
filter_by p q x l true false e f h rest = absurd (true≢false (sym (h refl)))
filter_by p q x l false true e f h rest = rw (f, e) rest
filter_by p q x l false false e f h rest = rw (f, e) rest

-- whom one test keeps, another that lets them all pass doesn't matter to
filter_within : (p q : Rule → Bool) → ((x : Rule) → p x ≡ true → q x ≡ true) → (l : List Rule)
    → filter p (filter q l) ≡ filter p l
filter_within p q h [] = refl
filter_within p q h (x ∷ l) = filter_by p q x l (p x) (q x) refl refl (h x) (filter_within p q h l)

-- so these rules are all that need to be asked
pub found_by_all : (n : ℕ) (t : List RecordValue) (k : ℕ) (r : RecordValue) → slice_get t k ≡ Some r
    → found_by n t k r (rules_on r.kind) ≡ findings_at n t k r
found_by_all n t k r there =
    ap (map (finding_of n k r)) (filter_within (λ rule. breaks rule t k r) (λ rule. can_break rule r.kind)
    (λ rule h. broken_can_be rule t k r there h) all_rules)

pub found_by_end : (n : ℕ) (t : List RecordValue) (k : ℕ) (r : RecordValue) (rules : List Rule) (i : ℕ) → slice_get t k ≡ Some r
    → rules ≡ rules_on r.kind → length rules ≤ i → found_by n t k r (take i rules) ≡ findings_at n t k r
found_by_end n t k r rules i there e end = ap (found_by n t k r) (take_all i rules end ∙ e) ∙ found_by_all n t k r there

-- ---- one rule more

pub found_by_more : (n : ℕ) (t : List RecordValue) (k : ℕ) (r : RecordValue) (rules : List Rule) (i : ℕ) (d : Rule)
    (old found : List Finding) → i < length rules → breaks (get_or rules i d) t k r ≡ true
    → found ≡ old ++ found_by n t k r (take i rules)
    → found ++ finding_of n k r (get_or rules i d) ∷ [] ≡ old ++ found_by n t k r (take (i + 1) rules)
found_by_more n t k r rules i d old found below broken h =
    ap (λ (l : List Finding). l ++ finding_of n k r (get_or rules i d) ∷ []) h
    ∙ append_assoc old (found_by n t k r (take i rules)) (finding_of n k r (get_or rules i d) ∷ [])
    ∙ ap (λ (l : List Finding). old ++ l)
    (sym (ap (map (finding_of n k r)) (filter_more (λ rule. breaks rule t k r) rules i d below
    ∙ ap (λ (b : Bool). filter (λ rule. breaks rule t k r) (take i rules) ++ cond b (get_or rules i d ∷ []) []) broken)
    ∙ map-append (finding_of n k r) (filter (λ rule. breaks rule t k r) (take i rules)) (get_or rules i d ∷ [])))

pub found_by_same : (n : ℕ) (t : List RecordValue) (k : ℕ) (r : RecordValue) (rules : List Rule) (i : ℕ) (d : Rule)
    (old found : List Finding) → i < length rules → breaks (get_or rules i d) t k r ≡ false
    → found ≡ old ++ found_by n t k r (take i rules) → found ≡ old ++ found_by n t k r (take (i + 1) rules)
found_by_same n t k r rules i d old found below kept h =
    h ∙ ap (λ (l : List Finding). old ++ l)
    (sym (ap (map (finding_of n k r)) (filter_more (λ rule. breaks rule t k r) rules i d below
    ∙ ap (λ (b : Bool). filter (λ rule. breaks rule t k r) (take i rules) ++ cond b (get_or rules i d ∷ []) []) kept
    ∙ append-nil (filter (λ rule. breaks rule t k r) (take i rules)))))

-- ---- a finding that is there

kept_in_front : (b : Bool) (x : Rule) (rest : List Rule) → b ≡ true → cond b (x ∷ rest) rest ≡ [] → ⊥
kept_in_front true x rest e none = absurd (cc none)
kept_in_front false x rest e none = absurd (cc e)

none_behind : (b : Bool) (x : Rule) (rest : List Rule) → cond b (x ∷ rest) rest ≡ [] → rest ≡ []
none_behind true x rest none = absurd (cc none)
none_behind false x rest none = none

some_kept : (p : Rule → Bool) (l : List Rule) (i : ℕ) (d : Rule) → i < length l → p (get_or l i d) ≡ true → filter p l ≡ [] → ⊥
some_kept p [] i d h e none = absurd (omega (arith, h))
some_kept p (x ∷ l) zero d h e none = kept_in_front (p x) x (filter p l) e none
some_kept p (x ∷ l) (suc i) d h e none = some_kept p l i d (omega (arith, h)) e (none_behind (p x) x (filter p l) none)

none_mapped : (f : Rule → Finding) (l : List Rule) → map f l ≡ [] → l ≡ []
none_mapped f [] e = refl
none_mapped f (x ∷ l) e = absurd (cc e)

pub some_found : (n : ℕ) (t : List RecordValue) (k : ℕ) (r : RecordValue) (rules : List Rule) (i : ℕ) (d : Rule)
    → slice_get t k ≡ Some r → rules ≡ rules_on r.kind → i < length rules → breaks (get_or rules i d) t k r ≡ true
    → findings_at n t k r ≡ [] → ⊥
some_found n t k r rules i d there e below broken none =
    some_kept (λ rule. breaks rule t k r) rules i d below broken
    (none_mapped (finding_of n k r) (filter (λ rule. breaks rule t k r) rules)
    (ap (found_by n t k r) e ∙ found_by_all n t k r there ∙ none))

pub on_err : {T E : Type 0} → (r : Result T E) (P : Type 0) → P → OnErr r P
on_err (Ok x) P h = tt
on_err (Err e) P h = h
