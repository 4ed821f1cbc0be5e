-- An agreement of which no record breaks a rule, one record after another.
use Rattle.std.proofs.Common.{◌≡◌, ℕ, zero, suc, ◌+◌, ◌<◌, ◌≤◌, Bool, true, false, cond, List, [], ◌∷◌, ◌++◌, length, refl, sym}
use Rattle.std.proofs.Common.{ap, ap₂, ◌∙◌, subst, arith, inl, inr}
use Rattle.std.specs.Prelude.{◌⊎◌, ◌&&◌, ◌||◌, ◌==◌, Some, filter, map, slice_get}
use Rattle.std.proofs.lemmas.List.{drop_all, length-append}
use Rattle.cwr_fields.specs.declared.kinds.Kind.{Kind}
use Rattle.cwr_fields.specs.declared.kinds.Kind.TheVariants as kinds
use Rattle.cwr_fields.specs.Format.Kinds.{is_carried}
use Rattle.cwr_lines.specs.Format.Records.{RecordValue}
use Rattle.cwr_findings.specs.declared.rules.Rule.{Rule}
use Rattle.cwr_findings.specs.declared.rules.Rule.TheVariants.{V1, V2, V3, V4, V5, V6, V7, V8, V9, V10, V11}
use Rattle.cwr_findings.specs.declared.sums.Begun.TheVariants.{Agreement}
use Rattle.cwr_findings.specs.declared.sums.Sums.{Sums}
use Rattle.cwr_findings.specs.Format.Findings.{all_rules, breaks, ends_before_start, findings_after, have_side_over_whole}
use Rattle.cwr_findings.specs.Format.Findings.{is_a, is_agreement, is_party, is_work, parties_after}
use Rattle.cwr_findings.specs.Steps.Sums.{AreSides, BreakNothing, last_parties}
use Rattle.cwr_findings.specs.Steps.Walks.{SidesAddUpTo, can_break, is_kind}
use Rattle.cwr_findings.proofs.lemmas.FalseTests.{and_false, and_left, at_header, middle_false}
use Rattle.cwr_findings.proofs.lemmas.FoundByRecord.{none_at_any}
use Rattle.cwr_findings.proofs.lemmas.FoundByRule.{finding_of}
use Rattle.cwr_findings.proofs.lemmas.KindTests.{is_of_kind, is_of_no_kind, kind_of}
use Rattle.cwr_findings.proofs.lemmas.OneMore.{there_or_last}
use Rattle.cwr_findings.proofs.lemmas.OpenBlocks.{block_still_within, other_is_last, party_is_last, territory_is_last}
use Rattle.cwr_findings.proofs.lemmas.RuleTests.{first_of_agreement, first_of_work, header_of_agreement}

-- ---- an agreement is no work

agreement_more : (t : List RecordValue) (r : RecordValue) → is_agreement t ≡ true → is_agreement (t ++ r ∷ []) ≡ true
agreement_more [] r h = absurd (cc h)
agreement_more (x ∷ t) r h = sym (first_of_agreement (x ∷ (t ++ r ∷ [])) x refl) ∙ first_of_agreement (x ∷ t) x refl ∙ h

some_records : (t : List RecordValue) → is_agreement t ≡ true → 1 ≤ length t
some_records [] h = absurd (cc h)
some_records (x ∷ t) h = omega arith

no_work : (t : List RecordValue) → is_agreement t ≡ true → is_work t ≡ false
no_work [] h = refl
no_work (x ∷ t) h =
    sym (first_of_work (x ∷ t) x refl) ∙ none (header_of_agreement x (first_of_agreement (x ∷ t) x refl ∙ h))
  where
    none : x.kind ≡ kinds.Agr → is_work (x ∷ []) ≡ false
    none e = ap₂ (λ (a b : Bool). (a || b) || false) (ap (is_kind kinds.Nwr) e) (ap (is_kind kinds.Rev) e)

-- records of the kind have no work code
no_code : (t : List RecordValue) (k : ℕ) (r : RecordValue) → can_break V1 r.kind ≡ false → breaks V1 t k r ≡ false
no_code t k r h = and_left _ _ (and_left _ _ h)

-- so there are three rules that a record can break
unbroken_by : (t : List RecordValue) (k : ℕ) (r : RecordValue) → is_agreement t ≡ true → breaks V1 t k r ≡ false
    → breaks V10 t k r ≡ false → breaks V11 t k r ≡ false
    → (rule : Rule) → breaks rule t k r ≡ false
unbroken_by t k r agreement code dates block V1 = code
unbroken_by t k r agreement code dates block V2 = and_left (is_work t) _ (no_work t agreement)
unbroken_by t k r agreement code dates block V3 = and_left _ _ (and_left (is_work t) (k == 0) (no_work t agreement))
unbroken_by t k r agreement code dates block V4 = and_left _ _ (and_left (is_work t) (k == 0) (no_work t agreement))
unbroken_by t k r agreement code dates block V5 = and_left _ _ (and_left (is_work t) (k == 0) (no_work t agreement))
unbroken_by t k r agreement code dates block V6 = and_left _ _ (and_left (is_work t) (k == 0) (no_work t agreement))
unbroken_by t k r agreement code dates block V7 = and_left _ _ (and_left (is_work t) (is_a kinds.Pwr r) (no_work t agreement))
unbroken_by t k r agreement code dates block V8 = and_left _ _ (and_left (is_work t) (is_a kinds.Ewt r) (no_work t agreement))
unbroken_by t k r agreement code dates block V9 = and_left _ _ (and_left (is_work t) (k == 0) (no_work t agreement))
unbroken_by t k r agreement code dates block V10 = dates
unbroken_by t k r agreement code dates block V11 = block

-- ---- one record more

unbroken_more : (t : List RecordValue) (r : RecordValue) → is_agreement t ≡ true → BreakNothing t
    → can_break V1 r.kind ≡ false → have_side_over_whole (last_parties (t ++ r ∷ [])) ≡ false
    → BreakNothing (t ++ r ∷ [])
unbroken_more t r agreement all code within = λ rule k x there. by k x there (there_or_last t r k x there) rule
  where
    still : is_agreement (t ++ r ∷ []) ≡ true
    still = agreement_more t r agreement

    by : (k : ℕ) (x : RecordValue) → slice_get (t ++ r ∷ []) k ≡ Some x
        → ((k < length t) × (slice_get t k ≡ Some x)) ⊎ ((k ≡ length t) × (x ≡ r))
        → (rule : Rule) → breaks rule (t ++ r ∷ []) k x ≡ false
    by k x there (inl p) =
        unbroken_by (t ++ r ∷ []) k x still (all V1 k x p.1)
        (ap (λ (a : Bool). a && (k == 0) && ends_before_start x) (still ∙ sym agreement) ∙ all V10 k x p.1)
        (block_still_within t r k x (still ∙ sym agreement) p.0 there (all V11 k x p.1) within)
    by k x there (inr p) =
        unbroken_by (t ++ r ∷ []) k x still
        (no_code (t ++ r ∷ []) k x (ap (λ (y : RecordValue). can_break V1 y.kind) p.1 ∙ code))
        (at_header k (is_agreement (t ++ r ∷ [])) (ends_before_start x)
        (λ first. absurd (omega (arith, first, p.0, some_records t agreement))))
        (and_false _ _ (ap (λ (l : List RecordValue). have_side_over_whole (parties_after l))
        (drop_all (k + 1) (t ++ r ∷ []) (omega (arith, p.0, length-append t (r ∷ []))))))

sides_more : (old new : Sums) (t : List RecordValue) (r : RecordValue) → AreSides old t → new.begun ≡ old.begun
    → can_break V1 r.kind ≡ false → SidesAddUpTo (last_parties (t ++ r ∷ [])) new.sides
    → have_side_over_whole (last_parties (t ++ r ∷ [])) ≡ false
    → AreSides new (t ++ r ∷ [])
sides_more old new t r h same code sides within = record {
  begun = same ∙ h.begun;
  agreement = agreement_more t r h.agreement;
  sides = sides;
  within = within;
  unbroken = unbroken_more t r h.agreement h.unbroken code within;
}

pub territory_more : (old new : Sums) (t : List RecordValue) (r : RecordValue) → AreSides old t → new.begun ≡ old.begun
    → r.kind ≡ kinds.Ter → SidesAddUpTo [] new.sides
    → AreSides new (t ++ r ∷ [])
territory_more old new t r h same kind sides =
    let none : last_parties (t ++ r ∷ []) ≡ [] = territory_is_last t r (is_of_kind kinds.Ter r kind) in
    sides_more old new t r h same (ap (can_break V1) kind)
    (subst (λ (l : List RecordValue). SidesAddUpTo l new.sides) (sym none) sides)
    (ap have_side_over_whole none)

pub party_more : (old new : Sums) (t : List RecordValue) (r : RecordValue) (over : Bool) → AreSides old t
    → new.begun ≡ old.begun → is_party r ≡ true → SidesAddUpTo (last_parties t ++ r ∷ []) new.sides
    → ((parties : List RecordValue) → SidesAddUpTo parties new.sides → over ≡ have_side_over_whole parties) → over ≡ false
    → AreSides new (t ++ r ∷ [])
party_more old new t r over h same party sides asked none =
    let more : last_parties (t ++ r ∷ []) ≡ last_parties t ++ r ∷ [] = party_is_last t r party in
    sides_more old new t r h same (ap (can_break V1) (kind_of kinds.Ipa r party))
    (subst (λ (l : List RecordValue). SidesAddUpTo l new.sides) (sym more) sides)
    (ap have_side_over_whole more ∙ sym (asked (last_parties t ++ r ∷ []) sides) ∙ none)

-- the kinds that are carried as text have no work code
carried_code : (this_kind : Kind) → is_carried this_kind ≡ true → can_break V1 this_kind ≡ false
carried_code kinds.Nwr h = absurd (cc h)
carried_code kinds.Rev h = absurd (cc h)
carried_code kinds.Ewt h = absurd (cc h)
carried_code kinds.Ver h = absurd (cc h)
carried_code kinds.Com h = absurd (cc h)
carried_code this_kind h = refl

pub carried_more : (old : Sums) (t : List RecordValue) (r : RecordValue) → AreSides old t → is_carried r.kind ≡ true
    → AreSides old (t ++ r ∷ [])
carried_more old t r h carried =
    let same : last_parties (t ++ r ∷ []) ≡ last_parties t =
    other_is_last t r (is_of_no_kind kinds.Ipa r (λ e. not_carried kinds.Ipa refl e))
    (is_of_no_kind kinds.Ter r (λ e. not_carried kinds.Ter refl e)) in
    sides_more old old t r h refl (carried_code r.kind carried)
    (subst (λ (l : List RecordValue). SidesAddUpTo l old.sides) (sym same) h.sides)
    (ap have_side_over_whole same ∙ h.within)
  where
    not_carried : (this_kind : Kind) → is_carried this_kind ≡ false → r.kind ≡ this_kind → ⊥
    not_carried this_kind none e = let no : true ≡ false = sym carried ∙ ap is_carried e ∙ none in cc no

-- ---- the header

header_unbroken : (header : RecordValue) → is_agreement (header ∷ []) ≡ true → header.kind ≡ kinds.Agr
    → ends_before_start header ≡ false → BreakNothing (header ∷ [])
header_unbroken header agreement kind dates = λ rule k x there. by k x there rule
  where
    alone : (rule : Rule) → breaks rule (header ∷ []) 0 header ≡ false
    alone =
        unbroken_by (header ∷ []) 0 header agreement (no_code (header ∷ []) 0 header (ap (can_break V1) kind))
        (and_false _ _ dates)
        (and_left _ _ (middle_false (is_agreement (header ∷ [])) (is_a kinds.Ter header) _ (ap (is_kind kinds.Ter) kind)))

    by : (k : ℕ) (x : RecordValue) → slice_get (header ∷ []) k ≡ Some x → (rule : Rule) → breaks rule (header ∷ []) k x ≡ false
    by zero x there rule =
        let same : header ≡ x = cc there in
        subst (λ (y : RecordValue). breaks rule (header ∷ []) 0 y ≡ false) same (alone rule)
    by (suc k) x there rule = absurd (cc there)

pub begun_sides : (header : RecordValue) (s : Sums) → is_agreement (header ∷ []) ≡ true → ends_before_start header ≡ false
    → s.begun ≡ Agreement → SidesAddUpTo [] s.sides → AreSides s (header ∷ [])
begun_sides header s agreement dates begun sides =
    let kind = header_of_agreement header agreement in
    let none : last_parties (header ∷ []) ≡ [] =
    other_is_last [] header (ap (is_kind kinds.Ipa) kind) (ap (is_kind kinds.Ter) kind) in
    record {
      begun = begun;
      agreement = agreement;
      sides = subst (λ (l : List RecordValue). SidesAddUpTo l s.sides) (sym none) sides;
      within = ap have_side_over_whole none;
      unbroken = header_unbroken header agreement kind dates;
    }

-- ---- nothing is found

none_kept : (p : Rule → Bool) → ((rule : Rule) → p rule ≡ false) → (rules : List Rule) → filter p rules ≡ []
none_kept p h [] = refl
none_kept p h (rule ∷ rules) =
    ap (λ (b : Bool). cond b (rule ∷ filter p rules) (filter p rules)) (h rule) ∙ none_kept p h rules

pub none_in_agreement : (s : Sums) (t : List RecordValue) (n : ℕ) → AreSides s t → findings_after n t ≡ []
none_in_agreement s t n h =
    none_at_any n t (λ k r there. ap (map (finding_of n k r))
    (none_kept (λ rule. breaks rule t k r) (λ rule. h.unbroken rule k r there) all_rules))
