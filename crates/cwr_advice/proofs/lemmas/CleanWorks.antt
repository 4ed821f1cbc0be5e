-- A work of which what is kept says that there is no advice on it.
use Prim.Native.String.{String}
use Rattle.std.proofs.Common.{◌≡◌, ℕ, zero, suc, ◌+◌, ◌≤◌, Bool, true, false, not, cond, List, [], ◌∷◌, ◌++◌, length, map, take}
use Rattle.std.proofs.Common.{refl, sym, ap, ap₂, subst, ◌∙◌, arith, inl, inr}
use Rattle.std.specs.Prelude.{Some, slice_get, filter, flat_map, ◌||◌, ◌&&◌, ◌⊎◌}
use Rattle.std.specs.List.{list_any, sum_by, enumerate_from}
use Rattle.std.proofs.lemmas.Bool.{and_cases, and_left, and_parts, and_right, cases_Bool, le-ltb, or_from, or_parts}
use Rattle.std.proofs.lemmas.List.Sums.{sum_by-cons}
use Rattle.std.proofs.lemmas.Option.{slice_get_within}
use Rattle.std.proofs.lemmas.List.{take_all}
use Rattle.cwr_fields.specs.declared.kinds.Kind.TheVariants as kinds
use Rattle.cwr_lines.specs.Format.Records.{RecordValue, cell_named}
use Rattle.cwr_findings.specs.Format.Findings.{is_a, is_blank, share_of}
use Rattle.cwr_findings.specs.Steps.Walks.{capped}
use Rattle.cwr_findings.proofs.lemmas.OneMore.{any_there}
use Rattle.cwr_advice.specs.declared.rules.AdviceRule.{AdviceRule}
use Rattle.cwr_advice.specs.declared.rules.AdviceRule.TheVariants.{A1a, A1b, A2a, A2b, A2c, A2d, A2e, A2f, A2g, A2h, A3a, A3b}
use Rattle.cwr_advice.specs.declared.rules.AdviceRule.TheVariants.{A3c, A3d, A3e, A4a, A4b, A4c, A4d, A5a, A6a, A6b, A6c, A7a}
use Rattle.cwr_advice.specs.declared.rules.AdviceRule.TheVariants.{A8a, A8b, A8c, A8d, A8e, A9a, A9b, A9c}
use Rattle.cwr_advice.specs.declared.rules.Asked.{Asked}
use Rattle.cwr_advice.specs.declared.rules.Advice.{Advice}
use Rattle.cwr_advice.specs.declared.kept.AdviceSums.{AdviceSums}
use Rattle.cwr_advice.specs.Format.Rules.{advice_at, advice_of, advice_of_asked, are_over_in, asked_of, begins_with_agent, breaks}
use Rattle.cwr_advice.specs.Format.Rules.{cell_at, collects_in, collects_nowhere, goes_over, has_composite_type}
use Rattle.cwr_advice.specs.Format.Rules.{has_few_territories, has_no_composite_type, has_no_publisher, has_no_territory, has_nothing}
use Rattle.cwr_advice.specs.Format.Rules.{is_acknowledgement, is_compared, is_over_in, is_stray_component, is_territory}
use Rattle.cwr_advice.specs.Format.Rules.{is_territory_of, is_version, lacks_components, lacks_original, owns_shares}
use Rattle.cwr_advice.specs.Format.Rules.{names_other_writer, records_of_writer, stands_twice, states_nothing, writers_own_less}
use Rattle.cwr_advice.specs.declared.said.Said.{Said}
use Rattle.cwr_advice.specs.Steps.Kept.{AreKept, StandsFor, may_break_alone, may_break_some}
use Rattle.cwr_advice.proofs.lemmas.AsciiTexts.{never_lost, never_unlike}
use Rattle.cwr_advice.proofs.lemmas.EarlyDays.{never_to_come}
use Rattle.cwr_advice.proofs.lemmas.OwingWriters.{nobody_owes}

-- ---- a record that breaks no rule

-- a record of the transaction that breaks none of the rules that speak of several records
record IsUnadvised (t : List RecordValue) (k : ℕ) (r : RecordValue) : Type 0 where
  over : goes_over t k r ≡ false
  twice : stands_twice t k r ≡ false
  agent : begins_with_agent t k r ≡ false
  nowhere : collects_nowhere t ≡ false
  publisher : has_no_publisher t k r ≡ false
  territory : has_no_territory t k r ≡ false
  nothing : has_nothing t k r ≡ false
  other : names_other_writer t k r ≡ false
  less : writers_own_less t ≡ false
  performing : states_nothing "pr share" t ≡ false
  mechanical : states_nothing "mr share" t ≡ false
  synchronization : states_nothing "sr share" t ≡ false
  components : lacks_components t r ≡ false
  stray : is_stray_component t r ≡ false
  original : lacks_original t r ≡ false

unbroken : (said : Said) (t : List RecordValue) (k : ℕ) (r : RecordValue) → IsUnadvised t k r → (rule : AdviceRule) (j : ℕ)
    → may_break_alone rule r j ≡ false → breaks said rule t k r j ≡ false
unbroken said t k r h A1a j e = h.over
unbroken said t k r h A1b j e = h.twice
unbroken said t k r h A2a j e = h.agent
unbroken said t k r h A2b j e = h.nowhere
unbroken said t k r h A2c j e = h.publisher
unbroken said t k r h A2d j e = h.territory
unbroken said t k r h A2e j e = h.nothing
unbroken said t k r h A2f j e = e
unbroken said t k r h A2g j e = e
unbroken said t k r h A2h j e = h.other
unbroken said t k r h A3a j e = e
unbroken said t k r h A3b j e = h.less
unbroken said t k r h A3c j e = h.performing
unbroken said t k r h A3d j e = h.mechanical
unbroken said t k r h A3e j e = h.synchronization
unbroken said t k r h A4a j e = e
unbroken said t k r h A4b j e = e
unbroken said t k r h A4c j e = e
unbroken said t k r h A4d j e = e
unbroken said t k r h A5a j e = refl
unbroken said t k r h A6a j e = h.components
unbroken said t k r h A6b j e = h.stray
unbroken said t k r h A6c j e = h.original
unbroken said t k r h A7a j e = e
unbroken said t k r h A8a j e = e
unbroken said t k r h A8b j e = e
unbroken said t k r h A8c j e = e
unbroken said t k r h A8d j e = e
unbroken said t k r h A8e j e = never_to_come said.sent (cell_at r j) e
unbroken said t k r h A9a j e = never_unlike said.characters (cell_at r j) e
unbroken said t k r h A9b j e = never_lost (cell_at r j) e
unbroken said t k r h A9c j e = e

none_kept : {X : Type 0} → (b : Bool) (x : X) (l : List X) → b ≡ false → l ≡ [] → cond b (x ∷ l) l ≡ []
none_kept true x l e none = absurd (cc e)
none_kept false x l e none = none

none_asked : (said : Said) (t : List RecordValue) (k : ℕ) (r : RecordValue) → IsUnadvised t k r → (l : List Asked)
    → list_any (λ asked. may_break_alone asked.rule r asked.field) l ≡ false
    → filter (λ asked. breaks said asked.rule t k r asked.field) l ≡ []
none_asked said t k r h [] e = refl
none_asked said t k r h (a ∷ l) e =
    let parts = or_parts (may_break_alone a.rule r a.field) (list_any (λ asked. may_break_alone asked.rule r asked.field) l) e in
    none_kept (breaks said a.rule t k r a.field) a (filter (λ asked. breaks said asked.rule t k r asked.field) l)
    (unbroken said t k r h a.rule a.field parts.0) (none_asked said t k r h l parts.1)

none_at : (said : Said) (t : List RecordValue) (k : ℕ) (r : RecordValue) → IsUnadvised t k r → may_break_some r ≡ false
    → advice_at said t k r ≡ []
none_at said t k r h e = ap (map (advice_of_asked k)) (none_asked said t k r h (asked_of r.kind) e)

none_from : (said : Said) (t rest : List RecordValue) (i : ℕ)
    → ((k : ℕ) (r : RecordValue) → slice_get rest k ≡ Some r → advice_at said t (i + k) r ≡ [])
    → flat_map (λ p. advice_at said t p.0 p.1) (enumerate_from i rest) ≡ []
none_from said t [] i h = refl
none_from said t (x ∷ rest) i h =
    let here : i + 0 ≡ i = omega arith in
    let first : advice_at said t i x ≡ [] = subst (λ (m : ℕ). advice_at said t m x ≡ []) here (h 0 x refl) in
    ap₂ (λ (a b : List Advice). a ++ b) first
    (none_from said t rest (i + 1) (λ k r e. let further : i + suc k ≡ (i + 1) + k =
    omega arith in subst (λ (m : ℕ). advice_at said t m r ≡ []) further (h (suc k) r e)))

either_none : (b : Bool) (l : List Advice) → l ≡ [] → cond b [] l ≡ []
either_none true l e = refl
either_none false l e = e

none_of : (said : Said) (t : List RecordValue) → ((k : ℕ) (r : RecordValue) → slice_get t k ≡ Some r → advice_at said t k r ≡ [])
    → advice_of said t ≡ []
unfolding advice_of
none_of said t h =
    either_none (is_acknowledgement t) (flat_map (λ p. advice_at said t p.0 p.1) (enumerate_from 0 t))
    (none_from said t t 0
    (λ k r e. let same : 0 + k ≡ k = omega arith in subst (λ (m : ℕ). advice_at said t m r ≡ []) (sym same) (h k r e)))

-- an acknowledgement
none_of_answer : (said : Said) (t : List RecordValue) → is_acknowledgement t ≡ true → advice_of said t ≡ []
unfolding advice_of
none_of_answer said t e =
    ap (λ (b : Bool). cond b [] (flat_map (λ (p : ℕ × RecordValue). advice_at said t p.0 p.1) (enumerate_from 0 t))) e

-- ---- what is collected in one territory is no more than what is in all

added_if : (f : RecordValue → ℕ) (b : Bool) (x : RecordValue) (l : List RecordValue)
    → sum_by f (cond b (x ∷ l) l) ≡ cond b (f x) 0 + sum_by f l
added_if f true x l = sum_by-cons f x l
added_if f false x l = omega arith

no_more : (a b : Bool) (n : ℕ) → (a ≡ true → b ≡ true) → cond a n 0 ≤ cond b n 0
no_more true true n h = omega arith
no_more true false n h = absurd (let no : false ≡ true = h refl in cc no)
no_more false b n h = omega arith

part_of : (f : RecordValue → ℕ) (p q : RecordValue → Bool) → ((r : RecordValue) → p r ≡ true → q r ≡ true)
    → (n : ℕ) (t : List RecordValue) → sum_by f (filter p (take n t)) ≤ sum_by f (filter q t)
part_of f p q more zero [] = omega arith
part_of f p q more (suc n) [] = omega arith
part_of f p q more zero (x ∷ t) = let none : sum_by f (filter p (take 0 (x ∷ t))) ≡ 0 = refl in omega (arith, none)
part_of f p q more (suc n) (x ∷ t) =
    omega (
      arith,
      added_if f (p x) x (filter p (take n t)),
      added_if f (q x) x (filter q t),
      no_more (p x) (q x) (f x) (more x),
      part_of f p q more n t,
    )

collected_there : (code : List ℕ) (r : RecordValue) → collects_in code r ≡ true → is_territory r ≡ true
collected_there code r h = (and_parts (is_territory r) _ ((and_parts (is_territory_of code r) _ h).0)).0

none_over : (code : List ℕ) (t : List RecordValue) (n : ℕ) (right : String) (s : ℕ)
    → s ≡ capped (sum_by (share_of right) (filter is_territory t)) → s ≤ 10006 → is_over_in code (take n t) right ≡ false
none_over code t n right s e h =
    let within : sum_by (share_of right) (filter (collects_in code) (take n t)) ≤ 10006 =
    omega (arith, e, h, part_of (share_of right) (collects_in code) is_territory (collected_there code) n t) in
    le-ltb 10006 (sum_by (share_of right) (filter (collects_in code) (take n t))) within

-- ---- a whole work

-- what the questions at the end say
pub record IsClean (s : AdviceSums) (t : List RecordValue) : Type 0 where
  pub nowhere : collects_nowhere t ≡ false
  pub less : writers_own_less t ≡ false
  pub stated : (states_nothing "pr share" t || states_nothing "mr share" t || states_nothing "sr share" t) ≡ false
  pub performing : s.collected.performing ≤ 10006
  pub mechanical : s.collected.mechanical ≤ 10006
  pub synchronization : s.collected.synchronization ≤ 10006
  pub collections : (s.collections.lacks || s.collections.owes) ≡ false
  pub publishers : (s.facts.has_publisher && (s.publishers.lacks || s.publishers.owes)) ≡ false
  pub components : (s.headers.has_composite && not s.facts.has_component) ≡ false
  pub stray : (s.headers.has_plain && s.facts.has_component) ≡ false
  pub original : (s.headers.has_version && not s.facts.has_original) ≡ false

-- a record that passes is there
there_is : (p : RecordValue → Bool) (t : List RecordValue) (k : ℕ) (r : RecordValue) → slice_get t k ≡ Some r → p r ≡ true
    → list_any p t ≡ true
there_is p t k r e h =
    ap (list_any p) (sym (take_all (length t) t (omega arith))) ∙ any_there p t k (length t) r e h (slice_get_within t k r e)

-- where some that pass need one of the others, and there is one or nobody passes
none_needed : (p : RecordValue → Bool) (t : List RecordValue) (k : ℕ) (r : RecordValue) (a b : Bool) → slice_get t k ≡ Some r
    → a ≡ list_any p t → (a && b) ≡ false → (p r && b) ≡ false
none_needed p t k r a b e f h = elim (cases_Bool (p r)) [
  | inl passes ↦ and_right (p r) b (elim (and_cases a b h)
      [ inl none ↦ (let some : false ≡ true = sym none ∙ f ∙ there_is p t k r e passes in absurd (cc some)) | inr given ↦ given ])
  | inr fails ↦ and_left (p r) b fails
]

none_before : (p : RecordValue → Bool) (t : List RecordValue) (n : ℕ) → list_any p t ≡ false → list_any p (take n t) ≡ false
none_before p [] zero h = refl
none_before p [] (suc n) h = refl
none_before p (x ∷ t) zero h = refl
none_before p (x ∷ t) (suc n) h =
    let parts = or_parts (p x) (list_any p t) h in or_from (p x) (list_any p (take n t)) parts.0 (none_before p t n parts.1)

middle_false : (a b c d : Bool) → (b && c && d) ≡ false → (a && b && c && d) ≡ false
middle_false true b c d h = h
middle_false false b c d h = refl

not_compared : (few a b x : Bool) → (a && b && x) ≡ false → ((few && a && b) && x) ≡ false
not_compared true a b x h = h
not_compared false a b x h = refl

no_publisher : (a b c has : Bool) → (a ≡ true → (c ≡ true) ⊎ (b ≡ false)) → (a && b && not c) ≡ false
no_publisher false b c has h = refl
no_publisher true b c has h =
    elim (h refl) [ inl given ↦ and_right b (not c) (ap not given) | inr none ↦ and_left b (not c) none ]

unadvised : (s : AdviceSums) (t : List RecordValue) → AreKept s t → IsClean s t → (k : ℕ) (r : RecordValue)
    → slice_get t k ≡ Some r → IsUnadvised t k r
unadvised s t h clean k r there = record {
  over =
      let code = cell_named "tis code" r in
      let over : are_over_in code (take (k + 1) t) ≡ false =
      or_from _ _ (or_from _ _
      (none_over code t (k + 1) "pr collection share" s.collected.performing h.collected.performing clean.performing)
      (none_over code t (k + 1) "mr collection share" s.collected.mechanical h.collected.mechanical clean.mechanical))
      (none_over code t (k + 1) "sr collection share" s.collected.synchronization h.collected.synchronization
      clean.synchronization) in
      and_left (is_compared t r && are_over_in code (take (k + 1) t)) _ (and_right (is_compared t r) _ over);
  twice = not_compared (has_few_territories t) (is_territory r) (not (is_blank "tis code" r)) _ (h.calm k r there).twice;
  agent = (h.calm k r there).chain;
  nowhere = clean.nowhere;
  publisher =
      no_publisher (is_a kinds.Swr r) (list_any (is_a kinds.Spu) t) (list_any (is_a kinds.Pwr) (records_of_writer t k)) true
      (λ controlled. elim (and_cases s.facts.has_publisher (s.publishers.lacks || s.publishers.owes) clean.publishers) [
        | inl none ↦ inr (sym h.facts.publisher ∙ none)
        | inr nobody ↦ inl (nobody_owes (is_a kinds.Swr) (is_a kinds.Pwr) t s.publishers k r h.publishers nobody there controlled)
      ]);
  territory = owed_territory (owns_shares r) (cases_Bool (is_a kinds.Swr r));
  nothing = owed_territory (not (owns_shares r)) (cases_Bool (is_a kinds.Swr r));
  other = (h.calm k r there).writer;
  less = clean.less;
  performing = stated_rights.0;
  mechanical = stated_rights.1;
  synchronization = stated_rights.2;
  components =
      none_needed has_composite_type t k r s.headers.has_composite (not (list_any (is_a kinds.Com) t)) there h.headers.composite
      (ap (λ (b : Bool). s.headers.has_composite && not b) (sym h.facts.component) ∙ clean.components);
  stray = stray_one (cases_Bool (is_a kinds.Com r));
  original =
      none_needed is_version t k r s.headers.has_version (not (list_any (is_a kinds.Ver) t)) there h.headers.version
      (ap (λ (b : Bool). s.headers.has_version && not b) (sym h.facts.original) ∙ clean.original);
}
  where
    owed_territory : (x : Bool) → ((is_a kinds.Swr r ≡ true) ⊎ (is_a kinds.Swr r ≡ false))
        → (is_a kinds.Swr r && x && not (list_any (is_a kinds.Swt) (records_of_writer t k))) ≡ false
    owed_territory x (inl asks) =
        and_right (is_a kinds.Swr r && x) _
        (ap not (nobody_owes (is_a kinds.Swr) (is_a kinds.Swt) t s.collections k r h.collections clean.collections there asks))
    owed_territory x (inr other) =
        and_left (is_a kinds.Swr r && x) (not (list_any (is_a kinds.Swt) (records_of_writer t k)))
        (and_left (is_a kinds.Swr r) x other)

    stated_rights : (states_nothing "pr share" t ≡ false) × (states_nothing "mr share" t ≡ false) × (states_nothing "sr share" t ≡ false)
    stated_rights =
        let last = or_parts (states_nothing "pr share" t || states_nothing "mr share" t) (states_nothing "sr share" t) clean.stated in
        let first = or_parts (states_nothing "pr share" t) (states_nothing "mr share" t) last.0 in
        (first.0, first.1, last.1)

    stray_one : ((is_a kinds.Com r ≡ true) ⊎ (is_a kinds.Com r ≡ false)) → is_stray_component t r ≡ false
    stray_one (inl component) =
        let some : s.facts.has_component ≡ true = h.facts.component ∙ there_is (is_a kinds.Com) t k r there component in
        and_right (is_a kinds.Com r) _ (none_before has_no_composite_type t 1
        (sym h.headers.plain ∙ elim (and_cases s.headers.has_plain s.facts.has_component clean.stray) [
          | inl none ↦ none
          | inr without ↦ (let both : true ≡ false = sym some ∙ without in absurd (cc both))
        ]))
    stray_one (inr other) = and_left (is_a kinds.Com r) _ other

-- there is no advice on it
pub none_on_clean : (said : Said) (s : AdviceSums) (t : List RecordValue) → AreKept s t → IsClean s t → advice_of said t ≡ []
none_on_clean said s t h clean =
    none_of said t (λ k r there. none_at said t k r (unadvised s t h clean k r there) (h.calm k r there).alone)

-- ---- a transaction, which may be an acknowledgement

not_both : (b : Bool) → b ≡ true → b ≡ false → ⊥
not_both b is isnt = let same : true ≡ false = sym is ∙ isnt in cc same

still_answer : (t : List RecordValue) (r : RecordValue) → is_acknowledgement t ≡ true → is_acknowledgement (t ++ r ∷ []) ≡ true
still_answer [] r h = absurd (cc h)
still_answer (x ∷ []) r h = h
still_answer (x ∷ y ∷ t) r h = h

-- one record more of an acknowledgement
pub answer_more : (s : AdviceSums) (t : List RecordValue) (r : RecordValue) → s.is_acknowledgement ≡ true → StandsFor s t
    → StandsFor s (t ++ r ∷ [])
answer_more s t r is (inl h) = inl (h.0, still_answer t r h.1)
answer_more s t r is (inr h) = absurd (not_both s.is_acknowledgement is h.0)

-- and of another transaction
pub work_more : (old new : AdviceSums) (t : List RecordValue) (r : RecordValue) → old.is_acknowledgement ≡ false
    → new.is_acknowledgement ≡ old.is_acknowledgement → StandsFor old t → (AreKept old t → AreKept new (t ++ r ∷ []))
    → StandsFor new (t ++ r ∷ [])
work_more old new t r isnt same (inl h) more = absurd (not_both old.is_acknowledgement h.0 isnt)
work_more old new t r isnt same (inr h) more = inr (same ∙ isnt, more h.1)

pub none_on_answer : (said : Said) (s : AdviceSums) (t : List RecordValue) → s.is_acknowledgement ≡ true → StandsFor s t
    → advice_of said t ≡ []
none_on_answer said s t is (inl h) = none_of_answer said t h.1
none_on_answer said s t is (inr h) = absurd (not_both s.is_acknowledgement is h.0)

pub none_on_work : (said : Said) (s : AdviceSums) (t : List RecordValue) → s.is_acknowledgement ≡ false → StandsFor s t
    → (AreKept s t → advice_of said t ≡ []) → advice_of said t ≡ []
none_on_work said s t isnt (inl h) clean = absurd (not_both s.is_acknowledgement h.0 isnt)
none_on_work said s t isnt (inr h) clean = clean h.1
