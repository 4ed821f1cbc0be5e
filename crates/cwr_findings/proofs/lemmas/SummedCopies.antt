-- Sums over the copy of an acknowledgement, or over a bare work or agreement, one record after another.
use Rattle.std.proofs.Common.{◌≡◌, ℕ, suc, ◌+◌, ◌≤◌, Bool, true, false, cond, List, [], ◌∷◌, ◌++◌, length, drop, refl, sym, ap, ap₂}
use Rattle.std.proofs.Common.{◌∙◌, subst, arith, inl, inr}
use Rattle.std.specs.Prelude.{◌||◌, ◌⊎◌}
use Rattle.std.specs.List.{prefix_len}
use Rattle.std.proofs.lemmas.List.{drop-append-le, drop_all, length-append}
use Rattle.std.proofs.Math.Seq.{drop-append_seam}
use Rattle.cwr_fields.specs.declared.kinds.Kind.{Kind}
use Rattle.cwr_fields.specs.declared.kinds.Kind.TheVariants as kinds
use Rattle.cwr_lines.specs.Format.Records.{RecordValue}
use Rattle.cwr_findings.specs.declared.sums.Begun.TheVariants.{Agreement, Nothing, Work}
use Rattle.cwr_findings.specs.declared.sums.Sums.{Sums}
use Rattle.cwr_findings.specs.Format.Findings.{before_copy, findings, findings_after, is_a, is_agreement, is_work, stands_before_copy}
use Rattle.cwr_findings.specs.Steps.Sums.{AreOver, AreSides, AreSums, StandFor}
use Rattle.cwr_findings.specs.Steps.Walks.{is_kind}
use Rattle.cwr_findings.proofs.lemmas.RuleTests.{header_of_agreement, header_of_work}
use Rattle.cwr_findings.proofs.lemmas.SummedSides.{none_in_agreement}

-- ---- what stands before a copy

all_before : (x : RecordValue) (t : List RecordValue) → before_copy (x ∷ t) ≡ length (x ∷ t)
    → (stands_before_copy x ≡ true) × (before_copy t ≡ length t)
all_before x t h = by (stands_before_copy x) refl
  where
    by : (b : Bool) → stands_before_copy x ≡ b → (stands_before_copy x ≡ true) × (before_copy t ≡ length t)
    by true e =
        let more : 1 + before_copy t ≡ length (x ∷ t) =
        ap (λ (b : Bool). cond b (1 + before_copy t) 0) (sym e) ∙ h in (e, omega (arith, more))
    by false e =
        let none : 0 ≡ length (x ∷ t) =
        ap (λ (b : Bool). cond b (1 + before_copy t) 0) (sym e) ∙ h in absurd (omega (arith, none))

-- one record more, where all stand before the copy
before_more : (t : List RecordValue) (r : RecordValue) (b : Bool) → before_copy t ≡ length t → stands_before_copy r ≡ b
    → before_copy (t ++ r ∷ []) ≡ length t + cond b 1 0
before_more [] r true h e = ap (λ (b : Bool). cond b (1 + 0) 0) e
before_more [] r false h e = ap (λ (b : Bool). cond b (1 + 0) 0) e
before_more (x ∷ t) r b h e =
    let all = all_before x t h in
    ap (λ (b : Bool). cond b (1 + before_copy (t ++ r ∷ [])) 0) all.0 ∙ ap (λ (n : ℕ). 1 + n) (before_more t r b all.1 e)
    ∙ further
  where
    further : 1 + (length t + cond b 1 0) ≡ length (x ∷ t) + cond b 1 0
    further = omega arith

-- and where one doesn't
before_still : (t : List RecordValue) (r : RecordValue) → (drop (before_copy t) t ≡ [] → ⊥)
    → (before_copy (t ++ r ∷ []) ≡ before_copy t) × (before_copy t ≤ length t)
before_still [] r h = absurd (h refl)
before_still (x ∷ t) r h = by (stands_before_copy x) refl (before_still t r)
  where
    by : (b : Bool) → stands_before_copy x ≡ b
        → ((drop (before_copy t) t ≡ [] → ⊥) → (before_copy (t ++ r ∷ []) ≡ before_copy t) × (before_copy t ≤ length t))
        → (before_copy (x ∷ (t ++ r ∷ [])) ≡ before_copy (x ∷ t)) × (before_copy (x ∷ t) ≤ length (x ∷ t))
    by true e others =
        let count : before_copy (x ∷ t) ≡ 1 + before_copy t = ap (λ (b : Bool). cond b (1 + before_copy t) 0) e in
        let next : 1 + before_copy t ≡ suc (before_copy t) = omega arith in
        let rest = others (λ none. h (ap (λ (n : ℕ). drop n (x ∷ t)) (count ∙ next) ∙ none)) in (
          ap (λ (b : Bool). cond b (1 + before_copy (t ++ r ∷ [])) 0) e ∙ ap (λ (n : ℕ). 1 + n) rest.0
              ∙ sym count,
          omega (arith, count, rest.1),
        )
    by false e others =
        let count : before_copy (x ∷ t) ≡ 0 = ap (λ (b : Bool). cond b (1 + before_copy t) 0) e in
        (ap (λ (b : Bool). cond b (1 + before_copy (t ++ r ∷ [])) 0) e ∙ sym count, omega (arith, count))

-- ---- what the sums are over

not_empty_work : (t : List RecordValue) → is_work t ≡ true → t ≡ [] → ⊥
not_empty_work [] h e = cc h
not_empty_work (x ∷ t) h e = cc e

not_empty_agreement : (t : List RecordValue) → is_agreement t ≡ true → t ≡ [] → ⊥
not_empty_agreement [] h e = cc h
not_empty_agreement (x ∷ t) h e = cc e

not_empty : (s : Sums) (t : List RecordValue) → AreOver s t → t ≡ [] → ⊥
not_empty s t (inl h) = not_empty_work t h.work
not_empty s t (inr h) = not_empty_agreement t h.agreement

something_begun : (s : Sums) (t : List RecordValue) → AreOver s t → s.begun ≡ Nothing → ⊥
something_begun s t (inl h) none = let no : Work ≡ Nothing = sym h.begun ∙ none in cc no
something_begun s t (inr h) none = let no : Agreement ≡ Nothing = sym h.begun ∙ none in cc no

over_work : (s : Sums) (t : List RecordValue) → s.begun ≡ Work → AreOver s t → AreSums s t
over_work s t begun (inl h) = h
over_work s t begun (inr h) = absurd (let no : Work ≡ Agreement = sym begun ∙ h.begun in cc no)

over_agreement : (s : Sums) (t : List RecordValue) → s.begun ≡ Agreement → AreOver s t → AreSides s t
over_agreement s t begun (inl h) = absurd (let no : Agreement ≡ Work = sym begun ∙ h.begun in cc no)
over_agreement s t begun (inr h) = h

-- neither the header of a work nor that of an agreement stands before a copy
none_first : (x : RecordValue) (t : List RecordValue) (this_kind : Kind) → x.kind ≡ this_kind
    → is_kind kinds.Ack this_kind ≡ false → is_kind kinds.Msg this_kind ≡ false → before_copy (x ∷ t) ≡ 0
none_first x t this_kind e ack msg =
    ap (λ (b : Bool). cond b (1 + prefix_len stands_before_copy t) 0)
    (ap₂ (λ (a b : Bool). a || b) (ap (is_kind kinds.Ack) e ∙ ack) (ap (is_kind kinds.Msg) e ∙ msg))

none_before_header : (s : Sums) (header : RecordValue) → AreOver s (header ∷ []) → before_copy (header ∷ []) ≡ 0
none_before_header s header (inl h) = elim (header_of_work header h.work)
    [ inl e ↦ none_first header [] kinds.Nwr e refl refl | inr e ↦ none_first header [] kinds.Rev e refl refl ]
none_before_header s header (inr h) = none_first header [] kinds.Agr (header_of_agreement header h.agreement) refl refl

copy_more : (t : List RecordValue) (r : RecordValue) → (drop (before_copy t) t ≡ [] → ⊥)
    → drop (before_copy (t ++ r ∷ [])) (t ++ r ∷ []) ≡ drop (before_copy t) t ++ r ∷ []
copy_more t r some =
    let still = before_still t r some in
    ap (λ (n : ℕ). drop n (t ++ r ∷ [])) still.0 ∙ drop-append-le (before_copy t) t (r ∷ []) still.1

-- ---- a transaction

pub begins_before : (s : Sums) (header : RecordValue) → is_a kinds.Ack header ≡ true → s.begun ≡ Nothing
    → StandFor s (header ∷ [])
begins_before s header ack none = inr (none, before_more [] header true refl (ap (λ (b : Bool). b || is_a kinds.Msg header) ack))

pub begins_over : (s : Sums) (header : RecordValue) → AreOver s (header ∷ []) → StandFor s (header ∷ [])
begins_over s header h =
    inl (subst (λ (n : ℕ). AreOver s (drop n (header ∷ []))) (sym (none_before_header s header h)) h)

-- one record more of what has begun
stands_over : (old new : Sums) (t : List RecordValue) (r : RecordValue) → AreOver old (drop (before_copy t) t)
    → AreOver new (drop (before_copy t) t ++ r ∷ []) → StandFor new (t ++ r ∷ [])
stands_over old new t r before now =
    inl (subst (AreOver new) (sym (copy_more t r (not_empty old (drop (before_copy t) t) before))) now)

pub stands_in_work : (old new : Sums) (t : List RecordValue) (r : RecordValue) → old.begun ≡ Work → StandFor old t
    → ((rs : List RecordValue) → AreSums old rs → AreSums new (rs ++ r ∷ [])) → StandFor new (t ++ r ∷ [])
stands_in_work old new t r begun (inl h) more =
    stands_over old new t r h (inl (more (drop (before_copy t) t) (over_work old (drop (before_copy t) t) begun h)))
stands_in_work old new t r begun (inr h) more = absurd (let no : Work ≡ Nothing = sym begun ∙ h.0 in cc no)

pub stands_in_agreement : (old new : Sums) (t : List RecordValue) (r : RecordValue) → old.begun ≡ Agreement → StandFor old t
    → ((rs : List RecordValue) → AreSides old rs → AreSides new (rs ++ r ∷ [])) → StandFor new (t ++ r ∷ [])
stands_in_agreement old new t r begun (inl h) more =
    stands_over old new t r h (inr (more (drop (before_copy t) t) (over_agreement old (drop (before_copy t) t) begun h)))
stands_in_agreement old new t r begun (inr h) more = absurd (let no : Agreement ≡ Nothing = sym begun ∙ h.0 in cc no)

pub stands_before : (s : Sums) (t : List RecordValue) (r : RecordValue) → s.begun ≡ Nothing → StandFor s t
    → stands_before_copy r ≡ true → StandFor s (t ++ r ∷ [])
stands_before s t r none (inl h) before = absurd (something_begun s (drop (before_copy t) t) h none)
stands_before s t r none (inr h) before = inr (none, before_more t r true h.1 before ∙ omega (arith, length-append t (r ∷ [])))

pub begins_copy : (old new : Sums) (t : List RecordValue) (r : RecordValue) → old.begun ≡ Nothing → StandFor old t
    → stands_before_copy r ≡ false → AreOver new (r ∷ []) → StandFor new (t ++ r ∷ [])
begins_copy old new t r none (inl h) other begun = absurd (something_begun old (drop (before_copy t) t) h none)
begins_copy old new t r none (inr h) other begun =
    let here : before_copy (t ++ r ∷ []) ≡ length t = before_more t r false h.1 other ∙ omega arith in
    let own : drop (before_copy (t ++ r ∷ [])) (t ++ r ∷ []) ≡ r ∷ [] =
    ap (λ (n : ℕ). drop n (t ++ r ∷ [])) here ∙ drop-append_seam t (r ∷ []) in
    inl (subst (AreOver new) (sym own) begun)

-- ---- nothing is found

pub none_in_work : (s : Sums) (t : List RecordValue) → s.begun ≡ Work → StandFor s t
    → ((rs : List RecordValue) (n : ℕ) → AreSums s rs → findings_after n rs ≡ []) → findings t ≡ []
unfolding findings
none_in_work s t begun (inl h) clean =
    clean (drop (before_copy t) t) (before_copy t) (over_work s (drop (before_copy t) t) begun h)
none_in_work s t begun (inr h) clean = absurd (let no : Work ≡ Nothing = sym begun ∙ h.0 in cc no)

-- where no work has begun
pub none_elsewhere : (s : Sums) (t : List RecordValue) → (s.begun ≡ Agreement) ⊎ (s.begun ≡ Nothing) → StandFor s t
    → findings t ≡ []
unfolding findings findings_after
none_elsewhere s t (inl begun) (inl h) =
    none_in_agreement s (drop (before_copy t) t) (before_copy t) (over_agreement s (drop (before_copy t) t) begun h)
none_elsewhere s t (inr none) (inl h) = absurd (something_begun s (drop (before_copy t) t) h none)
none_elsewhere s t other (inr h) =
    ap (findings_after (before_copy t)) (ap (λ (n : ℕ). drop n t) h.1 ∙ drop_all (length t) t (omega arith))
