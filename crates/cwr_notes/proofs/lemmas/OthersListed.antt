-- The positions of records of which a finding speaks, as walks find them.
use Rattle.std.proofs.Common.{◌≡◌, ℕ, ◌+◌, ◌≤◌, Bool, true, false, cond, List, [], ◌∷◌, ◌++◌, length, take, drop, Option, Some}
use Rattle.std.proofs.Common.{None, refl, sym, ap, subst, ◌∙◌, arith, append_assoc, append-nil}
use Rattle.std.specs.Prelude.{◌&&◌, slice_get}
use Rattle.std.specs.List.{last_or}
use Rattle.std.proofs.lemmas.Bool.{or_left, or_right, or_from}
use Rattle.std.proofs.lemmas.List.{drop_all, length-take-le}
use Rattle.cwr_fields.specs.declared.kinds.Kind.TheVariants as kinds
use Rattle.cwr_lines.specs.Format.Records.{RecordValue}
use Rattle.cwr_findings.specs.declared.rules.Rule.{Rule}
use Rattle.cwr_findings.specs.Format.Findings.{is_a, is_party}
use Rattle.cwr_findings.proofs.lemmas.KindTests.{is_of_no_kind}
use Rattle.cwr_findings.proofs.lemmas.OneMore.{drop_more, length_taken, take_more}
use Rattle.cwr_notes.specs.declared.other_records.OtherRecords.{OtherRecords}
use Rattle.cwr_notes.specs.Format.FindingNotes.{is_header, last_position, others, parties_from, positions, positions_from}
use Rattle.cwr_notes.specs.Steps.OtherRecords.{AreListed, is_other}

-- ---- one record more

places_one : (p : RecordValue → Bool) (n : ℕ) (xs : List RecordValue) (r : RecordValue)
    → positions_from p n (xs ++ r ∷ []) ≡ positions_from p n xs ++ cond (p r) ((n + length xs) ∷ []) []
places_one p n [] r = ap (λ (m : ℕ). cond (p r) (m ∷ []) []) (omega arith)
places_one p n (x ∷ xs) r =
    by (p x) (places_one p (n + 1) xs r ∙ ap (λ (m : ℕ). positions_from p (n + 1) xs ++ cond (p r) (m ∷ []) []) (omega arith))
  where
    by : (b : Bool)
        → positions_from p (n + 1) (xs ++ r ∷ []) ≡ positions_from p (n + 1) xs ++ cond (p r) ((n + length (x ∷ xs)) ∷ []) []
        → cond b (n ∷ positions_from p (n + 1) (xs ++ r ∷ [])) (positions_from p (n + 1) (xs ++ r ∷ []))
        ≡ cond b (n ∷ positions_from p (n + 1) xs) (positions_from p (n + 1) xs) ++ cond (p r) ((n + length (x ∷ xs)) ∷ []) []
    by true rest = ap (λ (l : List ℕ). n ∷ l) rest
    by false rest = rest

length_places : (p : RecordValue → Bool) (n : ℕ) (xs : List RecordValue) → length (positions_from p n xs) ≤ length xs
length_places p n [] = omega arith
length_places p n (x ∷ xs) = by (p x) (length_places p (n + 1) xs)
  where
    by : (b : Bool) → length (positions_from p (n + 1) xs) ≤ length xs
        → length (cond b (n ∷ positions_from p (n + 1) xs) (positions_from p (n + 1) xs)) ≤ length (x ∷ xs)
    by true rest = omega (arith, rest)
    by false rest = omega (arith, rest)

-- so many are counted at most
pub few_listed : (p : RecordValue → Bool) (t : List RecordValue) (i : ℕ) (x : OtherRecords) → i ≤ length t
    → AreListed (positions p (take i t)) x → x.count ≤ i
few_listed p t i x within h = omega (arith, length_places p 0 (take i t), length-take-le i t within, h.counted)

pub places_taken : (p : RecordValue → Bool) (t : List RecordValue) (i : ℕ) (r : RecordValue) → slice_get t i ≡ Some r
    → positions p (take (i + 1) t) ≡ positions p (take i t) ++ cond (p r) (i ∷ []) []
places_taken p t i r e =
    let at : 0 + length (take i t) ≡ i = omega (arith, length_taken t i r e) in
    ap (positions p) (take_more t i r e) ∙ places_one p 0 (take i t) r
    ∙ ap (λ (m : ℕ). positions p (take i t) ++ cond (p r) (m ∷ []) []) at

taken_by : (p : RecordValue → Bool) (t : List RecordValue) (i : ℕ) (r : RecordValue) (b : Bool) → slice_get t i ≡ Some r → p r ≡ b
    → positions p (take (i + 1) t) ≡ positions p (take i t) ++ cond b (i ∷ []) []
taken_by p t i r b e h = places_taken p t i r e ∙ ap (λ (c : Bool). positions p (take i t) ++ cond c (i ∷ []) []) h

-- one that passes is listed
pub listed_more : (p : RecordValue → Bool) (t : List RecordValue) (i : ℕ) (r : RecordValue) (y : OtherRecords)
    → slice_get t i ≡ Some r → p r ≡ true → AreListed (positions p (take i t) ++ i ∷ []) y
    → AreListed (positions p (take (i + 1) t)) y
listed_more p t i r y e h l = subst (λ (all : List ℕ). AreListed all y) (sym (taken_by p t i r true e h)) l

-- and another isn't
pub listed_same : (p : RecordValue → Bool) (t : List RecordValue) (i : ℕ) (r : RecordValue) (x : OtherRecords)
    → slice_get t i ≡ Some r → p r ≡ false → AreListed (positions p (take i t)) x → AreListed (positions p (take (i + 1) t)) x
listed_same p t i r x e h l =
    subst (λ (all : List ℕ). AreListed all x) (sym (taken_by p t i r false e h ∙ append-nil (positions p (take i t)))) l

-- ---- the last position

last_pushed : (o : Option ℕ) (xs : List ℕ) (n : ℕ) → last_or o (xs ++ n ∷ []) ≡ Some n
last_pushed o [] n = refl
last_pushed o (x ∷ xs) n = last_pushed (Some x) xs n

pub last_more : (p : RecordValue → Bool) (t : List RecordValue) (i : ℕ) (r : RecordValue) → slice_get t i ≡ Some r → p r ≡ true
    → Some i ≡ last_position p (take (i + 1) t)
last_more p t i r e h = sym (ap (last_or None) (taken_by p t i r true e h) ∙ last_pushed None (positions p (take i t)) i)

pub last_same : (p : RecordValue → Bool) (t : List RecordValue) (i : ℕ) (r : RecordValue) (o : Option ℕ) → slice_get t i ≡ Some r
    → p r ≡ false → o ≡ last_position p (take i t) → o ≡ last_position p (take (i + 1) t)
last_same p t i r o e h l = l ∙ sym (ap (last_or None) (taken_by p t i r false e h ∙ append-nil (positions p (take i t))))

-- ---- what a rule on a header speaks of

pub at_rule : (rule other : Rule) (t : List RecordValue) (k : ℕ) (r : RecordValue) (x : OtherRecords) → rule ≡ other
    → (AreListed (positions (is_other other) t) x → AreListed (others other t k r) x)
    → AreListed (positions (is_other rule) t) x → AreListed (others rule t k r) x
at_rule rule other t k r x e h l =
    subst (λ (q : Rule). AreListed (others q t k r) x) (sym e)
    (h (subst (λ (q : Rule). AreListed (positions (is_other q) t) x) e l))

-- ---- headers

pub is_some_header : (r : RecordValue) → is_a kinds.Nwr r ≡ true → is_header r ≡ true
is_some_header r h = or_left (is_a kinds.Nwr r) (is_a kinds.Rev r) h

pub is_other_header : (r : RecordValue) → is_a kinds.Rev r ≡ true → is_header r ≡ true
is_other_header r h = or_right (is_a kinds.Nwr r) (is_a kinds.Rev r) h

pub is_no_header : (r : RecordValue) → (r.kind ≡ kinds.Nwr → ⊥) → (r.kind ≡ kinds.Rev → ⊥) → is_header r ≡ false
is_no_header r nwr rev =
    or_from (is_a kinds.Nwr r) (is_a kinds.Rev r) (is_of_no_kind kinds.Nwr r nwr) (is_of_no_kind kinds.Rev r rev)

-- ---- the parties of a block

pub both_true : (a b : Bool) → a ≡ true → b ≡ true → (a && b) ≡ true
both_true true b h k = k
both_true false b h k = absurd (cc h)

pub not_both : (a b : Bool) → (a ≡ true → b ≡ false) → (a && b) ≡ false
not_both true b h = h refl
not_both false b h = refl

module _ (t : List RecordValue) (all : List ℕ) (i : ℕ) (seen : List ℕ) (among : Bool)
    (e : seen ++ parties_from among i (drop i t) ≡ all) where
  parties_by : (r : RecordValue) → slice_get t i ≡ Some r
      → parties_from among i (drop i t) ≡ cond (is_party r) (i ∷ parties_from true (i + 1) (drop (i + 1) t))
      (cond (among && is_a kinds.Ter r) [] (parties_from among (i + 1) (drop (i + 1) t)))
  parties_by r there = ap (parties_from among i) (drop_more t i r there)

  pub all_parties : length t ≤ i → seen ≡ all
  all_parties h = sym (append-nil seen) ∙ ap (λ (l : List ℕ). seen ++ l) (sym (ap (parties_from among i) (drop_all i t h))) ∙ e

  pub one_party : (r : RecordValue) → slice_get t i ≡ Some r → is_party r ≡ true
      → (seen ++ i ∷ []) ++ parties_from true (i + 1) (drop (i + 1) t) ≡ all
  one_party r there h =
      append_assoc seen (i ∷ []) (parties_from true (i + 1) (drop (i + 1) t))
      ∙ ap (λ (l : List ℕ). seen ++ l)
      (sym (parties_by r there ∙ ap (λ (b : Bool). cond b (i ∷ parties_from true (i + 1) (drop (i + 1) t))
      (cond (among && is_a kinds.Ter r) [] (parties_from among (i + 1) (drop (i + 1) t)))) h)) ∙ e

  other_record : (r : RecordValue) (b : Bool) → slice_get t i ≡ Some r → is_party r ≡ false → (among && is_a kinds.Ter r) ≡ b
      → seen ++ cond b [] (parties_from among (i + 1) (drop (i + 1) t)) ≡ all
  other_record r b there h k =
      ap (λ (l : List ℕ). seen ++ l)
      (sym (parties_by r there ∙ ap (λ (c : Bool). cond c (i ∷ parties_from true (i + 1) (drop (i + 1) t))
      (cond (among && is_a kinds.Ter r) [] (parties_from among (i + 1) (drop (i + 1) t)))) h
      ∙ ap (λ (c : Bool). cond c [] (parties_from among (i + 1) (drop (i + 1) t))) k)) ∙ e

  pub end_of_block : (r : RecordValue) → slice_get t i ≡ Some r → is_party r ≡ false → (among && is_a kinds.Ter r) ≡ true
      → seen ≡ all
  end_of_block r there h k = sym (append-nil seen) ∙ other_record r true there h k

  pub one_over : (r : RecordValue) → slice_get t i ≡ Some r → is_party r ≡ false → (among && is_a kinds.Ter r) ≡ false
      → seen ++ parties_from among (i + 1) (drop (i + 1) t) ≡ all
  one_over r there h k = other_record r false there h k
