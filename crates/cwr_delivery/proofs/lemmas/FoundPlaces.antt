-- The transactions that are found in transmissions are those that stand there.
use Rattle.std.proofs.Common.{◌≡◌, ℕ, zero, suc, ◌+◌, ◌-◌, ◌<◌, Bool, true, false, cond, List, [], ◌∷◌, ◌++◌, Option, Some, None, refl, sym, ap, ◌∙◌, arith}
use Rattle.std.specs.Prelude.{◌==◌, slice_get}
use Rattle.std.specs.Option.{option_and_then}
use Rattle.cwr_lines.specs.Format.Records.{RecordValue}
use Rattle.cwr_sent.specs.declared.facts.SentFacts.{SentFacts}
use Rattle.cwr_sent.specs.Format.SentFacts.{SentContent, facts_at}
use Rattle.cwr_delivery.specs.declared.outcomes.Outcome.TheVariants as outcomes
use Rattle.cwr_delivery.specs.Format.Answering.{Agrees, AnswersIn, agreeing_in, agreeing_of, agrees, agrees_type, found_by, group_of}
use Rattle.cwr_delivery.specs.Format.Answering.{if_wanted, is_candidate, named_in, outcome_of, outcome_with, outcome_without, placed, sequence_of, standing_in, wants_answer}
use Rattle.cwr_delivery.proofs.lemmas.FoundTransactions.{found_from}

-- ---- what is found stands there

-- what is found at transmission i, from k
pub record IsFound (g : SentContent → Option SentFacts) (k : ℕ) (xs : List SentContent) (i : ℕ) (f : SentFacts) : Type 0 where
  pub place : ℕ
  pub number : i ≡ k + place
  pub content : SentContent
  pub there : slice_get xs place ≡ Some content
  pub found : g content ≡ Some f

found_step : (g : SentContent → Option SentFacts) (k : ℕ) (x : SentContent) (xs : List SentContent) (m : ℕ)
    → (p : ℕ × SentFacts) (o : Option SentFacts) → g x ≡ o
    → ((n : ℕ) → slice_get (found_from g (k + 1) xs) n ≡ Some p → IsFound g (k + 1) xs p.0 p.1)
    → slice_get (placed k o ++ found_from g (k + 1) xs) m ≡ Some p → IsFound g k (x ∷ xs) p.0 p.1
found_step g k x xs m p None is rest e =
    let r = rest m e in
    record { place = suc r.place; number = omega (arith, r.number); content = r.content; there = r.there; found = r.found }
found_step g k x xs zero p (Some f) is rest e =
    let same : (k, f) ≡ p = cc e in
    record {
      place = 0;
      number = let n = ap (λ (q : ℕ × SentFacts). q.0) same in omega (arith, n);
      content = x;
      there = refl;
      found = is ∙ ap (λ (q : ℕ × SentFacts). Some q.1) same;
    }
found_step g k x xs (suc m) p (Some f) is rest e =
    let r = rest m e in
    record { place = suc r.place; number = omega (arith, r.number); content = r.content; there = r.there; found = r.found }

pub is_found : (g : SentContent → Option SentFacts) (k : ℕ) (xs : List SentContent) (m : ℕ) (p : ℕ × SentFacts)
    → slice_get (found_from g k xs) m ≡ Some p → IsFound g k xs p.0 p.1
is_found g k [] m p e = absurd (cc e)
is_found g k (x ∷ xs) m p e = found_step g k x xs m p (g x) refl (λ n h. is_found g (k + 1) xs n p h) e

-- ---- what stands there is found

after_placed : (k : ℕ) (o : Option SentFacts) (l : List (ℕ × SentFacts)) (p : ℕ × SentFacts) (m : ℕ) → slice_get l m ≡ Some p
    → (n : ℕ) × (slice_get (placed k o ++ l) n ≡ Some p)
after_placed k None l p m e = (m, e)
after_placed k (Some f) l p m e = (suc m, e)

pub stands_found : (g : SentContent → Option SentFacts) (k : ℕ) (xs : List SentContent) (j : ℕ) (c : SentContent) (f : SentFacts)
    → slice_get xs j ≡ Some c → g c ≡ Some f → (m : ℕ) × (slice_get (found_from g k xs) m ≡ Some (k + j, f))
stands_found g k [] j c f there is = absurd (cc there)
stands_found g k (x ∷ xs) zero c f there is =
    let same : x ≡ c = cc there in (
      0,
      ap (λ (o : Option SentFacts). slice_get (placed k o ++ found_from g (k + 1) xs) 0) (ap g same ∙ is)
          ∙ ap (λ (n : ℕ). Some (n, f)) (let e : k ≡ k + 0 = omega arith in e),
    )
stands_found g k (x ∷ xs) (suc j) c f there is =
    let r = stands_found g (k + 1) xs j c f there is in
    after_placed k (g x) (found_from g (k + 1) xs) (k + suc j, f) r.0
    (r.1 ∙ ap (λ (n : ℕ). Some (n, f)) (let e : k + 1 + j ≡ k + suc j = omega arith in e))

-- ---- two of them stand at different places

apart_step : (g : SentContent → Option SentFacts) (k : ℕ) (xs : List SentContent) (p q : ℕ × SentFacts) (r : List (ℕ × SentFacts))
    → (o : Option SentFacts) → (found_from g (k + 1) xs ≡ p ∷ q ∷ r → p.0 < q.0)
    → placed k o ++ found_from g (k + 1) xs ≡ p ∷ q ∷ r → p.0 < q.0
apart_step g k xs p q r None rest e = rest e
apart_step g k xs p q r (Some f) rest e =
    let first : (k, f) ≡ p = cc e in
    let more : found_from g (k + 1) xs ≡ q ∷ r = cc e in
    let s = is_found g (k + 1) xs 0 q (ap (λ (l : List (ℕ × SentFacts)). slice_get l 0) more) in
    let n = ap (λ (x : ℕ × SentFacts). x.0) first in
    omega (arith, n, s.number)

pub found_apart : (g : SentContent → Option SentFacts) (k : ℕ) (xs : List SentContent) (p q : ℕ × SentFacts)
    → (r : List (ℕ × SentFacts)) → found_from g k xs ≡ p ∷ q ∷ r → p.0 < q.0
found_apart g k [] p q r e = absurd (cc e)
found_apart g k (x ∷ xs) p q r e = apart_step g k xs p q r (g x) (found_apart g (k + 1) xs p q r) e

-- ---- with what an acknowledgement agrees

agrees_step : (f h : SentFacts) (a : RecordValue) (b : Bool) → agrees a f ≡ b → cond b (Some f) None ≡ Some h
    → (Some f ≡ Some h) × (agrees a h ≡ true)
agrees_step f h a true is e = let same : f ≡ h = cc e in (e, ap (agrees a) (sym same) ∙ is)
agrees_step f h a false is e = absurd (cc e)

agreeing_found : (a : RecordValue) (o : Option SentFacts) (h : SentFacts) → agreeing_of a o ≡ Some h
    → (o ≡ Some h) × (agrees a h ≡ true)
agreeing_found a None h e = absurd (cc e)
agreeing_found a (Some f) h e = agrees_step f h a (agrees a f) refl e

found_agreeing : (a : RecordValue) (o : Option SentFacts) (h : SentFacts) → o ≡ Some h → agrees a h ≡ true
    → agreeing_of a o ≡ Some h
found_agreeing a o h is yes_so =
    ap (agreeing_of a) is ∙ ap (λ (b : Bool). cond b (Some h) None) yes_so

found_agrees : (by_place : Bool) (sent : List SentContent) (a : RecordValue) (i : ℕ) (f : SentFacts)
    → IsFound (agreeing_in by_place a) 0 sent i f → Agrees by_place sent a i f
found_agrees by_place sent a i f r =
    let both = agreeing_found a (standing_in by_place a r.content) f r.found in
    let n : i ≡ r.place = omega (arith, r.number) in
    record {
      stands = record { content = r.content; there = ap (slice_get sent) n ∙ r.there; stands = both.0 };
      agrees = both.1;
    }

agrees_found : (by_place : Bool) (sent : List SentContent) (a : RecordValue) (i : ℕ) (f : SentFacts)
    → Agrees by_place sent a i f → (m : ℕ) × (slice_get (found_by (agreeing_in by_place a) sent) m ≡ Some (i, f))
agrees_found by_place sent a i f h =
    let r = stands_found (agreeing_in by_place a) 0 sent i h.stands.content f h.stands.there
    (found_agreeing a (standing_in by_place a h.stands.content) f h.stands.stands h.agrees) in
    (r.0, r.1 ∙ ap (λ (n : ℕ). Some (n, f)) (let e : 0 + i ≡ i = omega arith in e))

-- ---- what it answers

differing_none : (a : RecordValue) (g f : SentFacts) (i : ℕ) (b : Bool)
    → cond b (outcomes.Renumbered g.number) (outcomes.Retyped g.kind) ≡ outcomes.Answers i f → ⊥
differing_none a g f i true e = cc e
differing_none a g f i false e = cc e

without_none : (ys : List (ℕ × SentFacts)) (a : RecordValue) (i : ℕ) (f : SentFacts)
    → outcome_without ys a ≡ outcomes.Answers i f → ⊥
without_none [] a i f e = cc e
without_none (p ∷ []) a i f e = differing_none a p.1 f i (agrees_type a p.1) e
without_none (p ∷ q ∷ ys) a i f e = cc e

pub just_one : (xs ys : List (ℕ × SentFacts)) (a : RecordValue) (i : ℕ) (f : SentFacts)
    → outcome_with xs ys a ≡ outcomes.Answers i f → xs ≡ (i, f) ∷ []
just_one [] ys a i f e = absurd (without_none ys a i f e)
just_one (p ∷ []) ys a i f e =
    let n : p.0 ≡ i = cc e in
    let m : p.1 ≡ f = cc e in
    ap (λ (k : ℕ). (k, p.1) ∷ []) n ∙ ap (λ (h : SentFacts). (i, h) ∷ []) m
just_one (p ∷ q ∷ xs) ys a i f e = absurd (cc e)

only_first : (xs : List (ℕ × SentFacts)) (p q : ℕ × SentFacts) (m : ℕ) → xs ≡ p ∷ [] → slice_get xs m ≡ Some q → p ≡ q
only_first [] p q m is e = absurd (cc is)
only_first (x ∷ y ∷ xs) p q m is e = absurd (cc is)
only_first (x ∷ []) p q zero is e = let a : x ≡ p = cc is in let b : x ≡ q = cc e in sym a ∙ b
only_first (x ∷ []) p q (suc m) is e = absurd (cc e)

pub answers_stands : (by_place : Bool) (sent : List SentContent) (a : RecordValue) (i : ℕ) (f : SentFacts)
    → outcome_of by_place sent a ≡ outcomes.Answers i f → AnswersIn by_place sent a i f
answers_stands by_place sent a i f e =
    let g : SentContent → Option SentFacts = agreeing_in by_place a in
    let one : found_by g sent ≡ (i, f) ∷ [] = just_one (found_by g sent) (found_by (standing_in by_place a) sent) a i f e in
    record {
      agrees = found_agrees by_place sent a i f
          (is_found g 0 sent 0 (i, f) (ap (λ (l : List (ℕ × SentFacts)). slice_get l 0) one));
      alone = λ j h other.
          let m = agrees_found by_place sent a j h other in
          sym (ap (λ (p : ℕ × SentFacts). p.0) (only_first (found_by g sent) (i, f) (j, h) m.0 one m.1));
    }

stands_step : (by_place : Bool) (sent : List SentContent) (a : RecordValue) (i : ℕ) (f : SentFacts)
    → (xs ys : List (ℕ × SentFacts)) → found_by (agreeing_in by_place a) sent ≡ xs → AnswersIn by_place sent a i f
    → (m : ℕ) → slice_get xs m ≡ Some (i, f) → outcome_with xs ys a ≡ outcomes.Answers i f
stands_step by_place sent a i f [] ys is h m e = absurd (cc e)
stands_step by_place sent a i f (p ∷ []) ys is h zero e =
    let same : p ≡ (i, f) = cc e in ap (λ (q : ℕ × SentFacts). outcomes.Answers q.0 q.1) same
stands_step by_place sent a i f (p ∷ []) ys is h (suc m) e = absurd (cc e)
stands_step by_place sent a i f (p ∷ q ∷ xs) ys is h m e =
    let g : SentContent → Option SentFacts = agreeing_in by_place a in
    let first = is_found g 0 sent 0 p (ap (λ (l : List (ℕ × SentFacts)). slice_get l 0) is) in
    let second = is_found g 0 sent 1 q (ap (λ (l : List (ℕ × SentFacts)). slice_get l 1) is) in
    let one = h.alone p.0 p.1 (found_agrees by_place sent a p.0 p.1 first) in
    let other = h.alone q.0 q.1 (found_agrees by_place sent a q.0 q.1 second) in
    let less = found_apart g 0 sent p q xs is in
    absurd (omega (arith, one, other, less))

pub stands_answers : (by_place : Bool) (sent : List SentContent) (a : RecordValue) (i : ℕ) (f : SentFacts)
    → AnswersIn by_place sent a i f → outcome_of by_place sent a ≡ outcomes.Answers i f
stands_answers by_place sent a i f h =
    let m = agrees_found by_place sent a i f h.agrees in
    stands_step by_place sent a i f (found_by (agreeing_in by_place a) sent) (found_by (standing_in by_place a) sent) refl h m.0
    m.1

-- ---- the group and the transaction there

-- a transaction stands at the place that an acknowledgement names
pub record IsNamed (content : SentContent) (a : RecordValue) (f : SentFacts) : Type 0 where
  pub some : 0 < group_of a
  pub row : List SentFacts
  pub group : slice_get content.groups (group_of a - 1) ≡ Some row
  pub place : slice_get row (sequence_of a) ≡ Some f

standing_step : (b : Bool) (o : Option SentFacts) (f : SentFacts) → cond b o None ≡ Some f → o ≡ Some f
standing_step true o f e = e
standing_step false o f e = absurd (cc e)

wanted_step : (g f : SentFacts) (b : Bool) → cond b (Some g) None ≡ Some f → Some g ≡ Some f
wanted_step g f true e = e
wanted_step g f false e = absurd (cc e)

wanted : (o : Option SentFacts) (f : SentFacts) → option_and_then if_wanted o ≡ Some f → o ≡ Some f
wanted None f e = absurd (cc e)
wanted (Some g) f e = wanted_step g f (wants_answer g) e

row_step : (content : SentContent) (a : RecordValue) (f : SentFacts) (o : Option (List SentFacts))
    → slice_get content.groups (group_of a - 1) ≡ o → 0 < group_of a
    → option_and_then (λ row. slice_get row (sequence_of a)) o ≡ Some f → IsNamed content a f
row_step content a f None is some e = absurd (cc e)
row_step content a f (Some row) is some e = record { some = some; row = row; group = is; place = e }

above_step : (content : SentContent) (a : RecordValue) (f : SentFacts) (b : Bool) → (group_of a == 0) ≡ b
    → cond b None (facts_at content (group_of a - 1) (sequence_of a)) ≡ Some f → IsNamed content a f
above_step content a f true is e = absurd (cc e)
above_step content a f false is e =
    row_step content a f (slice_get content.groups (group_of a - 1)) refl (not_none (group_of a) is) e
  where
    not_none : (n : ℕ) → (n == 0) ≡ false → 0 < n
    not_none zero h = absurd (cc h)
    not_none (suc n) h = omega arith

pub standing_named : (by_place : Bool) (content : SentContent) (a : RecordValue) (f : SentFacts)
    → standing_in by_place a content ≡ Some f → IsNamed content a f
standing_named by_place content a f e =
    let named = standing_step (is_candidate by_place a content.created) (named_in content a) f e in
    let there = wanted (cond (group_of a == 0) None (facts_at content (group_of a - 1) (sequence_of a))) f named in
    above_step content a f (group_of a == 0) refl there
