-- What is told of acknowledgements, with one more.
use Rattle.std.proofs.Common.{◌≡◌, ℕ, ◌+◌, Bool, true, false, cond, List, [], ◌∷◌, ◌++◌, refl, ap, ◌∙◌, arith, append-nil}
use Rattle.std.specs.Prelude.{◌||◌, ◌&&◌, ◌==◌, count_by, min}
use Rattle.std.proofs.lemmas.Grind.{flat_map-append}
use Rattle.std.proofs.lemmas.List.Sums.{sum_by-append}
use Rattle.cwr_lines.specs.Format.Records.{RecordValue}
use Rattle.cwr_sent.specs.Format.Answers.{Answer, counting_ones, with_answer}
use Rattle.cwr_delivery.specs.declared.outcomes.Outcome.{Outcome}
use Rattle.cwr_delivery.specs.Format.Answering.{group_of, sequence_of}
use Rattle.cwr_delivery.specs.Format.Told.{Delivered, Told, answer_of, answers_place, answers_to, is_answered, is_in, is_unkeyed, outcome_in}
use Rattle.cwr_delivery.specs.Steps.Deliveries.{is_unclear, is_unsent, most, tally_with}
use Rattle.cwr_delivery.specs.Steps.Keeping.{tally_of}
use Rattle.cwr_delivery.proofs.lemmas.CountingOnes.{counting_more, has_one}

-- ---- whether it answers a transaction

all_three : (x y z : Bool) → (x ≡ true → y ≡ true → z ≡ true → ⊥) → (x && y && z) ≡ false
all_three true true true h = absurd (h refl refl refl)
all_three true true false h = refl
all_three true false z h = refl
all_three false y z h = refl

pub elsewhere : (d : Delivered) (i g t : ℕ) (a : RecordValue) (o : Outcome) → outcome_in d a ≡ o
    → (is_in i o ≡ true → (g == group_of a) ≡ true → (t == sequence_of a) ≡ true → ⊥) → answers_place d i g t a ≡ false
elsewhere d i g t a o is h =
    ap (λ (x : Outcome). is_in i x && (g == group_of a) && (t == sequence_of a)) is
    ∙ all_three (is_in i o) (g == group_of a) (t == sequence_of a) h

all_true : (x y z : Bool) → x ≡ true → y ≡ true → z ≡ true → (x && y && z) ≡ true
all_true true true true a b c = refl
all_true true true false a b c = absurd (cc c)
all_true true false z a b c = absurd (cc b)
all_true false y z a b c = absurd (cc a)

pub just_there : (d : Delivered) (i g t : ℕ) (a : RecordValue) (o : Outcome) → outcome_in d a ≡ o
    → is_in i o ≡ true → (g == group_of a) ≡ true → (t == sequence_of a) ≡ true → answers_place d i g t a ≡ true
just_there d i g t a o is x y z =
    ap (λ (p : Outcome). is_in i p && (g == group_of a) && (t == sequence_of a)) is
    ∙ all_true (is_in i o) (g == group_of a) (t == sequence_of a) x y z

-- ---- the answers to a transaction that count

abbrev one_if : Bool → Answer → List Answer
one_if b x = cond b (x ∷ []) []

abbrev counting_if : Bool → List Answer → Answer → List Answer
counting_if b answers x = cond b (with_answer answers x) answers

counting_step : (answers : List Answer) (x : Answer) (b : Bool)
    → counting_ones (answers ++ (one_if b x ++ [])) ≡ counting_if b (counting_ones answers) x
counting_step answers x true = counting_more answers x
counting_step answers x false = ap counting_ones (append-nil answers)

pub counting_with : (d : Delivered) (told : List Told) (s : Told) (i g t : ℕ) (b : Bool) → answers_place d i g t s.head ≡ b
    → counting_ones (answers_to d (told ++ s ∷ []) i g t) ≡ counting_if b (counting_ones (answers_to d told i g t)) (answer_of s)
counting_with d told s i g t b is =
    ap counting_ones (flat_map-append (λ (x : Told). one_if (answers_place d i g t x.head) (answer_of x)) told (s ∷ []))
    ∙ counting_step (answers_to d told i g t) (answer_of s) (answers_place d i g t s.head)
    ∙ ap (λ (c : Bool). counting_if c (counting_ones (answers_to d told i g t)) (answer_of s)) is

-- ---- whether there is one

one_step : (f r : Bool) (x : Answer) (answers : List Answer) → has_one answers ≡ r → has_one (one_if f x ++ answers) ≡ (f || r)
one_step true r x answers e = refl
one_step false r x answers e = e

pub one_answered : (d : Delivered) (told : List Told) (i g t : ℕ) → has_one (answers_to d told i g t) ≡ is_answered d told i g t
one_answered d [] i g t = refl
one_answered d (s ∷ told) i g t =
    one_step (answers_place d i g t s.head) (is_answered d told i g t) (answer_of s) (answers_to d told i g t)
    (one_answered d told i g t)

-- ---- counts

count_step : (n k m : ℕ) (b : Bool) → k ≡ n + (0 + cond b 1 0) → cond b (min (min n m + 1) m) (min n m) ≡ min k m
count_step n k m true e = omega (arith, e)
count_step n k m false e = omega (arith, e)

count_more : (p : Told → Bool) (told : List Told) (s : Told) (m : ℕ)
    → cond (p s) (min (min (count_by p told) m + 1) m) (min (count_by p told) m) ≡ min (count_by p (told ++ s ∷ [])) m
count_more p told s m =
    count_step (count_by p told) (count_by p (told ++ s ∷ [])) m (p s)
    (sum_by-append (λ (x : Told). cond (p x) 1 0) told (s ∷ []))

pub tally_more : (d : Delivered) (told : List Told) (s : Told)
    → tally_with (tally_of d told) (is_unkeyed d.by_place s.head) (outcome_in d s.head) ≡ tally_of d (told ++ s ∷ [])
tally_more d told s =
    let unsent = count_more (λ (x : Told). is_unsent (outcome_in d x.head)) told s most in
    let unclear = count_more (λ (x : Told). is_unclear (outcome_in d x.head)) told s most in
    let unkeyed = count_more (λ (x : Told). is_unkeyed d.by_place x.head) told s most in
    λ z. record { unsent = unsent z; unclear = unclear z; unkeyed = unkeyed z }
