-- A transaction has a row for each sender that answers it, or one, and the rows don't hang on the order of what was read.
use Rattle.std.proofs.Common.{◌≡◌, ℕ, ◌+◌, ◌≤◌, Bool, true, false, cond, List, [], ◌∷◌, ◌++◌, Option, Some, None, refl, sym, ap, ap₂, subst, ◌∙◌, arith, inl, inr}
use Rattle.std.specs.Prelude.{◌↔◌, ◌⊎◌, count_by, fold, map, slice_get}
use Rattle.std.specs.List.{All, AllPairs, Contains, enumerate_from, flat_map}
use Rattle.std.specs.List.Sorted.{IsPermutation}
use Rattle.std.specs.Str.{bytes_eq}
use Rattle.std.proofs.lemmas.List.Sorted.{Contains-permutation, IsPermutation-sym}
use Rattle.std.proofs.lemmas.List.Sums.{sum_by-cons}
use Rattle.std.proofs.lemmas.Slice.Eq.{bytes_eq-Decides}
use Rattle.cwr_sent.specs.declared.facts.SentFacts.{SentFacts}
use Rattle.cwr_sent.specs.Format.Answers.{Answer, counting_ones, same_sender}
use Rattle.cwr_sent.specs.Format.SentFacts.{SentContent}
use Rattle.cwr_delivery.specs.Format.Answering.{wants_answer}
use Rattle.cwr_delivery.specs.Format.Told.{Delivered, Told, answer_of, answers_place, answers_to}
use Rattle.cwr_delivery.proofs.lemmas.WhichCount.{alike_count, counting_read, each_counted, one_each, over_on_days}
use Rattle.cwr_state_rows.specs.Format.Laws.{HasItsRows, HasRowsFor, HaveOwnDays, IsRowFor, is_by}
use Rattle.cwr_state_rows.specs.Format.StateRows.{Row, answer_rows, answers_counting, by_sender, bytes_before, group_rows, or_none, rows_of, sent_rows, transaction_rows}
use Rattle.cwr_state_rows.proofs.lemmas.Members.{IsIn, IsMade, flat_alike, from_contains, from_map, in_map, to_contains}
use Rattle.cwr_state_rows.proofs.lemmas.BytesInOrder.{not_both}
use Rattle.cwr_state_rows.proofs.lemmas.SenderOrder.{AreRising, Precedes, from_sorted, others_of, rising_sorted, sorted_once, to_sorted}

-- ---- in any order

alike_counting : (xs ys : List Answer) → ((z : Answer) → IsIn xs z → IsIn ys z) → ((z : Answer) → IsIn ys z → IsIn xs z)
    → AllPairs (λ x y. same_sender x y ≡ true → (x.processed ≡ y.processed → ⊥)) xs
    → by_sender (counting_ones xs) ≡ by_sender (counting_ones ys)
alike_counting xs ys there back days =
    let alike : (x : Answer) → Contains (counting_ones xs) x ↔ Contains (counting_ones ys) x = alike_count xs ys
    (λ w h. to_contains ys w (there w (from_contains xs w h))) (λ w h. to_contains xs w (back w (from_contains ys w h)))
    (over_on_days xs days) in
    sorted_once (counting_ones xs) (counting_ones ys) (others_of (counting_ones xs) (one_each xs))
    (others_of (counting_ones ys) (one_each ys))
    (λ z h. from_contains (counting_ones ys) z ((alike z).0 (to_contains (counting_ones xs) z h)))
    (λ z h. from_contains (counting_ones xs) z ((alike z).1 (to_contains (counting_ones ys) z h)))

flat_same : {A B : Type 0} (f g : A → List B) → ((x : A) → f x ≡ g x) → (xs : List A) → flat_map f xs ≡ flat_map g xs
flat_same f g h [] = refl
flat_same f g h (x ∷ xs) = ap₂ (λ (a b : List _). a ++ b) (h x) (flat_same f g h xs)

-- the rows of the same acknowledgements are the same
pub alike_rows : (delivered : Delivered) (told other : List Told) (names : List (List ℕ))
    → ((s : Told) → IsIn told s → IsIn other s) → ((s : Told) → IsIn other s → IsIn told s) → HaveOwnDays delivered told
    → rows_of delivered told names ≡ rows_of delivered other names
alike_rows delivered told other names there back days =
    let answer_at : ℕ → ℕ → ℕ → Told → List Answer =
    λ i g t s. cond (answers_place delivered i g t s.head) (answer_of s ∷ []) [] in
    let counting : (i g t : ℕ) → answers_counting delivered told i g t ≡ answers_counting delivered other i g t
    = λ i g t. alike_counting (answers_to delivered told i g t) (answers_to delivered other i g t)
    (flat_alike (answer_at i g t) told other there) (flat_alike (answer_at i g t) other told back) (days i g t) in
    flat_same (λ p. sent_rows delivered told names p.0 p.1) (λ p. sent_rows delivered other names p.0 p.1)
    (λ (p : ℕ × SentContent).
    flat_same (λ q. group_rows delivered told names p.0 q.0 q.1) (λ q. group_rows delivered other names p.0 q.0 q.1)
    (λ (q : ℕ × List SentFacts).
    flat_same (λ r. transaction_rows delivered told names p.0 q.0 r.0 r.1)
    (λ r. transaction_rows delivered other names p.0 q.0 r.0 r.1)
    (λ (r : ℕ × SentFacts).
    ap (λ (l : List Answer). cond (wants_answer r.1) (answer_rows (slice_get names p.0) q.0 r.0 r.1 l) [])
    (counting p.0 q.0 r.0)) (enumerate_from 0 q.1)) (enumerate_from 1 p.1.groups)) (enumerate_from 0 delivered.sent)

pub moved_in : {A : Type 0} (xs ys : List A) → IsPermutation xs ys → (z : A) → IsIn xs z → IsIn ys z
moved_in xs ys moved z h = from_contains ys z (Contains-permutation xs ys z moved (to_contains xs z h))

pub any_order_of_told : (delivered : Delivered) (told other : List Told) (names : List (List ℕ)) → IsPermutation told other
    → HaveOwnDays delivered told → rows_of delivered told names ≡ rows_of delivered other names
any_order_of_told delivered told other names moved =
    alike_rows delivered told other names (moved_in told other moved) (moved_in other told (IsPermutation-sym told other moved))

-- ---- the rows of one transaction

abbrev one_if : Bool → ℕ
one_if b = cond b 1 0

none_by : (sender : List ℕ) (a : Answer) (xs : List Answer) → a.sender ≡ sender → Precedes a xs
    → (mk : Option Answer → Row) → ((o : Option Answer) → (mk o).answer ≡ o)
    → count_by (λ row. is_by sender row.answer) (map mk (map Some xs)) ≡ 0
none_by sender a [] same h mk is = refl
none_by sender a (x ∷ xs) same h mk is =
    by (bytes_eq x.sender sender) refl (none_by sender a xs same h.1 mk is)
  where
    by : (b : Bool) → bytes_eq x.sender sender ≡ b
        → count_by (λ row. is_by sender row.answer) (map mk (map Some xs)) ≡ 0
        → count_by (λ row. is_by sender row.answer) (map mk (map Some (x ∷ xs))) ≡ 0
    by true e rest =
        let equal : a.sender ≡ x.sender = same ∙ sym ((bytes_eq-Decides x.sender sender).0 e) in
        let before = subst (λ (s : List ℕ). bytes_before a.sender s ≡ true) (sym equal) h.0 in
        absurd (not_both a.sender a.sender before before)
    by false e rest =
        sum_by-cons (λ (row : Row). cond (is_by sender row.answer) 1 0) (mk (Some x)) (map mk (map Some xs))
        ∙ ap₂ (λ (m n : ℕ). m + n)
        (ap (λ (o : Option Answer). cond (is_by sender o) 1 0) (is (Some x)) ∙ ap (λ (c : Bool). cond c 1 0) e) rest

one_by : (sender : List ℕ) (xs : List Answer) → AreRising xs → (mk : Option Answer → Row)
    → ((o : Option Answer) → (mk o).answer ≡ o)
    → count_by (λ row. is_by sender row.answer) (map mk (map Some xs)) ≤ 1
one_by sender [] h mk is = omega arith
one_by sender (x ∷ xs) h mk is = by (bytes_eq x.sender sender) refl (one_by sender xs h.1 mk is)
  where
    more : count_by (λ row. is_by sender row.answer) (map mk (map Some (x ∷ xs)))
        ≡ cond (is_by sender (mk (Some x)).answer) 1 0 + count_by (λ row. is_by sender row.answer) (map mk (map Some xs))
    more = sum_by-cons (λ (row : Row). cond (is_by sender row.answer) 1 0) (mk (Some x)) (map mk (map Some xs))

    first : (b : Bool) → bytes_eq x.sender sender ≡ b → one_if (is_by sender (mk (Some x)).answer) ≡ one_if b
    first b e = ap (λ (o : Option Answer). one_if (is_by sender o)) (is (Some x)) ∙ ap (λ (c : Bool). one_if c) e

    by : (b : Bool) → bytes_eq x.sender sender ≡ b → count_by (λ row. is_by sender row.answer) (map mk (map Some xs)) ≤ 1
        → count_by (λ row. is_by sender row.answer) (map mk (map Some (x ∷ xs))) ≤ 1
    by true e later =
        let rest = none_by sender x xs ((bytes_eq-Decides x.sender sender).0 e) h.0 mk is in
        omega (arith, more, first true e, rest)
    by false e later = omega (arith, more, first false e, later)

none_blank : (sender : List ℕ) (mk : Option Answer → Row) → ((o : Option Answer) → (mk o).answer ≡ o)
    → count_by (λ row. is_by sender row.answer) (mk None ∷ []) ≤ 1
none_blank sender mk is =
    let more : count_by (λ row. is_by sender row.answer) (mk None ∷ []) ≡ cond (is_by sender (mk None).answer) 1 0 + 0
    = sum_by-cons (λ (row : Row). cond (is_by sender row.answer) 1 0) (mk None) [] in
    let blank : one_if (is_by sender (mk None).answer) ≡ 0 =
    ap (λ (o : Option Answer). one_if (is_by sender o)) (is None) in
    omega (arith, more, blank)

at_most_one : (sender : List ℕ) (xs : List Answer) → AreRising xs → (mk : Option Answer → Row)
    → ((o : Option Answer) → (mk o).answer ≡ o)
    → count_by (λ row. is_by sender row.answer) (map mk (or_none xs)) ≤ 1
at_most_one sender [] h mk is = none_blank sender mk is
at_most_one sender (x ∷ xs) h mk is = one_by sender (x ∷ xs) h mk is

in_or_none : (xs : List Answer) (y : Answer) → IsIn xs y → IsIn (or_none xs) (Some y)
in_or_none [] y h = absurd h
in_or_none (x ∷ xs) y h = in_map Some (x ∷ xs) y h

from_or_none : (xs : List Answer) (y : Answer) → IsIn (or_none xs) (Some y) → IsIn xs y
from_or_none [] y (inl e) = absurd (cc e)
from_or_none [] y (inr h) = absurd h
from_or_none (x ∷ xs) y h =
    let made = from_map Some (x ∷ xs) (Some y) h in
    let e : made.of ≡ y = let is = made.is in cc in
    subst (λ (z : Answer). IsIn (x ∷ xs) z) e made.there

none_in : (xs : List Answer) → IsIn (or_none xs) None → xs ≡ []
none_in [] h = refl
none_in (x ∷ xs) h = let made = from_map Some (x ∷ xs) None h in let is = made.is in absurd cc

counted_in : (answers : List Answer) (x : Answer) → Contains answers x → (y : Answer) × IsIn (by_sender (counting_ones answers)) y
counted_in answers x h =
    let y = each_counted answers x h in
    (y.0, to_sorted (counting_ones answers) y.0 (from_contains (counting_ones answers) y.0 y.1.counts))

nobody : (answers : List Answer) → by_sender (counting_ones answers) ≡ [] → answers ≡ []
nobody [] e = refl
nobody (x ∷ xs) e =
    let y = counted_in (x ∷ xs) x (to_contains (x ∷ xs) x (inl refl)) in
    absurd (subst (λ (l : List Answer). IsIn l y.0) e y.1)

rows_for : (answers : List Answer) (mk : Option Answer → Row) → ((o : Option Answer) → (mk o).answer ≡ o)
    → HasRowsFor answers (map mk (or_none (by_sender (counting_ones answers))))
rows_for answers mk is =
    let sorted : List Answer = by_sender (counting_ones answers) in
    record {
      each = λ x h.
          let y = each_counted answers x h in
          let there = to_sorted (counting_ones answers) y.0 (from_contains (counting_ones answers) y.0 y.1.counts) in
          record {
            row = mk (Some y.0);
            there = to_contains (map mk (or_none sorted)) (mk (Some y.0))
                (in_map mk (or_none sorted) (Some y.0) (in_or_none sorted y.0 there));
            by = y.0;
            answer = is (Some y.0);
            counted = y.1;
          };
      one = λ sender.
          at_most_one sender sorted (rising_sorted (counting_ones answers) (others_of (counting_ones answers) (one_each answers)))
          mk is;
      counting = λ row y h e.
          let made = from_map mk (or_none sorted) row (from_contains (map mk (or_none sorted)) row h) in
          let same : made.of ≡ Some y = sym (is made.of) ∙ ap (λ (r : Row). r.answer) made.is ∙ e in
          to_contains (counting_ones answers) y (from_sorted (counting_ones answers) y
          (from_or_none sorted y (subst (λ (o : Option Answer). IsIn (or_none sorted) o) same made.there)));
      blank = λ e.
          (mk None, ap (λ (l : List Answer). map mk (or_none (by_sender (counting_ones l)))) e, is None);
      answered = λ row h e.
          let made = from_map mk (or_none sorted) row (from_contains (map mk (or_none sorted)) row h) in
          let same : made.of ≡ None = sym (is made.of) ∙ ap (λ (r : Row). r.answer) made.is ∙ e in
          nobody answers (none_in sorted (subst (λ (o : Option Answer). IsIn (or_none sorted) o) same made.there));
    }

pub its_rows : (delivered : Delivered) (told : List Told) (names : List (List ℕ)) (i g t : ℕ) (f : SentFacts)
    → wants_answer f ≡ true → HasItsRows delivered told names i g t f
its_rows delivered told names i g t f wants =
    let mk : Option Answer → Row =
    λ a. record { sent = slice_get names i; group = g; transaction = t; facts = f; answer = a } in
    let answers : List Answer = answers_to delivered told i g t in
    let rows : List Row = map mk (or_none (by_sender (counting_ones answers))) in
    let are : rows ≡ transaction_rows delivered told names i g t f = ap (λ (b : Bool). cond b rows []) (sym wants) in
    let made : (row : Row) → Contains (transaction_rows delivered told names i g t f) row → IsMade mk (or_none (by_sender (counting_ones answers))) row
    = λ row h. from_map mk (or_none (by_sender (counting_ones answers))) row
    (from_contains rows row (subst (λ (l : List Row). Contains l row) (sym are) h)) in
    record {
      rows = subst (λ (l : List Row). HasRowsFor answers l) are (rows_for answers mk (λ o. refl));
      named = λ row h. sym (ap (λ (r : Row). r.sent) (made row h).is);
      group = λ row h. sym (ap (λ (r : Row). r.group) (made row h).is);
      transaction = λ row h. sym (ap (λ (r : Row). r.transaction) (made row h).is);
      facts = λ row h. sym (ap (λ (r : Row). r.facts) (made row h).is);
    }
