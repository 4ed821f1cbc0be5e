-- The answers that count of several: with one more, whether one is by a sender, and whether there is one.
use Rattle.std.proofs.Common.{◌≡◌, ℕ, Bool, true, false, cond, List, [], ◌∷◌, ◌++◌, refl, sym, ap, ap₂, ◌∙◌}
use Rattle.std.specs.Prelude.{◌||◌, fold, map}
use Rattle.std.specs.List.{list_any}
use Rattle.std.specs.Str.{bytes_eq}
use Rattle.std.proofs.lemmas.List.Folds.{list_any-append}
use Rattle.std.proofs.lemmas.List.Sums.{fold-append}
use Rattle.std.proofs.lemmas.Slice.Eq.{bytes_eq-Decides}
use Rattle.cwr_sent.specs.Format.Answers.{Answer, counted_for, counting_ones, counts_over, same_sender, with_answer}

-- ---- senders

pub one_sender : (x y : Answer) → same_sender x y ≡ true → x.sender ≡ y.sender
one_sender x y h = (bytes_eq-Decides x.sender y.sender).0 h

pub by_sender : (x y : Answer) → x.sender ≡ y.sender → same_sender x y ≡ true
by_sender x y h = (bytes_eq-Decides x.sender y.sender).1 h

-- the one that counts is by the sender of both
pub counted_sender : (new old : Answer) → (counted_for new old).sender ≡ old.sender
counted_sender new old = by (same_sender old new) refl (counts_over old new)
  where
    by : (s : Bool) → same_sender old new ≡ s → (c : Bool) → (cond s (cond c new old) old).sender ≡ old.sender
    by false is c = refl
    by true is false = refl
    by true is true = sym (one_sender old new is)

-- ---- one is by the sender of x

abbrev pub has_same : Answer → List Answer → Bool
has_same x answers = list_any (λ old. same_sender old x) answers

same_counted : (x new : Answer) (answers : List Answer) → has_same x (map (counted_for new) answers) ≡ has_same x answers
same_counted x new [] = refl
same_counted x new (old ∷ answers) =
    ap₂ (λ (s : List ℕ) (b : Bool). bytes_eq s x.sender || b) (counted_sender new old) (same_counted x new answers)

or_none : (a : Bool) → (a || false) ≡ a
or_none true = refl
or_none false = refl

or_twice : (s r : Bool) → (s || r) ≡ ((s || r) || s)
or_twice true r = refl
or_twice false true = refl
or_twice false false = refl

or_more : (s r n : Bool) → r ≡ (r || n) → (s || r) ≡ ((s || r) || n)
or_more true r n h = refl
or_more false r n h = h

-- where one is by the sender of new, new adds no sender
added_step : (x new old : Answer) (answers : List Answer) (a : Bool) → same_sender old new ≡ a
    → (a || has_same new answers) ≡ true
    → (has_same new answers ≡ true → has_same x answers ≡ (has_same x answers || same_sender new x))
    → has_same x (old ∷ answers) ≡ (has_same x (old ∷ answers) || same_sender new x)
added_step x new old answers true is h rest =
    or_twice (same_sender old x) (has_same x answers)
    ∙ ap (λ (s : List ℕ). has_same x (old ∷ answers) || bytes_eq s x.sender) (one_sender old new is)
added_step x new old answers false is h rest = or_more (same_sender old x) (has_same x answers) (same_sender new x) (rest h)

none_added : (x new : Answer) (answers : List Answer) → has_same new answers ≡ true
    → has_same x answers ≡ (has_same x answers || same_sender new x)
none_added x new [] h = absurd (cc h)
none_added x new (old ∷ answers) h = added_step x new old answers (same_sender old new) refl h (none_added x new answers)

same_with : (x new : Answer) (answers : List Answer) (any : Bool) → has_same new answers ≡ any
    → has_same x (cond any (map (counted_for new) answers) (answers ++ new ∷ [])) ≡ (has_same x answers || same_sender new x)
same_with x new answers true is = same_counted x new answers ∙ none_added x new answers is
same_with x new answers false is =
    list_any-append (λ old. same_sender old x) answers (new ∷ [])
    ∙ ap (λ (b : Bool). has_same x answers || b) (or_none (same_sender new x))

or_three : (a b c : Bool) → ((a || b) || c) ≡ (a || (b || c))
or_three true b c = refl
or_three false b c = refl

same_after : (x : Answer) (answers kept : List Answer)
    → has_same x (fold with_answer kept answers) ≡ (has_same x kept || has_same x answers)
same_after x [] kept = sym (or_none (has_same x kept))
same_after x (new ∷ answers) kept =
    same_after x answers (with_answer kept new)
    ∙ ap (λ (b : Bool). b || has_same x answers) (same_with x new kept (has_same new kept) refl)
    ∙ or_three (has_same x kept) (same_sender new x) (has_same x answers)

-- one that counts is by the sender of x where one of all is
pub same_counting : (x : Answer) (answers : List Answer) → has_same x (counting_ones answers) ≡ has_same x answers
same_counting x answers = same_after x answers []

-- ---- with one more

pub counting_more : (answers : List Answer) (new : Answer)
    → counting_ones (answers ++ new ∷ []) ≡ with_answer (counting_ones answers) new
counting_more answers new = fold-append with_answer [] answers (new ∷ [])

-- ---- whether there is one

abbrev pub has_one : List Answer → Bool
has_one [] = false
has_one (x ∷ answers) = true

one_mapped : (f : Answer → Answer) (answers : List Answer) → has_one (map f answers) ≡ has_one answers
one_mapped f [] = refl
one_mapped f (x ∷ answers) = refl

one_more : (answers : List Answer) (new : Answer) → has_one (answers ++ new ∷ []) ≡ true
one_more [] new = refl
one_more (x ∷ answers) new = refl

one_found : (x : Answer) (answers : List Answer) → has_same x answers ≡ true → has_one answers ≡ true
one_found x [] h = absurd (cc h)
one_found x (y ∷ answers) h = refl

one_with : (new : Answer) (answers : List Answer) (any : Bool) → has_same new answers ≡ any
    → has_one (cond any (map (counted_for new) answers) (answers ++ new ∷ [])) ≡ true
one_with new answers true is = one_mapped (counted_for new) answers ∙ one_found new answers is
one_with new answers false is = one_more answers new

one_stays : (answers kept : List Answer) → has_one kept ≡ true → has_one (fold with_answer kept answers) ≡ true
one_stays [] kept h = h
one_stays (new ∷ answers) kept h = one_stays answers (with_answer kept new) (one_with new kept (has_same new kept) refl)

pub one_counts : (answers : List Answer) → has_one (counting_ones answers) ≡ has_one answers
one_counts [] = refl
one_counts (new ∷ answers) = one_stays answers (new ∷ []) refl
