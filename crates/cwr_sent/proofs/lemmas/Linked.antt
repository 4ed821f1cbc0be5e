-- Links of one transaction, from the last one back.
use Rattle.std.proofs.Common.{◌≡◌, ℕ, zero, suc, ◌-◌, ◌<◌, ◌≤◌, Bool, true, false, cond, List, [], ◌∷◌, ◌++◌, refl, sym, ap, ap₂, ◌∙◌, arith, length}
use Rattle.std.proofs.Common.{take, drop, append-nil, get_or, subst}
use Rattle.std.proofs.lemmas.Bool.{eq-eqb, eqb-true, lt-ltb}
use Rattle.std.proofs.lemmas.List.{drop_all, get_or-set_same, take_all}
use Rattle.std.proofs.lemmas.Option.{get_or_from_slice_get, slice_get_within}
use Rattle.cwr_sent.specs.declared.answers.AnsweringFile.{AnsweringFile}
use Rattle.std.specs.Prelude.{◌==◌, ◌||◌, nat_lt, map, Some, slice_get, slice_set}
use Rattle.std.specs.List.{list_any}
use Rattle.cwr_sent.specs.declared.answers.KeptAnswer.{KeptAnswer}
use Rattle.cwr_sent.specs.declared.links.Link.{Link}
use Rattle.cwr_sent.specs.Steps.Links.{LeadBack, is_for, is_same_link, last_first, last_place, own_answer, place_after, shown_link}
use Rattle.cwr_sent.specs.Steps.Links.{counted_link, counting_kept, has_sender, shown_links, with_counting}

-- ---- a change that leaves the links of other transactions as they are

abbrev pub changed_from : (Link → Link) → ℕ → List Link → List Link
changed_from f n ls = take n ls ++ map f (drop n ls)

changed_step : (f : Link → Link) (l : Link) (ls : List Link) (p n : ℕ) (own : Bool) → (own ≡ false → f l ≡ l)
    → changed_from f p ls ≡ changed_from f n ls → changed_from f (place_after p own) (l ∷ ls) ≡ changed_from f (suc n) (l ∷ ls)
changed_step f l ls zero n true same e = ap (λ (x : List Link). l ∷ x) e
changed_step f l ls zero n false same e = ap₂ (λ (a : Link) (x : List Link). a ∷ x) (same refl) e
changed_step f l ls (suc p) n own same e = ap (λ (x : List Link). l ∷ x) e

-- it can begin at the last of the first n links of the transaction as well as at the end of these
pub changed_from_last : (f : Link → Link) (t : ℕ) → ((l : Link) → (l.transaction == t) ≡ false → f l ≡ l) → (n : ℕ)
    → (ls : List Link) → changed_from f (last_place (take n ls) t) ls ≡ changed_from f n ls
changed_from_last f t same zero ls = refl
changed_from_last f t same (suc n) [] = refl
changed_from_last f t same (suc n) (l ∷ ls) =
    changed_step f l ls (last_place (take n ls) t) n (l.transaction == t) (same l) (changed_from_last f t same n ls)

-- ---- a test that links of other transactions don't pass

any_step : (g : Link → Bool) (l : Link) (ls : List Link) (p n : ℕ) (own : Bool) → (own ≡ false → g l ≡ false)
    → list_any g (drop p ls) ≡ list_any g (drop n ls) → list_any g (drop (place_after p own) (l ∷ ls)) ≡ list_any g (drop n ls)
any_step g l ls zero n true fails e = e
any_step g l ls zero n false fails e = ap₂ (λ (a b : Bool). a || b) (fails refl) e
any_step g l ls (suc p) n own fails e = e

pub any_from_last : (g : Link → Bool) (t : ℕ) → ((l : Link) → (l.transaction == t) ≡ false → g l ≡ false) → (n : ℕ)
    → (ls : List Link) → list_any g (drop (last_place (take n ls) t) ls) ≡ list_any g (drop n ls)
any_from_last g t fails zero ls = refl
any_from_last g t fails (suc n) [] = refl
any_from_last g t fails (suc n) (l ∷ ls) =
    any_step g l ls (last_place (take n ls) t) n (l.transaction == t) (fails l) (any_from_last g t fails n ls)

-- ---- the answers themselves

answers_step : (t : ℕ) (l : Link) (ls : List Link) (p n : ℕ) (own : Bool) → (own ≡ false → own_answer t (shown_link l) ≡ [])
    → last_first t (shown_links (drop p ls)) ≡ last_first t (shown_links (drop n ls))
    → last_first t (shown_links (drop (place_after p own) (l ∷ ls))) ≡ last_first t (shown_links (drop n ls))
answers_step t l ls zero n true none e = e
answers_step t l ls zero n false none e =
    ap (λ (x : List KeptAnswer). last_first t (shown_links ls) ++ x) (none refl)
    ∙ append-nil (last_first t (shown_links ls)) ∙ e
answers_step t l ls (suc p) n own none e = e

not_own : (t : ℕ) (l : Link) (own : Bool) → (l.transaction == t) ≡ own → own ≡ false → own_answer t (shown_link l) ≡ []
not_own t l own is h = rw (is ∙ h) refl

pub answers_from_last : (t n : ℕ) (ls : List Link)
    → last_first t (shown_links (drop (last_place (take n ls) t) ls)) ≡ last_first t (shown_links (drop n ls))
answers_from_last t zero ls = refl
answers_from_last t (suc n) [] = refl
answers_from_last t (suc n) (l ∷ ls) =
    answers_step t l ls (last_place (take n ls) t) n (l.transaction == t) (not_own t l (l.transaction == t) refl)
    (answers_from_last t n ls)

-- ---- places

pub none_beyond : (t : ℕ) (ls : List Link) → last_place ls t ≤ length ls
none_beyond t [] = omega arith
none_beyond t (l ∷ ls) = bound (last_place ls t) (l.transaction == t) (none_beyond t ls)
  where
    bound : (p : ℕ) (own : Bool) → p ≤ length ls → place_after p own ≤ length (l ∷ ls)
    bound zero true h = omega (arith, h)
    bound zero false h = omega (arith, h)
    bound (suc p) own h = omega (arith, h)

pub split_at : (ls : List Link) (j : ℕ) (l : Link) → slice_get ls j ≡ Some l → drop j ls ≡ l ∷ drop (suc j) ls
split_at [] j l h = absurd (cc h)
split_at (x ∷ ls) zero l h = let same : x ≡ l = cc h in ap (λ (y : Link). y ∷ ls) same
split_at (x ∷ ls) (suc j) l h = split_at ls j l h

-- the last place of a transaction is that of a link of it
own_step : (t : ℕ) (x : Link) (ls : List Link) (p q : ℕ) (own : Bool)
    → ((r : ℕ) → q ≡ suc r → (l : Link) × (slice_get ls r ≡ Some l) × (l.transaction ≡ t)) → (x.transaction == t) ≡ own
    → place_after q own ≡ suc p → (l : Link) × (slice_get (x ∷ ls) p ≡ Some l) × (l.transaction ≡ t)
own_step t x ls zero zero true rest is e = (x, refl, eqb-true x.transaction t is)
own_step t x ls (suc p) zero true rest is e = absurd (omega (arith, e))
own_step t x ls p zero false rest is e = absurd (omega (arith, e))
own_step t x ls zero (suc q) own rest is e = absurd (omega (arith, e))
own_step t x ls (suc p) (suc q) own rest is e =
    let same : suc q ≡ suc p = omega (arith, e) in
    rest p same

pub last_is_own : (t : ℕ) (ls : List Link) (p : ℕ) → last_place ls t ≡ suc p
    → (l : Link) × (slice_get ls p ≡ Some l) × (l.transaction ≡ t)
last_is_own t [] p h = absurd (omega (arith, h))
last_is_own t (x ∷ ls) p h =
    own_step t x ls p (last_place ls t) (x.transaction == t) (λ r e. last_is_own t ls r e) refl h

-- a transaction has a link where it has a last place
any_own : (t : ℕ) (x : Link) (q : ℕ) (own any : Bool) → (x.transaction == t) ≡ own → any ≡ nat_lt 0 q
    → (own || any) ≡ nat_lt 0 (place_after q own)
any_own t x zero true any is e = refl
any_own t x zero false any is e = e
any_own t x (suc q) true any is e = sym (lt-ltb 0 (suc (suc q)) (omega arith))
any_own t x (suc q) false any is e =
    e ∙ lt-ltb 0 (suc q) (omega arith) ∙ sym (lt-ltb 0 (suc (suc q)) (omega arith))

pub any_for : (t : ℕ) (ls : List Link) → list_any (is_for t) (shown_links ls) ≡ nat_lt 0 (last_place ls t)
any_for t [] = refl
any_for t (x ∷ ls) =
    any_own t x (last_place ls t) (x.transaction == t) (list_any (is_for t) (shown_links ls)) refl (any_for t ls)

-- ---- a place that was reached from the last one

-- it is 0, or that of a link of the transaction
pub record IsOwnPlace (ls : List Link) (t at : ℕ) : Type 0 where
  pub within : at ≤ length ls
  pub own : (p : ℕ) → at ≡ suc p → (l : Link) × (slice_get ls p ≡ Some l) × (l.transaction ≡ t)

pub last_own : (ls : List Link) (t : ℕ) → IsOwnPlace ls t (last_place ls t)
last_own ls t = record { within = none_beyond t ls; own = λ p e. last_is_own t ls p e }

-- ---- from there to the one before

within_first : (ls : List Link) (n r : ℕ) (l : Link) → slice_get (take n ls) r ≡ Some l → slice_get ls r ≡ Some l
within_first ls zero r l h = absurd (cc h)
within_first [] (suc n) r l h = h
within_first (x ∷ ls) (suc n) zero l h = h
within_first (x ∷ ls) (suc n) (suc r) l h = within_first ls n r l h

first_short : (ls : List Link) (n : ℕ) → length (take n ls) ≤ length ls
first_short ls zero = omega arith
first_short [] (suc n) = omega arith
first_short (x ∷ ls) (suc n) = let h = first_short ls n in omega (arith, h)

pub before_own : (ls : List Link) (t p : ℕ) (l : Link) → LeadBack ls → slice_get ls p ≡ Some l → l.transaction ≡ t
    → IsOwnPlace ls t l.before
before_own ls t p l back there own =
    let is : l.before ≡ last_place (take p ls) t = back p l there ∙ ap (last_place (take p ls)) own in
    let a = none_beyond t (take p ls) in
    let b = first_short ls p in
    record {
      within = omega (arith, is, a, b);
      own = λ r e. let m = last_is_own t (take p ls) r (sym is ∙ e) in (m.0, within_first ls p r m.0 m.1, m.2);
    }

-- the place before a link of the transaction is less
pub before_less : (ls : List Link) (p : ℕ) (l : Link) → LeadBack ls → slice_get ls p ≡ Some l → l.before ≤ p
before_less ls p l back there =
    let a = none_beyond l.transaction (take p ls) in
    let b = length_first ls p in
    omega (arith, back p l there, a, b)
  where
    length_first : (xs : List Link) (n : ℕ) → length (take n xs) ≤ n
    length_first xs zero = omega arith
    length_first [] (suc n) = omega arith
    length_first (x ∷ xs) (suc n) = let h = length_first xs n in omega (arith, h)

-- ---- answers that are replaced

others_stay : (files : List AnsweringFile) (t : ℕ) (new : KeptAnswer) (l : Link) → (l.transaction == t) ≡ false
    → with_counting files t new l ≡ l
others_stay files t new l h = rw h refl

others_fail : (files : List AnsweringFile) (t : ℕ) (new : KeptAnswer) (l : Link) → (l.transaction == t) ≡ false
    → is_same_link files t new l ≡ false
others_fail files t new l h = rw h refl

-- nothing is replaced from the last place on
pub none_changed : (f : Link → Link) (t : ℕ) → ((l : Link) → (l.transaction == t) ≡ false → f l ≡ l) → (ls : List Link)
    → ls ≡ changed_from f (last_place ls t) ls
none_changed f t same ls =
    let n : ℕ = length ls in
    let all : take n ls ≡ ls = take_all n ls (omega arith) in
    let none : drop n ls ≡ [] = drop_all n ls (omega arith) in
    sym (append-nil ls) ∙ ap₂ (λ (a b : List Link). a ++ map f b) (sym all) (sym none)
    ∙ sym (changed_from_last f t same n ls) ∙ ap (λ (x : List Link). changed_from f (last_place x t) ls) all

pub none_found : (g : Link → Bool) (t : ℕ) → ((l : Link) → (l.transaction == t) ≡ false → g l ≡ false) → (ls : List Link)
    → false ≡ list_any g (drop (last_place ls t) ls)
none_found g t fails ls =
    let n : ℕ = length ls in
    let all : take n ls ≡ ls = take_all n ls (omega arith) in
    let none : drop n ls ≡ [] = drop_all n ls (omega arith) in
    ap (list_any g) (sym none) ∙ sym (any_from_last g t fails n ls)
    ∙ ap (λ (x : List Link). list_any g (drop (last_place x t) ls)) all

pub none_collected : (t : ℕ) (ls : List Link) → [] ≡ last_first t (shown_links (drop (last_place ls t) ls))
none_collected t ls =
    let n : ℕ = length ls in
    let all : take n ls ≡ ls = take_all n ls (omega arith) in
    let none : drop n ls ≡ [] = drop_all n ls (omega arith) in
    ap (λ (x : List Link). last_first t (shown_links x)) (sym none) ∙ sym (answers_from_last t n ls)
    ∙ ap (λ (x : List Link). last_first t (shown_links (drop (last_place x t) ls))) all

-- the links after p are replaced: link p is as it was
pub unchanged_at : (f : Link → Link) (p : ℕ) (ls : List Link) → slice_get (changed_from f (suc p) ls) p ≡ slice_get ls p
unchanged_at f p [] = refl
unchanged_at f zero (x ∷ ls) = refl
unchanged_at f (suc p) (x ∷ ls) = unchanged_at f p ls

-- it is replaced too, and then those of the transaction up to the one before it
set_at : (f : Link → Link) (p : ℕ) (ls : List Link) (l : Link) → slice_get ls p ≡ Some l
    → slice_set (changed_from f (suc p) ls) p (f l) ≡ changed_from f p ls
set_at f p [] l h = absurd (cc h)
set_at f zero (x ∷ ls) l h = let same : x ≡ l = cc h in ap (λ (y : Link). f y ∷ map f ls) (sym same)
set_at f (suc p) (x ∷ ls) l h = ap (λ (y : List Link). x ∷ y) (set_at f p ls l h)

to_before : (files : List AnsweringFile) (t : ℕ) (new : KeptAnswer) (ls : List Link) (p : ℕ) (l : Link) → LeadBack ls
    → slice_get ls p ≡ Some l → l.transaction ≡ t
    → changed_from (with_counting files t new) p ls ≡ changed_from (with_counting files t new) l.before ls
to_before files t new ls p l back there own =
    let f : Link → Link = with_counting files t new in
    sym (changed_from_last f t (others_stay files t new) p ls)
    ∙ ap (λ (k : ℕ). changed_from f k ls) (sym (back p l there ∙ ap (last_place (take p ls)) own))

pub replaced_before : (files : List AnsweringFile) (t : ℕ) (new : KeptAnswer) (ls links : List Link) (p : ℕ) (l y : Link)
    → LeadBack ls → slice_get ls p ≡ Some l → l.transaction ≡ t → links ≡ changed_from (with_counting files t new) (suc p) ls
    → y ≡ with_counting files t new l → slice_set links p y ≡ changed_from (with_counting files t new) l.before ls
replaced_before files t new ls links p l y back there own is e =
    ap₂ (λ (a : List Link) (b : Link). slice_set a p b) is e ∙ set_at (with_counting files t new) p ls l there
    ∙ to_before files t new ls p l back there own

pub found_before : (files : List AnsweringFile) (t : ℕ) (new : KeptAnswer) (ls : List Link) (p : ℕ) (l : Link)
    → LeadBack ls → slice_get ls p ≡ Some l → l.transaction ≡ t
    → list_any (is_same_link files t new) (drop l.before ls)
    ≡ (is_same_link files t new l || list_any (is_same_link files t new) (drop (suc p) ls))
found_before files t new ls p l back there own =
    let g : Link → Bool = is_same_link files t new in
    ap (λ (k : ℕ). list_any g (drop k ls)) (back p l there ∙ ap (last_place (take p ls)) own)
    ∙ any_from_last g t (others_fail files t new) p ls ∙ ap (list_any g) (split_at ls p l there)

pub collected_before : (t : ℕ) (ls : List Link) (p : ℕ) (l : Link) → LeadBack ls → slice_get ls p ≡ Some l
    → l.transaction ≡ t
    → last_first t (shown_links (drop l.before ls)) ≡ last_first t (shown_links (drop (suc p) ls)) ++ l.answer ∷ []
collected_before t ls p l back there own =
    ap (λ (k : ℕ). last_first t (shown_links (drop k ls))) (back p l there ∙ ap (last_place (take p ls)) own)
    ∙ answers_from_last t p ls ∙ ap (λ (x : List Link). last_first t (shown_links x)) (split_at ls p l there)
    ∙ ap (λ (b : Bool). last_first t (shown_links (drop (suc p) ls)) ++ cond b (l.answer ∷ []) []) (eq-eqb l.transaction t own)

-- ---- one step of a walk

counted_own : (files : List AnsweringFile) (t : ℕ) (new : KeptAnswer) (l : Link) → l.transaction ≡ t
    → counted_link files new l ≡ with_counting files t new l
counted_own files t new l own = rw (eq-eqb l.transaction t own) refl

has_own : (files : List AnsweringFile) (t : ℕ) (new : KeptAnswer) (l : Link) → l.transaction ≡ t
    → has_sender files new l ≡ is_same_link files t new l
has_own files t new l own = rw (eq-eqb l.transaction t own) refl

-- links of which those from a place on are replaced
pub record Walked (files : List AnsweringFile) (t : ℕ) (new : KeptAnswer) (ls links : List Link) (any : Bool) (at : ℕ) : Type 0
  where
    pub place : IsOwnPlace ls t at
    pub replaced : links ≡ changed_from (with_counting files t new) at ls
    pub found : any ≡ list_any (is_same_link files t new) (drop at ls)

pub record Stepped (files : List AnsweringFile) (t : ℕ) (new : KeptAnswer) (ls links : List Link) (found : Bool) (p : ℕ) (l : Link)
    : Type 0 where
  pub there : slice_get ls p ≡ Some l
  pub within : p < length links
  pub less : l.before ≤ p
  pub walked : Walked files t new ls (slice_set links p (counted_link files new l)) (found || has_sender files new l) l.before

same_length : (f : Link → Link) (n : ℕ) (ls : List Link) → length (changed_from f n ls) ≡ length ls
same_length f zero [] = refl
same_length f (suc n) [] = refl
same_length f zero (x ∷ ls) = ap suc (same_length f zero ls)
same_length f (suc n) (x ∷ ls) = ap suc (same_length f n ls)

step_at : (files : List AnsweringFile) (t : ℕ) (new : KeptAnswer) (ls links : List Link) (found : Bool) (p : ℕ) (d : Link)
    → LeadBack ls → Walked files t new ls links found (suc p) → Stepped files t new ls links found p (get_or links p d)
step_at files t new ls links found p d back walked =
    let f : Link → Link = with_counting files t new in
    let own = walked.place.own p refl in
    let l : Link = own.0 in
    let at_p : slice_get links p ≡ Some l =
    ap (λ (x : List Link). slice_get x p) walked.replaced ∙ unchanged_at f p ls ∙ own.1 in
    let is : get_or links p d ≡ l = get_or_from_slice_get links p l d at_p in
    let Good : Link → Type 0 = λ m. Stepped files t new ls links found p m in
    subst Good (sym is) (record {
      there = own.1;
      within = slice_get_within links p l at_p;
      less = before_less ls p l back own.1;
      walked = record {
        place = before_own ls t p l back own.1 own.2;
        replaced = replaced_before files t new ls links p l (counted_link files new l) back own.1 own.2 walked.replaced
            (counted_own files t new l own.2);
        found = ap (λ (b : Bool). b || has_sender files new l) walked.found
            ∙ or_swap (list_any (is_same_link files t new) (drop (suc p) ls)) (has_sender files new l)
            ∙ ap (λ (b : Bool). b || list_any (is_same_link files t new) (drop (suc p) ls)) (has_own files t new l own.2)
            ∙ sym (found_before files t new ls p l back own.1 own.2);
      };
    })
  where
    or_swap : (a b : Bool) → (a || b) ≡ (b || a)
    or_swap true true = refl
    or_swap true false = refl
    or_swap false true = refl
    or_swap false false = refl

pub step : (files : List AnsweringFile) (t : ℕ) (new : KeptAnswer) (ls links : List Link) (found : Bool) (at : ℕ) (d : Link)
    → LeadBack ls → 0 < at → Walked files t new ls links found at
    → Stepped files t new ls links found (at - 1) (get_or links (at - 1) d)
step files t new ls links found at d back some walked =
    let is : at ≡ suc (at - 1) = omega (arith, some) in
    let There : ℕ → Type 0 = λ n. Walked files t new ls links found n in
    step_at files t new ls links found (at - 1) d back (subst There is walked)

pub walk : (files : List AnsweringFile) (t : ℕ) (new : KeptAnswer) (ls : List Link)
    → Walked files t new ls ls false (last_place ls t)
walk files t new ls = record {
  place = last_own ls t;
  replaced = none_changed (with_counting files t new) t (others_stay files t new) ls;
  found = none_found (is_same_link files t new) t (others_fail files t new) ls;
}

-- the link is written, and read again for the place before it
counted_before : (files : List AnsweringFile) (new : KeptAnswer) (l : Link) → (counted_link files new l).before ≡ l.before
counted_before files new l = by (has_sender files new l)
  where
    by : (b : Bool) → (cond b (record l { answer = counting_kept files new l.answer }) l).before ≡ l.before
    by true = refl
    by false = refl

pub record SteppedOn (files : List AnsweringFile) (t : ℕ) (new : KeptAnswer) (ls links : List Link) (any : Bool) (at m : ℕ) : Type 0
  where
    pub walked : Walked files t new ls links any m
    pub less : m < at

pub step_on : (files : List AnsweringFile) (t : ℕ) (new : KeptAnswer) (ls links : List Link) (any : Bool) (at : ℕ) (d e y : Link)
    → (b : Bool) → LeadBack ls → 0 < at → Walked files t new ls links any at
    → y ≡ counted_link files new (get_or links (at - 1) d) → b ≡ has_sender files new (get_or links (at - 1) d)
    → SteppedOn files t new ls (slice_set links (at - 1) y) (any || b) at (get_or (slice_set links (at - 1) y) (at - 1) e).before
step_on files t new ls links any at d e y b back some walked is has =
    let p : ℕ = at - 1 in
    let l : Link = get_or links p d in
    let s = step files t new ls links any at d back some walked in
    let read : (get_or (slice_set links p y) p e).before ≡ l.before =
    ap (λ (x : Link). x.before) (get_or-set_same links p y e s.within ∙ is) ∙ counted_before files new l in
    let Good : Link → Bool → ℕ → Type 0 = λ x c m. SteppedOn files t new ls (slice_set links p x) (any || c) at m in
    let one : Good (counted_link files new l) (has_sender files new l) l.before =
    record { walked = s.walked; less = omega (arith, s.less, some) } in
    subst (λ (m : ℕ). Good y b m) (sym read)
    (subst (λ (c : Bool). Good y c l.before) (sym has)
    (subst (λ (x : Link). Good x (has_sender files new l) l.before) (sym is) one))

-- answers that are collected from a place on
pub record Collected (t : ℕ) (ls : List Link) (p : ℕ) (l : Link) : Type 0 where
  pub within : p < length ls
  pub less : l.before ≤ p
  pub place : IsOwnPlace ls t l.before
  pub more : last_first t (shown_links (drop l.before ls)) ≡ last_first t (shown_links (drop (suc p) ls)) ++ l.answer ∷ []

pub collect_step : (t : ℕ) (ls : List Link) (at : ℕ) (d : Link) → LeadBack ls → 0 < at → IsOwnPlace ls t at
    → Collected t ls (at - 1) (get_or ls (at - 1) d)
collect_step t ls at d back some place =
    let p : ℕ = at - 1 in
    let own = place.own p (omega (arith, some)) in
    let l : Link = own.0 in
    let is : get_or ls p d ≡ l = get_or_from_slice_get ls p l d own.1 in
    let Good : Link → Type 0 = λ m. Collected t ls p m in
    subst Good (sym is) (record {
      within = slice_get_within ls p l own.1;
      less = before_less ls p l back own.1;
      place = before_own ls t p l back own.1 own.2;
      more = collected_before t ls p l back own.1 own.2;
    })
