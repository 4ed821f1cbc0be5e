-- The answers to one transaction that are kept of a group, with one answer more.
use Rattle.std.proofs.Common.{◌≡◌, ℕ, zero, suc, ◌<◌, Bool, true, false, cond, List, [], ◌∷◌, ◌++◌, length, refl, sym, ap, ap₂, ◌∙◌, arith, append-nil}
use Rattle.std.specs.Prelude.{◌||◌, ◌&&◌, ◌==◌, map, Option, Some, slice_get, unwrap_or}
use Rattle.std.specs.List.{list_any}
use Rattle.std.proofs.lemmas.Bool.{eq-eqb, eqb-true}
use Rattle.std.proofs.lemmas.Grind.{flat_map-append}
use Rattle.cwr_sent.specs.declared.answers.AnsweringFile.{AnsweringFile}
use Rattle.cwr_sent.specs.declared.answers.KeptAnswer.{KeptAnswer}
use Rattle.cwr_sent.specs.Format.Answers.{Answer, counted_for, counting_one, counts_over, same_sender, with_answer}
use Rattle.cwr_sent.specs.Format.GroupRows.{KeptFor, answer_in, no_file}
use Rattle.cwr_sent.specs.Steps.Links.{counted, counting_kept, is_for, is_same, with_kept}
use Rattle.cwr_delivery.specs.Steps.Keeping.{kept_answers}
use Rattle.cwr_delivery.proofs.lemmas.CountingOnes.{has_one, has_same}

abbrev own : Bool → Answer → List Answer
own b x = cond b (x ∷ []) []

-- ---- an answer to the transaction

any_step : (f s r : Bool) (x new : Answer) (answers : List Answer) → same_sender x new ≡ s → r ≡ has_same new answers
    → ((f && s) || r) ≡ has_same new (own f x ++ answers)
any_step true s r x new answers is e = ap₂ (λ (a b : Bool). a || b) (sym is) e
any_step false s r x new answers is e = e

pub same_kept : (files : List AnsweringFile) (t : ℕ) (new : KeptAnswer) (ks : List KeptFor)
    → list_any (is_same files t new) ks ≡ has_same (answer_in files new) (kept_answers files t ks)
same_kept files t new [] = refl
same_kept files t new (k ∷ ks) =
    any_step (is_for t k) (same_sender (answer_in files k.answer) (answer_in files new)) (list_any (is_same files t new) ks)
    (answer_in files k.answer) (answer_in files new) (kept_answers files t ks) refl (same_kept files t new ks)

counting_shown : (files : List AnsweringFile) (new old : KeptAnswer) (c : Bool)
    → answer_in files (cond c new old) ≡ cond c (answer_in files new) (answer_in files old)
counting_shown files new old true = refl
counting_shown files new old false = refl

map_step : (files : List AnsweringFile) (t : ℕ) (new : KeptAnswer) (k : KeptFor) (f s : Bool) → is_for t k ≡ f
    → same_sender (answer_in files k.answer) (answer_in files new) ≡ s
    → own (is_for t (cond (f && s) (record k { answer = counting_kept files new k.answer }) k))
    (answer_in files (cond (f && s) (record k { answer = counting_kept files new k.answer }) k).answer)
    ≡ map (counted_for (answer_in files new)) (own f (answer_in files k.answer))
map_step files t new k false s is same =
    ap (λ (b : Bool). own b (answer_in files k.answer)) is
map_step files t new k true false is same =
    ap (λ (b : Bool). own b (answer_in files k.answer)) is
    ∙ ap (λ (b : Bool). cond b (counting_one (answer_in files k.answer) (answer_in files new)) (answer_in files k.answer) ∷ []) (sym same)
map_step files t new k true true is same =
    ap (λ (b : Bool). own b (answer_in files (counting_kept files new k.answer))) is
    ∙ ap (λ (x : Answer). x ∷ []) (counting_shown files new k.answer (counts_over (answer_in files k.answer) (answer_in files new)))
    ∙ ap (λ (b : Bool). cond b (counting_one (answer_in files k.answer) (answer_in files new)) (answer_in files k.answer) ∷ []) (sym same)

map_both : (f : Answer → Answer) (xs ys : List Answer) → map f (xs ++ ys) ≡ map f xs ++ map f ys
map_both f [] ys = refl
map_both f (x ∷ xs) ys = ap (λ (l : List Answer). f x ∷ l) (map_both f xs ys)

kept_counted : (files : List AnsweringFile) (t : ℕ) (new : KeptAnswer) (ks : List KeptFor)
    → kept_answers files t (map (counted files t new) ks) ≡ map (counted_for (answer_in files new)) (kept_answers files t ks)
kept_counted files t new [] = refl
kept_counted files t new (k ∷ ks) =
    ap₂ (λ (a b : List Answer). a ++ b)
    (map_step files t new k (is_for t k) (same_sender (answer_in files k.answer) (answer_in files new)) refl refl)
    (kept_counted files t new ks)
    ∙ sym (map_both (counted_for (answer_in files new)) (own (is_for t k) (answer_in files k.answer)) (kept_answers files t ks))

kept_append : (files : List AnsweringFile) (t : ℕ) (ks ms : List KeptFor)
    → kept_answers files t (ks ++ ms) ≡ kept_answers files t ks ++ kept_answers files t ms
kept_append files t ks ms = flat_map-append (λ (k : KeptFor). own (is_for t k) (answer_in files k.answer)) ks ms

with_step : (files : List AnsweringFile) (t : ℕ) (new : KeptAnswer) (ks : List KeptFor) (any : Bool)
    → kept_answers files t (cond any (map (counted files t new) ks) (ks ++ record { transaction = t; answer = new } ∷ []))
    ≡ cond any (map (counted_for (answer_in files new)) (kept_answers files t ks))
    (kept_answers files t ks ++ answer_in files new ∷ [])
with_step files t new ks true = kept_counted files t new ks
with_step files t new ks false =
    kept_append files t ks (record { transaction = t; answer = new } ∷ [])
    ∙ ap (λ (b : Bool). kept_answers files t ks ++ (own b (answer_in files new) ++ [])) (eq-eqb t t refl)

pub kept_with : (files : List AnsweringFile) (t : ℕ) (new : KeptAnswer) (ks : List KeptFor)
    → kept_answers files t (with_kept files t new ks) ≡ with_answer (kept_answers files t ks) (answer_in files new)
kept_with files t new ks =
    with_step files t new ks (list_any (is_same files t new) ks)
    ∙ ap (λ (b : Bool). cond b (map (counted_for (answer_in files new)) (kept_answers files t ks))
    (kept_answers files t ks ++ answer_in files new ∷ [])) (same_kept files t new ks)

-- ---- an answer to another one

other_step : (files : List AnsweringFile) (t u : ℕ) (new : KeptAnswer) (k : KeptFor) (f s : Bool) → (t == u) ≡ false
    → is_for t k ≡ f
    → own (is_for u (cond (f && s) (record k { answer = counting_kept files new k.answer }) k))
    (answer_in files (cond (f && s) (record k { answer = counting_kept files new k.answer }) k).answer)
    ≡ own (is_for u k) (answer_in files k.answer)
other_step files t u new k false s apart is = refl
other_step files t u new k true false apart is = refl
other_step files t u new k true true apart is =
    let not_u : is_for u k ≡ false = ap (λ (n : ℕ). n == u) (eqb-true k.transaction t is) ∙ apart in
    ap (λ (b : Bool). own b (answer_in files (counting_kept files new k.answer))) not_u
    ∙ ap (λ (b : Bool). own b (answer_in files k.answer)) (sym not_u)

other_counted : (files : List AnsweringFile) (t u : ℕ) (new : KeptAnswer) (ks : List KeptFor) → (t == u) ≡ false
    → kept_answers files u (map (counted files t new) ks) ≡ kept_answers files u ks
other_counted files t u new [] apart = refl
other_counted files t u new (k ∷ ks) apart =
    ap₂ (λ (a b : List Answer). a ++ b)
    (other_step files t u new k (is_for t k) (same_sender (answer_in files k.answer) (answer_in files new)) apart refl)
    (other_counted files t u new ks apart)

other_with_step : (files : List AnsweringFile) (t u : ℕ) (new : KeptAnswer) (ks : List KeptFor) (any : Bool) → (t == u) ≡ false
    → kept_answers files u (cond any (map (counted files t new) ks) (ks ++ record { transaction = t; answer = new } ∷ []))
    ≡ kept_answers files u ks
other_with_step files t u new ks true apart = other_counted files t u new ks apart
other_with_step files t u new ks false apart =
    kept_append files u ks (record { transaction = t; answer = new } ∷ [])
    ∙ ap (λ (b : Bool). kept_answers files u ks ++ (own b (answer_in files new) ++ [])) apart
    ∙ append-nil (kept_answers files u ks)

pub kept_without : (files : List AnsweringFile) (t u : ℕ) (new : KeptAnswer) (ks : List KeptFor) → (t == u) ≡ false
    → kept_answers files u (with_kept files t new ks) ≡ kept_answers files u ks
kept_without files t u new ks apart = other_with_step files t u new ks (list_any (is_same files t new) ks) apart

-- ---- whether there is one

one_step : (f r : Bool) (x : Answer) (answers : List Answer) → r ≡ has_one answers → (f || r) ≡ has_one (own f x ++ answers)
one_step true r x answers e = refl
one_step false r x answers e = e

pub one_kept : (files : List AnsweringFile) (t : ℕ) (ks : List KeptFor)
    → list_any (is_for t) ks ≡ has_one (kept_answers files t ks)
one_kept files t [] = refl
one_kept files t (k ∷ ks) =
    one_step (is_for t k) (list_any (is_for t) ks) (answer_in files k.answer) (kept_answers files t ks) (one_kept files t ks)

-- ---- the files in which they stand

-- each is one of so many
abbrev pub AreBelow : ℕ → List KeptFor → Type 0
AreBelow n ks = (j : ℕ) (k : KeptFor) → slice_get ks j ≡ Some k → k.answer.file < n

below_counting : (n : ℕ) (new old : KeptAnswer) (c : Bool) → new.file < n → old.file < n → (cond c new old).file < n
below_counting n new old true h g = h
below_counting n new old false h g = g

below_counted : (n : ℕ) (files : List AnsweringFile) (new : KeptAnswer) (k : KeptFor) (b : Bool) → new.file < n
    → k.answer.file < n → (cond b (record k { answer = counting_kept files new k.answer }) k).answer.file < n
below_counted n files new k true h g =
    below_counting n new k.answer (counts_over (answer_in files k.answer) (answer_in files new)) h g
below_counted n files new k false h g = g

below_mapped : (n : ℕ) (files : List AnsweringFile) (t : ℕ) (new : KeptAnswer) (ks : List KeptFor) → new.file < n
    → AreBelow n ks → AreBelow n (map (counted files t new) ks)
below_mapped n files t new [] h below j k is = absurd (cc is)
below_mapped n files t new (m ∷ ks) h below zero k is =
    let e : counted files t new m ≡ k = cc is in
    let b = below_counted n files new m (is_same files t new m) h (below 0 m refl) in
    let f = ap (λ (x : KeptFor). x.answer.file) e in omega (arith, b, f)
below_mapped n files t new (m ∷ ks) h below (suc j) k is =
    below_mapped n files t new ks h (λ i l e. below (suc i) l e) j k is

below_more : (n : ℕ) (t : ℕ) (new : KeptAnswer) (ks : List KeptFor) → new.file < n
    → AreBelow n ks → AreBelow n (ks ++ record { transaction = t; answer = new } ∷ [])
below_more n t new [] h below zero k is =
    let e : new.file ≡ k.answer.file = cc is in omega (arith, h, e)
below_more n t new [] h below (suc j) k is = absurd (cc is)
below_more n t new (m ∷ ks) h below zero k is = below 0 k is
below_more n t new (m ∷ ks) h below (suc j) k is = below_more n t new ks h (λ i l e. below (suc i) l e) j k is

below_cond : (n : ℕ) (xs ys : List KeptFor) (b : Bool) → AreBelow n xs → AreBelow n ys → AreBelow n (cond b xs ys)
below_cond n xs ys true h g = h
below_cond n xs ys false h g = g

pub below_with : (n : ℕ) (files : List AnsweringFile) (t : ℕ) (new : KeptAnswer) (ks : List KeptFor) → new.file < n
    → AreBelow n ks → AreBelow n (with_kept files t new ks)
below_with n files t new ks h below =
    below_cond n (map (counted files t new) ks) (ks ++ record { transaction = t; answer = new } ∷ [])
    (list_any (is_same files t new) ks) (below_mapped n files t new ks h below) (below_more n t new ks h below)

-- ---- with a file more

file_there : (files : List AnsweringFile) (f : AnsweringFile) (i : ℕ) → i < length files
    → slice_get (files ++ f ∷ []) i ≡ slice_get files i
file_there [] f i h = absurd (omega (arith, h))
file_there (x ∷ files) f zero h = refl
file_there (x ∷ files) f (suc i) h = file_there files f i (omega (arith, h))

abbrev in_file : Option AnsweringFile → KeptAnswer → AnsweringFile → Answer
in_file o kept none = record {
  sender = (unwrap_or o none).sender;
  created = (unwrap_or o none).created;
  processed = kept.processed;
  status = kept.status;
  level = kept.level;
  recipient = kept.recipient;
}

pub answer_there : (files : List AnsweringFile) (f : AnsweringFile) (kept : KeptAnswer) → kept.file < length files
    → answer_in (files ++ f ∷ []) kept ≡ answer_in files kept
answer_there files f kept h = ap (λ (o : Option AnsweringFile). in_file o kept no_file) (file_there files f kept.file h)

pub kept_there : (files : List AnsweringFile) (f : AnsweringFile) (t : ℕ) (ks : List KeptFor) → AreBelow (length files) ks
    → kept_answers (files ++ f ∷ []) t ks ≡ kept_answers files t ks
kept_there files f t [] below = refl
kept_there files f t (k ∷ ks) below =
    ap₂ (λ (x : Answer) (l : List Answer). own (is_for t k) x ++ l) (answer_there files f k.answer (below 0 k refl))
    (kept_there files f t ks (λ i l e. below (suc i) l e))
