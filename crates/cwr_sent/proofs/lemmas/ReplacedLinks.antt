-- The links of a group in which the answers by one sender to one transaction are replaced.
use Rattle.std.proofs.Common.{◌≡◌, ℕ, zero, suc, Bool, true, false, cond, List, [], ◌∷◌, ◌++◌, length, take, drop, refl, sym, ap, ap₂, ◌∙◌, append-nil, arith}
use Rattle.std.specs.Prelude.{◌||◌, ◌==◌, map, Some, slice_get}
use Rattle.std.specs.List.{list_any}
use Rattle.std.proofs.lemmas.List.{drop_all}
use Rattle.std.proofs.Math.Seq.{take-append_seam}
use Rattle.cwr_sent.specs.declared.answers.AnsweringFile.{AnsweringFile}
use Rattle.cwr_sent.specs.declared.answers.KeptAnswer.{KeptAnswer}
use Rattle.cwr_sent.specs.declared.groups.Entry.{Entry}
use Rattle.cwr_sent.specs.declared.links.Link.{Link}
use Rattle.cwr_sent.specs.Format.GroupRows.{KeptFor}
use Rattle.cwr_sent.specs.Steps.Links.{AreLinked, counted, counting_kept, is_same, is_same_link, last_place, place_after, shown_link, shown_links}
use Rattle.cwr_sent.specs.Steps.Links.{with_counting}

-- ---- what is written back whole

pub written_back : (new old : List Link) (n : ℕ) → length new ≡ length old → n ≡ length old
    → take n (new ++ drop (length new) old) ≡ new
written_back new old n same is =
    ap₂ (λ (k : ℕ) (rest : List Link). take k (new ++ rest)) (is ∙ sym same)
    (drop_all (length new) old (omega (arith, same)))
    ∙ take-append_seam new []

-- ---- the replaced links lead back as the others do

pub record Keeps (f : Link → Link) : Type 0 where
  pub transaction : (l : Link) → (f l).transaction ≡ l.transaction
  pub before : (l : Link) → (f l).before ≡ l.before

same_place : (f : Link → Link) (t : ℕ) → Keeps f → (ls : List Link) → last_place (map f ls) t ≡ last_place ls t
same_place f t k [] = refl
same_place f t k (l ∷ ls) =
    ap₂ (λ (p n : ℕ). place_after p (n == t)) (same_place f t k ls) (k.transaction l)

taken : (f : Link → Link) (j : ℕ) (ls : List Link) → take j (map f ls) ≡ map f (take j ls)
taken f zero ls = refl
taken f (suc j) [] = refl
taken f (suc j) (l ∷ ls) = ap (λ (x : List Link). f l ∷ x) (taken f j ls)

made_of : (f : Link → Link) (ls : List Link) (j : ℕ) (m : Link) → slice_get (map f ls) j ≡ Some m
    → (l : Link) × (slice_get ls j ≡ Some l) × (f l ≡ m)
made_of f [] j m h = absurd (cc h)
made_of f (l ∷ ls) zero m h = (l, refl, cc h)
made_of f (l ∷ ls) (suc j) m h = made_of f ls j m h

pub still_linked : (f : Link → Link) (entries : List Entry) (ls : List Link) → Keeps f → AreLinked entries ls
    → AreLinked entries (map f ls)
still_linked f entries ls k h = record {
  last = λ t e is. h.last t e is ∙ sym (same_place f t k ls);
  before = λ j m is.
      let l = made_of f ls j m is in
      ap (λ (x : Link). x.before) (sym l.2) ∙ k.before l.0 ∙ h.before j l.0 l.1
      ∙ sym (same_place f l.0.transaction k (take j ls))
      ∙ ap₂ (λ (x : List Link) (n : ℕ). last_place x n) (sym (taken f j ls))
      (sym (k.transaction l.0) ∙ ap (λ (x : Link). x.transaction) l.2);
  within = λ j m is.
      let l = made_of f ls j m is in
      let w = h.within j l.0 l.1 in
      let s = ap (λ (x : Link). x.transaction) l.2 in
      omega (arith, w, s, k.transaction l.0);
}

pub counting_keeps : (files : List AnsweringFile) (t : ℕ) (new : KeptAnswer) → Keeps (with_counting files t new)
counting_keeps files t new =
    record { transaction = λ l. one l (is_same_link files t new l); before = λ l. other l (is_same_link files t new l) }
  where
    one : (l : Link) (b : Bool)
        → (cond b (record l { answer = counting_kept files new l.answer }) l).transaction ≡ l.transaction
    one l true = refl
    one l false = refl

    other : (l : Link) (b : Bool) → (cond b (record l { answer = counting_kept files new l.answer }) l).before ≡ l.before
    other l true = refl
    other l false = refl

-- ---- what they show

shown_one : (files : List AnsweringFile) (new : KeptAnswer) (l : Link) (b : Bool)
    → shown_link (cond b (record l { answer = counting_kept files new l.answer }) l)
    ≡ cond b (record (shown_link l) { answer = counting_kept files new l.answer }) (shown_link l)
shown_one files new l true = refl
shown_one files new l false = refl

pub shown_replaced : (files : List AnsweringFile) (t : ℕ) (new : KeptAnswer) (ls : List Link)
    → shown_links (map (with_counting files t new) ls) ≡ map (counted files t new) (shown_links ls)
shown_replaced files t new [] = refl
shown_replaced files t new (l ∷ ls) =
    ap₂ (λ (x : KeptFor) (xs : List KeptFor). x ∷ xs) (shown_one files new l (is_same_link files t new l))
    (shown_replaced files t new ls)

pub found_shown : (files : List AnsweringFile) (t : ℕ) (new : KeptAnswer) (ls : List Link)
    → list_any (is_same_link files t new) ls ≡ list_any (is_same files t new) (shown_links ls)
found_shown files t new [] = refl
found_shown files t new (l ∷ ls) = ap (λ (b : Bool). is_same_link files t new l || b) (found_shown files t new ls)

-- where there is none, none is replaced
none_here : (files : List AnsweringFile) (t : ℕ) (new : KeptAnswer) (k : KeptFor) (ks : List KeptFor) (a b : Bool)
    → is_same files t new k ≡ a → (a || b) ≡ false → (b ≡ false → map (counted files t new) ks ≡ ks)
    → map (counted files t new) (k ∷ ks) ≡ k ∷ ks
none_here files t new k ks true b one e rest = absurd (cc e)
none_here files t new k ks false b one e rest =
    ap₂ (λ (x : KeptFor) (xs : List KeptFor). x ∷ xs)
    (ap (λ (c : Bool). cond c (record k { answer = counting_kept files new k.answer }) k) one) (rest e)

pub none_counted : (files : List AnsweringFile) (t : ℕ) (new : KeptAnswer) (ks : List KeptFor)
    → list_any (is_same files t new) ks ≡ false → map (counted files t new) ks ≡ ks
none_counted files t new [] h = refl
none_counted files t new (k ∷ ks) h =
    none_here files t new k ks (is_same files t new k) (list_any (is_same files t new) ks) refl h
    (none_counted files t new ks)
