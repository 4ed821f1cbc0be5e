-- The links of a group with a link more, or with a transaction more.
use Rattle.std.proofs.Common.{◌≡◌, ℕ, zero, suc, ◌<◌, ◌≤◌, Bool, true, false, cond, List, [], ◌∷◌, ◌++◌, length, take, refl, sym, ap, ◌∙◌, arith, inl, inr, subst}
use Rattle.std.proofs.Common.{ap₂, get_or}
use Rattle.std.specs.Prelude.{◌⊎◌, ◌==◌, map, Some, slice_get, slice_set}
use Rattle.std.proofs.lemmas.Bool.{eq-eqb, ne_eqb}
use Rattle.std.proofs.lemmas.List.{length-append, length-set, take-append-le}
use Rattle.std.proofs.lemmas.Option.{slice_get_read, slice_get_within}
use Rattle.std.proofs.Math.Seq.{take-append_seam}
use Rattle.cwr_sent.specs.declared.groups.Entry.{Entry}
use Rattle.cwr_sent.specs.declared.facts.SentFacts.{SentFacts}
use Rattle.cwr_sent.specs.declared.links.Link.{Link}
use Rattle.cwr_sent.specs.Format.GroupRows.{GroupRows, KeptFor}
use Rattle.cwr_sent.specs.Steps.Links.{AreLinked, LeadBack, last_place, place_after, shown_group, shown_link, shown_links}
use Rattle.cwr_sent.proofs.lemmas.Linked.{last_is_own}

-- ---- places with a link more

abbrev place_with : List Link → Link → ℕ → ℕ
place_with ls l t = cond (l.transaction == t) (suc (length ls)) (last_place ls t)

more_step : (q n : ℕ) (own first : Bool) (r : ℕ) → r ≡ cond own (suc n) q
    → place_after r first ≡ cond own (suc (suc n)) (place_after q first)
more_step q n true first r e = ap (λ (k : ℕ). place_after k first) e
more_step q n false first r e = ap (λ (k : ℕ). place_after k first) e

pub last_place-more : (ls : List Link) (l : Link) (t : ℕ) → last_place (ls ++ l ∷ []) t ≡ place_with ls l t
last_place-more [] l t = one (l.transaction == t)
  where
    one : (own : Bool) → place_after zero own ≡ cond own 1 0
    one true = refl
    one false = refl
last_place-more (x ∷ ls) l t =
    more_step (last_place ls t) (length ls) (l.transaction == t) (x.transaction == t) (last_place (ls ++ l ∷ []) t)
    (last_place-more ls l t)

-- ---- an element of a list with one more

pub at_end : {X : Type 0} (xs : List X) (x y : X) (j : ℕ) → slice_get (xs ++ x ∷ []) j ≡ Some y
    → (slice_get xs j ≡ Some y) ⊎ ((j ≡ length xs) × (x ≡ y))
at_end [] x y zero h = inr (refl, cc h)
at_end [] x y (suc j) h = absurd (cc h)
at_end (z ∷ xs) x y zero h = inl h
at_end (z ∷ xs) x y (suc j) h = elim (at_end xs x y j h) [ inl e ↦ inl e | inr e ↦ inr (ap suc e.0, e.1) ]

pub at_set : {X : Type 0} (xs : List X) (i k : ℕ) (x y : X) → slice_get (slice_set xs i x) k ≡ Some y
    → (slice_get xs k ≡ Some y × (i ≡ k → ⊥)) ⊎ ((i ≡ k) × (x ≡ y))
at_set [] i k x y h = absurd (cc h)
at_set (z ∷ xs) zero zero x y h = inr (refl, cc h)
at_set (z ∷ xs) zero (suc k) x y h = inl (h, λ e. omega (arith, e))
at_set (z ∷ xs) (suc i) zero x y h = inl (h, λ e. omega (arith, e))
at_set (z ∷ xs) (suc i) (suc k) x y h =
    elim (at_set xs i k x y h) [
      | inl o ↦ inl (o.0, λ e. let down : i ≡ k = omega (arith, e) in o.1 down)
      | inr n ↦ inr (ap suc n.0, n.1)
    ]

-- ---- a transaction more, without links

pub no_links : (ls : List Link) → shown_links ls ≡ [] → ls ≡ []
no_links [] h = refl
no_links (l ∷ ls) h = absurd (cc h)

pub with_entry : (entries : List Entry) (e : Entry) (ls : List Link) → shown_links ls ≡ [] → e.last ≡ 0 → AreLinked entries ls
    → AreLinked (entries ++ e ∷ []) ls
with_entry entries e ls none zero_last h =
    let empty = no_links ls none in
    record {
      last = λ t f is. elim (at_end entries e f t is) [
        | inl old ↦ h.last t f old
        | inr new ↦ ap (λ (g : Entry). g.last) (sym new.1) ∙ zero_last ∙ ap (λ (l : List Link). last_place l t) (sym empty)
      ];
      before = h.before;
      within = λ j l is. let w = h.within j l is in let n = length-append entries (e ∷ []) in omega (arith, w, n);
    }

-- ---- a link more

pub lead_back : (ls : List Link) (l : Link) → LeadBack ls → l.before ≡ last_place ls l.transaction → LeadBack (ls ++ l ∷ [])
lead_back ls l h back j m is =
    elim (at_end ls l m j is) [
      | inl old ↦
          let w = slice_get_within ls j m old in
          let le : j ≤ length ls = omega (arith, w) in
          h j m old ∙ ap (λ (x : List Link). last_place x m.transaction) (sym (take-append-le j ls (l ∷ []) le))
      | inr new ↦
          let there : take j (ls ++ l ∷ []) ≡ ls =
          ap (λ (k : ℕ). take k (ls ++ l ∷ [])) new.0 ∙ take-append_seam ls (l ∷ []) in
          ap (λ (x : Link). x.before) (sym new.1) ∙ back ∙ ap (λ (x : Link). last_place ls x.transaction) new.1
          ∙ ap (λ (x : List Link). last_place x m.transaction) (sym there)
    ]

pub with_link : (entries : List Entry) (e : Entry) (ls : List Link) (l : Link) → AreLinked entries ls
    → l.before ≡ last_place ls l.transaction → l.transaction < length entries → e.last ≡ suc (length ls)
    → AreLinked (slice_set entries l.transaction e) (ls ++ l ∷ [])
with_link entries e ls l h back within last = record {
  last = λ t f is. elim (at_set entries l.transaction t e f is) [
    | inl old ↦ h.last t f old.0 ∙ ap (λ (b : Bool). cond b (suc (length ls)) (last_place ls t)) (sym (ne_eqb l.transaction t old.1))
        ∙ sym (last_place-more ls l t)
    | inr new ↦ ap (λ (g : Entry). g.last) (sym new.1) ∙ last
        ∙ ap (λ (b : Bool). cond b (suc (length ls)) (last_place ls t)) (sym (eq-eqb l.transaction t new.0)) ∙ sym (last_place-more ls l t)
  ];
  before = lead_back ls l h.before back;
  within = λ j m is.
      let n = length-set entries l.transaction e in
      elim (at_end ls l m j is) [
        | inl old ↦ let w = h.within j m old in omega (arith, w, n)
        | inr new ↦ let s = ap (λ (x : Link). x.transaction) new.1 in omega (arith, within, n, s)
      ];
}

-- ---- transactions that aren't there

pub none_beyond_entries : (entries : List Entry) (ls : List Link) (t : ℕ) → AreLinked entries ls → length entries ≤ t
    → last_place ls t ≡ 0
none_beyond_entries entries ls t h past = by (last_place ls t) refl
  where
    by : (p : ℕ) → last_place ls t ≡ p → p ≡ 0
    by zero e = refl
    by (suc p) e =
        let own = last_is_own t ls p e in
        let w = h.within p own.0 own.1 in
        let s = own.2 in absurd (omega (arith, w, s, past))

-- ---- the entry of a transaction

facts_many : (entries : List Entry) → length (map (λ (e : Entry). e.facts) entries) ≡ length entries
facts_many [] = refl
facts_many (e ∷ entries) = ap suc (facts_many entries)

pub within_entries : (entries : List Entry) (ls : List Link) (g : GroupRows) (t : ℕ) → shown_group entries ls ≡ g
    → t < length g.facts → t < length entries
within_entries entries ls g t is h =
    let a = ap (λ (x : GroupRows). length x.facts) is in
    let b = facts_many entries in
    omega (arith, a, b, h)

pub entry_there : (entries : List Entry) (t : ℕ) (e : Entry) → t < length entries → e ≡ get_or entries t e
    → slice_get entries t ≡ Some e
entry_there entries t e within is = slice_get_read entries (length entries) t e refl within is

same_rest : (entries : List Entry) (t : ℕ) (e y : Entry) → slice_get entries t ≡ Some e → y.facts ≡ e.facts
    → map (λ (x : Entry). x.facts) (slice_set entries t y) ≡ map (λ (x : Entry). x.facts) entries
same_rest [] t e y there same = refl
same_rest (x ∷ entries) zero e y there same =
    let is : x ≡ e = cc there in
    ap (λ (f : SentFacts). f ∷ map (λ (z : Entry). z.facts) entries) (same ∙ ap (λ (z : Entry). z.facts) (sym is))
same_rest (x ∷ entries) (suc t) e y there same = ap (λ (l : List SentFacts). x.facts ∷ l) (same_rest entries t e y there same)

shown_both : (ls ms : List Link) → shown_links (ls ++ ms) ≡ shown_links ls ++ shown_links ms
shown_both [] ms = refl
shown_both (l ∷ ls) ms = ap (λ (x : List KeptFor). shown_link l ∷ x) (shown_both ls ms)

-- what is shown with an answer more
pub shown_with : (entries : List Entry) (ls : List Link) (g : GroupRows) (t : ℕ) (e y : Entry) (l : Link)
    → shown_group entries ls ≡ g → slice_get entries t ≡ Some e → y.facts ≡ e.facts → l.transaction ≡ t
    → shown_group (slice_set entries t y) (ls ++ l ∷ [])
    ≡ record g { answers = g.answers ++ record { transaction = t; answer = l.answer } ∷ [] }
shown_with entries ls g t e y l is there same own =
    ap₂ (λ (f : List SentFacts) (a : List KeptFor). record { facts = f; answers = a }) (same_rest entries t e y there same)
    (shown_both ls (l ∷ []) ∙ ap (λ (n : ℕ). shown_links ls ++ record { transaction = n; answer = l.answer } ∷ []) own)
    ∙ ap (λ (x : GroupRows). record x { answers = x.answers ++ record { transaction = t; answer = l.answer } ∷ [] }) is

pub linked_with : (entries : List Entry) (ls : List Link) (t : ℕ) (e y : Entry) (l : Link) → AreLinked entries ls
    → slice_get entries t ≡ Some e → l.before ≡ e.last → l.transaction ≡ t → y.last ≡ suc (length ls)
    → AreLinked (slice_set entries t y) (ls ++ l ∷ [])
linked_with entries ls t e y l h there before own last =
    let At : ℕ → Type 0 = λ n. AreLinked (slice_set entries n y) (ls ++ l ∷ []) in
    let w = slice_get_within entries t e there in
    subst At own (with_link entries y ls l h
    (before ∙ h.last t e there ∙ ap (last_place ls) (sym own)) (omega (arith, w, own)) last)
