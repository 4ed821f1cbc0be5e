-- A test that computes whether symbols match a pattern, and one that shows that nothing does.
use Rattle.std.proofs.Common.{◌≡◌, ℕ, zero, suc, ◌<◌, Bool, true, false, not, cond, ◌&&◌, ◌||◌, List, [], ◌∷◌, ◌++◌, length, refl}
use Rattle.std.proofs.Common.{sym, ap, subst, ◌∙◌, inl, inr, arith, true≢false, append-nil}
use Rattle.std.specs.Prelude.{◌⊎◌, Some, None, slice_index_or}
use Rattle.std.specs.List.{list_any, AllByRecursion, IsAmong, flat_map}
use Rattle.std.specs.Str.{bytes_eq}
use Rattle.std.proofs.lemmas.Bool.{and_parts, and_from, or_cases, or_left, or_right}
use Rattle.std.proofs.lemmas.Slice.Eq.{bytes_eq-Decides}
use Rattle.std.proofs.lemmas.List.Elements.{filter-append}
use Rattle.cwr_fields.specs.declared.codes.Role.TheVariants.{Assignor, Acquirer}
use Rattle.cwr_fields.specs.declared.codes.TransactionType.TheVariants.{Agreement, NewWork, RevisedWork, Acknowledgement}
use Rattle.cwr_fields.specs.Format.Codes.{role_code, type_code}
use Rattle.cwr_fields.specs.declared.kinds.Kind.{Kind}
use Rattle.cwr_fields.specs.Format.Kinds.{letters, kind_of}
use Rattle.cwr_fields.proofs.lemmas.AllKinds.{kind_of-letters}
use Rattle.cwr_fields.proofs.lemmas.AllKinds.{letters-injective}
use Rattle.cwr_shape.specs.declared.symbols.Symbol.{Symbol}
use Rattle.cwr_shape.specs.declared.symbols.Symbol.TheVariants.{Plain, Ipa, Grh}
use Rattle.cwr_shape.specs.Format.Shapes.{Pattern, one_of, ◌then◌, ◌or◌, ◌and◌, many, carrying, Matches, is_carried_symbol}
use Rattle.cwr_shape.specs.Format.Shapes.{without_carried}

-- a text for each symbol
abbrev pub symbol_text : Symbol → List ℕ
symbol_text (Plain kind) = letters kind
symbol_text (Ipa role) = 1 ∷ role_code role
symbol_text (Grh ty) = 2 ∷ type_code ty

known_kind : (k : Kind) (x : List ℕ) → kind_of x ≡ None → letters k ≡ x → ⊥
known_kind k x h e = clash (sym (kind_of-letters k) ∙ ap kind_of e ∙ h)
  where
    clash : Some k ≡ None → ⊥
    clash c = cc c

heads_differ : (m n : ℕ) (xs ys : List ℕ) → m ∷ xs ≡ n ∷ ys → (m ≡ n → ⊥) → ⊥
heads_differ m n xs ys e h = h (cc e)

pub same_text : (s t : Symbol) → symbol_text s ≡ symbol_text t → s ≡ t
same_text (Plain j) (Plain k) e = ap Plain (letters-injective j k e)
same_text (Plain j) (Ipa Assignor) e = absurd (known_kind j _ refl e)
same_text (Plain j) (Ipa Acquirer) e = absurd (known_kind j _ refl e)
same_text (Plain j) (Grh Agreement) e = absurd (known_kind j _ refl e)
same_text (Plain j) (Grh NewWork) e = absurd (known_kind j _ refl e)
same_text (Plain j) (Grh RevisedWork) e = absurd (known_kind j _ refl e)
same_text (Plain j) (Grh Acknowledgement) e = absurd (known_kind j _ refl e)
same_text (Ipa Assignor) (Plain j) e = absurd (known_kind j _ refl (sym e))
same_text (Ipa Acquirer) (Plain j) e = absurd (known_kind j _ refl (sym e))
same_text (Grh Agreement) (Plain j) e = absurd (known_kind j _ refl (sym e))
same_text (Grh NewWork) (Plain j) e = absurd (known_kind j _ refl (sym e))
same_text (Grh RevisedWork) (Plain j) e = absurd (known_kind j _ refl (sym e))
same_text (Grh Acknowledgement) (Plain j) e = absurd (known_kind j _ refl (sym e))
same_text (Ipa r) (Grh ty) e = absurd (heads_differ 1 2 (role_code r) (type_code ty) e (λ h. omega (arith, h)))
same_text (Grh ty) (Ipa r) e = absurd (heads_differ 2 1 (type_code ty) (role_code r) e (λ h. omega (arith, h)))
same_text (Ipa Assignor) (Ipa Assignor) e = refl
same_text (Ipa Acquirer) (Ipa Acquirer) e = refl
same_text (Ipa Assignor) (Ipa Acquirer) e =
    absurd (true≢false (sym ((bytes_eq-Decides (1 ∷ role_code Assignor) (1 ∷ role_code Acquirer)).1 e)))
same_text (Ipa Acquirer) (Ipa Assignor) e =
    absurd (true≢false (sym ((bytes_eq-Decides (1 ∷ role_code Acquirer) (1 ∷ role_code Assignor)).1 e)))
same_text (Grh Agreement) (Grh Agreement) e = refl
same_text (Grh NewWork) (Grh NewWork) e = refl
same_text (Grh RevisedWork) (Grh RevisedWork) e = refl
same_text (Grh Acknowledgement) (Grh Acknowledgement) e = refl
same_text (Grh a) (Grh b) e = absurd (true≢false (sym ((bytes_eq-Decides (symbol_text (Grh a)) (symbol_text (Grh b))).1 e)))

abbrev pub has : Symbol → List Symbol → Bool
has s ss = list_any (λ t. bytes_eq (symbol_text s) (symbol_text t)) ss

-- what is found in a list stands at a place of it
pub has_among : (s : Symbol) (ss : List Symbol) → has s ss ≡ true → IsAmong ss s
has_among s [] h = absurd (true≢false (sym h))
has_among s (t ∷ ss) h = pick s t ss (has_among s ss) (or_cases (bytes_eq (symbol_text s) (symbol_text t)) (has s ss) h)
  where
    pick : (u v : Symbol) (us : List Symbol) → (has u us ≡ true → IsAmong us u)
        → (bytes_eq (symbol_text u) (symbol_text v) ≡ true) ⊎ (has u us ≡ true) → IsAmong (v ∷ us) u
    pick u v us ih (inl e) = (0, (omega arith, same_text u v ((bytes_eq-Decides (symbol_text u) (symbol_text v)).0 e)))
    pick u v us ih (inr e) = let m = ih e in (suc m.0, (omega (arith, m.1.0), m.1.1))

among_has : (s : Symbol) (ss : List Symbol) (i : ℕ) → i < length ss → s ≡ slice_index_or ss i s → has s ss ≡ true
among_has s [] i h e = absurd (omega arith)
among_has s (t ∷ ss) zero h e =
    or_left (bytes_eq (symbol_text s) (symbol_text t)) (has s ss)
    ((bytes_eq-Decides (symbol_text s) (symbol_text t)).1 (ap symbol_text e))
among_has s (t ∷ ss) (suc i) h e =
    or_right (bytes_eq (symbol_text s) (symbol_text t)) (has s ss) (among_has s ss i (omega arith) e)

-- the empty list matches
unfoldable pub nullable : Pattern → Bool
nullable (one_of ss) = false
nullable (p then q) = nullable p && nullable q
nullable (p or q) = nullable p || nullable q
nullable (p and q) = nullable p && nullable q
nullable (many p) = true
nullable (carrying p) = nullable p

-- what may follow a symbol
unfoldable pub after : Symbol → Pattern → Pattern
after s (one_of ss) = cond (has s ss) (many (one_of [])) (one_of [])
after s (p then q) = (after s p then q) or cond (nullable p) (after s q) (one_of [])
after s (p or q) = after s p or after s q
after s (p and q) = after s p and after s q
after s (many p) = after s p then many p
after s (carrying p) = cond (is_carried_symbol s) (carrying p) (carrying (after s p))

unfoldable pub after_all : List Symbol → Pattern → Pattern
after_all [] p = p
after_all (s ∷ xs) p = after_all xs (after s p)

-- nothing matches
unfoldable pub is_dead : Pattern → Bool
is_dead (one_of []) = true
is_dead (one_of (s ∷ ss)) = false
is_dead (p then q) = is_dead p || is_dead q
is_dead (p or q) = is_dead p && is_dead q
is_dead (p and q) = is_dead p || is_dead q
is_dead (many p) = false
is_dead (carrying p) = is_dead p

pub nothing_matches : (xs : List Symbol) → Matches (one_of []) xs → ⊥
nothing_matches xs m = omega (arith, m.1.1.0)

pub nullable_sound : (p : Pattern) → nullable p ≡ true → Matches p []
unfolding nullable
nullable_sound (one_of ss) h = absurd (true≢false (sym h))
nullable_sound (p then q) h =
    let b = and_parts (nullable p) (nullable q) h in ([], [], refl, nullable_sound p b.0, nullable_sound q b.1)
nullable_sound (p or q) h = either (or_cases (nullable p) (nullable q) h) (nullable_sound p) (nullable_sound q)
  where
    either : (nullable p ≡ true) ⊎ (nullable q ≡ true) → (nullable p ≡ true → Matches p []) → (nullable q ≡ true → Matches q [])
        → Matches p [] ⊎ Matches q []
    either (inl e) f g = inl (f e)
    either (inr e) f g = inr (g e)
nullable_sound (p and q) h = let b = and_parts (nullable p) (nullable q) h in (nullable_sound p b.0, nullable_sound q b.1)
nullable_sound (many p) h = ([], refl, tt)
nullable_sound (carrying p) h = nullable_sound p h

pub empty_only : (xs : List Symbol) → Matches (many (one_of [])) xs → xs ≡ []
empty_only xs m = by m.0 m.1 m.2
  where
    by : (parts : List (List Symbol)) → xs ≡ flat_map (λ part. part) parts → AllByRecursion (Matches (one_of [])) parts → xs ≡ []
    by [] e h = e
    by (x ∷ parts) e h = absurd (nothing_matches x h.0)

after_one : (s : Symbol) (ss xs : List Symbol) (b : Bool) → has s ss ≡ b → Matches (cond b (many (one_of [])) (one_of [])) xs
    → Matches (one_of ss) (s ∷ xs)
after_one s ss xs true e m = (s, has_among s ss e, ap (λ (ys : List Symbol). s ∷ ys) (empty_only xs m))
after_one s ss xs false e m = absurd (nothing_matches xs m)

after_then : (s : Symbol) (p q r : Pattern) (xs : List Symbol) (b : Bool) → nullable p ≡ b → (Matches r xs → Matches q (s ∷ xs))
    → Matches (cond b r (one_of [])) xs → Matches (p then q) (s ∷ xs)
after_then s p q r xs true e f m = ([], s ∷ xs, refl, nullable_sound p e, f m)
after_then s p q r xs false e f m = absurd (nothing_matches xs m)

-- the symbols without the carried ones, with one more before them
pub without-cons : (s : Symbol) (xs : List Symbol) (b : Bool) → is_carried_symbol s ≡ b
    → without_carried (s ∷ xs) ≡ cond b (without_carried xs) (s ∷ without_carried xs)
without-cons s xs true e = ap (λ (c : Bool). cond (not c) (s ∷ without_carried xs) (without_carried xs)) e
without-cons s xs false e = ap (λ (c : Bool). cond (not c) (s ∷ without_carried xs) (without_carried xs)) e

-- and with one more after them
pub without-snoc : (xs : List Symbol) (s : Symbol) (b : Bool) → is_carried_symbol s ≡ b
    → without_carried (xs ++ s ∷ []) ≡ cond b (without_carried xs) (without_carried xs ++ s ∷ [])
without-snoc xs s b e =
    filter-append (λ t. not (is_carried_symbol t)) xs (s ∷ [])
    ∙ ap (λ (ys : List Symbol). without_carried xs ++ ys) (without-cons s [] b e) ∙ by b
  where
    by : (c : Bool) → without_carried xs ++ cond c [] (s ∷ []) ≡ cond c (without_carried xs) (without_carried xs ++ s ∷ [])
    by true = append-nil (without_carried xs)
    by false = refl

after_carrying : (s : Symbol) (p r : Pattern) (xs : List Symbol) (b : Bool) → is_carried_symbol s ≡ b
    → (Matches r (without_carried xs) → Matches p (s ∷ without_carried xs))
    → Matches (cond b (carrying p) (carrying r)) xs → Matches (carrying p) (s ∷ xs)
after_carrying s p r xs true e f m = subst (Matches p) (sym (without-cons s xs true e)) m
after_carrying s p r xs false e f m = subst (Matches p) (sym (without-cons s xs false e)) (f m)

pub after_sound : (s : Symbol) (p : Pattern) (xs : List Symbol) → Matches (after s p) xs → Matches p (s ∷ xs)
unfolding after
after_sound s (one_of ss) xs m = after_one s ss xs (has s ss) refl m
after_sound s (p then q) xs (inl m) = (s ∷ m.0, m.1, ap (λ (ys : List Symbol). s ∷ ys) m.2, after_sound s p m.0 m.3, m.4)
after_sound s (p then q) xs (inr m) = after_then s p q (after s q) xs (nullable p) refl (after_sound s q xs) m
after_sound s (p or q) xs (inl m) = inl (after_sound s p xs m)
after_sound s (p or q) xs (inr m) = inr (after_sound s q xs m)
after_sound s (p and q) xs m = (after_sound s p xs m.0, after_sound s q xs m.1)
after_sound s (many p) xs m = (
  (s ∷ m.0) ∷ m.4.0,
  ap (λ (ys : List Symbol). s ∷ ys) (m.2 ∙ ap (λ (ys : List Symbol). m.0 ++ ys) m.4.1),
  (after_sound s p m.0 m.3, m.4.2),
)
after_sound s (carrying p) xs m =
    after_carrying s p (after s p) xs (is_carried_symbol s) refl (after_sound s p (without_carried xs)) m

pub accepts_sound : (xs : List Symbol) (p : Pattern) → nullable (after_all xs p) ≡ true → Matches p xs
unfolding after_all
accepts_sound [] p h = nullable_sound p h
accepts_sound (s ∷ xs) p h = after_sound s p xs (accepts_sound xs (after s p) h)

-- ---- the other way round

both_empty : (f r : List Symbol) → [] ≡ f ++ r → (f ≡ []) × (r ≡ [])
both_empty [] r e = (refl, sym e)
both_empty (x ∷ f) r e = absurd (no x (f ++ r) e)
  where
    no : (y : Symbol) (ys : List Symbol) → [] ≡ y ∷ ys → ⊥
    no y ys h = cc h

pub nullable_complete : (p : Pattern) → Matches p [] → nullable p ≡ true
unfolding nullable
nullable_complete (one_of ss) m = absurd (no m.0 m.2)
  where
    no : (y : Symbol) → [] ≡ y ∷ [] → ⊥
    no y h = cc h
nullable_complete (p then q) m =
    let b = both_empty m.0 m.1 m.2 in
    and_from (nullable p) (nullable q) (nullable_complete p (subst (Matches p) b.0 m.3))
    (nullable_complete q (subst (Matches q) b.1 m.4))
nullable_complete (p or q) (inl m) = or_left (nullable p) (nullable q) (nullable_complete p m)
nullable_complete (p or q) (inr m) = or_right (nullable p) (nullable q) (nullable_complete q m)
nullable_complete (p and q) m = and_from (nullable p) (nullable q) (nullable_complete p m.0) (nullable_complete q m.1)
nullable_complete (many p) m = refl
nullable_complete (carrying p) m = nullable_complete p m

cons_parts : (s t : Symbol) (xs ys : List Symbol) → s ∷ xs ≡ t ∷ ys → (s ≡ t) × (xs ≡ ys)
cons_parts s t xs ys e = (cc e, cc e)

then_complete : (s : Symbol) (p q r : Pattern) (xs f rest : List Symbol)
    → ((ys : List Symbol) → Matches p (s ∷ ys) → Matches r ys) → (Matches q (s ∷ xs) → Matches (after s q) xs)
    → s ∷ xs ≡ f ++ rest → Matches p f → Matches q rest → Matches ((r then q) or cond (nullable p) (after s q) (one_of [])) xs
then_complete s p q r xs [] rest fp fq e mp mq =
    inr (subst (λ (b : Bool). Matches (cond b (after s q) (one_of [])) xs) (sym (nullable_complete p mp))
    (fq (subst (Matches q) (sym e) mq)))
then_complete s p q r xs (t ∷ f) rest fp fq e mp mq =
    let c = cons_parts s t xs (f ++ rest) e in
    inl (f, rest, c.1, fp f (subst (λ (u : Symbol). Matches p (u ∷ f)) (sym c.0) mp), mq)

many_complete : (s : Symbol) (p r : Pattern) (xs : List Symbol) (parts : List (List Symbol))
    → ((ys : List Symbol) → Matches p (s ∷ ys) → Matches r ys) → s ∷ xs ≡ flat_map (λ part. part) parts
    → AllByRecursion (Matches p) parts → Matches (r then many p) xs
many_complete s p r xs [] fp e h = absurd (no s xs e)
  where
    no : (y : Symbol) (ys : List Symbol) → y ∷ ys ≡ [] → ⊥
    no y ys g = cc g
many_complete s p r xs ([] ∷ parts) fp e h = many_complete s p r xs parts fp e h.1
many_complete s p r xs ((t ∷ f) ∷ parts) fp e h =
    let c = cons_parts s t xs (f ++ flat_map (λ part. part) parts) e in
    (f, flat_map (λ part. part) parts, c.1, fp f (subst (λ (u : Symbol). Matches p (u ∷ f)) (sym c.0) h.0), (parts, refl, h.1))

carrying_complete : (s : Symbol) (p r : Pattern) (xs : List Symbol) (b : Bool) → is_carried_symbol s ≡ b
    → (Matches p (s ∷ without_carried xs) → Matches r (without_carried xs))
    → Matches (carrying p) (s ∷ xs) → Matches (cond b (carrying p) (carrying r)) xs
carrying_complete s p r xs true e f m = subst (Matches p) (without-cons s xs true e) m
carrying_complete s p r xs false e f m = f (subst (Matches p) (without-cons s xs false e) m)

pub after_complete : (s : Symbol) (p : Pattern) (xs : List Symbol) → Matches p (s ∷ xs) → Matches (after s p) xs
unfolding after
after_complete s (one_of ss) xs m =
    let c = cons_parts s m.0 xs [] m.2 in
    let there : has s ss ≡ true = ap (λ (u : Symbol). has u ss) c.0 ∙ among_has m.0 ss m.1.0 m.1.1.0 m.1.1.1 in
    subst (λ (b : Bool). Matches (cond b (many (one_of [])) (one_of [])) xs) (sym there) ([], c.1, tt)
after_complete s (p then q) xs m =
    then_complete s p q (after s p) xs m.0 m.1 (after_complete s p) (after_complete s q xs) m.2 m.3 m.4
after_complete s (p or q) xs (inl m) = inl (after_complete s p xs m)
after_complete s (p or q) xs (inr m) = inr (after_complete s q xs m)
after_complete s (p and q) xs m = (after_complete s p xs m.0, after_complete s q xs m.1)
after_complete s (many p) xs m = many_complete s p (after s p) xs m.0 (after_complete s p) m.1 m.2
after_complete s (carrying p) xs m =
    carrying_complete s p (after s p) xs (is_carried_symbol s) refl (after_complete s p (without_carried xs)) m

pub follows_complete : (xs rest : List Symbol) (p : Pattern) → Matches p (xs ++ rest) → Matches (after_all xs p) rest
unfolding after_all
follows_complete [] rest p m = m
follows_complete (s ∷ xs) rest p m = follows_complete xs rest (after s p) (after_complete s p (xs ++ rest) m)

pub dead_sound : (p : Pattern) (xs : List Symbol) → is_dead p ≡ true → Matches p xs → ⊥
unfolding is_dead
dead_sound (one_of []) xs h m = nothing_matches xs m
dead_sound (one_of (s ∷ ss)) xs h m = true≢false (sym h)
dead_sound (p then q) xs h m =
    either (or_cases (is_dead p) (is_dead q) h) (λ e. dead_sound p m.0 e m.3) (λ e. dead_sound q m.1 e m.4)
  where
    either : (is_dead p ≡ true) ⊎ (is_dead q ≡ true) → (is_dead p ≡ true → ⊥) → (is_dead q ≡ true → ⊥) → ⊥
    either (inl e) f g = f e
    either (inr e) f g = g e
dead_sound (p or q) xs h (inl m) = dead_sound p xs (and_parts (is_dead p) (is_dead q) h).0 m
dead_sound (p or q) xs h (inr m) = dead_sound q xs (and_parts (is_dead p) (is_dead q) h).1 m
dead_sound (p and q) xs h m =
    either (or_cases (is_dead p) (is_dead q) h) (λ e. dead_sound p xs e m.0) (λ e. dead_sound q xs e m.1)
  where
    either : (is_dead p ≡ true) ⊎ (is_dead q ≡ true) → (is_dead p ≡ true → ⊥) → (is_dead q ≡ true → ⊥) → ⊥
    either (inl e) f g = f e
    either (inr e) f g = g e
dead_sound (many p) xs h m = true≢false (sym h)
dead_sound (carrying p) xs h m = dead_sound p (without_carried xs) h m

-- symbols that don't match, and symbols that begin nothing that does
pub no_match : (xs : List Symbol) (p : Pattern) → nullable (after_all xs p) ≡ false → Matches p xs → ⊥
no_match xs p h m =
    let whole : Matches p (xs ++ []) = subst (Matches p) (sym (append-nil xs)) m in
    true≢false (sym (nullable_complete (after_all xs p) (follows_complete xs [] p whole)) ∙ h)

pub no_begin : (xs rest : List Symbol) (p : Pattern) → is_dead (after_all xs p) ≡ true → Matches p (xs ++ rest) → ⊥
no_begin xs rest p h m = dead_sound (after_all xs p) rest h (follows_complete xs rest p m)
