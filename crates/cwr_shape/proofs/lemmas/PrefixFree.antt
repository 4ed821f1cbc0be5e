-- No whole transmission is a proper front of another: TRL comes once, at the end.
use Rattle.std.proofs.Common.{◌≡◌, ℕ, zero, suc, ◌<◌, Bool, true, false, not, ◌&&◌, ◌||◌, List, [], ◌∷◌, ◌++◌, length, map, filter, refl, sym, ap, subst}
use Rattle.std.proofs.Common.{◌∙◌, inl, inr, arith, true≢false}
use Rattle.std.specs.Prelude.{slice_index_or}
use Rattle.std.specs.List.{list_all, AllByRecursion, flat_map}
use Rattle.std.proofs.lemmas.List.Folds.{list_all-append}
use Rattle.std.proofs.lemmas.Bool.{and_parts, and_from}
use Rattle.cwr_fields.specs.declared.codes.TransactionType.{TransactionType}
use Rattle.cwr_fields.specs.declared.codes.TransactionType.TheVariants.{Agreement, NewWork, RevisedWork, Acknowledgement}
use Rattle.cwr_fields.specs.declared.kinds.Kind.TheVariants as kinds
use Rattle.cwr_fields.specs.Format.Kinds.{all_kinds, is_carried}
use Rattle.cwr_shape.specs.declared.symbols.Symbol.{Symbol}
use Rattle.cwr_shape.specs.declared.symbols.Symbol.TheVariants.{Plain, Ipa, Grh}
use Rattle.cwr_shape.specs.Format.Shapes.{Pattern, one_of, ◌then◌, ◌or◌, ◌and◌, many, carrying, Matches, is_carried_symbol}
use Rattle.cwr_shape.specs.Format.Shapes.{without_carried, IsShape, pattern_of}
use Rattle.cwr_shape.proofs.lemmas.Matcher.{has, has_among, without-cons}
use Rattle.cwr_shape.specs.Format.Outlines.{GroupOutline, group_symbols, symbols_of, IsGroupOutline, IsOutline}

-- the symbols of carried records
abbrev pub carried_symbols : List Symbol
carried_symbols = map Plain (filter is_carried all_kinds)

-- each symbol that the pattern names passes a test
unfoldable pub only : (Symbol → Bool) → Pattern → Bool
only test (one_of ss) = list_all test ss
only test (p then q) = only test p && only test q
only test (p or q) = only test p && only test q
only test (p and q) = only test p
only test (many p) = only test p
only test (carrying p) = only test p && list_all test carried_symbols

-- what stands at a place of a list passes a test that all of it pass
pub among_passes : {A : Type 0} (test : A → Bool) (xs : List A) (x : A) (i : ℕ) → list_all test xs ≡ true → i < length xs
    → test (slice_index_or xs i x) ≡ true
among_passes test [] x i h k = absurd (omega arith)
among_passes test (y ∷ xs) x zero h k = (and_parts (test y) (list_all test xs) h).0
among_passes test (y ∷ xs) x (suc i) h k = among_passes test xs x i (and_parts (test y) (list_all test xs) h).1 (omega arith)

all-append : (test : Symbol → Bool) (xs ys : List Symbol) → list_all test xs ≡ true → list_all test ys ≡ true
    → list_all test (xs ++ ys) ≡ true
all-append test xs ys h k = list_all-append test xs ys ∙ and_from (list_all test xs) (list_all test ys) h k

all_parts : (test : Symbol → Bool) (P : List Symbol → Type 0) → ((xs : List Symbol) → P xs → list_all test xs ≡ true)
    → (parts : List (List Symbol)) → AllByRecursion P parts → list_all test (flat_map (λ part. part) parts) ≡ true
all_parts test P each [] h = refl
all_parts test P each (x ∷ parts) h =
    all-append test x (flat_map (λ part. part) parts) (each x h.0) (all_parts test P each parts h.1)

are_there : (s : Symbol) → not (is_carried_symbol s) || has s carried_symbols ≡ true
are_there (Plain kinds.Hdr) = refl
are_there (Plain _) = refl
are_there (Ipa _) = refl
are_there (Grh _) = refl

-- each of them passes a test that all of them pass
pub carried_passes : (test : Symbol → Bool) (s : Symbol) → list_all test carried_symbols ≡ true → is_carried_symbol s ≡ true
    → test s ≡ true
carried_passes test s h e =
    let found = has_among s carried_symbols (sym (ap (λ (b : Bool). not b || has s carried_symbols) e) ∙ are_there s) in
    subst (λ (t : Symbol). test t ≡ true) (sym found.1.1) (among_passes test carried_symbols s found.0 h found.1.0)

-- the carried symbols pass, and the others do
all_but_carried : (test : Symbol → Bool) (xs : List Symbol) → list_all test carried_symbols ≡ true
    → list_all test (without_carried xs) ≡ true → list_all test xs ≡ true
all_but_carried test [] h k = refl
all_but_carried test (x ∷ xs) h k = by (is_carried_symbol x) refl (all_but_carried test xs h)
  where
    by : (b : Bool) → is_carried_symbol x ≡ b → (list_all test (without_carried xs) ≡ true → list_all test xs ≡ true)
        → list_all test (x ∷ xs) ≡ true
    by true e f =
        and_from (test x) (list_all test xs) (carried_passes test x h e)
        (f (sym (ap (list_all test) (without-cons x xs true e)) ∙ k))
    by false e f =
        let parts =
        and_parts (test x) (list_all test (without_carried xs)) (sym (ap (list_all test) (without-cons x xs false e)) ∙ k) in
        and_from (test x) (list_all test xs) parts.0 (f parts.1)

-- then each symbol of what matches it does
pub matched_pass : (test : Symbol → Bool) (p : Pattern) → only test p ≡ true → (xs : List Symbol) → Matches p xs
    → list_all test xs ≡ true
unfolding only
matched_pass test (one_of ss) h xs m =
    let here : test m.0 ≡ true = subst (λ (s : Symbol). test s ≡ true) (sym m.1.1.1) (among_passes test ss m.0 m.1.0 h m.1.1.0) in
    subst (λ (ys : List Symbol). list_all test ys ≡ true) (sym m.2) (and_from (test m.0) true here refl)
matched_pass test (p then q) h xs m =
    let parts = and_parts (only test p) (only test q) h in
    subst (λ (ys : List Symbol). list_all test ys ≡ true) (sym m.2)
    (all-append test m.0 m.1 (matched_pass test p parts.0 m.0 m.3) (matched_pass test q parts.1 m.1 m.4))
matched_pass test (p or q) h xs (inl m) = matched_pass test p (and_parts (only test p) (only test q) h).0 xs m
matched_pass test (p or q) h xs (inr m) = matched_pass test q (and_parts (only test p) (only test q) h).1 xs m
matched_pass test (p and q) h xs m = matched_pass test p h xs m.0
matched_pass test (many p) h xs m =
    subst (λ (ys : List Symbol). list_all test ys ≡ true) (sym m.1) (all_parts test (Matches p) (matched_pass test p h) m.0 m.2)
matched_pass test (carrying p) h xs m =
    let parts = and_parts (only test p) (list_all test carried_symbols) h in
    all_but_carried test xs parts.1 (matched_pass test p parts.0 (without_carried xs) m)

abbrev is_no_trl : Symbol → Bool
is_no_trl (Plain kinds.Trl) = false
is_no_trl s = true

no_pattern_has_trl : (ty : TransactionType) → only is_no_trl (pattern_of ty) ≡ true
unfolding only
no_pattern_has_trl Agreement = refl
no_pattern_has_trl NewWork = refl
no_pattern_has_trl RevisedWork = refl
no_pattern_has_trl Acknowledgement = refl

group_has_no_trl : (g : GroupOutline) → IsGroupOutline g → list_all is_no_trl (group_symbols g) ≡ true
group_has_no_trl g h =
    all-append is_no_trl (flat_map (λ t. t) g.transactions) (Plain kinds.Grt ∷ []) (all_parts is_no_trl (IsShape g.ty)
    (matched_pass is_no_trl (pattern_of g.ty) (no_pattern_has_trl g.ty)) g.transactions h.1) refl

groups_have_no_trl : (groups : List GroupOutline) → AllByRecursion IsGroupOutline groups
    → list_all is_no_trl (flat_map group_symbols groups) ≡ true
groups_have_no_trl [] h = refl
groups_have_no_trl (g ∷ groups) h =
    all-append is_no_trl (group_symbols g) (flat_map group_symbols groups) (group_has_no_trl g h.0)
    (groups_have_no_trl groups h.1)

-- two lists that end with one symbol which stands nowhere else, of which one is a front of the other
ends_once : (test : Symbol → Bool) (s : Symbol) → test s ≡ false → (xs ys rest : List Symbol) → list_all test xs ≡ true
    → list_all test ys ≡ true
    → (xs ++ s ∷ []) ++ rest ≡ ys ++ s ∷ [] → rest ≡ []
ends_once test s fails [] [] rest h k e = cc e
ends_once test s fails [] (y ∷ ys) rest h k e =
    let same : s ≡ y = cc e in
    absurd (true≢false (sym (and_parts (test y) (list_all test ys) k).0 ∙ sym (ap test same) ∙ fails))
ends_once test s fails (x ∷ xs) [] rest h k e =
    let same : x ≡ s = cc e in
    absurd (true≢false (sym (and_parts (test x) (list_all test xs) h).0 ∙ ap test same ∙ fails))
ends_once test s fails (x ∷ xs) (y ∷ ys) rest h k e =
    ends_once test s fails xs ys rest (and_parts (test x) (list_all test xs) h).1 (and_parts (test y) (list_all test ys) k).1
    (cc e)

-- no whole transmission continues to another
pub prefix_free : (groups others : List GroupOutline) (rest : List Symbol) → IsOutline groups → IsOutline others
    → symbols_of groups ++ rest ≡ symbols_of others → rest ≡ []
prefix_free groups others rest h k e =
    ends_once is_no_trl (Plain kinds.Trl) refl (Plain kinds.Hdr ∷ flat_map group_symbols groups)
    (Plain kinds.Hdr ∷ flat_map group_symbols others) rest
    (groups_have_no_trl groups h.1) (groups_have_no_trl others k.1) e
