-- The works of a transmission, kept one after another.
use Rattle.std.proofs.Common.{◌≡◌, ℕ, zero, suc, ◌+◌, inl, inr, ◌<◌, ◌≤◌, min, Bool, true, false, cond, List, [], ◌∷◌, ◌++◌}
use Rattle.std.proofs.Common.{length, map, take, Option, Some, None, refl, sym, ap, ap₂, ◌∙◌, arith, append-nil, is_eq, nat_cmp}
use Rattle.std.proofs.Common.{bytes_eq}
use Rattle.std.specs.Prelude.{◌⊎◌, ◌&&◌, ◌==◌, nat_lt, slice_get, is_some, Result, Ok, Err, OnOk, is_err}
use Rattle.std.specs.Borrow.{Bor}
use Rattle.std.specs.Map.{lookup}
use Rattle.std.specs.Option.{option_copied}
use Rattle.std.specs.BTreeMap.{BTreeMap, Updates, get}
use Rattle.std.specs.Cmp.Lexicographic.{slice_cmp}
use Rattle.std.specs.List.{enumerate_from, flat_map}
use Rattle.std.proofs.Math.Seq.{take-append_seam}
use Rattle.std.proofs.lemmas.Grind.{flat_map-append}
use Rattle.std.proofs.lemmas.List.{take-append-le, take_all}
use Rattle.std.proofs.lemmas.Map.Text.{is_eq-slice_cmp}
use Rattle.std.proofs.lemmas.Slice.Eq.{bytes_eq-Decides}
use Rattle.cwr_fields.specs.declared.kinds.Kind.{Kind}
use Rattle.cwr_fields.specs.declared.kinds.Kind.TheVariants as kinds
use Rattle.cwr_lines.specs.Format.Records.{IsRecord, RecordValue}
use Rattle.cwr_findings.specs.Format.Fields.{IsField}
use Rattle.cwr_findings.proofs.lemmas.NamedCells.{cell_width}
use Rattle.cwr_values.specs.declared.items.Item.{Item}
use Rattle.cwr_values.specs.declared.items.Item.TheVariants as items
use Rattle.cwr_tools.specs.declared.totals.Totals.{Totals}
use Rattle.cwr_tools.specs.Steps.Counts.{IsCount}
use Rattle.cwr_advice.specs.Format.Rules.{cell_at, is_header}
use Rattle.cwr_advice.proofs.lemmas.AdvisedFields.{of_either}
use Rattle.cwr_advise.specs.declared.repeats.Place.{Place}
use Rattle.cwr_advise.specs.declared.repeats.Repeated.{Repeated}
use Rattle.cwr_advise.specs.declared.repeats.Repeats.{Repeats}
use Rattle.cwr_advise.specs.Format.RepeatedWorks.{place_after, place_of, repeated_in, repeated_text, work_header, work_in}
use Rattle.cwr_advise.specs.Format.RepeatedWorks.{told_place, works_in}
use Rattle.cwr_advise.specs.Steps.KeptWorks.{AreKeptOf, place_at, repeated_at, shown_if}

-- ---- works among items

same_fronts : {X : Type 0} (f : List Item → Item → List X) (items : List Item) (n : ℕ) (all more : List Item)
    → ((k : ℕ) → k < n + length items → take k all ≡ take k more)
    → flat_map (λ p. f (take p.0 all) p.1) (enumerate_from n items)
    ≡ flat_map (λ p. f (take p.0 more) p.1) (enumerate_from n items)
same_fronts f [] n all more h = refl
same_fronts {X = X} f (item ∷ items) n all more h =
    ap₂ (λ (before : List Item) (l : List X). f before item ++ l) (h n (omega arith))
    (same_fronts f items (n + 1) all more (λ k lt. h k (omega (arith, lt))))

enumerate_from-snoc : {X : Type 0} (n : ℕ) (xs : List X) (x : X)
    → enumerate_from n (xs ++ x ∷ []) ≡ enumerate_from n xs ++ (n + length xs, x) ∷ []
enumerate_from-snoc {X = X} n [] x = ap (λ (m : ℕ). (m, x) ∷ []) (omega arith)
enumerate_from-snoc {X = X} n (y ∷ xs) x =
    ap (λ (l : List (ℕ × X)). (n, y) ∷ l)
    (enumerate_from-snoc (n + 1) xs x ∙ ap (λ (m : ℕ). enumerate_from (n + 1) xs ++ (m, x) ∷ []) (omega arith))

-- what comes of each item by those before it, with one item more
pub of_items-snoc : {X : Type 0} (f : List Item → Item → List X) (given : List Item) (item : Item)
    → flat_map (λ p. f (take p.0 (given ++ item ∷ [])) p.1) (enumerate_from 0 (given ++ item ∷ []))
    ≡ flat_map (λ p. f (take p.0 given) p.1) (enumerate_from 0 given) ++ f given item
of_items-snoc {X = X} f given item =
    let all : List Item = given ++ item ∷ [] in
    let one : (ℕ × Item) → List X = λ p. f (take p.0 all) p.1 in
    ap (flat_map one) (enumerate_from-snoc 0 given item)
    ∙ flat_map-append one (enumerate_from 0 given) ((0 + length given, item) ∷ [])
    ∙ ap₂ (λ (xs ys : List X). xs ++ ys)
    (same_fronts f given 0 all given (λ k lt. take-append-le k given (item ∷ []) (omega (arith, lt))))
    (append-nil (f (take (0 + length given) all) item)
    ∙ ap (λ (before : List Item). f before item)
    (ap (λ (n : ℕ). take n all) (omega arith) ∙ take-append_seam given (item ∷ [])))

-- with one item more
pub works_more : (given : List Item) (item : Item) → works_in (given ++ item ∷ []) ≡ works_in given ++ work_in given item
unfolding works_in
works_more given item = of_items-snoc work_in given item

-- no items have none
pub works_none : works_in [] ≡ []
unfolding works_in
works_none = refl

-- ---- the first work of a number

abbrev either : Option Place → Option Place → Option Place
either None o = o
either (Some p) o = Some p

place_step : (b : Bool) (p : Place) (l m o : Option Place) → l ≡ either m o → cond b (Some p) l ≡ either (cond b (Some p) m) o
place_step true p l m o e = refl
place_step false p l m o e = e

place_of-snoc : (number : List ℕ) (works : List (List ℕ × Place)) (w : List ℕ × Place)
    → place_of number (works ++ w ∷ []) ≡ either (place_of number works) (cond (bytes_eq w.0 number) (Some w.1) None)
place_of-snoc number [] w = refl
place_of-snoc number (x ∷ works) w =
    place_step (bytes_eq x.0 number) x.1 (place_of number (works ++ w ∷ [])) (place_of number works)
    (cond (bytes_eq w.0 number) (Some w.1) None) (place_of-snoc number works w)

-- one of its number is there
still : (o : Option Place) (b : Bool) (p : Place) → (b ≡ true → is_some o ≡ true) → o ≡ either o (cond b (Some p) None)
still (Some q) b p h = refl
still None false p h = refl
still None true p h = absurd (let no : false ≡ true = h refl in cc no)

-- none is
added : (o : Option Place) (b : Bool) (p : Place) → (b ≡ true → o ≡ None) → cond b (Some p) o ≡ either o (cond b (Some p) None)
added (Some q) true p h = absurd (let no : Some q ≡ None = h refl in cc no)
added (Some q) false p h = refl
added None true p h = refl
added None false p h = refl

pub known_still : (kept : BTreeMap (List ℕ) Place) (works : List (List ℕ × Place)) (number : List ℕ) (place : Place)
    → ((n : List ℕ) → get (slice_cmp nat_cmp) kept n ≡ place_of n works) → is_some (get (slice_cmp nat_cmp) kept number) ≡ true
    → (n : List ℕ) → get (slice_cmp nat_cmp) kept n ≡ place_of n (works ++ (number, place) ∷ [])
known_still kept works number place h there n =
    h n ∙ still (place_of n works) (bytes_eq number n) place (λ e. let same : number ≡ n =
    (bytes_eq-Decides number n).0 e in ap is_some (sym (h n) ∙ ap (get (slice_cmp nat_cmp) kept) (sym same)) ∙ there)
    ∙ sym (place_of-snoc n works (number, place))

pub known_more : (old new : BTreeMap (List ℕ) Place) (works : List (List ℕ × Place)) (number : List ℕ) (place : Place)
    → ((n : List ℕ) → get (slice_cmp nat_cmp) old n ≡ place_of n works) → get (slice_cmp nat_cmp) old number ≡ None
    → Updates (slice_cmp nat_cmp) old new number (Some place) → (n : List ℕ)
    → get (slice_cmp nat_cmp) new n ≡ place_of n (works ++ (number, place) ∷ [])
known_more old new works number place h none updates n =
    updates.0 n
    ∙ ap (λ (b : Bool). cond b (Some place) (get (slice_cmp nat_cmp) old n)) (is_eq-slice_cmp number n)
    ∙ ap (λ (o : Option Place). cond (bytes_eq number n) (Some place) o) (h n)
    ∙ added (place_of n works) (bytes_eq number n) place (λ e. let same : number ≡ n =
    (bytes_eq-Decides number n).0 e in sym (h n) ∙ ap (get (slice_cmp nat_cmp) old) (sym same) ∙ none)
    ∙ sym (place_of-snoc n works (number, place))

-- ---- counts

few_counted : (n w limit : ℕ) → w ≡ min n (limit + 1) → w < limit → n < limit
few_counted n w limit e h = omega (arith, e, h)

many_counted : (n w limit : ℕ) → w ≡ min n (limit + 1) → limit ≤ w → limit ≤ n
many_counted n w limit e h = omega (arith, e, h)

one_counted : (n w limit new kept m : ℕ) → m ≡ n + 1 → kept ≡ limit → new ≡ w + 1 → w ≡ min n (limit + 1) → n < limit
    → new ≡ min m (kept + 1)
one_counted n w limit new kept m more same one e few = omega (arith, more, same, one, e, few)

full_counted : (n w limit new kept m : ℕ) → m ≡ n + 1 → kept ≡ limit → new ≡ limit + 1 → w ≡ min n (limit + 1) → limit ≤ w
    → new ≡ min m (kept + 1)
full_counted n w limit new kept m more same one e full = omega (arith, more, same, one, e, full)

cases_limit : (n : ℕ) → (n ≡ 0) ⊎ (1 ≤ n)
cases_limit zero = inl refl
cases_limit (suc n) = inr (omega arith)

length-snoc : (works : List (List ℕ × Place)) (w : List ℕ × Place) → length (works ++ w ∷ []) ≡ length works + 1
length-snoc [] w = refl
length-snoc (x ∷ works) w = omega (arith, length-snoc works w)

-- ---- a look for a number

pub copied_some : (o : Option (Bor Place)) → is_some (option_copied o) ≡ is_some o
copied_some None = refl
copied_some (Some x) = refl

pub none_there : (o : Option Place) → is_some o ≡ false → o ≡ None
none_there None e = refl
none_there (Some x) e = absurd (cc e)

pub ok_given : {T E : Type 0} (r : Result T E) (P : Type 0) → is_err r ≡ false → OnOk r P → P
ok_given (Ok x) P e h = h
ok_given (Err x) P e h = absurd (cc e)

-- ---- the first works

pub all_kept : (limit : ℕ) (works : List (List ℕ × Place)) → length works ≤ limit → take limit works ≡ works
all_kept limit works h = take_all limit works h

pub none_more : (limit : ℕ) (works : List (List ℕ × Place)) (w : List ℕ × Place) → limit ≤ length works
    → take limit (works ++ w ∷ []) ≡ take limit works
none_more limit works w h = take-append-le limit works (w ∷ []) h

pub none_taken : (works : List (List ℕ × Place)) → take 0 works ≡ []
none_taken [] = refl
none_taken (w ∷ works) = refl

-- where none are to be kept
pub kept_nothing : (s : Repeats) (works more : List (List ℕ × Place)) → s.limit ≡ 0 → AreKeptOf s works → AreKeptOf s more
kept_nothing s works more off h = record {
  known = λ number. h.known number
      ∙ ap (λ (n : ℕ). place_of number (take n works)) off
      ∙ ap (place_of number) (none_taken works ∙ sym (none_taken more))
      ∙ sym (ap (λ (n : ℕ). place_of number (take n more)) off);
  counted = λ some. absurd (omega (arith, some, off));
}

nothing_taken : (n : ℕ) (works : List (List ℕ × Place)) → works ≡ [] → take n works ≡ []
nothing_taken zero [] e = refl
nothing_taken (suc n) [] e = refl
nothing_taken n (w ∷ works) e = absurd (cc e)

-- before the first
pub kept_none : (s : Repeats) → s.kept.entries ≡ [] → s.works ≡ 0 → AreKeptOf s []
kept_none s empty none = record {
  known =
      λ number. ap (lookup (λ (k : List ℕ). is_eq (slice_cmp nat_cmp number k))) empty
      ∙ sym (ap (place_of number) (nothing_taken s.limit [] refl));
  counted = λ some. let least : min 0 (s.limit + 1) ≡ 0 = omega arith in none ∙ sym least;
}

-- a work more, where there is room for its number
pub kept_more : (old new : Repeats) (works : List (List ℕ × Place)) (number : List ℕ) (place : Place) → old.works < old.limit
    → new.limit ≡ old.limit → new.works ≡ old.works + 1
    → (((n : List ℕ) → get (slice_cmp nat_cmp) old.kept n ≡ place_of n works) → (n : List ℕ)
    → get (slice_cmp nat_cmp) new.kept n ≡ place_of n (works ++ (number, place) ∷ [])) → AreKeptOf old works
    → AreKeptOf new (works ++ (number, place) ∷ [])
kept_more old new works number place room same one known h =
    let some : 1 ≤ old.limit = omega (arith, room) in
    let counted : old.works ≡ min (length works) (old.limit + 1) = h.counted some in
    let few : length works < old.limit = few_counted (length works) old.works old.limit counted room in
    let within : length works ≤ old.limit = omega (arith, few) in
    let more : length (works ++ (number, place) ∷ []) ≡ length works + 1 = length-snoc works (number, place) in
    let fits : length (works ++ (number, place) ∷ []) ≤ old.limit = omega (arith, few, more) in
    record {
      known = λ n. known (λ m. h.known m ∙ ap (place_of m) (all_kept old.limit works within)) n
          ∙ sym (ap (λ (k : ℕ). place_of n (take k (works ++ (number, place) ∷ []))) same
          ∙ ap (place_of n) (all_kept old.limit (works ++ (number, place) ∷ []) fits));
      counted = λ _. one_counted (length works) old.works old.limit new.works new.limit _ more same one counted few;
    }

-- and where there is none
pub kept_beyond : (old new : Repeats) (works : List (List ℕ × Place)) (number : List ℕ) (place : Place) → old.limit ≤ old.works
    → new.limit ≡ old.limit → new.works ≡ old.limit + 1 → new.kept ≡ old.kept → AreKeptOf old works
    → AreKeptOf new (works ++ (number, place) ∷ [])
kept_beyond old new works number place full same one kept h =
    let more : length (works ++ (number, place) ∷ []) ≡ length works + 1 = length-snoc works (number, place) in
    record {
      known =
          λ n. ap (λ (m : BTreeMap (List ℕ) Place). get (slice_cmp nat_cmp) m n) kept ∙ h.known n
          ∙ beyond n (cases_limit old.limit) ∙ sym (ap (λ (k : ℕ). place_of n (take k (works ++ (number, place) ∷ []))) same);
      counted =
          λ some. let least : 1 ≤ old.limit = omega (arith, some, same) in
          full_counted (length works) old.works old.limit new.works new.limit _ more same one (h.counted least) full;
    }
  where
    beyond : (n : List ℕ) → ((old.limit ≡ 0) ⊎ (1 ≤ old.limit))
        → place_of n (take old.limit works) ≡ place_of n (take old.limit (works ++ (number, place) ∷ []))
    beyond n (inl off) =
        ap (λ (k : ℕ). place_of n (take k works)) off
        ∙ ap (place_of n) (none_taken works ∙ sym (none_taken (works ++ (number, place) ∷ [])))
        ∙ sym (ap (λ (k : ℕ). place_of n (take k (works ++ (number, place) ∷ []))) off)
    beyond n (inr some) =
        sym (ap (place_of n)
        (none_more old.limit works (number, place) (many_counted (length works) old.works old.limit (h.counted some) full)))

-- ---- an item

same_place : (c : Totals) (given : List Item) → IsCount c given → place_at c ≡ place_after given
same_place c given k = cc (k.groups, k.in_group, k.records)

-- what is told of a work
pub told_work : (limit : ℕ) (c : Totals) (given : List Item) (item : Item) (h : RecordValue) (found : Repeated) (number : List ℕ)
    → IsCount c given → work_header item ≡ h ∷ [] → number ≡ cell_at h 6
    → found.first ≡ place_of number (take limit (works_in given))
    → found.is_beyond ≡ (nat_lt 0 limit && (length (works_in given) == limit))
    → (told : Bool) → repeated_at limit c item (shown_if told found) ≡ repeated_in told limit given item
told_work limit c given item h found number k header e first beyond told =
    ap (flat_map (λ (r : RecordValue). repeated_text limit (place_at c) r (told_place told found.first) found.is_beyond)) header
    ∙ ap₂ (λ (o : Option Place) (b : Bool). repeated_text limit (place_at c) h (told_place told o) b ++ [])
    (first ∙ ap (λ (n : List ℕ). place_of n (take limit (works_in given))) e) beyond
    ∙ ap (λ (place : Place). repeated_text limit place h (told_place told (place_of (cell_at h 6) (take limit (works_in given))))
    (nat_lt 0 limit && (length (works_in given) == limit)) ++ []) (same_place c given k)
    ∙ sym (ap (flat_map (λ (r : RecordValue). repeated_text limit (place_after given) r
    (told_place told (place_of (cell_at r 6) (take limit (works_in given))))
    (nat_lt 0 limit && (length (works_in given) == limit)))) header)

-- of what is no work nothing is told
pub told_other : (limit : ℕ) (c : Totals) (given : List Item) (item : Item) (found : Repeated) → work_header item ≡ []
    → (told : Bool) → repeated_at limit c item (shown_if told found) ≡ repeated_in told limit given item
told_other limit c given item found header told =
    ap (flat_map (λ (r : RecordValue). repeated_text limit (place_at c) r (told_place told found.first) found.is_beyond)) header
    ∙ sym (ap (flat_map (λ (r : RecordValue). repeated_text limit (place_after given) r
    (told_place told (place_of (cell_at r 6) (take limit (works_in given))))
    (nat_lt 0 limit && (length (works_in given) == limit)))) header)

-- of a work, that is the text
pub told_here : (limit : ℕ) (c : Totals) (item : Item) (h : RecordValue) (place : Place) (told : Repeated)
    → h ∷ [] ≡ work_header item → place ≡ place_at c
    → repeated_text limit place h told.first told.is_beyond ≡ repeated_at limit c item told
told_here limit c item h place told header e =
    ap (λ (p : Place). repeated_text limit p h told.first told.is_beyond) e
    ∙ sym (append-nil (repeated_text limit (place_at c) h told.first told.is_beyond))
    ∙ ap (flat_map (λ (r : RecordValue). repeated_text limit (place_at c) r told.first told.is_beyond)) header

-- the works with it
pub works_with : (c : Totals) (given : List Item) (item : Item) (h : RecordValue) (number : List ℕ) → IsCount c given
    → work_header item ≡ h ∷ [] → number ≡ cell_at h 6
    → works_in given ++ (number, place_at c) ∷ [] ≡ works_in (given ++ item ∷ [])
works_with c given item h number k header e =
    ap₂ (λ (n : List ℕ) (p : Place). works_in given ++ (n, p) ∷ []) e (cc (k.groups, k.in_group, k.records))
    ∙ sym (works_more given item
    ∙ ap (λ (l : List RecordValue). works_in given ++ map (λ (r : RecordValue). (cell_at r 6, place_after given)) l) header)

pub works_without : (given : List Item) (item : Item) → work_header item ≡ [] → works_in given ≡ works_in (given ++ item ∷ [])
works_without given item header =
    sym (works_more given item
    ∙ ap (λ (l : List RecordValue). works_in given ++ map (λ (r : RecordValue). (cell_at r 6, place_after given)) l) header
    ∙ append-nil (works_in given))

-- ---- headers

either_kind : (P : Kind → Type 0) (r : RecordValue) → is_header r ≡ true → P kinds.Nwr → P kinds.Rev → P r.kind
either_kind P r h p q = of_either P kinds.Nwr kinds.Rev r h p q

number_of_header : (r : RecordValue) → is_header r ≡ true → IsField "submitter work number" r.kind 6 14
number_of_header r h =
    either_kind (λ k. IsField "submitter work number" k 6 14) r h (record { carried = refl; place = refl; width = refl })
    (record { carried = refl; place = refl; width = refl })

kept_first : (b : Bool) (x h : RecordValue) → h ∷ [] ≡ cond b (x ∷ []) [] → (b ≡ true) × (x ≡ h)
kept_first true x h e = let same : h ≡ x = cc e in (refl, sym same)
kept_first false x h e = absurd (cc e)

header_is : (item : Item) (h : RecordValue) → h ∷ [] ≡ work_header item → is_header h ≡ true
header_is (items.Transaction []) h e = absurd (cc e)
header_is (items.Transaction (x ∷ t)) h e = let first = kept_first (is_header x) x h e in ap is_header (sym first.1) ∙ first.0
header_is (items.Opened r) h e = absurd (cc e)
header_is (items.GroupOpened r) h e = absurd (cc e)
header_is (items.GroupClosed r) h e = absurd (cc e)
header_is items.Ended h e = absurd (cc e)

-- its number is as wide as numbers are
pub number_is_wide : (item : Item) (h : RecordValue) (cell : List ℕ) → h ∷ [] ≡ work_header item → cell ≡ cell_at h 6 → IsRecord h
    → length cell ≡ 14
number_is_wide item h cell header e fits =
    ap length e ∙ cell_width "submitter work number" h.kind 6 14 h (number_of_header h (header_is item h header)) refl fits

pub first_taken : (t : List RecordValue) (h : RecordValue) → slice_get t 0 ≡ Some h → take 1 t ≡ h ∷ []
first_taken [] h e = absurd (cc e)
first_taken (x ∷ t) h e = let same : x ≡ h = cc e in ap (λ (r : RecordValue). r ∷ []) same

pub none_first : (t : List RecordValue) → slice_get t 0 ≡ None → take 1 t ≡ []
none_first [] e = refl
none_first (x ∷ t) e = absurd (cc e)
