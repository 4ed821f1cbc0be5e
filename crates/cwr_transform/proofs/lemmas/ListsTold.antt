-- What is told of lists comes line by line.
use mathlib.Core.Path.{fun_ext}
use Rattle.std.proofs.Common.{◌≡◌, ◌==◌, ℕ, ◌<◌, Bool, true, false, not, ◌||◌, List, [], ◌∷◌, ◌++◌, length, map, filter, get_or, Option, Some, None, refl, sym, ap, ap₂, subst, ◌∙◌, append-nil, append_assoc, arith, true≢false}
use Rattle.std.specs.Prelude.{if◌then◌else◌}
use Rattle.std.specs.List.{HoldsAt, flat_map, list_any, slice_split}
use Rattle.std.specs.List.Sorted.{IsNonDecreasingBy}
use Rattle.std.specs.Option.{option_flatten, option_map_or}
use Rattle.std.specs.Str.{bytes_eq}
use Rattle.std.proofs.lemmas.List.Concat.{flat_map-append}
use Rattle.std.proofs.lemmas.List.Folds.{list_any-append}
use Rattle.cwr_devices.specs.declared.pens.Pen.{Pen}
use Rattle.cwr_devices.specs.Steps.Pens.{Adds}
use Rattle.cwr_devices.proofs.lemmas.Adding.{adds_as, adds_both, adds_nothing}
use Rattle.cwr_fields.specs.Format.Bytes.{trimmed}
use Rattle.cwr_select.specs.Format.Criteria.{number_cell}
use Rattle.cwr_transform.specs.declared.sought.Further.{Further}
use Rattle.cwr_transform.specs.declared.sought.SoughtNumbers.{SoughtNumbers}
use Rattle.cwr_transform.specs.Format.Lists.{all_read, entries_in, entries_of, read_before, unmarked}
use Rattle.cwr_transform.specs.Format.Missing.{Placed, numbers_of, places_of, same_place}
use Rattle.cwr_transform.specs.Format.Told.{firsts_after, missing_number, missing_place, number_lines, place_lines, places_with, told_of, twice_line}
use Rattle.cwr_transform.specs.Steps.Found.{counted_at, counts_after, place_at}
use Rattle.cwr_transform.specs.Steps.Lists.{IsFirstOf, SayValues, line_read}
use Rattle.cwr_transform.specs.Steps.Sought.{AreNoted, CanPlace, HasFound, SameFound, first_place, places_found}
use Rattle.cwr_transform.specs.Steps.TellingLists.{AreAllIn, AreIn, AreLines, TellsTo, lines_once}
use Rattle.cwr_transform.proofs.lemmas.FoundPlaces.{found_places}
use Rattle.cwr_transform.proofs.lemmas.ListLines.{line_first, with_line}
use Rattle.cwr_transform.proofs.lemmas.SoughtValues.{bytes_equiv}

-- ---- the lines of a number

each_of : (number : List ℕ) (at : ℕ → ℕ × ℕ) (further : List Further)
    → flat_map (twice_line number) (map at (map (λ f. f.count) further)) ≡ flat_map (λ f. twice_line number (at f.count)) further
each_of number at [] = refl
each_of number at (f ∷ further) = ap (λ (l : List ℕ). twice_line number (at f.count) ++ l) (each_of number at further)

module _ (number : List ℕ) (at : ℕ → ℕ × ℕ) (first : ℕ) (further : List Further) where
  abbrev pub lines_by : List ℕ
  lines_by = number_lines number (map at (counts_after first (map (λ f. f.count) further)))

  -- no transaction has it
  pub lines_missing : first_place at first ≡ None → missing_number number ≡ lines_by
  lines_missing e = by (first == 0) refl where
    by : (b : Bool) → (first == 0) ≡ b → missing_number number ≡ lines_by
    by true q = sym (ap (λ (b : Bool). number_lines number (map at (if b then [] else first ∷ map (λ f. f.count) further))) q)
    by false q =
        let no : Some (at first) ≡ None = sym (ap (λ (b : Bool). if b then None else Some (at first)) q) ∙ e in absurd (cc no)

  lines_some : (p : ℕ × ℕ) → first_place at first ≡ Some p
      → lines_by ≡ number_lines number (p ∷ map at (map (λ f. f.count) further))
  lines_some p e = by (first == 0) refl where
    by : (b : Bool) → (first == 0) ≡ b → lines_by ≡ number_lines number (p ∷ map at (map (λ f. f.count) further))
    by true q = let no : None ≡ Some p = sym (ap (λ (b : Bool). if b then None else Some (at first)) q) ∙ e in absurd (cc no)
    by false q =
        let same : at first ≡ p = cc (sym (ap (λ (b : Bool). if b then None else Some (at first)) q) ∙ e) in
        ap (λ (b : Bool). number_lines number (map at (if b then [] else first ∷ map (λ f. f.count) further))) q
        ∙ ap (λ (q : ℕ × ℕ). number_lines number (q ∷ map at (map (λ f. f.count) further))) same

-- one has it
pub lines_one : (number : List ℕ) (at : ℕ → ℕ × ℕ) (first : ℕ) (further : List Further) (p : ℕ × ℕ) → first_place at first ≡ Some p
    → length further ≡ 0 → [] ≡ number_lines number (map at (counts_after first (map (λ f. f.count) further)))
lines_one number at first [] p e none = sym (lines_some number at first [] p e)
lines_one number at first (f ∷ further) p e none = absurd (omega (arith, none))

-- several do
pub lines_several : (number : List ℕ) (at : ℕ → ℕ × ℕ) (first : ℕ) (further : List Further) (p : ℕ × ℕ) → first_place at first ≡ Some p
    → 0 < length further
    → twice_line number p ++ flat_map (λ f. twice_line number (at f.count)) further
    ≡ number_lines number (map at (counts_after first (map (λ f. f.count) further)))
lines_several number at first [] p e several = absurd (omega (arith, several))
lines_several number at first (f ∷ further) p e several =
    ap (λ (l : List ℕ). twice_line number p ++ l) (sym (each_of number at (f ∷ further))) ∙ sym (lines_some number at first (f ∷ further) p e)

-- ---- by what was found

filters_alike : (one other : List ℕ) → bytes_eq one other ≡ true → (ps : List Placed)
    → filter (λ p. bytes_eq one (number_cell p.records)) ps ≡ filter (λ p. bytes_eq other (number_cell p.records)) ps
filters_alike one other same ps =
    ap (λ (f : Placed → Bool). filter f ps) (fun_ext (λ p. bytes_equiv.congr one other (number_cell p.records) same))

pub are_lines : (ps : List Placed) (group place : ℕ) (s : SoughtNumbers)
    → HasFound s.listed.now (numbers_of ps) (places_of ps) group place s
    → AreLines (λ number. number_lines (trimmed number) (places_with number ps)) s
are_lines ps group place s h number at within here =
    let value : List ℕ = get_or s.listed.now at number in
    ap (number_lines (trimmed number))
    (ap (map (place_at s.starts.items)) (h.counted.counts at number within)
    ∙ found_places bytes_eq value (λ p. number_cell p.records) (λ p. (p.group, p.place)) (place_at s.starts.items) 1 ps h.placed.at
    ∙ ap places_of (filters_alike value number (here number) ps))

-- ---- where the same was found

pub can_same : (old new : SoughtNumbers) → SameFound old new → CanPlace old → CanPlace new
can_same old new same can = record {
  rises = subst (λ (l : List ℕ). IsNonDecreasingBy (λ x. x) l) (sym (ap (λ v. v.items) same.starts)) can.rises;
  few = omega (arith, can.few, ap (λ v. length v.items) same.starts);
  sorted = subst (λ (l : List Further). IsNonDecreasingBy (λ f. f.number) l) (sym (ap (λ v. v.items) same.further)) can.sorted;
}

places_same : (old new : SoughtNumbers) (at : ℕ) → SameFound old new → places_found new at ≡ places_found old at
places_same old new at same =
    ap (λ v. map (place_at v.items) (counted_at new.firsts.items new.further.items at)) same.starts
    ∙ ap (λ v. map (place_at old.starts.items) (counted_at v.items new.further.items at)) same.firsts
    ∙ ap (λ v. map (place_at old.starts.items) (counted_at old.firsts.items v.items at)) same.further

pub lines_same : (lines : List ℕ → List ℕ) (old new : SoughtNumbers) → SameFound old new → AreLines lines old → AreLines lines new
lines_same lines old new same are number at within here =
    ap (number_lines (trimmed number)) (places_same old new at same)
    ∙ are number at (subst (λ (l : List (List ℕ)). at < length l) (ap (λ b. b.now) same.listed) within)
    (subst (λ (l : List (List ℕ)). HoldsAt (λ y. bytes_eq y number ≡ true) l at) (ap (λ b. b.now) same.listed) here)

pub same_twice : (old mid new : SoughtNumbers) → SameFound old mid → SameFound mid new → SameFound old new
same_twice old mid new h k = record {
  listed = k.listed ∙ h.listed;
  firsts = k.firsts ∙ h.firsts;
  further = k.further ∙ h.further;
  starts = k.starts ∙ h.starts;
}

-- a value's lines are added where it didn't come before
pub once_first : {A : Type 0} (same : A → A → Bool) (lines : A → List ℕ) (before : List A) (x : A)
    → true ≡ not (list_any (same x) before) → lines x ≡ lines_once same lines before x
once_first same lines before x e = by (list_any (same x) before) refl where
  by : (b : Bool) → list_any (same x) before ≡ b → lines x ≡ lines_once same lines before x
  by false q = sym (ap (λ (b : Bool). if b then [] else lines x) q)
  by true q = absurd (true≢false (e ∙ ap not q))

pub once_again : {A : Type 0} (same : A → A → Bool) (lines : A → List ℕ) (before : List A) (x : A)
    → false ≡ not (list_any (same x) before) → [] ≡ lines_once same lines before x
once_again same lines before x e = by (list_any (same x) before) refl where
  by : (b : Bool) → list_any (same x) before ≡ b → [] ≡ lines_once same lines before x
  by true q = sym (ap (λ (b : Bool). if b then [] else lines x) q)
  by false q = absurd (true≢false (sym (e ∙ ap not q)))

-- ---- values, one after another

one_more : {A : Type 0} (lines_of : A → List ℕ) (b : Bool) (x : A)
    → flat_map lines_of (if b then [] else x ∷ []) ≡ (if b then [] else lines_of x)
one_more lines_of true x = refl
one_more lines_of false x = append-nil (lines_of x)

value_told : {A : Type 0} (same : A → A → Bool) (lines_of : A → List ℕ) (before : List A) (x : A) (xs : List A)
    → flat_map lines_of (firsts_after same before (x ∷ xs))
    ≡ lines_once same lines_of before x ++ flat_map lines_of (firsts_after same (before ++ x ∷ []) xs)
value_told {A} same lines_of before x xs =
    flat_map-append lines_of (if list_any (same x) before then [] else x ∷ []) (firsts_after same (before ++ x ∷ []) xs)
    ∙ ap (λ (l : List ℕ). l ++ flat_map lines_of (firsts_after same (before ++ x ∷ []) xs))
    (one_more lines_of (list_any (same x) before) x)

-- the first of what is left, and the others
record IsSplit {A : Type 0} (x : A) (rest : Option (List A)) (left : List A) : Type 0 where
  others : List A
  rest_is : rest ≡ Some others
  is : left ≡ x ∷ others

split_first : {A : Type 0} (x : A) (rest : Option (List A)) (left : List A) → read_before (Some x) rest ≡ Some left → IsSplit x rest left
split_first x None left e = absurd (cc e)
split_first {A} x (Some others) left e =
    let same : x ∷ others ≡ left = cc e in record { others = others; rest_is = refl; is = sym same }

module _ {W A : Type 0} (contents : W → Option (List ℕ)) (failures : W → ℕ) (reads : List ℕ → Option A) (same : A → A → Bool)
    (lines_of : A → List ℕ) (listed found : List A) (told : List ℕ) where
  abbrev To : List Bool → List (List ℕ) → Pen W → Pen W → Type 0
  To noted lines old new = TellsTo contents failures reads same lines_of listed noted found told lines old new

  -- a line says nothing
  tells_blank : (noted : List Bool) (line : List ℕ) (lines : List (List ℕ)) (old new : Pen W) → line_read reads line ≡ Some None
      → To noted (line ∷ lines) old new → To noted lines old new
  tells_blank noted line lines old new e h = record {
    before = h.before;
    left = h.left;
    read = sym (line_first reads line lines ∙ ap (λ (o : Option (Option A)). with_line o (all_read reads (entries_of lines))) e) ∙ h.read;
    within = h.within;
    noted_are = h.noted_are;
    text = h.text;
    added = h.added;
    all = h.all;
  }

  -- it says a value, of which the lines are added
  tells_value : (noted more : List Bool) (line : List ℕ) (lines : List (List ℕ)) (x : A) (old mid new : Pen W)
      → line_read reads line ≡ Some (Some x)
      → ((before : List A) → list_any (λ y. same y x) listed ≡ true → AreNoted same listed noted (found ++ before)
      → Adds contents failures (lines_once same lines_of before x) mid new × AreNoted same listed more (found ++ (before ++ x ∷ [])))
      → To noted (line ∷ lines) old mid → To more lines old new
  tells_value noted more line lines x old mid new e step h =
      let parts : IsSplit x (all_read reads (entries_of lines)) h.left =
      split_first x (all_read reads (entries_of lines)) h.left
      (sym (line_first reads line lines ∙ ap (λ (o : Option (Option A)). with_line o (all_read reads (entries_of lines))) e) ∙ h.read) in
      let within : AreIn same listed (x ∷ parts.others) = subst (λ (l : List A). AreIn same listed l) parts.is h.within in
      let one = step h.before within.0 h.noted_are in
      record {
        before = h.before ++ x ∷ [];
        left = parts.others;
        read = parts.rest_is;
        within = within.1;
        noted_are = one.1;
        text = h.text ++ lines_once same lines_of h.before x;
        added = adds_both h.added one.0;
        all = append_assoc h.text (lines_once same lines_of h.before x) (flat_map lines_of (firsts_after same (h.before ++ x ∷ []) parts.others))
            ∙ ap (λ (l : List ℕ). h.text ++ l) (sym (value_told same lines_of h.before x parts.others))
            ∙ ap (λ (l : List A). h.text ++ flat_map lines_of (firsts_after same h.before l)) (sym parts.is) ∙ h.all;
      }

  read_none : (line : List ℕ) (lines : List (List ℕ)) (left : List A) → line_read reads line ≡ None
      → all_read reads (entries_of (line ∷ lines)) ≡ Some left → ⊥
  read_none line lines left e h =
      let no : None ≡ Some left
      = sym (line_first reads line lines ∙ ap (λ (o : Option (Option A)). with_line o (all_read reads (entries_of lines))) e) ∙ h in
      cc no

  -- before the first line
  pub tells_begun : (noted : List Bool) (text : List ℕ) (values : List A) (pen : Pen W) → all_read reads (entries_in text) ≡ Some values
      → AreIn same listed values → AreNoted same listed noted (found ++ [])
      → flat_map lines_of (firsts_after same [] values) ≡ told
      → To noted (slice_split (λ b. b == 10) (unmarked text)) pen pen
  tells_begun noted text values pen read within noted_are is = record {
    before = [];
    left = values;
    read = read;
    within = within;
    noted_are = noted_are;
    text = [];
    added = adds_nothing;
    all = is;
  }

  -- the first line of what is left says nothing
  pub tells_none : (noted : List Bool) (rest : List ℕ) (after : Option (List ℕ)) (value : Option A) (old new : Pen W) → value ≡ None
      → IsFirstOf reads rest value after → To noted (slice_split (λ b. b == 10) rest) old new
      → To noted (option_map_or (λ l. slice_split (λ b. b == 10) l) after []) old new
  tells_none noted rest after value old new none first h =
      by (line_read reads first.line) refl (sym first.says ∙ none)
      (subst (λ (l : List (List ℕ)). To noted l old new) first.parts h) where
        others : List (List ℕ)
        others = option_map_or (λ l. slice_split (λ b. b == 10) l) after []

        by : (o : Option (Option A)) → line_read reads first.line ≡ o → option_flatten (line_read reads first.line) ≡ None
            → To noted (first.line ∷ others) old new → To noted others old new
        by None e n k = absurd (read_none first.line others k.left e k.read)
        by (Some None) e n k = tells_blank noted first.line others old new e k
        by (Some (Some x)) e n k = let no : Some x ≡ None = sym (ap option_flatten e) ∙ n in absurd (cc no)

  -- it says a value
  pub tells_some : (noted more : List Bool) (rest : List ℕ) (after : Option (List ℕ)) (value : Option A) (x : A) (old mid new : Pen W)
      → value ≡ Some x
      → ((before : List A) → list_any (λ y. same y x) listed ≡ true → AreNoted same listed noted (found ++ before)
      → Adds contents failures (lines_once same lines_of before x) mid new × AreNoted same listed more (found ++ (before ++ x ∷ [])))
      → IsFirstOf reads rest value after → To noted (slice_split (λ b. b == 10) rest) old mid
      → To more (option_map_or (λ l. slice_split (λ b. b == 10) l) after []) old new
  tells_some noted more rest after value x old mid new is_some step first h =
      by (line_read reads first.line) refl (sym first.says ∙ is_some)
      (subst (λ (l : List (List ℕ)). To noted l old mid) first.parts h) where
        others : List (List ℕ)
        others = option_map_or (λ l. slice_split (λ b. b == 10) l) after []

        by : (o : Option (Option A)) → line_read reads first.line ≡ o → option_flatten (line_read reads first.line) ≡ Some x
            → To noted (first.line ∷ others) old mid → To more others old new
        by None e n k = absurd (read_none first.line others k.left e k.read)
        by (Some None) e n k = let no : None ≡ Some x = sym (ap option_flatten e) ∙ n in absurd (cc no)
        by (Some (Some z)) e n k =
            let is : z ≡ x = cc (sym (ap option_flatten e) ∙ n) in
            tells_value noted more first.line others x old mid new (e ∙ ap (λ (y : A). Some (Some y)) is) step k

  -- no line is left
  pub tells_all : (noted : List Bool) (old new : Pen W) → To noted [] old new → Adds contents failures told old new
  tells_all noted old new h =
      let none : [] ≡ h.left = cc h.read in
      adds_as (sym (append-nil h.text) ∙ ap (λ (l : List A). h.text ++ flat_map lines_of (firsts_after same h.before l)) none ∙ h.all) h.added

-- ---- a place

place_once : (found before : List (ℕ × ℕ)) (place : ℕ × ℕ) (b c : Bool) → list_any (same_place place) found ≡ b
    → list_any (same_place place) before ≡ c
    → (if not (list_any (same_place place) (found ++ before)) then missing_place place else [])
    ≡ lines_once same_place (λ p. place_lines p found) before place
place_once found before place b c p q =
    ap (λ (a : Bool). if not a then missing_place place else []) (list_any-append (same_place place) found before ∙ ap₂ (λ (x y : Bool). x || y) p q)
    ∙ by b c
    ∙ sym (ap₂ (λ (x y : Bool). if y then [] else (if x then [] else missing_place place)) p q)
  where
    by : (b c : Bool) → (if not (b || c) then missing_place place else []) ≡ (if c then [] else (if b then [] else missing_place place))
    by true true = refl
    by true false = refl
    by false true = refl
    by false false = refl

pub place_told : (found before : List (ℕ × ℕ)) (place : ℕ × ℕ)
    → (if not (list_any (same_place place) (found ++ before)) then missing_place place else [])
    ≡ lines_once same_place (λ p. place_lines p found) before place
place_told found before place = place_once found before place (list_any (same_place place) found) (list_any (same_place place) before) refl refl

-- ---- where there is a list

-- there is no text
pub told_unsaid : {A : Type 0} (reads : List ℕ → Option A) (told : List A → List Placed → List ℕ) (values : Option (List A))
    (ps : List Placed) (text : Option (List ℕ)) → text ≡ None → SayValues reads values text → [] ≡ told_of told values ps
told_unsaid reads told None ps text e h = refl
told_unsaid reads told (Some values) ps text e h = absurd (subst (λ (o : Option (List ℕ)). SayValues reads (Some values) o) e h)

-- nothing is sought
pub told_unsought : {A : Type 0} (same : A → A → Bool) (told : List A → List Placed → List ℕ) (values : Option (List A)) (ps : List Placed)
    → AreAllIn same None values → [] ≡ told_of told values ps
told_unsought same told None ps h = refl
told_unsought same told (Some values) ps h = absurd h

-- both are there
pub record IsSaid {A : Type 0} (reads : List ℕ → Option A) (same : A → A → Bool) (values : Option (List A)) (text : List ℕ) (listed : List A)
    : Type 0 where
  pub said : List A
  pub are : values ≡ Some said
  pub read : all_read reads (entries_in text) ≡ Some said
  pub within : AreIn same listed said

pub said_so : {A : Type 0} (reads : List ℕ → Option A) (same : A → A → Bool) (values : Option (List A)) (text : Option (List ℕ))
    (is : List ℕ) (listed : List A) → text ≡ Some is → SayValues reads values text → AreAllIn same (Some listed) values
    → IsSaid reads same values is listed
said_so reads same None text is listed e h k = absurd k
said_so reads same (Some values) text is listed e h k = record {
  said = values;
  are = refl;
  read = subst (λ (o : Option (List ℕ)). SayValues reads (Some values) o) e h;
  within = k;
}
