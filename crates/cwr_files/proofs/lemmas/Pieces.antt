-- One piece of a line more, and how lines go on behind it.
use Rattle.std.proofs.Common.{◌≡◌, ℕ, zero, suc, ◌+◌, ◌-◌, ◌<◌, ◌≤◌, Bool, true, false, List, [], ◌∷◌, ◌++◌, length, take, get_or}
use Rattle.std.proofs.Common.{Option, None, Some, refl, sym, ap, ap₂, subst, ◌∙◌, arith, append_assoc, append-nil, inl, inr}
use Rattle.std.proofs.lemmas.Bool.{eqb-true, eqb-false}
use Rattle.std.proofs.lemmas.List.{get_or-take, length-take, take_more}
use Rattle.std.specs.Prelude.{◌==◌, ◌||◌, if◌then◌else◌, IfSome}
use Rattle.std.specs.Io.KnownBytes.{Appends, Keeps}
use Rattle.cwr_devices.specs.Format.Failures.{most_failures, one_more_failure}
use Rattle.cwr_files.specs.declared.markings.LinePart.{LinePart}
use Rattle.cwr_files.specs.declared.markings.LinePart.TheVariants.{Start, Kept, Passed, LeftOut, Cut}
use Rattle.cwr_files.specs.declared.markings.Passing.{Passing}
use Rattle.cwr_files.specs.declared.markings.Passing.TheVariants.{All, Bad, Told}
use Rattle.cwr_files.specs.Format.FileLines.{after, marked}
use Rattle.cwr_files.specs.Steps.Markings.{HasNoEnd, IsFirstLine, IsMarkedSoFar, PassesOn, StandsIn, front, marked_on, part_after, part_behind, part_with, is_cut, passing_by, written_by}
use Rattle.cwr_files.proofs.lemmas.Marks.{after_again, as_left, as_passed, marks}

-- ---- where a line ends

not_true : (c : Bool) → (c ≡ true → ⊥) → c ≡ false
not_true true h = absurd (h refl)
not_true false h = refl

-- a text in which no place has an end has none
no_end : (text : List ℕ) → ((k : ℕ) → k < length text → (get_or text k 0 == 10) ≡ true → ⊥) → HasNoEnd text
no_end [] h = tt
no_end (b ∷ text) h =
    (not_true (b == 10) (h 0 (omega arith)), no_end text (λ k lt. h (suc k) (omega (arith, lt))))

front_has_none : (text : List ℕ) (count most : ℕ) → count ≤ most → count ≤ length text
    → ((k : ℕ) → k < most → (get_or text k 0 == 10) ≡ true → ⊥) → HasNoEnd (take count text)
front_has_none text count most le within h =
    no_end (take count text)
    (λ k lt. let few : k < count = omega (arith, lt, length-take count text) in
    let same : get_or (take count text) k 0 ≡ get_or text k 0 = get_or-take count text k 0 few in
    subst (λ (b : ℕ). (b == 10) ≡ true → ⊥) (sym same) (h k (omega (arith, few, le))))

-- so many bytes of a text stand in its first line
pub stands : (part : LinePart) (text : List ℕ) (most count : ℕ) (ends : Bool) → IsFirstLine text most ends → count ≤ most
    → StandsIn part (take count text) (part_behind part most ends count)
stands part text most count false h le =
    inl (refl, front_has_none text count most le (omega (arith, le, h.0)) (λ k lt. h.1 k (omega (arith, lt, h.0))))
stands part text most count true h le = by (count == most) refl
  where
    whole : count ≡ most → take count text ≡ take (most - 1) text ++ 10 ∷ []
    whole same =
        let here : count ≡ (most - 1) + 1 = omega (arith, same, h.0) in
        ap (λ (n : ℕ). take n text) here ∙ take_more text (most - 1) 0 (omega (arith, h.0, h.1))
        ∙ ap (λ (b : ℕ). take (most - 1) text ++ b ∷ []) (eqb-true (get_or text (most - 1) 0) 10 h.2)

    by : (c : Bool) → (count == most) ≡ c → StandsIn part (take count text) (if c then Start else part)
    by true e = inr (
      refl,
      (take (most - 1) text, front_has_none text (most - 1) (most - 1) (omega arith) (omega (arith, h.1)) h.3, whole (eqb-true count most e)),
    )
    by false e =
        let few : count ≤ most - 1 = omega (arith, le, eqb-false count most e) in
        inl (refl, front_has_none text count (most - 1) few (omega (arith, le, h.1)) h.3)

-- ---- how it goes on

left_on : (name : Option (List ℕ)) (passing : Passing) (bytes rest : List ℕ) → HasNoEnd bytes
    → marked_on name passing LeftOut (bytes ++ rest) ≡ marked_on name passing LeftOut rest
left_on name passing [] rest h = refl
left_on name passing (b ∷ bytes) rest h =
    ap (λ (c : Bool). marked_on name passing (if c then Start else LeftOut) (bytes ++ rest)) h.0 ∙ left_on name passing bytes rest h.1

passed_on : (name : Option (List ℕ)) (passing : Passing) (bytes rest : List ℕ) → after passing ≡ passing → HasNoEnd bytes
    → marked_on name passing Passed (bytes ++ rest) ≡ bytes ++ marked_on name passing Passed rest
passed_on name passing [] rest same h = refl
passed_on name passing (b ∷ bytes) rest same h =
    ap₂ (λ (p : Passing) (c : Bool). b ∷ marked_on name p (if c then Start else Passed) (bytes ++ rest)) same h.0
    ∙ ap (λ (t : List ℕ). b ∷ t) (passed_on name passing bytes rest same h.1)

left_piece : (name : Option (List ℕ)) (passing : Passing) (bytes : List ℕ) (to : LinePart) (rest : List ℕ) → StandsIn LeftOut bytes to
    → marked_on name passing LeftOut (bytes ++ rest) ≡ marked_on name passing to rest
left_piece name passing bytes to rest (inl h) =
    left_on name passing bytes rest h.1 ∙ ap (λ (q : LinePart). marked_on name passing q rest) (sym h.0)
left_piece name passing bytes to rest (inr h) =
    ap (λ (t : List ℕ). marked_on name passing LeftOut (t ++ rest)) h.1.2
    ∙ ap (marked_on name passing LeftOut) (append_assoc h.1.0 (10 ∷ []) rest)
    ∙ left_on name passing h.1.0 (10 ∷ rest) h.1.1 ∙ ap (λ (q : LinePart). marked_on name passing q rest) (sym h.0)

passed_piece : (name : Option (List ℕ)) (passing : Passing) (bytes : List ℕ) (to : LinePart) (rest : List ℕ) → after passing ≡ passing
    → StandsIn Passed bytes to → marked_on name passing Passed (bytes ++ rest) ≡ bytes ++ marked_on name passing to rest
passed_piece name passing bytes to rest same (inl h) =
    passed_on name passing bytes rest same h.1 ∙ ap (λ (q : LinePart). bytes ++ marked_on name passing q rest) (sym h.0)
passed_piece name passing bytes to rest same (inr h) =
    ap (λ (t : List ℕ). marked_on name passing Passed (t ++ rest)) h.1.2
    ∙ ap (marked_on name passing Passed) (append_assoc h.1.0 (10 ∷ []) rest)
    ∙ passed_on name passing h.1.0 (10 ∷ rest) same h.1.1
    ∙ ap (λ (p : Passing). h.1.0 ++ 10 ∷ marked_on name p Start rest) same
    ∙ sym (append_assoc h.1.0 (10 ∷ []) (marked_on name passing Start rest))
    ∙ ap₂ (λ (t : List ℕ) (q : LinePart). t ++ marked_on name passing q rest) (sym h.1.2) (sym h.0)

-- ---- pieces that aren't empty

appends_both : (a b c : Option (List ℕ)) (xs ys : List ℕ) → Appends a b xs → Appends b c ys → Appends a c (xs ++ ys)
appends_both None b c xs ys h k = tt
appends_both (Some x) None c xs ys h k = absurd h
appends_both (Some x) (Some y) None xs ys h k = absurd k
appends_both (Some x) (Some y) (Some z) xs ys h k = k ∙ ap (λ (l : List ℕ). l ++ ys) h ∙ append_assoc x xs ys

pub kept_nothing : (old new : Option (List ℕ)) → Keeps old new → Appends old new []
kept_nothing None new h = tt
kept_nothing (Some x) None h = absurd h
kept_nothing (Some x) (Some y) h = h ∙ sym (append-nil x)

-- a byte that is kept ends no line
no_feed : (passing : Passing) (part : LinePart) (b : ℕ) → part_with passing part b ≡ Kept → (b == 10) ≡ false
no_feed All Start b e = cc e
no_feed Told Start b e = by (b == 71) e
  where
    by : (c : Bool) → (if c then LeftOut else Passed) ≡ Kept → (b == 10) ≡ false
    by true h = cc h
    by false h = cc h
no_feed Bad Start b e = by ((b == 82) || (b == 84)) (b == 70) refl e
  where
    by : (c d : Bool) → (b == 70) ≡ d → (if c then Passed else if d then Kept else LeftOut) ≡ Kept → (b == 10) ≡ false
    by true d is h = cc h
    by false true is h = ap (λ (n : ℕ). n == 10) (eqb-true b 70 is)
    by false false is h = cc h
no_feed passing Kept b e = by (b == 65) e
  where
    by : (c : Bool) → (if c then Passed else LeftOut) ≡ Kept → (b == 10) ≡ false
    by true h = cc h
    by false h = cc h
no_feed passing Passed b e = cc e
no_feed passing LeftOut b e = cc e
no_feed passing Cut b e = cc e

-- a piece of a text that isn't empty begins with its first byte
pub begins : (text : List ℕ) (count : ℕ) → 0 < length text → 0 < count
    → (more : List ℕ) × (take count text ≡ get_or text 0 0 ∷ more)
begins [] count some few = absurd (omega (arith, some))
begins (b ∷ text) zero some few = absurd (omega (arith, few))
begins (b ∷ text) (suc count) some few = (take count text, refl)

-- of a text that isn't empty some bytes are taken
pub some_taken : (text : List ℕ) (count : ℕ) → 0 < length text → (count ≡ 0 → text ≡ []) → 0 < count
some_taken text zero some none =
    let empty : length text ≡ 0 = ap length (none refl) in absurd (omega (arith, some, empty))
some_taken text (suc count) some none = omega arith

passes_after : (name : Option (List ℕ)) (passing : Passing) (part : LinePart) (text : List ℕ) (count : ℕ) (to : LinePart)
    (old mid new : Option (List ℕ)) → 0 < length text → 0 < count → part_with passing part (get_or text 0 0) ≡ Passed
    → StandsIn Passed (take count text) to → Appends old mid (front name part) → Appends mid new (take count text)
    → PassesOn name passing part (after passing) to old new (take count text)
passes_after name passing part text count to old mid new some few goes h fronted written =
    let first = begins text count some few in record {
      out = front name part ++ take count text;
      appended = appends_both old mid new (front name part) (take count text) fronted written;
      goes = λ rest.
          subst (λ (t : List ℕ). marked_on name passing part (t ++ rest) ≡ front name part ++ marked_on name (after passing) Passed (t ++ rest))
          (sym first.1) (as_passed name passing part (get_or text 0 0) (first.0 ++ rest) goes)
          ∙ ap (λ (t : List ℕ). front name part ++ t)
          (passed_piece name (after passing) (take count text) to rest (after_again passing) h)
          ∙ sym (append_assoc (front name part) (take count text) (marked_on name (after passing) to rest));
    }

pub passes_line : (name : Option (List ℕ)) (passing : Passing) (part : LinePart) (text : List ℕ) (count : ℕ) (to : LinePart)
    (now : Passing) (old mid new : Option (List ℕ)) → now ≡ after passing → 0 < length text → 0 < count
    → part_with passing part (get_or text 0 0) ≡ Passed → StandsIn Passed (take count text) to → Appends old mid (front name part)
    → Appends mid new (take count text) → PassesOn name passing part now to old new (take count text)
passes_line name passing part text count to now old mid new e some few goes h fronted written =
    subst (λ (p : Passing). PassesOn name passing part p to old new (take count text)) (sym e)
    (passes_after name passing part text count to old mid new some few goes h fronted written)

pub passes_over : (name : Option (List ℕ)) (passing : Passing) (part : LinePart) (text : List ℕ) (count : ℕ) (to : LinePart)
    (old new : Option (List ℕ)) → 0 < length text → 0 < count → part_with passing part (get_or text 0 0) ≡ LeftOut
    → StandsIn LeftOut (take count text) to → Keeps old new → PassesOn name passing part passing to old new (take count text)
passes_over name passing part text count to old new some few goes h kept =
    let first = begins text count some few in record {
      out = [];
      appended = kept_nothing old new kept;
      goes = λ rest.
          subst (λ (t : List ℕ). marked_on name passing part (t ++ rest) ≡ marked_on name passing LeftOut (t ++ rest)) (sym first.1)
          (as_left name passing part (get_or text 0 0) (first.0 ++ rest) goes)
          ∙ left_piece name passing (take count text) to rest h;
    }

pub passes_nothing : (name : Option (List ℕ)) (passing : Passing) (part : LinePart) (text : List ℕ) (old new : Option (List ℕ))
    → 0 < length text → part_with passing part (get_or text 0 0) ≡ Kept → Keeps old new
    → PassesOn name passing part passing Kept old new (take 1 text)
passes_nothing name passing part text old new some goes kept =
    let first = begins text 1 some (omega arith) in record {
      out = [];
      appended = kept_nothing old new kept;
      goes = λ rest. by text some goes rest;
    }
  where
    by : (it : List ℕ) → 0 < length it → part_with passing part (get_or it 0 0) ≡ Kept → (rest : List ℕ)
        → marked_on name passing part (take 1 it ++ rest) ≡ marked_on name passing Kept rest
    by [] lt e rest = absurd (omega (arith, lt))
    by (b ∷ it) lt e rest =
        ap (λ (q : LinePart). written_by q (front name part) b (marked_on name (passing_by passing q) (part_after b q) rest)) e
        ∙ ap (λ (c : Bool). marked_on name passing (if c then Start else Kept) rest) (no_feed passing part b e)

pub passes_empty : (name : Option (List ℕ)) (passing : Passing) (part : LinePart) (text : List ℕ) (count : ℕ) (now : Passing) (to : LinePart)
    (old new : Option (List ℕ)) → length text ≡ 0 → now ≡ passing → to ≡ part → Appends old new (take count text)
    → PassesOn name passing part now to old new (take count text)
passes_empty name passing part [] count now to old new none same stays written = record {
  out = take count [];
  appended = written;
  goes = λ rest. empty count rest ∙ ap₂ (λ (p : Passing) (q : LinePart). take count [] ++ marked_on name p q rest) (sym same) (sym stays);
}
  where
    empty : (n : ℕ) (rest : List ℕ) → marked_on name passing part (take n [] ++ rest) ≡ take n [] ++ marked_on name passing part rest
    empty zero rest = refl
    empty (suc n) rest = refl
passes_empty name passing part (b ∷ text) count now to old new none same stays written = absurd (omega (arith, none))

-- ---- with what was written before

pub goes_on : (start old new : Option (List ℕ)) (name : Option (List ℕ)) (passing : Passing) (text piece : List ℕ)
    (name_now : Option (List ℕ)) (before : Passing) (from : LinePart) (now : Passing) (to : LinePart)
    → IsMarkedSoFar start old name passing text name_now before from → PassesOn name_now before from now to old new piece
    → IsMarkedSoFar start new name passing (text ++ piece) name_now now to
goes_on None old new name passing text piece name_now before from now to h p = tt
goes_on (Some s) None new name passing text piece name_now before from now to h p = absurd h
goes_on (Some s) (Some o) None name passing text piece name_now before from now to h p = absurd p.appended
goes_on (Some s) (Some o) (Some n) name passing text piece name_now before from now to h p = λ rest.
    ap (λ (t : List ℕ). s ++ marked name passing t) (append_assoc text piece rest) ∙ h (piece ++ rest)
    ∙ ap (λ (t : List ℕ). o ++ t) (p.goes rest) ∙ sym (append_assoc o p.out (marked_on name_now now to rest))
    ∙ ap (λ (t : List ℕ). t ++ marked_on name_now now to rest) (sym p.appended)

pub stays_on : (start old new : Option (List ℕ)) (name : Option (List ℕ)) (passing : Passing) (text : List ℕ)
    (name_now : Option (List ℕ)) (now : Passing) (part : LinePart) → IsMarkedSoFar start old name passing text name_now now part
    → Keeps old new → IsMarkedSoFar start new name passing text name_now now part
stays_on None old new name passing text name_now now part h kept = tt
stays_on (Some s) None new name passing text name_now now part h kept = absurd h
stays_on (Some s) (Some o) None name passing text name_now now part h kept = absurd kept
stays_on (Some s) (Some o) (Some n) name passing text name_now now part h kept = λ rest.
    h rest ∙ ap (λ (t : List ℕ). t ++ marked_on name_now now part rest) (sym kept)

-- before anything was written
pub begins_marked : (start now : Option (List ℕ)) (name name_now : Option (List ℕ)) (passing passing_now : Passing) (text : List ℕ)
    → text ≡ [] → Keeps start now → IfSome start (λ s. (name ≡ name_now) × (passing ≡ passing_now))
    → IsMarkedSoFar start now name passing text name_now passing_now Start
begins_marked None now name name_now passing passing_now text none kept asked = tt
begins_marked (Some s) None name name_now passing passing_now text none kept asked = absurd kept
begins_marked (Some s) (Some n) name name_now passing passing_now text none kept asked = λ rest.
    ap (λ (t : List ℕ). s ++ marked name passing (t ++ rest)) none
    ∙ ap₂ (λ (o : Option (List ℕ)) (p : Passing). s ++ marked o p rest) asked.0 asked.1
    ∙ ap (λ (t : List ℕ). s ++ t) (sym (marks name_now passing_now rest))
    ∙ ap (λ (t : List ℕ). t ++ marked_on name_now passing_now Start rest) (sym kept)

-- all that was written
pub marked_whole : (start now : Option (List ℕ)) (name : Option (List ℕ)) (passing : Passing) (text : List ℕ) (name_now : Option (List ℕ))
    (passing_now : Passing) (part : LinePart) → IsMarkedSoFar start now name passing text name_now passing_now part
    → Appends start now (marked name passing text)
marked_whole None now name passing text name_now passing_now part h = tt
marked_whole (Some s) None name passing text name_now passing_now part h = absurd h
marked_whole (Some s) (Some n) name passing text name_now passing_now part h =
    sym (ap (λ (t : List ℕ). s ++ marked name passing t) (sym (append-nil text)) ∙ h [] ∙ append-nil n)

-- ---- what was counted

-- no line is cut where the writer hasn't failed since
pub uncut : (part : LinePart) (before now : ℕ) → (is_cut part ≡ true → before < most_failures → before < now) → now ≡ before
    → before < most_failures → is_cut part ≡ false
uncut part before now cut same few =
    not_true (is_cut part) (λ e. let more : before < now = cut e few in absurd (omega (arith, more, same)))

pub counted_more : (before old new : ℕ) → (before < most_failures → before ≤ old) → new ≡ one_more_failure old
    → before < most_failures → before < new
counted_more before old new counted e few = let le : before ≤ old = counted few in omega (arith, le, e, few)
