-- Lines that are marked as they come are those of the whole text.
use Rattle.std.proofs.Common.{◌≡◌, ℕ, Bool, true, false, List, [], ◌∷◌, ◌++◌, Option, refl, sym, ap, subst, ◌∙◌, append_assoc}
use Rattle.std.proofs.lemmas.Bool.{eqb-true}
use Rattle.std.specs.Prelude.{◌==◌, ◌||◌, ◌&&◌, not, if◌then◌else◌}
use Rattle.cwr_files.specs.declared.markings.LinePart.{LinePart}
use Rattle.cwr_files.specs.declared.markings.LinePart.TheVariants.{Start, Kept, Passed, LeftOut}
use Rattle.cwr_files.specs.declared.markings.Passing.{Passing}
use Rattle.cwr_files.specs.declared.markings.Passing.TheVariants.{All, Bad, Told}
use Rattle.cwr_files.specs.Format.FileLines.{after, begins_with, line_before, lines, mark, marked, marked_lines, passes, with_byte}
use Rattle.cwr_files.specs.Steps.Markings.{begun, front, marked_on, part_after, part_with, passing_by, written_by}

-- what is written of the lines of a text that begins in a line: one that is passed on
abbrev behind_passed : Option (List ℕ) → Passing → List (List ℕ) → List ℕ
behind_passed name passing [] = []
behind_passed name passing (line ∷ more) = line ++ marked_lines name passing more

-- one that is left out
abbrev behind_left : Option (List ℕ) → Passing → List (List ℕ) → List ℕ
behind_left name passing [] = []
behind_left name passing (line ∷ more) = marked_lines name passing more

-- one that began with a letter that was kept
abbrev behind_kept_if : Option (List ℕ) → Bool → List ℕ → List (List ℕ) → List ℕ
behind_kept_if name true line more = (mark name ++ 70 ∷ line) ++ marked_lines name All more
behind_kept_if name false line more = marked_lines name Bad more

abbrev behind_kept : Option (List ℕ) → List (List ℕ) → List ℕ
behind_kept name [] = []
behind_kept name (line ∷ more) = behind_kept_if name (begins_with 65 line) line more

record Behind (name : Option (List ℕ)) (text : List ℕ) : Type 0 where
  start : (passing : Passing) → marked_on name passing Start text ≡ marked_lines name passing (lines text)
  passed : (passing : Passing) → after passing ≡ passing → marked_on name passing Passed text ≡ behind_passed name passing (lines text)
  left : (passing : Passing) → marked_on name passing LeftOut text ≡ behind_left name passing (lines text)
  kept : marked_on name Bad Kept text ≡ behind_kept name (lines text)

pub after_again : (passing : Passing) → after (after passing) ≡ after passing
after_again All = refl
after_again Bad = refl
after_again Told = refl

-- the first line of a text begins with its first byte
line_of : (b : ℕ) (text : List ℕ) → (line : List ℕ) × (more : List (List ℕ)) × (lines (b ∷ text) ≡ (b ∷ line) ∷ more)
line_of b text = by (b == 10) refl
  where
    joined : (others : List (List ℕ)) → (line : List ℕ) × (more : List (List ℕ)) × (with_byte b others ≡ (b ∷ line) ∷ more)
    joined [] = ([], [], refl)
    joined (line ∷ more) = (line, more, refl)

    by : (c : Bool) → (b == 10) ≡ c
        → (line : List ℕ) × (more : List (List ℕ)) × ((if c then (b ∷ []) ∷ lines text else with_byte b (lines text)) ≡ (b ∷ line) ∷ more)
    by true e = ([], lines text, refl)
    by false e = joined (lines text)

-- ---- one byte more

passed_more : (name : Option (List ℕ)) (b : ℕ) (text : List ℕ) (passing : Passing) → Behind name text → after passing ≡ passing
    → marked_on name passing Passed (b ∷ text) ≡ behind_passed name passing (lines (b ∷ text))
passed_more name b text passing h same = by (b == 10)
  where
    joined : (others : List (List ℕ)) → b ∷ behind_passed name passing others ≡ behind_passed name passing (with_byte b others)
    joined [] = refl
    joined (line ∷ more) = refl

    by : (c : Bool) → b ∷ marked_on name (after passing) (if c then Start else Passed) text
        ≡ behind_passed name passing (if c then (b ∷ []) ∷ lines text else with_byte b (lines text))
    by true = ap (λ (p : Passing). b ∷ marked_on name p Start text) same ∙ ap (λ (t : List ℕ). b ∷ t) (h.start passing)
    by false =
        ap (λ (p : Passing). b ∷ marked_on name p Passed text) same ∙ ap (λ (t : List ℕ). b ∷ t) (h.passed passing same)
        ∙ joined (lines text)

left_more : (name : Option (List ℕ)) (b : ℕ) (text : List ℕ) (passing : Passing) → Behind name text
    → marked_on name passing LeftOut (b ∷ text) ≡ behind_left name passing (lines (b ∷ text))
left_more name b text passing h = by (b == 10)
  where
    joined : (others : List (List ℕ)) → behind_left name passing others ≡ behind_left name passing (with_byte b others)
    joined [] = refl
    joined (line ∷ more) = refl

    by : (c : Bool) → marked_on name passing (if c then Start else LeftOut) text
        ≡ behind_left name passing (if c then (b ∷ []) ∷ lines text else with_byte b (lines text))
    by true = h.start passing
    by false = h.left passing ∙ joined (lines text)

-- what is written of the first byte where its line is passed on
pub as_passed : (name : Option (List ℕ)) (passing : Passing) (part : LinePart) (b : ℕ) (text : List ℕ) → part_with passing part b ≡ Passed
    → marked_on name passing part (b ∷ text) ≡ front name part ++ marked_on name (after passing) Passed (b ∷ text)
as_passed name passing part b text e =
    ap (λ (q : LinePart). written_by q (front name part) b (marked_on name (passing_by passing q) (part_after b q) text)) e
    ∙ ap (λ (p : Passing). front name part ++ b ∷ marked_on name p (part_after b Passed) text) (sym (after_again passing))

-- and where it is left out
pub as_left : (name : Option (List ℕ)) (passing : Passing) (part : LinePart) (b : ℕ) (text : List ℕ) → part_with passing part b ≡ LeftOut
    → marked_on name passing part (b ∷ text) ≡ marked_on name passing LeftOut (b ∷ text)
as_left name passing part b text e =
    ap (λ (q : LinePart). written_by q (front name part) b (marked_on name (passing_by passing q) (part_after b q) text)) e

-- a first line that is passed on
start_passed : (name : Option (List ℕ)) (b : ℕ) (text : List ℕ) (passing : Passing) → Behind name text → begun passing b ≡ Passed
    → ((line : List ℕ) → passes passing (b ∷ line) ≡ true)
    → marked_on name passing Start (b ∷ text) ≡ marked_lines name passing (lines (b ∷ text))
start_passed name b text passing h e does =
    let first = line_of b text in
    as_passed name passing Start b text e
    ∙ ap (λ (t : List ℕ). mark name ++ t) (passed_more name b text (after passing) h (after_again passing))
    ∙ subst (λ (ls : List (List ℕ)). mark name ++ behind_passed name (after passing) ls ≡ marked_lines name passing ls) (sym first.2)
    (sym (append_assoc (mark name) (b ∷ first.0) (marked_lines name (after passing) first.1))
    ∙ ap (λ (c : Bool). line_before name c (b ∷ first.0) (marked_lines name (if c then after passing else passing) first.1))
    (sym (does first.0)))

-- and one that is left out
start_left : (name : Option (List ℕ)) (b : ℕ) (text : List ℕ) (passing : Passing) → Behind name text → begun passing b ≡ LeftOut
    → ((line : List ℕ) → passes passing (b ∷ line) ≡ false)
    → marked_on name passing Start (b ∷ text) ≡ marked_lines name passing (lines (b ∷ text))
start_left name b text passing h e does =
    let first = line_of b text in
    as_left name passing Start b text e ∙ left_more name b text passing h
    ∙ subst (λ (ls : List (List ℕ)). behind_left name passing ls ≡ marked_lines name passing ls) (sym first.2)
    (ap (λ (c : Bool). line_before name c (b ∷ first.0) (marked_lines name (if c then after passing else passing) first.1))
    (sym (does first.0)))

-- a letter that is kept
kept_first : (name : Option (List ℕ)) (b : ℕ) (others : List (List ℕ)) → ((b == 82) || (b == 84)) ≡ false → (b == 70) ≡ true → b ≡ 70
    → behind_kept name others ≡ marked_lines name Bad (with_byte b others)
kept_first name b [] other is same =
    ap (λ (c : Bool). line_before name c (b ∷ []) (marked_lines name (if c then All else Bad) []))
    (sym (ap (λ (c : Bool). c || ((b == 70) && false)) other ∙ ap (λ (c : Bool). c && false) is))
kept_first name b (line ∷ more) other is same =
    by (begins_with 65 line)
    ∙ ap (λ (c : Bool). line_before name c (b ∷ line) (marked_lines name (if c then All else Bad) more))
    (sym (ap (λ (c : Bool). c || ((b == 70) && begins_with 65 line)) other ∙ ap (λ (c : Bool). c && begins_with 65 line) is))
  where
    by : (c : Bool) → behind_kept_if name c line more ≡ line_before name c (b ∷ line) (marked_lines name (if c then All else Bad) more)
    by true = ap (λ (n : ℕ). (mark name ++ n ∷ line) ++ marked_lines name All more) (sym same)
    by false = refl

start_kept : (name : Option (List ℕ)) (b : ℕ) (text : List ℕ) → Behind name text → ((b == 82) || (b == 84)) ≡ false → (b == 70) ≡ true
    → marked_on name Bad Start (b ∷ text) ≡ marked_lines name Bad (lines (b ∷ text))
start_kept name b text h other is =
    let same : b ≡ 70 = eqb-true b 70 is in
    let kept : begun Bad b ≡ Kept =
    ap (λ (c : Bool). if c then Passed else if b == 70 then Kept else LeftOut) other ∙ ap (λ (c : Bool). if c then Kept else LeftOut) is in
    let goes_on : (b == 10) ≡ false = ap (λ (n : ℕ). n == 10) same in
    ap (λ (q : LinePart). written_by q (mark name) b (marked_on name (passing_by Bad q) (part_after b q) text)) kept
    ∙ ap (λ (c : Bool). marked_on name Bad (if c then Start else Kept) text) goes_on ∙ h.kept
    ∙ kept_first name b (lines text) other is same
    ∙ ap (λ (c : Bool). marked_lines name Bad (if c then (b ∷ []) ∷ lines text else with_byte b (lines text))) (sym goes_on)

start_more : (name : Option (List ℕ)) (b : ℕ) (text : List ℕ) (passing : Passing) → Behind name text
    → marked_on name passing Start (b ∷ text) ≡ marked_lines name passing (lines (b ∷ text))
start_more name b text All h = start_passed name b text All h refl (λ line. refl)
start_more name b text Told h = by (b == 71) refl
  where
    by : (c : Bool) → (b == 71) ≡ c → marked_on name Told Start (b ∷ text) ≡ marked_lines name Told (lines (b ∷ text))
    by true e = start_left name b text Told h (ap (λ (c : Bool). if c then LeftOut else Passed) e) (λ line. ap not e)
    by false e = start_passed name b text Told h (ap (λ (c : Bool). if c then LeftOut else Passed) e) (λ line. ap not e)
start_more name b text Bad h = by ((b == 82) || (b == 84)) refl
  where
    or_kept : (c : Bool) → ((b == 82) || (b == 84)) ≡ false → (b == 70) ≡ c
        → marked_on name Bad Start (b ∷ text) ≡ marked_lines name Bad (lines (b ∷ text))
    or_kept true other e = start_kept name b text h other e
    or_kept false other e =
        start_left name b text Bad h
        (ap (λ (c : Bool). if c then Passed else if b == 70 then Kept else LeftOut) other ∙ ap (λ (c : Bool). if c then Kept else LeftOut) e)
        (λ line. ap (λ (c : Bool). c || ((b == 70) && begins_with 65 line)) other ∙ ap (λ (c : Bool). c && begins_with 65 line) e)

    by : (c : Bool) → ((b == 82) || (b == 84)) ≡ c → marked_on name Bad Start (b ∷ text) ≡ marked_lines name Bad (lines (b ∷ text))
    by true e =
        start_passed name b text Bad h (ap (λ (c : Bool). if c then Passed else if b == 70 then Kept else LeftOut) e)
        (λ line. ap (λ (c : Bool). c || ((b == 70) && begins_with 65 line)) e)
    by false e = or_kept (b == 70) e refl

kept_more : (name : Option (List ℕ)) (b : ℕ) (text : List ℕ) → Behind name text
    → marked_on name Bad Kept (b ∷ text) ≡ behind_kept name (lines (b ∷ text))
kept_more name b text h = by (b == 65) refl
  where
    by : (c : Bool) → (b == 65) ≡ c → marked_on name Bad Kept (b ∷ text) ≡ behind_kept name (lines (b ∷ text))
    by true e =
        let first = line_of b text in
        as_passed name Bad Kept b text (ap (λ (c : Bool). if c then Passed else LeftOut) e)
        ∙ ap (λ (t : List ℕ). (mark name ++ 70 ∷ []) ++ t) (passed_more name b text All h refl)
        ∙ subst (λ (ls : List (List ℕ)). (mark name ++ 70 ∷ []) ++ behind_passed name All ls ≡ behind_kept name ls) (sym first.2)
        (append_assoc (mark name) (70 ∷ []) ((b ∷ first.0) ++ marked_lines name All first.1)
        ∙ sym (append_assoc (mark name) (70 ∷ b ∷ first.0) (marked_lines name All first.1))
        ∙ ap (λ (c : Bool). behind_kept_if name c (b ∷ first.0) first.1) (sym e))
    by false e =
        let first = line_of b text in
        as_left name Bad Kept b text (ap (λ (c : Bool). if c then Passed else LeftOut) e) ∙ left_more name b text Bad h
        ∙ subst (λ (ls : List (List ℕ)). behind_left name Bad ls ≡ behind_kept name ls) (sym first.2)
        (ap (λ (c : Bool). behind_kept_if name c (b ∷ first.0) first.1) (sym e))

all_behind : (name : Option (List ℕ)) (text : List ℕ) → Behind name text
all_behind name [] = record {
  start = λ passing. refl;
  passed = λ passing same. refl;
  left = λ passing. refl;
  kept = refl;
}
all_behind name (b ∷ text) =
    let h = all_behind name text in record {
      start = λ passing. start_more name b text passing h;
      passed = λ passing same. passed_more name b text passing h same;
      left = λ passing. left_more name b text passing h;
      kept = kept_more name b text h;
    }

-- from the start of a text
pub marks : (name : Option (List ℕ)) (passing : Passing) (text : List ℕ) → marked_on name passing Start text ≡ marked name passing text
marks name passing text = (all_behind name text).start passing
