-- The first line of a text, with its number put right, and the later ones.
use Rattle.std.proofs.Common.{◌≡◌, ◌≢◌, ℕ, ◌<◌, ◌≤◌, Bool, true, false, List, [], ◌∷◌, ◌++◌, length, take, refl, sym, ap, ap₂}
use Rattle.std.proofs.Common.{subst, ◌∙◌, arith, true≢false, append-nil, inl, inr}
use Rattle.std.specs.Prelude.{◌||◌, IsFalse, if◌then◌else◌}
use Rattle.std.specs.List.{list_any}
use Rattle.std.proofs.lemmas.Bool.{lt-ltb, ltb-true, ne_eqb}
use Rattle.std.proofs.lemmas.List.{length-append}
use Rattle.std.proofs.Math.Seq.{take-append_seam}
use Rattle.cwr_lines.specs.declared.lines.LineEnd.{LineEnd}
use Rattle.cwr_lines.specs.declared.lines.LineEnd.TheVariants.{Open, Line, Over}
use Rattle.cwr_lines.specs.Format.Lines.{is_lf, is_too_long, longest_line}
use Rattle.cwr_lines.specs.Steps.Held.{HeldLine, IsHeld, ended_too_long}
use Rattle.cwr_shape.specs.Steps.Numberings.{NumberingValue}
use Rattle.cwr_renumber.specs.Steps.Renumbered.{joined_to, line_by, line_held, numbering_after, renumber_from, segments}
use Rattle.cwr_renumber.specs.Steps.Renumbered.{without_lf}
use Rattle.cwr_renumber.specs.Steps.Takings.{EndsAs}

-- ---- the first line of a text

neither : (b c : Bool) → b || c ≡ false → (b ≡ false) × (c ≡ false)
neither true c e = absurd (true≢false e)
neither false c e = (refl, e)

no_feed : (b : ℕ) (text : List ℕ) → is_lf b ≡ false → segments (b ∷ text) ≡ joined_to b (segments text)
no_feed b text e = ap (λ (x : Bool). if x then ((b ∷ []) ∷ segments text) else joined_to b (segments text)) e

first_segment : (bytes rest : List ℕ) → IsFalse (list_any is_lf bytes)
    → segments (bytes ++ 10 ∷ rest) ≡ (bytes ++ 10 ∷ []) ∷ segments rest
first_segment [] rest none = refl
first_segment (b ∷ bytes) rest none =
    let parts = neither (is_lf b) (list_any is_lf bytes) none in
    no_feed b (bytes ++ 10 ∷ rest) parts.0 ∙ ap (joined_to b) (first_segment bytes rest parts.1)

only_segment : (bytes : List ℕ) → IsFalse (list_any is_lf bytes) → 0 < length bytes → segments bytes ≡ bytes ∷ []
only_segment [] none some = absurd (omega (arith, some))
only_segment (b ∷ []) none some = no_feed b [] (neither (is_lf b) false none).0
only_segment (b ∷ c ∷ bytes) none some =
    let parts = neither (is_lf b) (list_any is_lf (c ∷ bytes)) none in
    no_feed b (c ∷ bytes) parts.0 ∙ ap (joined_to b) (only_segment (c ∷ bytes) parts.1 (omega arith))

without_by : (b : Bool) (x : ℕ) (rest : List ℕ) → b ≡ false → (if b then [] else (x ∷ rest)) ≡ x ∷ rest
without_by true x rest e = absurd (true≢false e)
without_by false x rest e = refl

without_feed : (bytes rest : List ℕ) → IsFalse (list_any is_lf bytes) → without_lf (bytes ++ rest) ≡ bytes ++ without_lf rest
without_feed [] rest none = refl
without_feed (b ∷ bytes) rest none =
    let parts = neither (is_lf b) (list_any is_lf bytes) none in
    without_by (is_lf b) b (without_lf (bytes ++ rest)) parts.0 ∙ ap (λ (l : List ℕ). b ∷ l) (without_feed bytes rest parts.1)

joined : (x : ℕ) (ss : List (List ℕ)) → (more : List ℕ) × (later : List (List ℕ)) × (joined_to x ss ≡ (x ∷ more) ∷ later)
joined x [] = ([], [], refl)
joined x (s ∷ ss) = (s, ss, refl)

long_segment : (bytes : List ℕ) (x : ℕ) (rest : List ℕ) → IsFalse (list_any is_lf bytes) → is_lf x ≡ false
    → (more : List ℕ) × (later : List (List ℕ)) × (segments (bytes ++ x ∷ rest) ≡ (bytes ++ x ∷ more) ∷ later)
long_segment [] x rest none not_lf = let j = joined x (segments rest) in (j.0, j.1, no_feed x rest not_lf ∙ j.2)
long_segment (b ∷ bytes) x rest none not_lf =
    let parts = neither (is_lf b) (list_any is_lf bytes) none in
    let s = long_segment bytes x rest parts.1 not_lf in
    (s.0, s.1, no_feed b (bytes ++ x ∷ rest) parts.0 ∙ ap (joined_to b) s.2)

-- ---- the line as it is held

abbrev held : List ℕ → LineEnd → HeldLine
held bytes e = record { bytes = bytes; ended = e }

held_by : (b : Bool) (line : List ℕ) (e : LineEnd) (bytes : List ℕ) → (b ≡ false → (e ≡ Line) × (bytes ≡ line))
    → (b ≡ true → (e ≡ Over) × (bytes ≡ take longest_line line))
    → ◌≡◌ {A = HeldLine}
    (if b then (record { bytes = take longest_line line; ended = Over }) else (record { bytes = line; ended = Line }))
    (record { bytes = bytes; ended = e })
held_by true line e bytes short long = let l = long refl in ap₂ held (sym l.1) (sym l.0)
held_by false line e bytes short long = let s = short refl in ap₂ held (sym s.1) (sym s.0)

held_short : (bytes : List ℕ) → length bytes ≤ 1024 → line_held bytes ≡ record { bytes = bytes; ended = Line }
held_short bytes short =
    held_by (is_too_long bytes) bytes Line bytes (λ e. (refl, refl))
    (λ e. absurd (omega (arith, short, ltb-true 1024 (length bytes) e)))

held_long : (bytes rest : List ℕ) → length bytes ≡ 1024 → 0 < length rest
    → line_held (bytes ++ rest) ≡ record { bytes = bytes; ended = Over }
held_long bytes rest full some =
    let line : List ℕ = bytes ++ rest in
    let more : 1024 < length line = omega (arith, full, some, length-append bytes rest) in
    let front : bytes ≡ take longest_line line = sym (take-append_seam bytes rest) ∙ ap (λ (n : ℕ). take n line) full in
    held_by (is_too_long line) line Over bytes (λ e. absurd (true≢false (sym (lt-ltb 1024 (length line) more) ∙ e)))
    (λ e. (refl, front))

-- ---- the lines from the first one on

-- a line that ends by its line feed, or with the text
line_first : (n : NumberingValue) (bytes text rest : List ℕ) → IsHeld (record { bytes = bytes; ended = Line })
    → EndsAs Line bytes text rest
    → renumber_from n (segments text) ≡ line_by n (record { bytes = bytes; ended = Line })
    ++ renumber_from (numbering_after n (record { bytes = bytes; ended = Line })) (segments rest)
line_first n bytes text rest h (inl e) =
    ap (λ (t : List ℕ). renumber_from n (segments t)) e ∙ ap (renumber_from n) (first_segment bytes rest h.no_lf)
    ∙ ap (λ (x : HeldLine). line_by n x
    ++ (if ended_too_long x.ended then [] else renumber_from (numbering_after n x) (segments rest)))
    (ap line_held (without_feed bytes (10 ∷ []) h.no_lf ∙ append-nil bytes) ∙ held_short bytes h.short)
line_first n bytes text rest h (inr e) =
    let only : segments text ≡ bytes ∷ [] = ap segments e.0 ∙ only_segment bytes h.no_lf e.2 in
    let none : without_lf bytes ≡ bytes =
    ap without_lf (sym (append-nil bytes)) ∙ without_feed bytes [] h.no_lf ∙ append-nil bytes in
    ap (renumber_from n) only
    ∙ ap (λ (x : HeldLine). line_by n x ++ (if ended_too_long x.ended then [] else []))
    (ap line_held none ∙ held_short bytes h.short)
    ∙ ap (λ (r : List ℕ). line_by n (record { bytes = bytes; ended = Line })
    ++ renumber_from (numbering_after n (record { bytes = bytes; ended = Line })) (segments r)) (sym e.1)

-- a line that is too long
over_first : (n : NumberingValue) (bytes text rest : List ℕ) → IsHeld (record { bytes = bytes; ended = Over })
    → EndsAs Over bytes text rest
    → renumber_from n (segments text) ≡ line_by n (record { bytes = bytes; ended = Over }) ++ []
over_first n bytes text [] h e = absurd (omega (arith, e.1))
over_first n bytes text (x ∷ rest) h e =
    let s = long_segment bytes x rest h.no_lf (ne_eqb x 10 e.2) in
    let cut : without_lf (bytes ++ x ∷ s.0) ≡ bytes ++ x ∷ without_lf s.0 =
    without_feed bytes (x ∷ s.0) h.no_lf
    ∙ ap (λ (l : List ℕ). bytes ++ l) (without_by (is_lf x) x (without_lf s.0) (ne_eqb x 10 e.2)) in
    let as_held : line_held (without_lf (bytes ++ x ∷ s.0)) ≡ record { bytes = bytes; ended = Over } =
    ap line_held cut ∙ held_long bytes (x ∷ without_lf s.0) h.full (omega arith) in
    ap (λ (t : List ℕ). renumber_from n (segments t)) e.0 ∙ ap (renumber_from n) s.2
    ∙ ap (λ (y : HeldLine). line_by n y ++ (if ended_too_long y.ended then [] else renumber_from (numbering_after n y) s.1))
    as_held

-- whatever way the next line ends
pub first_by : (ended : LineEnd) (n : NumberingValue) (h : HeldLine) (text rest : List ℕ) → h.ended ≡ ended → ended ≢ Open
    → IsHeld h → EndsAs ended h.bytes text rest
    → renumber_from n (segments text)
    ≡ line_by n h ++ (if ended_too_long ended then [] else renumber_from (numbering_after n h) (segments rest))
first_by Open n h text rest e not_open k a = absurd (not_open refl)
first_by Line n h text rest e not_open k a =
    let same : h ≡ record { bytes = h.bytes; ended = Line } = ap (held h.bytes) e in
    line_first n h.bytes text rest (subst IsHeld same k) a
    ∙ ap (λ (x : HeldLine). line_by n x ++ renumber_from (numbering_after n x) (segments rest)) (sym same)
first_by Over n h text rest e not_open k a =
    let same : h ≡ record { bytes = h.bytes; ended = Over } = ap (held h.bytes) e in
    over_first n h.bytes text rest (subst IsHeld same k) a ∙ ap (λ (x : HeldLine). line_by n x ++ []) (sym same)
