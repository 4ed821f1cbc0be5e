-- A line is taken from what a source shows.
use Rattle.std.proofs.Common.{◌≡◌, ◌≢◌, ℕ, ◌<◌, List, [], ◌∷◌, ◌++◌, length, take, slice_index, Option, Some, None, refl, sym, ap}
use Rattle.std.proofs.Common.{ap₂, subst, ◌∙◌, arith, append_assoc, inl}
use Rattle.std.specs.Prelude.{Ok, IfSome, IsSomeAnd}
use Rattle.std.specs.Io.{StartsWith}
use Rattle.std.specs.Io.KnownBytes.{Consumes}
use Rattle.std.proofs.lemmas.List.{get_or-append-add, get_or-take, length-append, length-take, length-take-le}
use Rattle.cwr_lines.specs.declared.lines.LineEnd.{LineEnd}
use Rattle.cwr_lines.specs.declared.lines.LineEnd.TheVariants.{Open, Line, Over}
use Rattle.cwr_lines.specs.Steps.Held.{HeldLine, Stops, Takes, text_by}
use Rattle.cwr_renumber.specs.Steps.Takings.{EndsAs, TakesOf}

-- the byte behind those that were used
next_byte : (left rest piece : List ℕ) (used : ℕ) → left ≡ take used piece ++ rest → StartsWith left piece → used < length piece
    → (0 < length rest) × (slice_index rest 0 ≡ slice_index piece used)
next_byte left rest piece used split front few =
    let long : length (take used piece) ≡ used = length-take-le used piece (omega (arith, few)) in
    let some : 0 < length rest =
    omega (
      arith,
      few,
      ap length front,
      length-take (length piece) left,
      ap length split,
      length-append (take used piece) rest,
      long,
    ) in
    let here : slice_index left used ≡ slice_index rest 0 =
    ap₂ (λ (l : List ℕ) (n : ℕ). slice_index l n) split (sym (omega (arith, long)))
    ∙ get_or-append-add (take used piece) rest 0 0 in
    let there : slice_index piece used ≡ slice_index left used =
    ap (λ (l : List ℕ). slice_index l used) (sym front) ∙ get_or-take (length piece) left used 0 few in
    (some, sym (there ∙ here))

ends_as : (ended : LineEnd) (cur new : HeldLine) (text left rest piece : List ℕ) (used : ℕ) → new.ended ≡ ended → ended ≢ Open
    → Takes cur piece used new → cur.bytes ++ left ≡ text → left ≡ take used piece ++ rest → StartsWith left piece
    → EndsAs ended new.bytes text rest
ends_as Open cur new text left rest piece used e n t all split front = absurd (n refl)
ends_as Line cur new text left rest piece used e n t all split front =
    let here : new.bytes ++ 10 ∷ [] ≡ cur.bytes ++ take used piece = ap (λ (x : LineEnd). text_by x new.bytes) (sym e) ∙ t.text in
    inl (sym all ∙ ap (λ (x : List ℕ). cur.bytes ++ x) split ∙ sym (append_assoc cur.bytes (take used piece) rest)
    ∙ ap (λ (x : List ℕ). x ++ rest) (sym here) ∙ append_assoc new.bytes (10 ∷ []) rest)
ends_as Over cur new text left rest piece used e n t all split front =
    let here : new.bytes ≡ cur.bytes ++ take used piece = ap (λ (x : LineEnd). text_by x new.bytes) (sym e) ∙ t.text in
    let stops : (used < length piece) × (slice_index piece used ≢ 10) = subst (λ (x : LineEnd). Stops x piece used) e t.stops in
    let next = next_byte left rest piece used split front stops.0 in (
      sym all ∙ ap (λ (x : List ℕ). cur.bytes ++ x) split ∙ sym (append_assoc cur.bytes (take used piece) rest)
          ∙ ap (λ (x : List ℕ). x ++ rest) (sym here),
      next.0,
      λ q. stops.1 (sym next.1 ∙ q),
    )

-- a line that ended was taken
pub taken_known : (E : Type 0) (before mid after : Option (List ℕ)) (old cur new : HeldLine) (piece : List ℕ) (used : ℕ)
    (ended : LineEnd)
    → IfSome before (λ left. IsSomeAnd mid (λ rest. cur.bytes ++ rest ≡ old.bytes ++ left))
    → IfSome mid (λ left. StartsWith left piece) → Consumes mid after (take used piece) → Takes cur piece used new
    → new.ended ≡ ended → ended ≢ Open
    → IfSome before (λ left. IsSomeAnd after (λ rest. TakesOf {E = E} (old.bytes ++ left) rest new (Ok ended)))
taken_known E None mid after old cur new piece used ended k front c t e n = tt
taken_known E (Some left) None after old cur new piece used ended k front c t e n = absurd k
taken_known E (Some left) (Some m) None old cur new piece used ended k front c t e n = absurd c
taken_known E (Some left) (Some m) (Some rest) old cur new piece used ended k front c t e n =
    ends_as ended cur new (old.bytes ++ left) m rest piece used e n t k c front
