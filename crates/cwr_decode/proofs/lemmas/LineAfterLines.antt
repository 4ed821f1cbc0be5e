-- The line at the front of what is left of a text comes after the lines before it.
use Rattle.std.proofs.Common.{◌≡◌, ℕ, ◌≤◌, Bool, true, false, List, [], ◌∷◌, ◌++◌, length, take, drop, refl, sym, ap, subst, ◌∙◌}
use Rattle.std.proofs.Common.{arith, append_assoc, inl, inr}
use Rattle.std.specs.Prelude.{◌⊎◌}
use Rattle.std.specs.List.{AllByRecursion}
use Rattle.std.proofs.lemmas.List.{length-append, length-drop, take-append-drop}
use Rattle.cwr_lines.specs.declared.lines.LineEnd.{LineEnd}
use Rattle.cwr_lines.specs.declared.lines.LineEnd.TheVariants.{Line}
use Rattle.cwr_lines.specs.Format.Lines.{without_cr}
use Rattle.cwr_lines.specs.Steps.Held.{HeldLine, text_by}
use Rattle.cwr_decode.specs.Steps.Represents.{IsInput, text_of}
use Rattle.cwr_decode.specs.Steps.TextLines.{FirstLine, IsCutOff, IsLastLine}
use Rattle.cwr_decode.specs.Format.WholeLines.{BeginsWith, IsLine, IsLineAfter}
use Rattle.cwr_decode.proofs.lemmas.CarriedLines.{is_line}

pub all_push : {X : Type 0} (P : X → Type 0) (xs : List X) (x : X) → AllByRecursion P xs → P x → AllByRecursion P (xs ++ x ∷ [])
all_push P [] x each p = (p, tt)
all_push P (y ∷ xs) x each p = (each.0, all_push P xs x each.1 p)

begins_with : (rest : List ℕ) (taken : ℕ) (line : HeldLine) → FirstLine rest taken line → line.ended ≡ Line
    → BeginsWith rest line.bytes
begins_with rest taken line f ended = by f.taken
  where
    by : IsCutOff rest taken line ⊎ IsLastLine rest taken line → BeginsWith rest line.bytes
    by (inl c) =
        let front : take taken rest ≡ line.bytes ++ 10 ∷ [] = sym c.text_is ∙ ap (λ (e : LineEnd). text_by e line.bytes) ended in
        inr (
          drop taken rest,
          sym (take-append-drop taken rest) ∙ ap (λ (l : List ℕ). l ++ drop taken rest) front
              ∙ append_assoc line.bytes (10 ∷ []) (drop taken rest),
        )
    by (inr l) = inl (sym l.bytes)

-- what comes before a line isn't the whole text
front_of : (text : List ℕ) (used taken : ℕ) (lines : List (List ℕ)) (line : HeldLine) (ends : Bool) → used ≤ length text
    → FirstLine (drop used text) taken line → (ends ≡ true → used ≡ length text)
    → IsInput ends (take used text) (text_of lines) → take used text ≡ text_of lines
front_of text used taken lines line false within f late split = split
front_of text used taken lines line true within f late split =
    absurd (omega (arith, f.some, f.within, length-drop used text, late refl, within))

pub comes_after : (text : List ℕ) (used taken offset bytes : ℕ) (lines : List (List ℕ)) (line : HeldLine) (ends : Bool)
    → used ≤ length text → FirstLine (drop used text) taken line → line.ended ≡ Line
    → (ends ≡ true → used ≡ length text) → IsInput ends (take used text) (text_of lines) → AllByRecursion IsLine lines
    → offset ≡ used → take bytes (drop offset text) ≡ without_cr line.bytes
    → IsLineAfter text (length lines) offset bytes
comes_after text used taken offset bytes lines line ends within f ended late split each at cut = record {
  lines = lines;
  line = line.bytes;
  counted = refl;
  each = each;
  is_line = is_line line f.held;
  before = ap (λ (k : ℕ). take k text) at ∙ front_of text used taken lines line ends within f late split;
  here = subst (λ (k : ℕ). BeginsWith (drop k text) line.bytes) (sym at) (begins_with (drop used text) taken line f ended);
  cut = cut;
}

-- before the first byte there is no line
pub no_lines : (text : List ℕ) (lines : List (List ℕ)) (ends : Bool) → IsInput ends (take 0 text) (text_of lines) → lines ≡ []
no_lines text [] ends split = refl
no_lines text (line ∷ lines) false split =
    absurd (omega (arith, ap length split, length-append (line ++ 10 ∷ []) (text_of lines), length-append line (10 ∷ [])))
no_lines text (line ∷ lines) true split =
    absurd (omega (arith, ap length split, length-append (line ++ 10 ∷ []) (text_of lines), length-append line (10 ∷ [])))
