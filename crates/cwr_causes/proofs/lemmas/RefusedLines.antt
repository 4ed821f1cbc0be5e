-- The input of a decoder that refused a line ends with that line.
use Rattle.std.proofs.Common.{◌≡◌, ◌≢◌, ℕ, ◌<◌, Bool, true, false, List, [], ◌∷◌, ◌++◌, length, refl, sym, ap, ◌∙◌, arith, inl}
use Rattle.std.proofs.Common.{inr, append_assoc, append-nil}
use Rattle.std.specs.Prelude.{◌⊎◌, ◌-◌, ◌||◌, ◌==◌, cond, drop}
use Rattle.std.specs.Str.{bytes_eq}
use Rattle.std.proofs.lemmas.List.{append_cancel_right, length-append}
use Rattle.cwr_lines.specs.declared.lines.LineEnd.{LineEnd}
use Rattle.cwr_lines.specs.declared.lines.LineEnd.TheVariants as line_ends
use Rattle.cwr_lines.specs.Format.Lines.{closed}
use Rattle.cwr_lines.specs.Steps.Held.{FillsLongest, held_text, text_by}
use Rattle.cwr_values.specs.declared.items.Item.{Item}
use Rattle.cwr_judge.specs.declared.refusals.Refusal.{Refusal}
use Rattle.cwr_decode.specs.Steps.Machines.{Standing}
use Rattle.cwr_decode.specs.Steps.Represents.{IsInput, IsStopped, text_of}
use Rattle.cwr_decode.proofs.lemmas.ClosedTexts.{closed_text}
use Rattle.cwr_causes.specs.Steps.LinesAtEnd.{EndsWithLine, IsBeforeLine}
use Rattle.cwr_causes.proofs.lemmas.LastLines.{NoLf, starts_later}

-- nothing stands before the first line, and a line feed before each other
lines_before : (lines : List (List ℕ)) → IsBeforeLine (text_of lines)
lines_before [] = inl refl
lines_before (line ∷ lines) = by (lines_before lines)
  where
    by : IsBeforeLine (text_of lines) → IsBeforeLine ((line ++ 10 ∷ []) ++ text_of lines)
    by (inl e) = inr (line, ap (λ (l : List ℕ). (line ++ 10 ∷ []) ++ l) e ∙ append-nil (line ++ 10 ∷ []))
    by (inr (g, e)) =
        inr
        ((line ++ 10 ∷ []) ++ g, ap (λ (l : List ℕ). (line ++ 10 ∷ []) ++ l) e ∙ sym (append_assoc (line ++ 10 ∷ []) g (10 ∷ [])))

-- a text is closed, or a line feed is added
closed_or : (text : List ℕ) → (closed text ≡ text) ⊎ (closed text ≡ text ++ 10 ∷ [])
closed_or text = by (bytes_eq (drop (length text - 1) text) (10 ∷ []) || (length text == 0))
  where
    by : (b : Bool) → (cond b text (text ++ 10 ∷ []) ≡ text) ⊎ (cond b text (text ++ 10 ∷ []) ≡ text ++ 10 ∷ [])
    by true = inl refl
    by false = inr refl

abbrev Splits : List ℕ → List ℕ → List ℕ → Type 0
Splits read front line = (read ≡ (front ++ line) ++ 10 ∷ []) ⊎ ((read ≡ front ++ line) × (0 < length line))

-- what the whole text of the line is
split_by : (ended : LineEnd) (read front line : List ℕ) → ended ≢ line_ends.Open → FillsLongest ended (length line)
    → read ≡ front ++ text_by ended line → Splits read front line
split_by line_ends.Open read front line some fills e = absurd (some refl)
split_by line_ends.Line read front line some fills e = inl (e ∙ sym (append_assoc front line (10 ∷ [])))
split_by line_ends.Over read front line some fills e = inr (e, omega (arith, fills))

split_closed : (lines : List (List ℕ)) (ended : LineEnd) (read line : List ℕ) → NoLf line → ended ≢ line_ends.Open
    → FillsLongest ended (length line) → closed read ≡ text_of lines ++ text_by ended line → Splits read (text_of lines) line
split_closed lines ended read line none some fills e = by (closed_or read)
  where
    added : (n : LineEnd) → n ≢ line_ends.Open → FillsLongest n (length line) → closed read ≡ read ++ 10 ∷ []
        → closed read ≡ text_of lines ++ text_by n line → Splits read (text_of lines) line
    added line_ends.Open s f c q = absurd (s refl)
    added line_ends.Line s f c q =
        by_length (append_cancel_right read (text_of lines ++ line) (10 ∷ [])
        (sym c ∙ q ∙ sym (append_assoc (text_of lines) line (10 ∷ []))))
      where
        by_length : read ≡ text_of lines ++ line → Splits read (text_of lines) line
        by_length is = cases line refl
          where
            cases : (l : List ℕ) → line ≡ l → Splits read (text_of lines) line
            cases [] z =
                let whole : read ≡ text_of lines = is ∙ ap (λ (l : List ℕ). text_of lines ++ l) z ∙ append-nil (text_of lines) in
                absurd (omega (
                  arith,
                  ap length c,
                  length-append read (10 ∷ []),
                  ap length (ap closed whole ∙ closed_text lines ∙ sym whole),
                ))
            cases (x ∷ l) z = inr (is, omega (arith, ap length z))
    added line_ends.Over s f c q =
        absurd (omega (
          arith,
          f,
          starts_later (text_of lines) line (read ++ 10 ∷ []) []
              (sym q ∙ c ∙ sym (append-nil (read ++ 10 ∷ []))) none (read, refl),
        ))

    by : (closed read ≡ read) ⊎ (closed read ≡ read ++ 10 ∷ []) → Splits read (text_of lines) line
    by (inl c) = split_by ended read (text_of lines) line some fills (sym c ∙ e)
    by (inr c) = added ended some fills c e

pub refused_last : (d : Standing) (input : List ℕ) (given : List Item) (refusal : Refusal) → (s : IsStopped d input given refusal)
    → EndsWithLine input (text_of s.lines) s.line.bytes
refused_last d input given refusal s =
    record { split = by s.input_ended s.split; no_lf = s.is_held.no_lf; begins = lines_before s.lines; short = s.is_held.short }
  where
    by : (b : Bool) → IsInput b input (text_of s.lines ++ held_text s.line) → Splits input (text_of s.lines) s.line.bytes
    by false e = split_by s.line.ended input (text_of s.lines) s.line.bytes s.ended s.is_held.full e
    by true e = split_closed s.lines s.line.ended input s.line.bytes s.is_held.no_lf s.ended s.is_held.full e
