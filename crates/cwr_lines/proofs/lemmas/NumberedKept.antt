-- The text of kept lines that are the canonical ones of their records is the canonical text of these.
use Rattle.std.proofs.Common.{◌≡◌, ℕ, zero, suc, ◌+◌, ◌≤◌, ◌<◌, true, List, [], ◌∷◌, ◌++◌, length, take, drop, get_or, refl, sym, ap}
use Rattle.std.proofs.Common.{ap₂, subst, ◌∙◌, arith}
use Rattle.std.specs.List.{flat_map}
use Rattle.std.specs.Prelude.{slice_index}
use Rattle.std.proofs.lemmas.List.{take-append-drop, drop-drop, take_all}
use Rattle.cwr_fields.specs.Format.Bytes.{digits}
use Rattle.cwr_fields.specs.declared.kinds.Kind.{Kind}
use Rattle.cwr_fields.specs.declared.kinds.Kind.TheVariants.{Hdr, Grh, Grt, Trl}
use Rattle.cwr_fields.specs.Format.Kinds.{is_in_transaction, letters}
use Rattle.cwr_fields.specs.Format.Layouts.{line_width}
use Rattle.cwr_lines.specs.declared.record_lists.LineStart.{LineStart}
use Rattle.cwr_lines.specs.Format.Records.{full_line, row_of}
use Rattle.cwr_lines.specs.Steps.Carried.{record_in}
use Rattle.cwr_lines.specs.Steps.KeptLines.{AreNumbered, IsNumbered, ended_line_at, kept_records, line_at}
use Rattle.cwr_lines.specs.Steps.Numbered.{numbered_part}
use Rattle.cwr_lines.specs.Steps.NumberedTexts.{text_from}
use Rattle.cwr_lines.proofs.lemmas.NumberedLines.{full_line-numbered}

-- what a line of such a kind has after its record type
inside : (kind : Kind) (ns line : List ℕ) → is_in_transaction kind ≡ true
    → numbered_part kind ns line ≡ digits 8 (slice_index ns 0) ++ (digits 8 (slice_index ns 1) ++ drop 19 line)
inside Hdr ns line e = absurd cc
inside Grh ns line e = absurd cc
inside Grt ns line e = absurd cc
inside Trl ns line e = absurd cc
inside this_kind ns line e = refl

-- a text in four parts
parts : (line : List ℕ) → line ≡ take 3 line ++ (take 8 (take 16 (drop 3 line)) ++ (drop 8 (take 16 (drop 3 line)) ++ drop 19 line))
parts line =
    let middle : List ℕ = take 16 (drop 3 line) in
    sym (take-append-drop 3 line)
    ∙ ap (λ (x : List ℕ). take 3 line ++ x)
    (sym (take-append-drop 16 (drop 3 line))
    ∙ ap₂ (λ (x y : List ℕ). x ++ y) (sym (take-append-drop 8 middle)) (drop-drop 16 3 line)
    ∙ append_three (take 8 middle) (drop 8 middle) (drop 19 line))
  where
    append_three : (x y z : List ℕ) → (x ++ y) ++ z ≡ x ++ (y ++ z)
    append_three [] y z = refl
    append_three (a ∷ x) y z = ap (λ (l : List ℕ). a ∷ l) (append_three x y z)

-- a line that has its kind's letters and the numbers is the canonical one
pub numbered : (kind : Kind) (line : List ℕ) (j k : ℕ) → is_in_transaction kind ≡ true → length line ≡ line_width kind
    → letters kind ≡ take 3 line → take 8 (take 16 (drop 3 line)) ≡ digits 8 j → drop 8 (take 16 (drop 3 line)) ≡ digits 8 k
    → line ≡ full_line (row_of (j ∷ k ∷ []) (record_in kind line))
numbered kind line j k e whole named first second =
    parts line
    ∙ ap (λ (x : List ℕ). take 3 line ++ x) (ap₂ (λ (x y : List ℕ). x ++ (y ++ drop 19 line)) first second)
    ∙ ap₂ (λ (x y : List ℕ). x ++ y) (sym named) (sym (inside kind (j ∷ k ∷ []) line e))
    ∙ sym (full_line-numbered kind (j ∷ k ∷ []) line whole)

-- with one line more
numbered_suc : (j k i : ℕ) (text : List ℕ) (starts : List LineStart) (d : LineStart) → i < length starts
    → AreNumbered j k text (take i starts) → IsNumbered j (k + i) text (get_or starts i d)
    → AreNumbered j k text (take (suc i) starts)
numbered_suc j k i text [] d lt h one = absurd (omega (arith, lt))
numbered_suc j k zero text (q ∷ starts) d lt h one = (subst (λ (n : ℕ). IsNumbered j n text q) (omega arith) one, tt)
numbered_suc j k (suc i) text (q ∷ starts) d lt h one = (
  h.0,
  numbered_suc j (k + 1) i text starts d (omega (arith, lt)) h.1
      (subst (λ (n : ℕ). IsNumbered j n text (get_or starts i d)) (omega arith) one),
)

pub numbered_more : (j i : ℕ) (text line : List ℕ) (starts : List LineStart) (d : LineStart) → i < length starts
    → AreNumbered j 0 text (take i starts)
    → let p : LineStart = get_or starts i d in line ≡ line_at text p
    → line ≡ full_line (row_of (j ∷ i ∷ []) (record_in p.kind line))
    → AreNumbered j 0 text (take (i + 1) starts)
numbered_more j i text line starts d lt h e one =
    let p : LineStart = get_or starts i d in
    let next : suc i ≡ i + 1 = omega arith in
    let same : i ≡ 0 + i = omega arith in
    let here : IsNumbered j i text p =
    subst (λ (l : List ℕ). l ≡ full_line (row_of (j ∷ i ∷ []) (record_in p.kind l))) e one in
    subst (λ (n : ℕ). AreNumbered j 0 text (take n starts)) next
    (numbered_suc j 0 i text starts d lt h (subst (λ (n : ℕ). IsNumbered j n text p) same here))

-- all of them
pub numbered_all : (j i : ℕ) (text : List ℕ) (starts : List LineStart) → length starts ≤ i → AreNumbered j 0 text (take i starts)
    → AreNumbered j 0 text starts
numbered_all j i text starts h n = subst (AreNumbered j 0 text) (take_all i starts h) n

lines_are : (j k : ℕ) (text : List ℕ) (starts : List LineStart) → AreNumbered j k text starts
    → flat_map (ended_line_at text) starts ≡ text_from j k (kept_records text starts)
lines_are j k text [] h = refl
lines_are j k text (p ∷ starts) h =
    ap₂ (λ (x y : List ℕ). (x ++ 13 ∷ 10 ∷ []) ++ y) h.0 (lines_are j (k + 1) text starts h.1)

-- the text is that of its records
pub text_is : (j : ℕ) (text : List ℕ) (starts : List LineStart) → text ≡ flat_map (ended_line_at text) starts
    → AreNumbered j 0 text starts → text ≡ text_from j 0 (kept_records text starts)
text_is j text starts e h = e ∙ lines_are j 0 text starts h
