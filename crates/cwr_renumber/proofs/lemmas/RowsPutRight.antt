-- Lines that carry the records of a transmission are, with their numbers put right, its canonical text.
use Rattle.std.proofs.Common.{◌≡◌, ◌≢◌, ℕ, ◌+◌, ◌<◌, ◌≤◌, List, [], ◌∷◌, ◌++◌, length, map, refl, sym, ap, ap₂, subst, ◌∙◌, arith}
use Rattle.std.proofs.Common.{append_assoc, append-nil, inl, inr}
use Rattle.std.specs.Prelude.{Some}
use Rattle.std.specs.List.{AllZip, flat_map}
use Rattle.std.proofs.lemmas.List.{length-append, length-map, map-append}
use Rattle.cwr_fields.specs.declared.kinds.Kind.{Kind}
use Rattle.cwr_lines.specs.declared.lines.LineEnd.TheVariants.{Open, Line}
use Rattle.cwr_lines.specs.Format.Lines.{body_kind, without_cr}
use Rattle.cwr_lines.specs.Format.Records.{RecordValue, Row}
use Rattle.cwr_lines.specs.Steps.Held.{IsHeld}
use Rattle.cwr_shape.specs.declared.limits.Limits.{Limits}
use Rattle.cwr_shape.specs.Format.NextSymbols.{counts_of, open_type}
use Rattle.cwr_shape.specs.Steps.Numberings.{NumberingValue, no_records, numbering_with}
use Rattle.cwr_values.specs.Format.Begins.{row_after, rows_after}
use Rattle.cwr_values.specs.Format.Rows.{canonical_line, canonical_text, records_of}
use Rattle.cwr_values.specs.Format.Values.{FitsIn, IsTransmission, TransmissionValue, symbol_of}
use Rattle.cwr_values.proofs.lemmas.RowAt.{rows_whole}
use Rattle.cwr_judge.specs.Format.Ends.{IsAccepted}
use Rattle.cwr_judge.proofs.lemmas.Accepted.{canonical_accepted}
use Rattle.cwr_renumber.specs.Format.Lines.{BeginsWithLines, BeginsWithRecords, Carries, without_last_feed}
use Rattle.cwr_renumber.specs.Steps.Renumbered.{numbering_after, renumber_from, renumbered_text, segments}
use Rattle.cwr_renumber.proofs.lemmas.GoodLines.{counted_record, line_of_record, numbering_more, of_kind, whole}
use Rattle.cwr_renumber.proofs.lemmas.LinesOfText.{first_by}

ended : Line ≢ Open
ended e = cc e

-- the text of the records from here on, and what comes after it
pub rows_put_right : (n : NumberingValue) (before records : List RecordValue) (lines : List (List ℕ)) (rest : List ℕ)
    → n.ty ≡ open_type (map symbol_of before) → n.counts ≡ counts_of (map symbol_of before)
    → length before + length records ≤ 99999999 → AllZip Carries lines records
    → (m : NumberingValue) × (renumber_from n (segments (flat_map (λ line. line ++ 10 ∷ []) lines ++ rest))
    ≡ flat_map canonical_line (rows_after before records) ++ renumber_from m (segments rest))
unfolding rows_after
rows_put_right n before [] [] rest ty counts few each = (n, refl)
rows_put_right n before [] (line ∷ lines) rest ty counts few each = absurd each
rows_put_right n before (r ∷ records) [] rest ty counts few each = absurd each
rows_put_right n before (r ∷ records) (line ∷ lines) rest ty counts few each =
    let later : List ℕ = flat_map (λ l. l ++ 10 ∷ []) lines ++ rest in
    let split : (line ++ 10 ∷ []) ++ flat_map (λ l. l ++ 10 ∷ []) lines ++ rest ≡ line ++ 10 ∷ later =
    append_assoc (line ++ 10 ∷ []) (flat_map (λ l. l ++ 10 ∷ []) lines) rest ∙ append_assoc line (10 ∷ []) later in
    let xs = map symbol_of before in
    let next : NumberingValue = numbering_after n (whole line) in
    let same : next ≡ numbering_with n (symbol_of r) = counted_record n line r each.0 in
    let more = numbering_more n xs (symbol_of r) ty counts (omega (arith, few, length-map before symbol_of)) in
    let symbols : map symbol_of (before ++ r ∷ []) ≡ xs ++ symbol_of r ∷ [] = map-append symbol_of before (r ∷ []) in
    let first =
    first_by Line n (whole line) (line ++ 10 ∷ later) later refl ended
    (record { no_lf = each.0.is_line.no_lf; short = each.0.is_line.short; full = tt }) (inl refl) in
    let all = rows_put_right next (before ++ r ∷ []) records lines rest
    (ap (λ (m : NumberingValue). m.ty) same ∙ more.0 ∙ ap open_type (sym symbols))
    (ap (λ (m : NumberingValue). m.counts) same ∙ more.1 ∙ ap counts_of (sym symbols))
    (omega (arith, few, length-append before (r ∷ []))) each.1 in (
      all.0,
      ap (λ (t : List ℕ). renumber_from n (segments t)) split ∙ first
          ∙ ap₂ (λ (x y : List ℕ). x ++ y) (line_of_record n xs line r each.0 ty counts) all.1
          ∙ sym (append_assoc (canonical_line (row_after before r))
          (flat_map canonical_line (rows_after (before ++ r ∷ []) records)) (renumber_from all.0 (segments rest))),
    )

-- a line that carries a record isn't empty
some_bytes : (line : List ℕ) (r : RecordValue) → Carries line r → 0 < length line
some_bytes [] r h = absurd (none (of_kind [] r h).named)
  where
    none : {kind : Kind} → body_kind (without_cr []) ≡ Some kind → ⊥
    none e = cc e
some_bytes (b ∷ line) r h = omega arith

held : (line : List ℕ) (r : RecordValue) → Carries line r → IsHeld (whole line)
held line r h = record { no_lf = h.is_line.no_lf; short = h.is_line.short; full = tt }

-- the same where the last line has no line feed
rows_to_end : (n : NumberingValue) (before records : List RecordValue) (lines : List (List ℕ))
    → n.ty ≡ open_type (map symbol_of before) → n.counts ≡ counts_of (map symbol_of before)
    → length before + length records ≤ 99999999 → AllZip Carries lines records
    → renumber_from n (segments (without_last_feed lines)) ≡ flat_map canonical_line (rows_after before records)
unfolding rows_after
rows_to_end n before [] [] ty counts few each = refl
rows_to_end n before [] (line ∷ lines) ty counts few each = absurd each
rows_to_end n before (r ∷ records) [] ty counts few each = absurd each
rows_to_end n before (r ∷ []) (line ∷ []) ty counts few each =
    first_by Line n (whole line) line [] refl ended (held line r each.0) (inr (refl, refl, some_bytes line r each.0))
    ∙ ap (λ (x : List ℕ). x ++ []) (line_of_record n (map symbol_of before) line r each.0 ty counts)
rows_to_end n before (r ∷ q ∷ records) (line ∷ []) ty counts few each = absurd each.1
rows_to_end n before (r ∷ []) (line ∷ other ∷ lines) ty counts few each = absurd each.1
rows_to_end n before (r ∷ q ∷ records) (line ∷ other ∷ lines) ty counts few each =
    let later : List ℕ = without_last_feed (other ∷ lines) in
    let xs = map symbol_of before in
    let next : NumberingValue = numbering_after n (whole line) in
    let same : next ≡ numbering_with n (symbol_of r) = counted_record n line r each.0 in
    let more = numbering_more n xs (symbol_of r) ty counts (omega (arith, few, length-map before symbol_of)) in
    let symbols : map symbol_of (before ++ r ∷ []) ≡ xs ++ symbol_of r ∷ [] = map-append symbol_of before (r ∷ []) in
    first_by Line n (whole line) (line ++ 10 ∷ later) later refl ended (held line r each.0) (inl refl)
    ∙ ap₂ (λ (x y : List ℕ). x ++ y) (line_of_record n xs line r each.0 ty counts)
    (rows_to_end next (before ++ r ∷ []) (q ∷ records) (other ∷ lines)
    (ap (λ (m : NumberingValue). m.ty) same ∙ more.0 ∙ ap open_type (sym symbols))
    (ap (λ (m : NumberingValue). m.counts) same ∙ more.1 ∙ ap counts_of (sym symbols))
    (omega (arith, few, length-append before (r ∷ []))) each.1)

-- so the text is the canonical one, and what may come after it
text_put_right : (text : List ℕ) (lines : List (List ℕ)) (records : List RecordValue) → length records ≤ 99999999
    → AllZip Carries lines records → BeginsWithLines text lines
    → (more : List ℕ) × (renumbered_text text ≡ flat_map canonical_line (rows_after [] records) ++ more)
text_put_right text lines records few each (inl s) =
    let all = rows_put_right no_records [] records lines s.0 refl refl (omega (arith, few)) each in
    (renumber_from all.0 (segments s.0), ap (λ (t : List ℕ). renumber_from no_records (segments t)) s.1 ∙ all.1)
text_put_right text lines records few each (inr e) = (
  [],
  ap (λ (t : List ℕ). renumber_from no_records (segments t)) e
      ∙ rows_to_end no_records [] records lines refl refl (omega (arith, few)) each
      ∙ sym (append-nil (flat_map canonical_line (rows_after [] records))),
)

-- and accepted as that transmission
pub put_right : (limits : Limits) (text : List ℕ) (v : TransmissionValue) → IsTransmission v → FitsIn limits v
    → length (records_of v) ≤ 99999999 → BeginsWithRecords text (records_of v)
    → (n : ℕ) × IsAccepted limits (renumbered_text text) v n
unfolding canonical_text
put_right limits text v well within few h =
    let all = text_put_right text h.lines (records_of v) few h.each h.split in
    let same : renumbered_text text ≡ canonical_text v ++ all.0 =
    all.1 ∙ ap (λ (rows : List Row). flat_map canonical_line rows ++ all.0) (sym (rows_whole v well)) in (
      length (canonical_text v),
      subst (λ (t : List ℕ). IsAccepted limits t v (length (canonical_text v))) (sym same)
          (canonical_accepted limits v all.0 well within),
    )
