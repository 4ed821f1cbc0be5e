-- The lines of a whole transmission spell it, and it is accepted with their bytes, however the input continues.
use Rattle.std.proofs.Common.{◌≡◌, ℕ, ◌<◌, ◌^◌, Bool, true, false, List, [], ◌++◌, length, map, Some, refl, sym, ap, ap₂, subst}
use Rattle.std.proofs.Common.{◌∙◌, arith, append_assoc, append-nil}
use Rattle.std.specs.List.{AllZip}
use Rattle.std.proofs.lemmas.List.{length-append}
use Rattle.cwr_lines.specs.Format.Records.{RecordValue, Row}
use Rattle.cwr_lines.specs.Format.Lines.{IsLineOf, closed}
use Rattle.cwr_shape.specs.Format.Ranges.{LimitValues, AreInRange}
use Rattle.cwr_shape.specs.Format.Outlines.{IsWithin, IsWhole}
use Rattle.cwr_shape.specs.Steps.Tallies.{TallyValue}
use Rattle.cwr_shape.proofs.lemmas.WithinByFronts.{along_fits}
use Rattle.cwr_values.specs.declared.items.Item.{Item}
use Rattle.cwr_values.specs.Format.Values.{TransmissionValue, IsTransmission, FitsIn, symbol_of}
use Rattle.cwr_values.specs.Format.Rows.{rows, Spells}
use Rattle.cwr_values.specs.Format.Begins.{rows_so_far}
use Rattle.cwr_values.proofs.lemmas.OneTransmissionOfRecords.{built}
use Rattle.cwr_values.proofs.lemmas.RowAt.{rows_whole}
use Rattle.cwr_judge.specs.Format.Items.{items, value_items}
use Rattle.cwr_judge.specs.Steps.Open.{items_so_far}
use Rattle.cwr_decode.specs.Steps.Represents.{text_of, IsInput, AreAccepted, IsEndAlways}
use Rattle.cwr_decode.specs.declared.endings.End.TheVariants as ends
use Rattle.cwr_judge.proofs.lemmas.Accepted.{closed_begins}
use Rattle.cwr_judge.proofs.lemmas.ItemLaws.{items_of_parts}
use Rattle.cwr_decode.proofs.lemmas.ClosedTexts.{closed_more}

-- lines of a whole transmission spell it
pub record SpellsWhole (limits : LimitValues) (lines : List (List ℕ)) (records : List RecordValue) : Type 0 where
  pub value : TransmissionValue
  pub whole : IsTransmission value
  pub within : FitsIn limits value
  pub spelled : Spells value (text_of lines)
  pub given : items_so_far records ≡ value_items value

pub spells_whole : (tally : TallyValue) (lines : List (List ℕ)) (records : List RecordValue) → AreInRange tally.limits
    → AreAccepted tally lines records → IsWhole (map symbol_of records) → SpellsWhole tally.limits lines records
spells_whole tally lines records range read (groups, outline, symbols) =
    let b = built groups records outline symbols read.in_order in
    let same : rows b.value ≡ rows_so_far records = rows_whole b.value b.whole ∙ ap rows_so_far b.records_are in
    let fits : FitsIn tally.limits b.value
    = subst (IsWithin tally.limits) (sym b.outline)
    (along_fits tally.limits groups outline (λ front rest e. read.within front rest (symbols ∙ e))) in
    let few : tally.limits.records < 10 ^ 8 = omega (arith, range.most_records) in
    record {
      value = b.value;
      whole = b.whole;
      within = fits;
      spelled = (lines, subst (λ (rs : List Row). AllZip IsLineOf rs lines) (sym same) read.rows, refl);
      given = sym (ap items same) ∙ items_of_parts tally.limits b.value b.whole fits few;
    }

-- what was read of a whole transmission is accepted, however the input continues
pub accepts_whole : (tally : TallyValue) (lines : List (List ℕ)) (records : List RecordValue) (input_ended : Bool)
    (used seen tail : List ℕ) (given : List Item)
    → AreInRange tally.limits → AreAccepted tally lines records → IsWhole (map symbol_of records)
    → IsInput input_ended used (text_of lines) → seen ≡ used ++ tail → (input_ended ≡ true → tail ≡ [])
    → given ≡ items_so_far records
    → IsEndAlways tally.limits input_ended seen given (Some (ends.Accepted (length used)))
accepts_whole tally lines records false used seen tail given range read whole input split late are = λ more may.
    let w = spells_whole tally lines records range read whole in
    let text : seen ++ more ≡ text_of lines ++ (tail ++ more) =
    ap (λ (t : List ℕ). t ++ more) (split ∙ ap (λ (t : List ℕ). t ++ tail) input) ∙ append_assoc (text_of lines) tail more in (
      w.value,
      record {
        whole = w.whole;
        within = w.within;
        front = text_of lines;
        rest = closed (tail ++ more);
        split = ap closed text ∙ closed_more lines (tail ++ more);
        spelled = w.spelled;
        taken = omega (arith, ap length input, ap length text, length-append (text_of lines) (tail ++ more));
      },
      are ∙ w.given,
    )
accepts_whole tally lines records true used seen tail given range read whole input split late are = λ more may.
    let w = spells_whole tally lines records range read whole in
    let grows = closed_begins used in
    let grown : text_of lines ≡ used ++ grows.0 = sym input ∙ grows.1 in
    let all_seen : seen ≡ used = split ∙ ap (λ (t : List ℕ). used ++ t) (late refl) ∙ append-nil used in
    let text : seen ++ more ≡ used = ap₂ (λ (t : List ℕ) (m : List ℕ). t ++ m) all_seen may ∙ append-nil used in (
      w.value,
      record {
        whole = w.whole;
        within = w.within;
        front = text_of lines;
        rest = [];
        split = ap closed text ∙ input ∙ sym (append-nil (text_of lines));
        spelled = w.spelled;
        taken = omega (arith, ap length grown, length-append used grows.0, ap length text);
      },
      are ∙ w.given,
    )
