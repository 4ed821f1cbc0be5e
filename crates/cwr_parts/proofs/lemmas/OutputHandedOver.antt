-- An output of a split is handed over: TRL is no mistake, and the outputs have the text of the transmission that its items are.
use Rattle.std.proofs.Common.{◌≡◌, ℕ, List, [], ◌∷◌, ◌++◌, map, Option, Some, None, sym, ap, subst, ◌∙◌}
use Rattle.std.specs.Prelude.{IfSome, Result, Ok}
use Rattle.std.specs.Io.KnownBytes.{Appends}
use Rattle.std.proofs.lemmas.List.{append_cancel_right}
use Rattle.cwr_values.proofs.lemmas.OneSpelling.{one_value}
use Rattle.cwr_values.specs.declared.items.Item.{Item}
use Rattle.cwr_values.specs.declared.items.Item.TheVariants.{Opened, Ended}
use Rattle.cwr_values.specs.Format.Values.{TransmissionValue, symbol_of}
use Rattle.cwr_values.specs.Format.Rows.{canonical_text, records_of, trailer}
use Rattle.cwr_judge.specs.Format.Items.{group_items, records_in, value_items}
use Rattle.std.specs.List.{flat_map}
use Rattle.cwr_encode.specs.declared.encoders.EncodeFault.{EncodeFault}
use Rattle.cwr_encode.specs.Format.Encoders.{IsNoMistake, reached}
use Rattle.cwr_encode.specs.Steps.Encoders.{encoder_limits}
use Rattle.cwr_encode.specs.Format.Finishing.{JudgesEnd}
use Rattle.cwr_encode.specs.Steps.Finishing.{FinishesWriting}
use Rattle.cwr_parts.specs.declared.split_output.SplitOutput.{SplitOutput}
use Rattle.cwr_devices.specs.Format.Outputs.{AddsText}
use Rattle.cwr_parts.specs.Steps.SplitOutputs.{MayHandOver, TakesOutput, Told}
use Rattle.cwr_parts.proofs.lemmas.ItemsAdded.{records_in-append, records_in_value}
use Rattle.cwr_parts.proofs.lemmas.JoinsEnded.{closed_end, reached_foot, right_end}

-- the items before the end
before_end : (v : TransmissionValue) (items : List Item) → value_items v ≡ items ++ Ended ∷ []
    → items ≡ Opened v.opening ∷ flat_map group_items v.groups
before_end v items e = append_cancel_right items (Opened v.opening ∷ flat_map group_items v.groups) (Ended ∷ []) (sym e)

-- TRL is no mistake
pub right_last : {W : Type 0} (contents : W → Option (List ℕ)) (out : SplitOutput W) (answer : Result ℕ EncodeFault)
    → (may : MayHandOver contents out)
    → JudgesEnd (encoder_limits out.encoder) (map symbol_of (records_in may.items)) answer → IsNoMistake answer
right_last contents out answer may judged =
    let v = may.ends.value in
    let whole = may.ends.whole in
    let same = before_end v may.items may.ends.items_are in
    let foot =
    reached_foot (flat_map group_items v.groups) (closed_end v.groups whole.each whole.some_group) (Opened v.opening) in
    right_end (encoder_limits out.encoder) (map symbol_of (records_in may.items)) answer
    (ap (λ (l : List Item). reached (map symbol_of (records_in l))) same ∙ foot) judged

-- the records of a transmission, by its items
all_records : (w : TransmissionValue) (items : List Item) → value_items w ≡ items ++ Ended ∷ []
    → records_of w ≡ records_in items ++ trailer ∷ []
all_records w items e = sym (records_in_value w) ∙ ap records_in e ∙ records_in-append items (Ended ∷ [])

-- a text after nothing
known : (start after : Option (List ℕ)) (old new : Option (List (List ℕ))) (text : List ℕ) → IfSome old (λ _. start ≡ Some [])
    → Appends start after text
    → IfSome after (AddsText old new) → AddsText old new text
known start after None new text empty h added = tt
known start after (Some ts) new text empty h added = known_some start after ts new text empty h added
  where
    known_some : (start after : Option (List ℕ)) (ts : List (List ℕ)) (new : Option (List (List ℕ))) (text : List ℕ)
        → start ≡ Some [] → Appends start after text
        → IfSome after (AddsText (Some ts) new) → AddsText (Some ts) new text
    known_some start None ts new text e h added = absurd (subst (λ (s : Option (List ℕ)). Appends s None text) e h)
    known_some start (Some bytes) ts new text e h added =
        let same : bytes ≡ text = subst (λ (s : Option (List ℕ)). Appends s (Some bytes) text) e h in
        subst (AddsText (Some ts) new) same added

-- they have the text
pub handed_over : {O W : Type 0} (told : Told O W) (out : SplitOutput W)
    (writer : W) (n : ℕ) (old new : O) → FinishesWriting told.contents told.writer_failures out.encoder writer (Ok n)
    → told.failures new ≡ told.failures old → told.given_up new ≡ told.given_up old
    → IfSome (told.contents writer) (AddsText (told.texts old) (told.texts new)) → TakesOutput told out old new
handed_over told out writer n old new finishes failed given_up added = record {
  counts = record { failures = failed; given_up = given_up };
  text = λ start items w encodes whole e empty.
      let f = finishes.1 start (records_in items) encodes in
      let same : f.0 ≡ w = one_value f.0 w f.1.whole whole (f.1.records_are ∙ sym (all_records w items e)) in
      subst (λ (v : TransmissionValue). AddsText (told.texts old) (told.texts new) (canonical_text v)) same
      (known start (told.contents writer) (told.texts old) (told.texts new) (canonical_text f.0) empty f.2.appended added);
}
