-- A viewer sees the items of input after input.
use Rattle.std.proofs.Common.{◌≡◌, ◌+◌, ℕ, List, [], ◌∷◌, ◌++◌, Option, refl, sym, ap, subst, ◌∙◌, append_assoc, append-nil}
use Rattle.std.specs.List.{AllZip, flat_map}
use Rattle.std.proofs.lemmas.Grind.{flat_map-append}
use Rattle.cwr_shape.specs.declared.limits.Limits.{Limits}
use Rattle.cwr_values.specs.declared.items.Item.{Item}
use Rattle.cwr_values.specs.Format.Values.{TransmissionValue}
use Rattle.cwr_judge.specs.Format.Items.{value_items}
use Rattle.cwr_parts.specs.Format.Joins.{HasInput, SeesInputs}
use Rattle.cwr_parts.specs.Steps.Joined.{SeesInput}
use Rattle.cwr_parts.proofs.lemmas.AcceptedJoins.{same_input}
use Rattle.cwr_tools.proofs.lemmas.Viewed.{sees_none}

-- the inputs before the last one, and that
record AreToLast {R : Type 0} (limits : Limits) (remaining : R → Option (List ℕ)) (earlier : List R) (hand : R)
    (inputs : List TransmissionValue) : Type 0 where
  before : List TransmissionValue
  own : TransmissionValue
  split : inputs ≡ before ++ own ∷ []
  have_before : AllZip (HasInput limits remaining) earlier before
  has_own : HasInput limits remaining hand own

to_last : {R : Type 0} (limits : Limits) (remaining : R → Option (List ℕ)) (earlier : List R) (hand : R)
    (inputs : List TransmissionValue) → AllZip (HasInput limits remaining) (earlier ++ hand ∷ []) inputs
    → AreToLast limits remaining earlier hand inputs
to_last limits remaining [] hand (v ∷ []) h =
    record { before = []; own = v; split = refl; have_before = tt; has_own = h.0 }
to_last limits remaining (r ∷ earlier) hand (v ∷ inputs) h =
    let p = to_last limits remaining earlier hand inputs h.1 in
    record {
      before = v ∷ p.before;
      own = p.own;
      split = ap (λ (l : List TransmissionValue). v ∷ l) p.split;
      have_before = (h.0, p.have_before);
      has_own = p.has_own;
    }
to_last limits remaining [] hand [] h = absurd h
to_last limits remaining [] hand (v ∷ w ∷ inputs) h = absurd h.1
to_last limits remaining (r ∷ earlier) hand [] h = absurd h

pub no_inputs_seen : {R V : Type 0} (limits : Limits) (remaining : R → Option (List ℕ)) (has_seen : V → List Item → Type 0)
    (viewer : V) → SeesInputs limits remaining has_seen [] viewer viewer
no_inputs_seen limits remaining has_seen viewer [] h = sees_none has_seen viewer
no_inputs_seen limits remaining has_seen viewer (v ∷ inputs) h = absurd h

pub input_seen : {R V : Type 0} (limits : Limits) (remaining : R → Option (List ℕ)) (has_seen : V → List Item → Type 0)
    (earlier : List R) (hand left : R) (old mid new : V) → SeesInputs limits remaining has_seen earlier old mid
    → SeesInput limits has_seen (remaining hand) (remaining left) mid new
    → SeesInputs limits remaining has_seen (earlier ++ hand ∷ []) old new
input_seen limits remaining has_seen earlier hand left old mid new before one inputs zip items h =
    let p = to_last limits remaining earlier hand inputs zip in
    let same : one.0 ≡ p.own = same_input limits remaining hand left one.0 p.own one.1 p.has_own in
    let all : flat_map value_items p.before ++ value_items one.0 ≡ flat_map value_items inputs =
    ap (λ (v : TransmissionValue). flat_map value_items p.before ++ value_items v) same
    ∙ ap (λ (l : List Item). flat_map value_items p.before ++ l) (sym (append-nil (value_items p.own)))
    ∙ sym (flat_map-append value_items p.before (p.own ∷ [])) ∙ ap (flat_map value_items) (sym p.split) in
    subst (has_seen new)
    (append_assoc items (flat_map value_items p.before) (value_items one.0) ∙ ap (λ (l : List Item). items ++ l) all)
    (one.2 (items ++ flat_map value_items p.before) (before p.before p.have_before items h))
