-- What a viewer sees comes item by item, up to the last of a transmission.
use Rattle.std.proofs.Common.{◌≡◌, ℕ, List, [], ◌∷◌, ◌++◌, length, drop, Option, Some, None, sym, ap, subst, ◌∙◌, append_assoc}
use Rattle.std.proofs.Common.{append-nil}
use Rattle.std.specs.Prelude.{IfSome}
use Rattle.cwr_shape.specs.declared.limits.Limits.{Limits}
use Rattle.cwr_values.specs.declared.items.Item.{Item}
use Rattle.cwr_values.specs.Format.Values.{TransmissionValue}
use Rattle.cwr_judge.specs.Format.Ends.{IsAccepted}
use Rattle.cwr_judge.specs.Format.Items.{value_items}
use Rattle.cwr_judge.proofs.lemmas.Accepted.{accepted_once}
use Rattle.cwr_decode.specs.Format.Runs.{TakesFront}
use Rattle.cwr_decode.specs.Steps.Runs.{HasReadAll}
use Rattle.cwr_decode.proofs.lemmas.ItemsMakeOneTransmission.{items_once}
use Rattle.cwr_decode.proofs.lemmas.ItemsReadSoFar.{all_items, all_taken}
use Rattle.cwr_tools.specs.Format.Viewing.{SeesItems, SeesText}

pub sees_none : {V : Type 0} (has_seen : V → List Item → Type 0) (viewer : V) → SeesItems has_seen viewer viewer []
sees_none has_seen viewer = λ items h. subst (has_seen viewer) (sym (append-nil items)) h

pub sees_more : {V : Type 0} (has_seen : V → List Item → Type 0) (old mid new : V) (given : List Item) (item : Item)
    → SeesItems has_seen old mid given
    → ((items : List Item) → has_seen mid items → has_seen new (items ++ item ∷ []))
    → SeesItems has_seen old new (given ++ item ∷ [])
sees_more has_seen old mid new given item before one =
    λ items h. subst (has_seen new) (append_assoc items given (item ∷ [])) (one (items ++ given) (before items h))

-- the transmission whose items all were read
pub sees_taken : {V : Type 0} (limits : Limits) (has_seen : V → List Item → Type 0) (before after : Option (List ℕ)) (old new : V)
    (given : List Item) → HasReadAll limits before after given → SeesItems has_seen old new given
    → (v : TransmissionValue) × TakesFront limits before v after × SeesItems has_seen old new (value_items v)
sees_taken limits has_seen before after old new given read seen =
    let all = all_items limits before after given read in (
      all.value,
      all_taken limits before after given all.value read (λ w whole are. items_once all.value w (sym all.given_are ∙ are)),
      subst (SeesItems has_seen old new) all.given_are seen,
    )

seen_by : {V : Type 0} (limits : Limits) (has_seen : V → List Item → Type 0) (before after : Option (List ℕ)) (old new : V)
    (own : TransmissionValue) (count : ℕ)
    → IfSome before (λ text. IsAccepted limits text own count × (after ≡ Some (drop count text)))
    → SeesItems has_seen old new (value_items own) → SeesText limits has_seen before old new
seen_by limits has_seen None after old new own count front seen = tt
seen_by limits has_seen (Some text) after old new own count front seen = λ v n a.
    subst (SeesItems has_seen old new) (ap value_items (accepted_once limits text own v count n front.0 a).0) seen

-- so it is of the one that the text is accepted as
pub sees_text : {V : Type 0} (limits : Limits) (has_seen : V → List Item → Type 0) (before after : Option (List ℕ)) (old new : V)
    (given : List Item) → HasReadAll limits before after given → SeesItems has_seen old new given
    → SeesText limits has_seen before old new
sees_text limits has_seen before after old new given read seen =
    let taken = sees_taken limits has_seen before after old new given read seen in
    seen_by limits has_seen before after old new taken.0 (length taken.1.input) taken.1.front taken.2
