-- The status of a run is right of its text.
use Rattle.std.proofs.Common.{◌≡◌, ℕ, ◌<◌, ◌≤◌, Bool, true, false, not, ◌||◌, List, [], ◌∷◌, ◌++◌, length, drop, zero, suc}
use Rattle.std.proofs.Common.{Option, Some, None, refl, sym, ap₂, subst, ◌∙◌, inl, inr, arith, true≢false}
use Rattle.std.specs.Prelude.{IfSome, ◌≢◌, ◌^◌, ◌-◌, min, nat_lt, if◌then◌else◌}
use Rattle.std.specs.Io.KnownBytes.{prepend_known}
use Rattle.std.proofs.KnownBytes.{prepend_known-nil}
use Rattle.std.proofs.lemmas.Bool.{lt-ltb, ltb-true}
use Rattle.cwr_shape.specs.declared.limits.Limits.{Limits}
use Rattle.cwr_shape.specs.declared.reasons.Level.{Level}
use Rattle.cwr_values.specs.declared.items.Item.{Item}
use Rattle.cwr_values.specs.declared.items.Item.TheVariants as items
use Rattle.cwr_values.specs.Format.Values.{TransmissionValue}
use Rattle.cwr_judge.specs.Format.Ends.{IsAccepted}
use Rattle.cwr_judge.specs.Format.Items.{value_items}
use Rattle.cwr_tools.specs.Format.Watching.{any_from}
use Rattle.cwr_causes.specs.declared.trailing.Trailing.{Trailing}
use Rattle.cwr_causes.specs.Format.Trailing.{IsTrailing}
use Rattle.cwr_endings.specs.declared.endings.Look.{Look}
use Rattle.cwr_endings.specs.declared.endings.Look.TheVariants as looks
use Rattle.cwr_endings.specs.declared.endings.Status.{Status}
use Rattle.cwr_endings.specs.declared.endings.Status.TheVariants as statuses
use Rattle.cwr_endings.specs.declared.endings.Wanted.{Wanted}
use Rattle.cwr_endings.specs.Format.Endings.{IsStatusBy}
use Rattle.cwr_endings.specs.Steps.Looks.{IsLook, follows, good_status, status_after}

-- ---- what stands after a transmission

none_taken : (more : List ℕ) → min (length more) (2 ^ 64 - 1) ≡ 0 → more ≡ []
none_taken [] e = refl
none_taken (x ∷ more) e = absurd (omega (arith, e))

not_empty : (more rest : List ℕ) → 0 < length more → more ++ rest ≢ []
not_empty [] rest h = absurd (omega (arith, h))
not_empty (x ∷ more) rest h = λ e. absurd (cc e)

zero_bytes : (n : ℕ) → nat_lt 0 n ≡ false → n ≡ 0
zero_bytes zero e = refl
zero_bytes (suc n) e = absurd (true≢false (sym (lt-ltb 0 (suc n) (omega arith)) ∙ e))

-- nothing follows
follows_not : (text : List ℕ) (after : Option (List ℕ)) (t : Trailing) → IsTrailing (Some text) after t → follows t ≡ false
    → text ≡ []
follows_not text None t h f = absurd h.consumed
follows_not text (Some rest) t h f = by (nat_lt 0 t.bytes) t.is_all refl refl f where
  by : (b a : Bool) → nat_lt 0 t.bytes ≡ b → t.is_all ≡ a → (b || not a) ≡ false → text ≡ []
  by false true b a e =
      let none : t.bytes ≡ 0 = zero_bytes t.bytes b in
      h.consumed ∙ ap₂ (λ (xs ys : List ℕ). xs ++ ys) (none_taken h.more (sym h.counted ∙ none)) (h.all a)
  by false false b a e = absurd (true≢false e)
  by true c b a e = absurd (true≢false e)

-- bytes follow
follows_some : (text : List ℕ) (after : Option (List ℕ)) (t : Trailing) → IsTrailing (Some text) after t → follows t ≡ true
    → text ≢ []
follows_some text None t h f = absurd h.consumed
follows_some text (Some rest) t h f =
    λ e. not_empty h.more rest (by (nat_lt 0 t.bytes) t.is_all refl refl f) (sym h.consumed ∙ e) where
      by : (b a : Bool) → nat_lt 0 t.bytes ≡ b → t.is_all ≡ a → (b || not a) ≡ true → 0 < length h.more
      by true a b e f = let some : 0 < t.bytes = ltb-true 0 t.bytes b in omega (arith, some, h.counted)
      by false false b e f = let some : 1000000 ≤ length h.more = h.some e in omega (arith, some)
      by false true b e f = absurd (true≢false (sym f))

-- what is left of an input whose bytes may be known
pub nothing_left : (left after : Option (List ℕ)) (t : Trailing) → IsTrailing left after t → follows t ≡ false
    → IfSome left (λ more. more ≡ [])
nothing_left None after t h f = tt
nothing_left (Some text) after t h f = follows_not text after t h f

pub something_left : (left after : Option (List ℕ)) (t : Trailing) → IsTrailing left after t → follows t ≡ true
    → IfSome left (λ more. more ≢ [])
something_left None after t h f = tt
something_left (Some text) after t h f = follows_some text after t h f

-- ---- the status of a verdict

-- with the status that a transmission has which has nothing unwanted
status_whole : (counts : Option Level → List Item → Bool → Type 0) (limits : Limits) (wanted : Wanted) (text : List ℕ) (v : TransmissionValue) (n : ℕ) (look : Look) (status : Status)
    → IsAccepted limits text v n → counts wanted.fail_on (value_items v) false
    → wanted.whole ≡ true → (after : Option (List ℕ)) → IsLook (Some (drop n text)) after look → status_after look ≡ Some status
    → IsStatusBy counts limits wanted text status
status_whole counts limits wanted text v n (looks.Found t) status accepted calm whole after h e = by (follows t) refl e where
  by : (b : Bool) → follows t ≡ b → (if b then Some statuses.Refused else Some statuses.Good) ≡ Some status
      → IsStatusBy counts limits wanted text status
  by true f e = let is : statuses.Refused ≡ status = cc e in
      subst (IsStatusBy counts limits wanted text) is (inr (inr (v, n, accepted, inl (whole, follows_some (drop n text) after t h f))))
  by false f e = let is : statuses.Good ≡ status = cc e in
      subst (IsStatusBy counts limits wanted text) is
      (v, n, accepted, record { whole = λ _. follows_not (drop n text) after t h f; calm = calm })
status_whole counts limits wanted text v n looks.Failed status accepted calm whole after h e = absurd (cc e)
status_whole counts limits wanted text v n looks.Unasked status accepted calm whole after h e = absurd h

status_calm : (counts : Option Level → List Item → Bool → Type 0) (limits : Limits) (wanted : Wanted) (text : List ℕ) (v : TransmissionValue) (n : ℕ) (look : Look) (status : Status)
    (whole : Bool) → wanted.whole ≡ whole → IsAccepted limits text v n → counts wanted.fail_on (value_items v) false
    → (after : Option (List ℕ)) → IsLook (Some (drop n text)) after look
    → (if whole then status_after look else Some statuses.Good) ≡ Some status → IsStatusBy counts limits wanted text status
status_calm counts limits wanted text v n look status true is accepted calm after h e =
    status_whole counts limits wanted text v n look status accepted calm is after h e
status_calm counts limits wanted text v n look status false is accepted calm after h e = let good : statuses.Good ≡ status = cc e in
    subst (IsStatusBy counts limits wanted text) good
    (v, n, accepted, record { whole = λ w. absurd (true≢false (sym w ∙ is)); calm = calm })

pub status_good : (counts : Option Level → List Item → Bool → Type 0) (limits : Limits) (wanted : Wanted) (text : List ℕ) (v : TransmissionValue) (n : ℕ) (look : Look) (found : Bool)
    (status : Status) → IsAccepted limits text v n → counts wanted.fail_on (value_items v) found
    → (after : Option (List ℕ)) → IsLook (Some (drop n text)) after look → good_status wanted look found ≡ Some status
    → IsStatusBy counts limits wanted text status
status_good counts limits wanted text v n look true status accepted saw after h e = let refused : statuses.Refused ≡ status = cc e in
    subst (IsStatusBy counts limits wanted text) refused (inr (inr (v, n, accepted, inr saw)))
status_good counts limits wanted text v n look false status accepted saw after h e =
    status_calm counts limits wanted text v n look status wanted.whole refl accepted saw after h e

-- where it is read by a source that has read nothing of it so far
pub from_source : {R : Type 0} (P : Option (List ℕ) → Type 0) (remaining : R → Option (List ℕ)) (input inner : R) (ahead : List ℕ)
    → inner ≡ input → ahead ≡ [] → P (prepend_known ahead (remaining inner)) → P (remaining input)
from_source P remaining input inner ahead i a p =
    subst P (ap₂ (λ (xs : List ℕ) (r : _). prepend_known xs (remaining r)) a i ∙ prepend_known-nil (remaining input)) p

-- no level is found
pub none_from : (given : List Item) → any_from None given ≡ false
none_from [] = refl
none_from (items.Transaction t ∷ given) = none_from given
none_from (items.Opened r ∷ given) = none_from given
none_from (items.GroupOpened r ∷ given) = none_from given
none_from (items.GroupClosed r ∷ given) = none_from given
none_from (items.Ended ∷ given) = none_from given
