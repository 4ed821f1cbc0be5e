-- The groups of transmissions of which one group is changed.
use Rattle.std.proofs.Common.{◌≡◌, ℕ, zero, suc, ◌-◌, ◌<◌, List, [], ◌∷◌, length, Option, Some, None, refl, sym, ap, ◌∙◌, arith, inl, inr, cond}
use Rattle.std.specs.Prelude.{◌⊎◌, Bool, map, slice_get, slice_set}
use Rattle.std.specs.Option.{option_and_then}
use Rattle.std.proofs.lemmas.Bool.{lt-ltb}
use Rattle.cwr_lines.specs.Format.Records.{RecordValue}
use Rattle.std.proofs.lemmas.Option.{slice_get_within}
use Rattle.cwr_sent.specs.declared.answers.AnsweringFile.{AnsweringFile}
use Rattle.cwr_sent.specs.declared.answers.KeptAnswer.{KeptAnswer}
use Rattle.cwr_sent.specs.declared.facts.SentFacts.{SentFacts}
use Rattle.cwr_sent.specs.Format.GroupRows.{GroupRows}
use Rattle.cwr_sent.specs.Format.SentFacts.{SentContent}
use Rattle.cwr_sent.specs.Format.SentRows.{SentShown, content_shown}
use Rattle.cwr_sent.specs.Steps.Links.{with_kept}
use Rattle.cwr_sent.specs.Steps.SentTables.{kept_in_one}
use Rattle.cwr_sent.proofs.lemmas.MoreLinks.{at_set}
use Rattle.cwr_delivery.specs.Format.Answering.{group_of, sequence_of}
use Rattle.cwr_delivery.specs.Steps.Deliveries.{kept_for_one}
use Rattle.cwr_delivery.specs.Steps.Keeping.{group_at}
use Rattle.cwr_delivery.proofs.lemmas.FoundPlaces.{IsNamed}

pub made_of : {X Y : Type 0} (f : X → Y) (xs : List X) (j : ℕ) (m : Y) → slice_get (map f xs) j ≡ Some m
    → (x : X) × (slice_get xs j ≡ Some x) × (f x ≡ m)
made_of f [] j m h = absurd (cc h)
made_of f (x ∷ xs) zero m h = (x, refl, cc h)
made_of f (x ∷ xs) (suc j) m h = made_of f xs j m h

set_keeps : {X Y : Type 0} (f : X → Y) (xs : List X) (i : ℕ) (x y : X) → slice_get xs i ≡ Some x → f y ≡ f x
    → map f (slice_set xs i y) ≡ map f xs
set_keeps f [] i x y there same = refl
set_keeps f (z ∷ xs) zero x y there same =
    let is : z ≡ x = cc there in ap (λ w. w ∷ map f xs) (same ∙ ap f (sym is))
set_keeps f (z ∷ xs) (suc i) x y there same = ap (λ l. f z ∷ l) (set_keeps f xs i x y there same)

-- ---- a group

pub record GroupThere (sent : List SentShown) (i g : ℕ) (group : GroupRows) : Type 0 where
  pub shown : SentShown
  pub there : slice_get sent i ≡ Some shown
  pub group_there : slice_get shown.groups g ≡ Some group

there_step : (sent : List SentShown) (i g : ℕ) (group : GroupRows) (o : Option SentShown) → slice_get sent i ≡ o
    → option_and_then (λ s. slice_get s.groups g) o ≡ Some group → GroupThere sent i g group
there_step sent i g group None is e = absurd (cc e)
there_step sent i g group (Some shown) is e = record { shown = shown; there = is; group_there = e }

pub is_there : (sent : List SentShown) (i g : ℕ) (group : GroupRows) → group_at sent i g ≡ Some group → GroupThere sent i g group
is_there sent i g group e = there_step sent i g group (slice_get sent i) refl e

pub there_at : (sent : List SentShown) (i g : ℕ) (group : GroupRows) (shown : SentShown) → slice_get sent i ≡ Some shown
    → slice_get shown.groups g ≡ Some group → group_at sent i g ≡ Some group
there_at sent i g group shown there e = ap (option_and_then (λ (s : SentShown). slice_get s.groups g)) there ∙ e

-- ---- the one of the transaction that an acknowledgement names

pub record GroupNamed (sent : List SentShown) (a : RecordValue) (i : ℕ) : Type 0 where
  pub some : 0 < group_of a
  pub group : GroupRows
  pub there : GroupThere sent i (group_of a - 1) group
  pub within : sequence_of a < length group.facts

pub named_there : (sent : List SentShown) (a : RecordValue) (i : ℕ) (f : SentFacts) (content : SentContent)
    → slice_get (map content_shown sent) i ≡ Some content → IsNamed content a f → GroupNamed sent a i
named_there sent a i f content there named =
    let s = made_of content_shown sent i content there in
    let row : slice_get (map (λ (g : GroupRows). g.facts) s.0.groups) (group_of a - 1) ≡ Some named.row =
    ap (λ (c : SentContent). slice_get c.groups (group_of a - 1)) s.2 ∙ named.group in
    let g = made_of (λ (x : GroupRows). x.facts) s.0.groups (group_of a - 1) named.row row in
    let w = slice_get_within named.row (sequence_of a) f named.place in
    let n = ap (λ (l : List SentFacts). length l) g.2 in
    record {
      some = named.some;
      group = g.0;
      there = record { shown = s.0; there = s.1; group_there = g.1 };
      within = omega (arith, w, n);
    }

-- ---- it is changed

abbrev pub with_group : SentShown → ℕ → GroupRows → SentShown
with_group shown g group = record shown { groups = slice_set shown.groups g group }

pub changed_at : (sent : List SentShown) (i g j m : ℕ) (shown : SentShown) (new group : GroupRows)
    → slice_get sent i ≡ Some shown → group_at (slice_set sent i (with_group shown g new)) j m ≡ Some group
    → ((group_at sent j m ≡ Some group) × (i ≡ j → g ≡ m → ⊥)) ⊎ ((i ≡ j) × (g ≡ m) × (new ≡ group))
changed_at sent i g j m shown new group there e =
    let t = is_there (slice_set sent i (with_group shown g new)) j m group e in
    elim (at_set sent i j (with_group shown g new) t.shown t.there) [
      | inl old ↦ inl (there_at sent j m group t.shown old.0 t.group_there, λ same _. old.1 same)
      | inr new_one ↦
          let at : slice_get (slice_set shown.groups g new) m ≡ Some group =
          ap (λ (s : SentShown). slice_get s.groups m) new_one.1 ∙ t.group_there in
          elim (at_set shown.groups g m new group at) [
            | inl old ↦ inl (there_at sent j m group shown (ap (slice_get sent) (sym new_one.0) ∙ there) old.0, λ _ same. old.1 same)
            | inr changed ↦ inr (new_one.0, changed.0, changed.1)
          ]
    ]

pub same_content : (sent : List SentShown) (i g : ℕ) (shown : SentShown) (new old : GroupRows)
    → slice_get sent i ≡ Some shown → slice_get shown.groups g ≡ Some old → new.facts ≡ old.facts
    → map content_shown (slice_set sent i (with_group shown g new)) ≡ map content_shown sent
same_content sent i g shown new old there group_there same =
    set_keeps content_shown sent i shown (with_group shown g new) there
    (ap (λ (l : List (List SentFacts)). record { created = shown.created; groups = l })
    (set_keeps (λ (x : GroupRows). x.facts) shown.groups g old new group_there same))

-- ---- by an answer more

pub with_answers : (sent : List SentShown) (files : List AnsweringFile) (i g t : ℕ) (new : KeptAnswer) (group : GroupRows)
    → (there : GroupThere sent i g group) → t < length group.facts
    → kept_for_one files g t new sent i (slice_get sent i)
    ≡ slice_set sent i (with_group there.shown g (record group { answers = with_kept files t new group.answers }))
with_answers sent files i g t new group there within =
    ap (kept_for_one files g t new sent i) there.there
    ∙ ap (λ (o : Option GroupRows). slice_set sent i (record there.shown {
      groups = kept_in_one files g t new there.shown.groups o;
    }))
    there.group_there
    ∙ ap (λ (b : Bool). slice_set sent i (with_group there.shown g
    (cond b (record group { answers = with_kept files t new group.answers }) group)))
    (lt-ltb t (length group.facts) within)
