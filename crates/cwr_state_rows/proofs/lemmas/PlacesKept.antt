-- The places of what is kept are those of the rows.
use Rattle.std.proofs.Common.{◌≡◌, ℕ, suc, ◌+◌, ◌<◌, ◌≤◌, Bool, true, false, cond, List, [], ◌∷◌, ◌++◌, length, map, Option, Some, None, refl}
use Rattle.std.proofs.Common.{sym, ap, ap₂, ◌∙◌, arith, append-nil}
use Rattle.std.specs.Prelude.{slice_get}
use Rattle.std.specs.List.{enumerate_from, flat_map}
use Rattle.std.specs.Option.{option_and_then}
use Rattle.std.proofs.lemmas.Grind.{flat_map-append}
use Rattle.cwr_states.specs.declared.state_sets.States.{States}
use Rattle.cwr_sent.specs.declared.answers.AnsweringFile.{AnsweringFile}
use Rattle.cwr_sent.specs.declared.answers.KeptAnswer.{KeptAnswer}
use Rattle.cwr_sent.specs.declared.facts.SentFacts.{SentFacts}
use Rattle.cwr_sent.specs.Format.Answers.{Answer, counting_ones}
use Rattle.cwr_sent.specs.Format.GroupRows.{GroupRows, KeptFor, answer_in}
use Rattle.cwr_sent.specs.Format.SentFacts.{SentContent}
use Rattle.cwr_sent.specs.Format.SentRows.{SentShown, content_shown}
use Rattle.cwr_delivery.specs.Format.Answering.{wants_answer}
use Rattle.cwr_delivery.specs.Format.Told.{Delivered, History, Told, answers_to}
use Rattle.cwr_delivery.specs.Steps.Deliveries.{Held}
use Rattle.cwr_delivery.specs.Steps.Keeping.{Keeps, kept_answers}
use Rattle.cwr_state_rows.specs.Format.StatePlaces.{row_place, state_places}
use Rattle.cwr_state_rows.specs.Format.StateRows.{Row, answer_rows, by_sender, group_rows, rows_of, sent_rows, transaction_rows}
use Rattle.cwr_state_rows.specs.Steps.HeldPlaces.{each_place, group_places, held_places, kept_places, sent_places, transaction_places}
use Rattle.cwr_state_rows.specs.Steps.HeldRows.{sorted_to}
use Rattle.cwr_state_rows.proofs.lemmas.Sorting.{sorted_same}

-- ---- one transaction

abbrev row_by : Option (List ℕ) → ℕ → ℕ → SentFacts → Option Answer → Row
row_by name g t f a = record { sent = name; group = g; transaction = t; facts = f; answer = a }

each_same : (states : States) (files : List AnsweringFile) (name : Option (List ℕ)) (g t : ℕ) (f : SentFacts) (ks : List KeptAnswer)
    → each_place states (g, t) ks ≡ flat_map (row_place states) (map (row_by name g t f) (map Some (map (answer_in files) ks)))
each_same states files name g t f [] = refl
each_same states files name g t f (k ∷ ks) =
    ap (λ (l : List (ℕ × ℕ)). row_place states (row_by name g t f (Some (answer_in files k))) ++ l) (each_same states files name g t f ks)

answers_same : (states : States) (files : List AnsweringFile) (name : Option (List ℕ)) (g t : ℕ) (f : SentFacts) (ks : List KeptAnswer)
    → kept_places states (g, t) ks ≡ flat_map (row_place states) (answer_rows name g t f (map (answer_in files) ks))
answers_same states files name g t f [] = sym (append-nil (row_place states (row_by name g t f None)))
answers_same states files name g t f (k ∷ ks) = each_same states files name g t f (k ∷ ks)

transaction_same : (states : States) (files : List AnsweringFile) (name : Option (List ℕ)) (g t : ℕ) (f : SentFacts) (ks : List KeptFor)
    (answers : List Answer) → kept_answers files t ks ≡ answers
    → transaction_places states files g ks (t, f)
    ≡ flat_map (row_place states) (cond (wants_answer f) (answer_rows name g t f (by_sender answers)) [])
transaction_same states files name g t f ks answers e = by (wants_answer f)
  where
    by : (b : Bool) → cond b (kept_places states (g, t) (sorted_to files t ks)) []
        ≡ flat_map (row_place states) (cond b (answer_rows name g t f (by_sender answers)) [])
    by true =
        answers_same states files name g t f (sorted_to files t ks)
        ∙ ap (λ (l : List Answer). flat_map (row_place states) (answer_rows name g t f l))
        (sorted_same files t ks ∙ ap by_sender e)
    by false = refl

-- ---- groups

rows_are : (states : States) (names : List (List ℕ)) (files : List AnsweringFile) (d : Delivered) (told : List Told) (i g : ℕ)
    (ks : List KeptFor) (t : ℕ) (fs : List SentFacts)
    → ((u : ℕ) → t ≤ u → u < t + length fs → kept_answers files u ks ≡ counting_ones (answers_to d told i g u))
    → flat_map (transaction_places states files g ks) (enumerate_from t fs)
    ≡ flat_map (row_place states)
    (flat_map (λ (p : ℕ × SentFacts). transaction_rows d told names i g p.0 p.1) (enumerate_from t fs))
rows_are states names files d told i g ks t [] h = refl
rows_are states names files d told i g ks t (f ∷ fs) h =
    ap₂ (λ (a b : List (ℕ × ℕ)). a ++ b)
    (transaction_same states files (slice_get names i) g t f ks (counting_ones (answers_to d told i g t)) (h t (omega arith) (omega arith)))
    (rows_are states names files d told i g ks (t + 1) fs (λ u lo hi. h u (omega (arith, lo)) (omega (arith, hi))))
    ∙ sym (flat_map-append (row_place states) (transaction_rows d told names i g t f)
    (flat_map (λ (p : ℕ × SentFacts). transaction_rows d told names i g p.0 p.1) (enumerate_from (t + 1) fs)))

groups_are : (states : States) (names : List (List ℕ)) (files : List AnsweringFile) (d : Delivered) (told : List Told) (i k n : ℕ)
    (gs : List GroupRows)
    → n ≡ suc k
    → ((j : ℕ) (group : GroupRows) (t : ℕ) → slice_get gs j ≡ Some group → t < length group.facts
    → kept_answers files t group.answers ≡ counting_ones (answers_to d told i (suc (k + j)) t))
    → flat_map (group_places states files) (enumerate_from n gs)
    ≡ flat_map (row_place states)
    (flat_map (λ (p : ℕ × List SentFacts). group_rows d told names i p.0 p.1)
    (enumerate_from n (map (λ (g : GroupRows). g.facts) gs)))
groups_are states names files d told i k n [] is h = refl
groups_are states names files d told i k n (g ∷ gs) is h =
    ap₂ (λ (a b : List (ℕ × ℕ)). a ++ b)
    (rows_are states names files d told i n g.answers 0 g.facts (λ u lo hi.
    h 0 g u refl (omega (arith, hi)) ∙ ap (λ (m : ℕ). counting_ones (answers_to d told i m u)) (omega (arith, is))))
    (groups_are states names files d told i (suc k) (n + 1) gs (omega (arith, is)) (λ j group t at within.
    h (suc j) group t at within
    ∙ ap (λ (m : ℕ). counting_ones (answers_to d told i m t)) (let e : suc (k + suc j) ≡ suc (suc k + j) = omega arith in e)))
    ∙ sym (flat_map-append (row_place states) (group_rows d told names i n g.facts)
    (flat_map (λ (p : ℕ × List SentFacts). group_rows d told names i p.0 p.1)
    (enumerate_from (n + 1) (map (λ (g : GroupRows). g.facts) gs))))

-- ---- transmissions

sents_are : (states : States) (names : List (List ℕ)) (files : List AnsweringFile) (d : Delivered) (told : List Told) (i : ℕ)
    (ss : List SentShown)
    → ((j : ℕ) (s : SentShown) → slice_get ss j ≡ Some s → (g : ℕ) (group : GroupRows) (t : ℕ) → slice_get s.groups g ≡ Some group
    → t < length group.facts → kept_answers files t group.answers ≡ counting_ones (answers_to d told (i + j) (suc g) t))
    → flat_map (sent_places states files) ss
    ≡ flat_map (row_place states)
    (flat_map (λ (p : ℕ × SentContent). sent_rows d told names p.0 p.1) (enumerate_from i (map content_shown ss)))
sents_are states names files d told i [] h = refl
sents_are states names files d told i (s ∷ ss) h =
    ap₂ (λ (a b : List (ℕ × ℕ)). a ++ b)
    (groups_are states names files d told i 0 1 s.groups refl (λ j group t at within.
    h 0 s refl j group t at within
    ∙ ap₂ (λ (m n : ℕ). counting_ones (answers_to d told m n t)) (let e : i + 0 ≡ i = omega arith in e)
    (let e : suc j ≡ suc (0 + j) = omega arith in e)))
    (sents_are states names files d told (i + 1) ss (λ j t at g group u at2 within.
    h (suc j) t at g group u at2 within
    ∙ ap (λ (m : ℕ). counting_ones (answers_to d told m (suc g) u)) (let e : i + suc j ≡ i + 1 + j = omega arith in e)))
    ∙ sym (flat_map-append (row_place states) (sent_rows d told names i (content_shown s))
    (flat_map (λ (p : ℕ × SentContent). sent_rows d told names p.0 p.1) (enumerate_from (i + 1) (map content_shown ss))))

-- of what stands for what was read
pub places_kept : (states : States) (names : List (List ℕ)) (d : Delivered) (history : History) (h : Held) → Keeps d history h
    → held_places states h ≡ state_places states (rows_of d history.told names)
places_kept states names d history h keeps =
    sents_are states names h.files d history.told 0 h.sent (λ j s at g group t at2 within.
    keeps.answers j g t group
    (ap (option_and_then (λ (x : SentShown). slice_get x.groups g)) at ∙ at2) within
    ∙ ap (λ (m : ℕ). counting_ones (answers_to d history.told m (suc g) t)) (let e : j ≡ 0 + j = omega arith in e))
    ∙ ap (λ (x : Delivered). flat_map (row_place states)
    (flat_map (λ (p : ℕ × SentContent). sent_rows d history.told names p.0 p.1) (enumerate_from 0 x.sent))) keeps.sent_is
