-- The counts of what is kept are those of the rows.
use Rattle.std.proofs.Common.{◌≡◌, ℕ, suc, ◌+◌, ◌<◌, ◌≤◌, Bool, true, false, cond, List, [], ◌∷◌, ◌++◌, length, map, fold, Option, Some, None, refl}
use Rattle.std.proofs.Common.{sym, ap, ap₂, subst, ◌∙◌, arith}
use Rattle.std.specs.Prelude.{count_by, min, slice_get}
use Rattle.std.specs.List.{enumerate_from, flat_map}
use Rattle.std.specs.Option.{option_and_then}
use Rattle.std.proofs.lemmas.List.Sums.{sum_by-append}
use Rattle.cwr_states.specs.declared.outcomes.State.{State}
use Rattle.cwr_states.specs.declared.outcomes.State.TheVariants as state
use Rattle.cwr_states.specs.Format.StateNames.{state_of}
use Rattle.cwr_sent.specs.declared.answers.AnsweringFile.{AnsweringFile}
use Rattle.cwr_sent.specs.declared.answers.KeptAnswer.{KeptAnswer}
use Rattle.cwr_sent.specs.declared.facts.SentFacts.{SentFacts}
use Rattle.cwr_sent.specs.Format.Answers.{Answer, counting_ones}
use Rattle.cwr_sent.specs.Format.GroupRows.{GroupRows, KeptFor, answer_in}
use Rattle.cwr_sent.specs.Format.SentFacts.{SentContent}
use Rattle.cwr_sent.specs.Format.SentRows.{SentShown, content_shown}
use Rattle.cwr_delivery.specs.Format.Answering.{wants_answer}
use Rattle.cwr_delivery.specs.Format.Told.{Delivered, History, Told, answers_to}
use Rattle.cwr_delivery.specs.Steps.Deliveries.{Held}
use Rattle.cwr_delivery.specs.Steps.Keeping.{Keeps, kept_answers}
use Rattle.cwr_state_rows.specs.declared.counts.Counts.{Counts}
use Rattle.cwr_state_rows.specs.Format.StateRows.{Row, answer_rows, by_sender, group_rows, rows_of, sent_rows, state_by, transaction_rows}
use Rattle.cwr_state_rows.specs.Format.StateCounts.{counts_of, most, same_state, wanting}
use Rattle.cwr_state_rows.specs.Steps.HeldRows.{counts_by, counts_held, counts_with, counts_with_answers, counts_with_group, counts_with_one, counts_with_sent}
use Rattle.cwr_state_rows.specs.Steps.HeldRows.{no_counts, one_more, sorted_to}
use Rattle.cwr_state_rows.proofs.lemmas.Sorting.{sorted_same}

-- ---- the count of one state

abbrev rows_in : State → Counts → ℕ
rows_in state.Accepted c = c.accepted
rows_in state.Pending c = c.pending
rows_in state.Rejected c = c.rejected
rows_in state.Conflict c = c.conflict
rows_in state.Duplicate c = c.duplicate
rows_in state.ClaimRejected c = c.claim_rejected
rows_in state.NoParticipation c = c.no_participation
rows_in state.Unanswered c = c.unanswered

with_is : (x s : State) (c : Counts) → rows_in x (counts_with c s) ≡ cond (same_state s x) (one_more (rows_in x c)) (rows_in x c)
with_is state.Accepted state.Accepted c = refl
with_is state.Accepted state.Pending c = refl
with_is state.Accepted state.Rejected c = refl
with_is state.Accepted state.Conflict c = refl
with_is state.Accepted state.Duplicate c = refl
with_is state.Accepted state.ClaimRejected c = refl
with_is state.Accepted state.NoParticipation c = refl
with_is state.Accepted state.Unanswered c = refl
with_is state.Pending state.Accepted c = refl
with_is state.Pending state.Pending c = refl
with_is state.Pending state.Rejected c = refl
with_is state.Pending state.Conflict c = refl
with_is state.Pending state.Duplicate c = refl
with_is state.Pending state.ClaimRejected c = refl
with_is state.Pending state.NoParticipation c = refl
with_is state.Pending state.Unanswered c = refl
with_is state.Rejected state.Accepted c = refl
with_is state.Rejected state.Pending c = refl
with_is state.Rejected state.Rejected c = refl
with_is state.Rejected state.Conflict c = refl
with_is state.Rejected state.Duplicate c = refl
with_is state.Rejected state.ClaimRejected c = refl
with_is state.Rejected state.NoParticipation c = refl
with_is state.Rejected state.Unanswered c = refl
with_is state.Conflict state.Accepted c = refl
with_is state.Conflict state.Pending c = refl
with_is state.Conflict state.Rejected c = refl
with_is state.Conflict state.Conflict c = refl
with_is state.Conflict state.Duplicate c = refl
with_is state.Conflict state.ClaimRejected c = refl
with_is state.Conflict state.NoParticipation c = refl
with_is state.Conflict state.Unanswered c = refl
with_is state.Duplicate state.Accepted c = refl
with_is state.Duplicate state.Pending c = refl
with_is state.Duplicate state.Rejected c = refl
with_is state.Duplicate state.Conflict c = refl
with_is state.Duplicate state.Duplicate c = refl
with_is state.Duplicate state.ClaimRejected c = refl
with_is state.Duplicate state.NoParticipation c = refl
with_is state.Duplicate state.Unanswered c = refl
with_is state.ClaimRejected state.Accepted c = refl
with_is state.ClaimRejected state.Pending c = refl
with_is state.ClaimRejected state.Rejected c = refl
with_is state.ClaimRejected state.Conflict c = refl
with_is state.ClaimRejected state.Duplicate c = refl
with_is state.ClaimRejected state.ClaimRejected c = refl
with_is state.ClaimRejected state.NoParticipation c = refl
with_is state.ClaimRejected state.Unanswered c = refl
with_is state.NoParticipation state.Accepted c = refl
with_is state.NoParticipation state.Pending c = refl
with_is state.NoParticipation state.Rejected c = refl
with_is state.NoParticipation state.Conflict c = refl
with_is state.NoParticipation state.Duplicate c = refl
with_is state.NoParticipation state.ClaimRejected c = refl
with_is state.NoParticipation state.NoParticipation c = refl
with_is state.NoParticipation state.Unanswered c = refl
with_is state.Unanswered state.Accepted c = refl
with_is state.Unanswered state.Pending c = refl
with_is state.Unanswered state.Rejected c = refl
with_is state.Unanswered state.Conflict c = refl
with_is state.Unanswered state.Duplicate c = refl
with_is state.Unanswered state.ClaimRejected c = refl
with_is state.Unanswered state.NoParticipation c = refl
with_is state.Unanswered state.Unanswered c = refl

sent_is : (s : State) (c : Counts) → (counts_with c s).sent ≡ c.sent
sent_is state.Accepted c = refl
sent_is state.Pending c = refl
sent_is state.Rejected c = refl
sent_is state.Conflict c = refl
sent_is state.Duplicate c = refl
sent_is state.ClaimRejected c = refl
sent_is state.NoParticipation c = refl
sent_is state.Unanswered c = refl

sent_only : (x : State) (c : Counts) (n : ℕ) → rows_in x (record c { sent = n }) ≡ rows_in x c
sent_only state.Accepted c n = refl
sent_only state.Pending c n = refl
sent_only state.Rejected c n = refl
sent_only state.Conflict c n = refl
sent_only state.Duplicate c n = refl
sent_only state.ClaimRejected c n = refl
sent_only state.NoParticipation c n = refl
sent_only state.Unanswered c n = refl

-- ---- counts that are those of more transactions and rows

record Fits (c : Counts) : Type 0 where
  pub sent : c.sent ≤ most
  pub rows : (x : State) → rows_in x c ≤ most

abbrev is_with : State → Row → Bool
is_with x row = same_state (state_by row.answer) x

record Adds (c d : Counts) (v : List SentFacts) (r : List Row) : Type 0 where
  pub sent : d.sent ≡ min (c.sent + count_by wants_answer v) most
  pub rows : (x : State) → rows_in x d ≡ min (rows_in x c + count_by (is_with x) r) most

min_within : (a b m : ℕ) → a ≡ min b m → a ≤ m
min_within a b m e = omega arith

min_more : (a b c m : ℕ) → min (min (a + b) m + c) m ≡ min (a + (b + c)) m
min_more a b c m = omega arith

min_none : (a m : ℕ) → a ≤ m → a ≡ min (a + 0) m
min_none a m h = omega arith

fits_after : (c d : Counts) (wants : List SentFacts) (rows : List Row) → Adds c d wants rows → Fits d
fits_after c d wants rows p =
    record { sent = min_within d.sent _ most p.sent; rows = λ x. min_within (rows_in x d) _ most (p.rows x) }

adds_none : (c : Counts) → Fits c → Adds c c [] []
adds_none c h = record { sent = min_none c.sent most h.sent; rows = λ x. min_none (rows_in x c) most (h.rows x) }

adds_then : (c d e : Counts) (v w : List SentFacts) (rows more : List Row) → Adds c d v rows → Adds d e w more
    → Adds c e (v ++ w) (rows ++ more)
adds_then c d e v w rows more p q = record {
  sent =
      q.sent ∙ ap (λ (n : ℕ). min (n + count_by wants_answer w) most) p.sent
      ∙ min_more c.sent (count_by wants_answer v) (count_by wants_answer w) most
      ∙ ap (λ (n : ℕ). min (c.sent + n) most) (sym (sum_by-append (λ f. cond (wants_answer f) 1 0) v w));
  rows =
      λ x. q.rows x ∙ ap (λ (n : ℕ). min (n + count_by (is_with x) more) most) (p.rows x)
      ∙ min_more (rows_in x c) (count_by (is_with x) rows) (count_by (is_with x) more) most
      ∙ ap (λ (n : ℕ). min (rows_in x c + n) most) (sym (sum_by-append (λ row. cond (is_with x row) 1 0) rows more));
}

one_if : (b : Bool) (a m : ℕ) → a ≤ m → cond b (min (a + 1) m) a ≡ min (a + (0 + cond b 1 0)) m
one_if true a m h = omega arith
one_if false a m h = omega arith

adds_row : (c : Counts) (row : Row) → Fits c → Adds c (counts_with c (state_by row.answer)) [] (row ∷ [])
adds_row c row h = record {
  sent = sent_is (state_by row.answer) c ∙ min_none c.sent most h.sent;
  rows = λ x. with_is x (state_by row.answer) c ∙ one_if (is_with x row) (rows_in x c) most (h.rows x);
}

adds_wanting : (c : Counts) (f : SentFacts) → wants_answer f ≡ true → Fits c → Adds c (record c { sent = one_more c.sent }) (f ∷ []) []
adds_wanting c f e h = record {
  sent =
      one_if true c.sent most h.sent ∙ ap (λ (b : Bool). min (c.sent + (0 + cond b 1 0)) most) (sym e);
  rows = λ x. sent_only x c (one_more c.sent) ∙ min_none (rows_in x c) most (h.rows x);
}

adds_other : (c : Counts) (f : SentFacts) → wants_answer f ≡ false → Fits c → Adds c c (f ∷ []) []
adds_other c f e h = record {
  sent = one_if false c.sent most h.sent ∙ ap (λ (b : Bool). min (c.sent + (0 + cond b 1 0)) most) (sym e);
  rows = λ x. min_none (rows_in x c) most (h.rows x);
}

-- ---- one transaction

abbrev row_by : Option (List ℕ) → ℕ → ℕ → SentFacts → Option Answer → Row
row_by name g t f a = record { sent = name; group = g; transaction = t; facts = f; answer = a }

adds_each : (files : List AnsweringFile) (name : Option (List ℕ)) (g t : ℕ) (f : SentFacts) (c : Counts) (ks : List KeptAnswer) → Fits c
    → Adds c (counts_by c ks) [] (map (row_by name g t f) (map Some (map (answer_in files) ks)))
adds_each files name g t f c [] h = adds_none c h
adds_each files name g t f c (k ∷ ks) h =
    let row : Row = row_by name g t f (Some (answer_in files k)) in
    let one : Adds c (counts_with c (state_of k.status)) [] (row ∷ []) = adds_row c row h in
    adds_then c (counts_with c (state_of k.status)) (counts_by c (k ∷ ks)) [] [] (row ∷ [])
    (map (row_by name g t f) (map Some (map (answer_in files) ks))) one
    (adds_each files name g t f (counts_with c (state_of k.status)) ks
    (fits_after c (counts_with c (state_of k.status)) [] (row ∷ []) one))

adds_answers : (files : List AnsweringFile) (name : Option (List ℕ)) (g t : ℕ) (f : SentFacts) (c : Counts) (ks : List KeptAnswer)
    → Fits c → Adds c (counts_with_answers c ks) [] (answer_rows name g t f (map (answer_in files) ks))
adds_answers files name g t f c [] h = adds_row c (row_by name g t f None) h
adds_answers files name g t f c (k ∷ ks) h = adds_each files name g t f c (k ∷ ks) h

adds_transaction : (files : List AnsweringFile) (name : Option (List ℕ)) (g t : ℕ) (f : SentFacts) (c : Counts) (ks : List KeptFor)
    (answers : List Answer) → kept_answers files t ks ≡ answers → Fits c
    → Adds c (counts_with_one files ks c (t, f)) (f ∷ [])
    (cond (wants_answer f) (answer_rows name g t f (by_sender answers)) [])
adds_transaction files name g t f c ks answers e h = by (wants_answer f) refl
  where
    by : (b : Bool) → wants_answer f ≡ b
        → Adds c (cond b (counts_with_answers (record c { sent = one_more c.sent }) (sorted_to files t ks)) c) (f ∷ [])
        (cond b (answer_rows name g t f (by_sender answers)) [])
    by true w =
        let one : Adds c (record c { sent = one_more c.sent }) (f ∷ []) [] = adds_wanting c f w h in
        let same : map (answer_in files) (sorted_to files t ks) ≡ by_sender answers = sorted_same files t ks ∙ ap by_sender e in
        subst (λ (l : List Answer). Adds c (counts_with_answers (record c { sent = one_more c.sent }) (sorted_to files t ks)) (f ∷ [])
        (answer_rows name g t f l)) same
        (adds_then c (record c { sent = one_more c.sent }) _ (f ∷ []) [] [] _ one
        (adds_answers files name g t f (record c { sent = one_more c.sent }) (sorted_to files t ks)
        (fits_after c (record c { sent = one_more c.sent }) (f ∷ []) [] one)))
    by false w = adds_other c f w h

-- ---- groups

adds_group : (names : List (List ℕ)) (files : List AnsweringFile) (d : Delivered) (told : List Told) (i g : ℕ)
    (ks : List KeptFor) (t : ℕ) (fs : List SentFacts) (c : Counts)
    → ((u : ℕ) → t ≤ u → u < t + length fs → kept_answers files u ks ≡ counting_ones (answers_to d told i g u)) → Fits c
    → Adds c (fold (counts_with_one files ks) c (enumerate_from t fs)) fs
    (flat_map (λ (p : ℕ × SentFacts). transaction_rows d told names i g p.0 p.1) (enumerate_from t fs))
adds_group names files d told i g ks t [] c h fit = adds_none c fit
adds_group names files d told i g ks t (f ∷ fs) c h fit =
    let one : Adds c (counts_with_one files ks c (t, f)) (f ∷ []) (transaction_rows d told names i g t f)
    = adds_transaction files (slice_get names i) g t f c ks (counting_ones (answers_to d told i g t))
    (h t (omega arith) (omega arith)) fit in
    adds_then c (counts_with_one files ks c (t, f)) _ (f ∷ []) fs (transaction_rows d told names i g t f) _ one
    (adds_group names files d told i g ks (t + 1) fs (counts_with_one files ks c (t, f))
    (λ u lo hi. h u (omega (arith, lo)) (omega (arith, hi)))
    (fits_after c (counts_with_one files ks c (t, f)) (f ∷ []) (transaction_rows d told names i g t f) one))

adds_groups : (names : List (List ℕ)) (files : List AnsweringFile) (d : Delivered) (told : List Told) (i k n : ℕ)
    (gs : List GroupRows) (c : Counts) → n ≡ suc k
    → ((j : ℕ) (group : GroupRows) (t : ℕ) → slice_get gs j ≡ Some group → t < length group.facts
    → kept_answers files t group.answers ≡ counting_ones (answers_to d told i (suc (k + j)) t)) → Fits c
    → Adds c (fold (counts_with_group files) c gs) (flat_map (λ facts. facts) (map (λ (g : GroupRows). g.facts) gs))
    (flat_map (λ (p : ℕ × List SentFacts). group_rows d told names i p.0 p.1)
    (enumerate_from n (map (λ (g : GroupRows). g.facts) gs)))
adds_groups names files d told i k n [] c is h fit = adds_none c fit
adds_groups names files d told i k n (g ∷ gs) c is h fit =
    let one : Adds c (counts_with_group files c g) g.facts (group_rows d told names i n g.facts)
    = adds_group names files d told i n g.answers 0 g.facts c (λ u lo hi.
    h 0 g u refl (omega (arith, hi)) ∙ ap (λ (m : ℕ). counting_ones (answers_to d told i m u)) (omega (arith, is))) fit in
    adds_then c (counts_with_group files c g) _ g.facts _ (group_rows d told names i n g.facts) _ one
    (adds_groups names files d told i (suc k) (n + 1) gs (counts_with_group files c g) (omega (arith, is)) (λ j group t at within.
    h (suc j) group t at within
    ∙ ap (λ (m : ℕ). counting_ones (answers_to d told i m t)) (let e : suc (k + suc j) ≡ suc (suc k + j) = omega arith in e))
    (fits_after c (counts_with_group files c g) g.facts (group_rows d told names i n g.facts) one))

-- ---- transmissions

adds_sents : (names : List (List ℕ)) (files : List AnsweringFile) (d : Delivered) (told : List Told) (i : ℕ)
    (ss : List SentShown) (c : Counts)
    → ((j : ℕ) (s : SentShown) → slice_get ss j ≡ Some s → (g : ℕ) (group : GroupRows) (t : ℕ) → slice_get s.groups g ≡ Some group
    → t < length group.facts → kept_answers files t group.answers ≡ counting_ones (answers_to d told (i + j) (suc g) t)) → Fits c
    → Adds c (fold (counts_with_sent files) c ss) (wanting (map content_shown ss))
    (flat_map (λ (p : ℕ × SentContent). sent_rows d told names p.0 p.1) (enumerate_from i (map content_shown ss)))
adds_sents names files d told i [] c h fit = adds_none c fit
adds_sents names files d told i (s ∷ ss) c h fit =
    let facts : List SentFacts = flat_map (λ l. l) (content_shown s).groups in
    let one : Adds c (counts_with_sent files c s) facts (sent_rows d told names i (content_shown s))
    = adds_groups names files d told i 0 1 s.groups c refl (λ j group t at within.
    h 0 s refl j group t at within
    ∙ ap₂ (λ (m n : ℕ). counting_ones (answers_to d told m n t)) (let e : i + 0 ≡ i = omega arith in e)
    (let e : suc j ≡ suc (0 + j) = omega arith in e)) fit in
    adds_then c (counts_with_sent files c s) _ facts _ (sent_rows d told names i (content_shown s)) _ one
    (adds_sents names files d told (i + 1) ss (counts_with_sent files c s) (λ j t at g group u at2 within.
    h (suc j) t at g group u at2 within
    ∙ ap (λ (m : ℕ). counting_ones (answers_to d told m (suc g) u)) (let e : i + suc j ≡ i + 1 + j = omega arith in e))
    (fits_after c (counts_with_sent files c s) facts (sent_rows d told names i (content_shown s)) one))

-- ---- all of it

zero_fits : Fits no_counts
zero_fits = record { sent = omega arith; rows = none }
  where
    none : (x : State) → rows_in x no_counts ≤ most
    none state.Accepted = omega arith
    none state.Pending = omega arith
    none state.Rejected = omega arith
    none state.Conflict = omega arith
    none state.Duplicate = omega arith
    none state.ClaimRejected = omega arith
    none state.NoParticipation = omega arith
    none state.Unanswered = omega arith

from_zero : (a n m : ℕ) → a ≡ min (0 + n) m → a ≡ min n m
from_zero a n m e = omega arith

adds_all : (names : List (List ℕ)) (d : Delivered) (history : History) (h : Held) → Keeps d history h
    → Adds no_counts (counts_held h) (wanting d.sent) (rows_of d history.told names)
adds_all names d history h keeps =
    subst (λ (sent : List SentContent). Adds no_counts (counts_held h) (wanting sent)
    (flat_map (λ (p : ℕ × SentContent). sent_rows d history.told names p.0 p.1) (enumerate_from 0 sent)))
    (ap (λ (x : Delivered). x.sent) keeps.sent_is)
    (adds_sents names h.files d history.told 0 h.sent no_counts (λ j s at g group t at2 within.
    keeps.answers j g t group
    (ap (option_and_then (λ (x : SentShown). slice_get x.groups g)) at ∙ at2) within
    ∙ ap (λ (m : ℕ). counting_ones (answers_to d history.told m (suc g) t)) (let e : j ≡ 0 + j = omega arith in e)) zero_fits)

same_counts : (c d : Counts) → c.sent ≡ d.sent → ((x : State) → rows_in x c ≡ rows_in x d) → c ≡ d
same_counts c d e h =
    let e_accepted : c.accepted ≡ d.accepted = h state.Accepted in
    let e_pending : c.pending ≡ d.pending = h state.Pending in
    let e_rejected : c.rejected ≡ d.rejected = h state.Rejected in
    let e_conflict : c.conflict ≡ d.conflict = h state.Conflict in
    let e_duplicate : c.duplicate ≡ d.duplicate = h state.Duplicate in
    let e_claim_rejected : c.claim_rejected ≡ d.claim_rejected = h state.ClaimRejected in
    let e_no_participation : c.no_participation ≡ d.no_participation = h state.NoParticipation in
    let e_unanswered : c.unanswered ≡ d.unanswered = h state.Unanswered in
    ap (λ (n : ℕ). let r : Counts = record { sent = n; accepted = c.accepted; pending = c.pending; rejected = c.rejected; conflict = c.conflict; duplicate = c.duplicate; claim_rejected = c.claim_rejected; no_participation = c.no_participation; unanswered = c.unanswered } in r) e
    ∙ ap (λ (n : ℕ). let r : Counts = record { sent = d.sent; accepted = n; pending = c.pending; rejected = c.rejected; conflict = c.conflict; duplicate = c.duplicate; claim_rejected = c.claim_rejected; no_participation = c.no_participation; unanswered = c.unanswered } in r) e_accepted
    ∙ ap (λ (n : ℕ). let r : Counts = record { sent = d.sent; accepted = d.accepted; pending = n; rejected = c.rejected; conflict = c.conflict; duplicate = c.duplicate; claim_rejected = c.claim_rejected; no_participation = c.no_participation; unanswered = c.unanswered } in r) e_pending
    ∙ ap (λ (n : ℕ). let r : Counts = record { sent = d.sent; accepted = d.accepted; pending = d.pending; rejected = n; conflict = c.conflict; duplicate = c.duplicate; claim_rejected = c.claim_rejected; no_participation = c.no_participation; unanswered = c.unanswered } in r) e_rejected
    ∙ ap (λ (n : ℕ). let r : Counts = record { sent = d.sent; accepted = d.accepted; pending = d.pending; rejected = d.rejected; conflict = n; duplicate = c.duplicate; claim_rejected = c.claim_rejected; no_participation = c.no_participation; unanswered = c.unanswered } in r) e_conflict
    ∙ ap (λ (n : ℕ). let r : Counts = record { sent = d.sent; accepted = d.accepted; pending = d.pending; rejected = d.rejected; conflict = d.conflict; duplicate = n; claim_rejected = c.claim_rejected; no_participation = c.no_participation; unanswered = c.unanswered } in r) e_duplicate
    ∙ ap (λ (n : ℕ). let r : Counts = record { sent = d.sent; accepted = d.accepted; pending = d.pending; rejected = d.rejected; conflict = d.conflict; duplicate = d.duplicate; claim_rejected = n; no_participation = c.no_participation; unanswered = c.unanswered } in r) e_claim_rejected
    ∙ ap (λ (n : ℕ). let r : Counts = record { sent = d.sent; accepted = d.accepted; pending = d.pending; rejected = d.rejected; conflict = d.conflict; duplicate = d.duplicate; claim_rejected = d.claim_rejected; no_participation = n; unanswered = c.unanswered } in r) e_no_participation
    ∙ ap (λ (n : ℕ). let r : Counts = record { sent = d.sent; accepted = d.accepted; pending = d.pending; rejected = d.rejected; conflict = d.conflict; duplicate = d.duplicate; claim_rejected = d.claim_rejected; no_participation = d.no_participation; unanswered = n } in r) e_unanswered

-- of what stands for what was read
pub counts_kept : (names : List (List ℕ)) (d : Delivered) (history : History) (h : Held) → Keeps d history h
    → counts_held h ≡ counts_of d (rows_of d history.told names)
counts_kept names d history h keeps =
    same_counts (counts_held h) (counts_of d (rows_of d history.told names))
    (from_zero _ _ most (adds_all names d history h keeps).sent) (by (adds_all names d history h keeps))
  where
    by : Adds no_counts (counts_held h) (wanting d.sent) (rows_of d history.told names)
        → (x : State) → rows_in x (counts_held h) ≡ rows_in x (counts_of d (rows_of d history.told names))
    by p state.Accepted = from_zero _ _ most (p.rows state.Accepted)
    by p state.Pending = from_zero _ _ most (p.rows state.Pending)
    by p state.Rejected = from_zero _ _ most (p.rows state.Rejected)
    by p state.Conflict = from_zero _ _ most (p.rows state.Conflict)
    by p state.Duplicate = from_zero _ _ most (p.rows state.Duplicate)
    by p state.ClaimRejected = from_zero _ _ most (p.rows state.ClaimRejected)
    by p state.NoParticipation = from_zero _ _ most (p.rows state.NoParticipation)
    by p state.Unanswered = from_zero _ _ most (p.rows state.Unanswered)
