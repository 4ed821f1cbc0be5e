-- What is kept stands for what was read: at the start, after an HDR record, and after an acknowledgement.
use Rattle.std.proofs.Common.{◌≡◌, ℕ, suc, ◌+◌, ◌-◌, ◌<◌, Bool, true, false, cond, List, [], ◌∷◌, ◌++◌, length, Option, Some, refl, sym, ap, ap₂, ◌∙◌, arith, subst, inl, inr}
use Rattle.std.specs.Prelude.{◌&&◌, ◌==◌, map, option_map, slice_get, slice_set, unwrap_or}
use Rattle.std.specs.List.{list_any}
use Rattle.std.proofs.lemmas.Bool.{eq-eqb, eqb-true, lt-ltb, ne_eqb}
use Rattle.cwr_lines.specs.Format.Records.{RecordValue}
use Rattle.cwr_sent.specs.declared.answers.AnsweringFile.{AnsweringFile}
use Rattle.cwr_sent.specs.declared.answers.KeptAnswer.{KeptAnswer}
use Rattle.cwr_sent.specs.declared.facts.SentFacts.{SentFacts}
use Rattle.cwr_sent.specs.Format.Answers.{counting_ones, with_answer}
use Rattle.cwr_sent.specs.Format.GroupRows.{GroupRows, KeptFor, answer_in, file_by, fresh, no_file}
use Rattle.cwr_sent.specs.Format.SentFacts.{SentContent}
use Rattle.cwr_sent.specs.Format.SentRows.{IsFreshShown, SentShown, content_shown}
use Rattle.cwr_sent.specs.Steps.Links.{is_for, is_same, with_kept}
use Rattle.cwr_sent.specs.Steps.SentTables.{is_again_in}
use Rattle.cwr_delivery.specs.declared.deliveries.Tally.{Tally}
use Rattle.cwr_delivery.specs.declared.outcomes.Outcome.{Outcome}
use Rattle.cwr_delivery.specs.declared.outcomes.Outcome.TheVariants as outcomes
use Rattle.cwr_delivery.specs.Format.Acknowledgements.{is_ack}
use Rattle.cwr_delivery.specs.Format.Answering.{group_of, sequence_of}
use Rattle.cwr_delivery.specs.Format.Told.{Delivered, History, Told, answer_of, answers_to, is_again, is_answered, is_in, is_retitled, is_unkeyed, no_history, notes_on, outcome_in, told_with}
use Rattle.cwr_delivery.specs.Steps.Deliveries.{Held, again_for, again_in, kept_for, kept_of, last_file, nothing_held, notes_held, outcome_held, taken_with, tally_with}
use Rattle.cwr_delivery.specs.Steps.Keeping.{Keeps, group_at, kept_answers, tally_of}
use Rattle.cwr_delivery.proofs.lemmas.ChangedGroups.{GroupNamed, changed_at, is_there, made_of, named_there, same_content, there_at, with_answers, with_group}
use Rattle.cwr_delivery.proofs.lemmas.CountingOnes.{has_one, has_same, one_counts, same_counting}
use Rattle.cwr_delivery.proofs.lemmas.FoundPlaces.{answers_stands, standing_named}
use Rattle.cwr_delivery.proofs.lemmas.KeptAnswers.{below_with, kept_there, kept_with, kept_without, one_kept, same_kept}
use Rattle.cwr_delivery.proofs.lemmas.ToldMore.{counting_with, elsewhere, just_there, one_answered, tally_more}

-- ---- the answer and the outcome

abbrev told_of : History → RecordValue → List RecordValue → Told
told_of history a records = record { opening = history.opening; head = a; records = records }

abbrev and_told : History → Told → History
and_told history s = record history { told = history.told ++ s ∷ [] }

-- what is kept of it is what it says
same_answer : (d : Delivered) (history : History) (h : Held) (a : RecordValue) (records : List RecordValue) → Keeps d history h
    → answer_in h.files (kept_of h.files a records) ≡ answer_of (told_of history a records)
same_answer d history h a records keeps =
    let k : KeptAnswer = kept_of h.files a records in
    ap (λ (f : AnsweringFile). record {
      sender = f.sender;
      created = f.created;
      processed = k.processed;
      status = k.status;
      level = k.level;
      recipient = k.recipient;
    }) keeps.current

same_outcome : (d : Delivered) (history : History) (h : Held) (a : RecordValue) → Keeps d history h
    → outcome_held h a ≡ outcome_in d a
same_outcome d history h a keeps = ap (λ (x : Delivered). outcome_in x a) keeps.sent_is

same_tally : (d : Delivered) (history : History) (h : Held) (a : RecordValue) (records : List RecordValue) (o : Outcome)
    → outcome_held h a ≡ o → Keeps d history h
    → tally_with h.tally (is_unkeyed h.by_place a) o ≡ tally_of d (history.told ++ told_of history a records ∷ [])
same_tally d history h a records o is keeps =
    ap (tally_with h.tally (is_unkeyed h.by_place a)) (sym is)
    ∙ ap (λ (x : Delivered). tally_with h.tally (is_unkeyed x.by_place a) (outcome_in x a)) keeps.sent_is
    ∙ ap (λ (x : Tally). tally_with x (is_unkeyed d.by_place a) (outcome_in d a)) keeps.counted
    ∙ tally_more d history.told (told_of history a records)

-- the group of the transaction that it answers is there
named : (h : Held) (a : RecordValue) (i : ℕ) (f : SentFacts) → outcome_held h a ≡ outcomes.Answers i f → GroupNamed h.sent a i
named h a i f is =
    let s = (answers_stands h.by_place (map content_shown h.sent) a i f is).agrees.stands in
    named_there h.sent a i f s.content s.there (standing_named h.by_place s.content a f s.stands)

-- ---- an acknowledgement that answers nothing

told_nothing : (d : Delivered) (history : History) (h : Held) (a : RecordValue) (records : List RecordValue) (o : Outcome)
    → outcome_held h a ≡ o → ((j : ℕ) → is_in j o ≡ false) → Keeps d history h
    → Keeps d (and_told history (told_of history a records))
    (record h { tally = tally_with h.tally (is_unkeyed h.by_place a) o })
told_nothing d history h a records o is none keeps =
    let s : Told = told_of history a records in
    let out : outcome_in d a ≡ o = sym (same_outcome d history h a keeps) ∙ is in
    record {
      sent_is = keeps.sent_is;
      some = keeps.some;
      current = keeps.current;
      known = keeps.known;
      answers = λ i g t group at within.
          keeps.answers i g t group at within
          ∙ sym (counting_with d history.told s i (suc g) t false
          (elsewhere d i (suc g) t a o out (λ x y z. let no_one = none i in cc)));
      counted = same_tally d history h a records o is keeps;
    }

-- ---- one that answers a transaction

-- the answers to transaction u of its group
own_group : (d : Delivered) (history : History) (h : Held) (a : RecordValue) (records : List RecordValue) (i : ℕ) (f : SentFacts)
    → outcome_held h a ≡ outcomes.Answers i f → Keeps d history h → (n : GroupNamed h.sent a i) → (u : ℕ) (b : Bool)
    → (u == sequence_of a) ≡ b → u < length n.group.facts
    → kept_answers h.files u (with_kept h.files (sequence_of a) (kept_of h.files a records) n.group.answers)
    ≡ counting_ones (answers_to d (history.told ++ told_of history a records ∷ []) i (suc (group_of a - 1)) u)
own_group d history h a records i f is keeps n u true same within =
    let s : Told = told_of history a records in
    let k : KeptAnswer = kept_of h.files a records in
    let t : ℕ = sequence_of a in
    let g : ℕ = group_of a - 1 in
    let e : u ≡ t = eqb-true u t same in
    let out : outcome_in d a ≡ outcomes.Answers i f = sym (same_outcome d history h a keeps) ∙ is in
    let at = there_at h.sent i g n.group n.there.shown n.there.there n.there.group_there in
    ap (λ (m : ℕ). kept_answers h.files m (with_kept h.files t k n.group.answers)) e
    ∙ kept_with h.files t k n.group.answers
    ∙ ap₂ with_answer (ap (λ (m : ℕ). kept_answers h.files m n.group.answers) (sym e) ∙ keeps.answers i g u n.group at within)
    (same_answer d history h a records keeps)
    ∙ sym (counting_with d history.told s i (suc g) u true
    (just_there d i (suc g) u a (outcomes.Answers i f) out (eq-eqb i i refl)
    (eq-eqb (suc g) (group_of a) (omega (arith, n.some))) same))
own_group d history h a records i f is keeps n u false apart within =
    let s : Told = told_of history a records in
    let k : KeptAnswer = kept_of h.files a records in
    let t : ℕ = sequence_of a in
    let g : ℕ = group_of a - 1 in
    let out : outcome_in d a ≡ outcomes.Answers i f = sym (same_outcome d history h a keeps) ∙ is in
    let at = there_at h.sent i g n.group n.there.shown n.there.there n.there.group_there in
    let other : (t == u) ≡ false = ne_eqb t u (λ e. let same = eq-eqb u t (sym e) in cc) in
    kept_without h.files t u k n.group.answers other ∙ keeps.answers i g u n.group at within
    ∙ sym (counting_with d history.told s i (suc g) u false
    (elsewhere d i (suc g) u a (outcomes.Answers i f) out (λ x y z. cc)))

told_there : (d : Delivered) (history : History) (h : Held) (a : RecordValue) (records : List RecordValue) (i : ℕ) (f : SentFacts)
    → outcome_held h a ≡ outcomes.Answers i f → Keeps d history h → (n : GroupNamed h.sent a i)
    → Keeps d (and_told history (told_of history a records)) (record h {
      sent = slice_set h.sent i (with_group n.there.shown (group_of a - 1) (record (n.group) {
        answers = with_kept h.files (sequence_of a) (kept_of h.files a records) n.group.answers;
      }));
      tally = tally_with h.tally (is_unkeyed h.by_place a) (outcomes.Answers i f);
    })
told_there d history h a records i f is keeps n =
    let s : Told = told_of history a records in
    let k : KeptAnswer = kept_of h.files a records in
    let t : ℕ = sequence_of a in
    let g : ℕ = group_of a - 1 in
    let shown : SentShown = n.there.shown in
    let group : GroupRows = n.group in
    let new : GroupRows = record group { answers = with_kept h.files t k group.answers } in
    let out : outcome_in d a ≡ outcomes.Answers i f = sym (same_outcome d history h a keeps) ∙ is in
    let at = there_at h.sent i g group shown n.there.there n.there.group_there in
    record {
      sent_is = ap (λ (l : List SentContent). record { by_place = h.by_place; sent = l })
          (same_content h.sent i g shown new group n.there.there n.there.group_there refl)
          ∙ keeps.sent_is;
      some = keeps.some;
      current = keeps.current;
      known = λ j m x there l kept e. elim (changed_at h.sent i g j m shown new x n.there.there there) [
        | inl old ↦ keeps.known j m x old.0 l kept e
        | inr one ↦
            below_with (length h.files) h.files t k group.answers (omega (arith, keeps.some)) (keeps.known i g group at) l kept
            (ap (λ (y : GroupRows). slice_get y.answers l) one.2 ∙ e)
      ];
      answers = λ j m u x there within. elim (changed_at h.sent i g j m shown new x n.there.there there) [
        | inl old ↦
            keeps.answers j m u x old.0 within
            ∙ sym (counting_with d history.told s j (suc m) u false
            (elsewhere d j (suc m) u a (outcomes.Answers i f) out (λ p q r.
            let same : i ≡ j = sym (eqb-true j i p) in
            let e = eqb-true (suc m) (group_of a) q in
            old.1 same (omega (arith, e, n.some)))))
        | inr one ↦
            let w = ap (λ (y : GroupRows). length y.facts) one.2 in
            ap (λ (y : GroupRows). kept_answers h.files u y.answers) (sym one.2)
            ∙ own_group d history h a records i f is keeps n u (u == t) refl (omega (arith, w, within))
            ∙ ap₂ (λ (p q : ℕ). counting_ones (answers_to d (history.told ++ s ∷ []) p (suc q) u)) one.0 one.1
      ];
      counted = same_tally d history h a records (outcomes.Answers i f) is keeps;
    }

-- ---- an acknowledgement more

abbrev taken_by : Held → RecordValue → List RecordValue → Outcome → Held
taken_by h a records o =
    record h { sent = kept_for h o a records; tally = tally_with h.tally (is_unkeyed h.by_place a) o }

told_by : (d : Delivered) (history : History) (h : Held) (a : RecordValue) (records : List RecordValue) (o : Outcome)
    → outcome_held h a ≡ o → Keeps d history h
    → Keeps d (and_told history (told_of history a records)) (taken_by h a records o)
told_by d history h a records (outcomes.Answers i f) is keeps =
    let n = named h a i f is in
    subst (λ (l : List SentShown). Keeps d (and_told history (told_of history a records)) (record h {
      sent = l;
      tally = tally_with h.tally (is_unkeyed h.by_place a) (outcomes.Answers i f);
    }))
    (sym (with_answers h.sent h.files i (group_of a - 1) (sequence_of a) (kept_of h.files a records) n.group n.there n.within))
    (told_there d history h a records i f is keeps n)
told_by d history h a records outcomes.Unsent is keeps =
    told_nothing d history h a records outcomes.Unsent is (λ j. refl) keeps
told_by d history h a records outcomes.Unclear is keeps =
    told_nothing d history h a records outcomes.Unclear is (λ j. refl) keeps
told_by d history h a records (outcomes.Retyped k) is keeps =
    told_nothing d history h a records (outcomes.Retyped k) is (λ j. refl) keeps
told_by d history h a records (outcomes.Renumbered number) is keeps =
    told_nothing d history h a records (outcomes.Renumbered number) is (λ j. refl) keeps

pub keeps_told : (d : Delivered) (history : History) (h : Held) (a : RecordValue) (rest : List RecordValue) → is_ack a ≡ true
    → Keeps d history h → Keeps d (told_with history (a ∷ rest)) (taken_with h a (a ∷ rest))
keeps_told d history h a rest ack keeps =
    subst (λ (b : Bool). Keeps d (cond b (and_told history (told_of history a (a ∷ rest))) history) (taken_with h a (a ∷ rest)))
    (sym ack) (told_by d history h a (a ∷ rest) (outcome_held h a) refl keeps)

-- ---- what is told of it

same_again : (d : Delivered) (history : History) (h : Held) (a : RecordValue) (records : List RecordValue) (o : Outcome)
    → outcome_held h a ≡ o → Keeps d history h
    → again_for h o a records ≡ is_again d history.told o (told_of history a records)
same_again d history h a records (outcomes.Answers i f) is keeps =
    let s : Told = told_of history a records in
    let k : KeptAnswer = kept_of h.files a records in
    let t : ℕ = sequence_of a in
    let g : ℕ = group_of a - 1 in
    let n = named h a i f is in
    let at = there_at h.sent i g n.group n.there.shown n.there.there n.there.group_there in
    let up : suc g ≡ group_of a = omega (arith, n.some) in
    ap (again_in h.files g t k) n.there.there
    ∙ ap (λ (x : Option GroupRows). unwrap_or (option_map (is_again_in h.files t k) x) false) n.there.group_there
    ∙ ap (λ (b : Bool). b && list_any (is_same h.files t k) n.group.answers) (lt-ltb t (length n.group.facts) n.within)
    ∙ same_kept h.files t k n.group.answers
    ∙ ap₂ has_same (same_answer d history h a records keeps) (keeps.answers i g t n.group at n.within)
    ∙ same_counting (answer_of s) (answers_to d history.told i (suc g) t)
    ∙ ap (λ (m : ℕ). has_same (answer_of s) (answers_to d history.told i m t)) up
same_again d history h a records outcomes.Unsent is keeps = refl
same_again d history h a records outcomes.Unclear is keeps = refl
same_again d history h a records (outcomes.Retyped k) is keeps = refl
same_again d history h a records (outcomes.Renumbered number) is keeps = refl

pub notes_told : (d : Delivered) (history : History) (h : Held) (a : RecordValue) (rest : List RecordValue) → is_ack a ≡ true
    → Keeps d history h
    → notes_held h a (a ∷ rest) ≡ notes_on d history.told (record { opening = history.opening; head = a; records = a ∷ rest })
notes_told d history h a rest ack keeps =
    let out = same_outcome d history h a keeps in
    let unkeyed = ap (λ (x : Delivered). is_unkeyed x.by_place a) keeps.sent_is in
    let retitled = ap (λ (o : Outcome). is_retitled o a) out in
    let again = same_again d history h a (a ∷ rest) (outcome_held h a) refl keeps
    ∙ ap (λ (o : Outcome). is_again d history.told o (told_of history a (a ∷ rest))) out in
    λ z. record { unkeyed = unkeyed z; outcome = out z; retitled = retitled z; again = again z }

-- ---- an HDR record more

last_of : (files : List AnsweringFile) (f : AnsweringFile) → slice_get (files ++ f ∷ []) (length files) ≡ Some f
last_of [] f = refl
last_of (x ∷ files) f = last_of files f

longer : (files : List AnsweringFile) (f : AnsweringFile) → length (files ++ f ∷ []) ≡ length files + 1
longer [] f = refl
longer (x ∷ files) f = let e = longer files f in omega (arith, e)

last_added : (files : List AnsweringFile) (f : AnsweringFile) → last_file (files ++ f ∷ []) ≡ f
last_added files f =
    let e = longer files f in
    let n : length (files ++ f ∷ []) - 1 ≡ length files = omega (arith, e) in
    ap (λ (m : ℕ). unwrap_or (slice_get (files ++ f ∷ []) m) no_file) n
    ∙ ap (λ (o : Option AnsweringFile). unwrap_or o no_file) (last_of files f)

pub keeps_opened : (d : Delivered) (history : History) (h : Held) (r : RecordValue) → Keeps d history h
    → Keeps d (record history { opening = r }) (record h { files = h.files ++ file_by r ∷ [] })
keeps_opened d history h r keeps =
    let n = longer h.files (file_by r) in
    record {
      sent_is = keeps.sent_is;
      some = omega (arith, n);
      current = last_added h.files (file_by r);
      known = λ i g group at j k is. let b = keeps.known i g group at j k is in omega (arith, n, b);
      answers = λ i g t group at within.
          kept_there h.files (file_by r) t group.answers (keeps.known i g group at) ∙ keeps.answers i g t group at within;
      counted = keeps.counted;
    }

-- ---- nothing so far

none_kept : (sent : List SentShown) → ((i : ℕ) (s : SentShown) → slice_get sent i ≡ Some s → IsFreshShown s) → (i g : ℕ)
    → (group : GroupRows) → group_at sent i g ≡ Some group → group.answers ≡ []
none_kept sent all i g group at =
    let there = is_there sent i g group at in
    let made = made_of fresh (content_shown there.shown).groups g group
    (ap (λ (l : List GroupRows). slice_get l g) (sym (all i there.shown there.there)) ∙ there.group_there) in
    ap (λ (x : GroupRows). x.answers) (sym made.2)

pub keeps_nothing : (by_place : Bool) (sent : List SentShown)
    → ((i : ℕ) (s : SentShown) → slice_get sent i ≡ Some s → IsFreshShown s)
    → Keeps (record { by_place = by_place; sent = map content_shown sent }) no_history
    (record (nothing_held by_place) { sent = sent })
keeps_nothing by_place sent all = record {
  sent_is = refl;
  some = omega arith;
  current = refl;
  known = λ i g group at j k is.
      let e : slice_get [] j ≡ Some k = ap (λ (l : List KeptFor). slice_get l j) (sym (none_kept sent all i g group at)) ∙ is in
      absurd (cc e);
  answers = λ i g t group at within. ap (kept_answers (no_file ∷ []) t) (none_kept sent all i g group at);
  counted = refl;
}

-- ---- whether a transaction is answered

pub answered_kept : (d : Delivered) (history : History) (h : Held) (i g t : ℕ) (group : GroupRows) → Keeps d history h
    → group_at h.sent i g ≡ Some group → t < length group.facts
    → list_any (is_for t) group.answers ≡ is_answered d history.told i (suc g) t
answered_kept d history h i g t group keeps at within =
    one_kept h.files t group.answers ∙ ap has_one (keeps.answers i g t group at within)
    ∙ one_counts (answers_to d history.told i (suc g) t) ∙ one_answered d history.told i (suc g) t
