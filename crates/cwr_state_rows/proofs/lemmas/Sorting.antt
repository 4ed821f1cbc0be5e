-- Answers by their senders.
use Rattle.std.proofs.Common.{◌≡◌, ℕ, suc, Bool, true, false, cond, List, [], ◌∷◌, ◌++◌, map, fold, refl, ap, ◌∙◌}
use Rattle.std.specs.List.{insert}
use Rattle.std.proofs.lemmas.Grind.{fold-append}
use Rattle.cwr_sent.specs.declared.answers.AnsweringFile.{AnsweringFile}
use Rattle.cwr_sent.specs.declared.answers.KeptAnswer.{KeptAnswer}
use Rattle.cwr_sent.specs.Format.Answers.{Answer}
use Rattle.cwr_sent.specs.Format.GroupRows.{KeptFor, answer_in}
use Rattle.cwr_sent.specs.Steps.Links.{is_for, last_first, own_answer}
use Rattle.cwr_delivery.specs.Steps.Keeping.{kept_answers}
use Rattle.cwr_state_rows.specs.Format.StateRows.{by_sender, inserted}
use Rattle.cwr_state_rows.specs.Steps.HeldRows.{inserted_kept, kept_before, place_of, sorted_to}

-- one that is put in stands where it is inserted
pub inserted_same : (files : List AnsweringFile) (new : KeptAnswer) (ks : List KeptAnswer)
    → map (answer_in files) (inserted_kept files ks new) ≡ inserted (answer_in files new) (map (answer_in files) ks)
inserted_same files new [] = refl
inserted_same files new (k ∷ ks) = by (kept_before files new k) (inserted_same files new ks)
  where
    by : (b : Bool)
        → map (answer_in files) (inserted_kept files ks new) ≡ inserted (answer_in files new) (map (answer_in files) ks)
        → map (answer_in files) (insert (k ∷ ks) (cond b 0 (suc (place_of files new ks))) new)
        ≡ cond b (answer_in files new ∷ answer_in files k ∷ map (answer_in files) ks)
        (answer_in files k ∷ inserted (answer_in files new) (map (answer_in files) ks))
    by true e = refl
    by false e = ap (λ (l : List Answer). answer_in files k ∷ l) e

-- those of one transaction, the last one first, are sorted as all that are kept for it
pub sorted_same : (files : List AnsweringFile) (t : ℕ) (ks : List KeptFor)
    → map (answer_in files) (sorted_to files t ks) ≡ by_sender (kept_answers files t ks)
sorted_same files t [] = refl
sorted_same files t (k ∷ ks) =
    ap (map (answer_in files)) (fold-append (inserted_kept files) [] (last_first t ks) (own_answer t k)) ∙ by (is_for t k) (sorted_same files t ks)
  where
    by : (b : Bool) → map (answer_in files) (sorted_to files t ks) ≡ by_sender (kept_answers files t ks)
        → map (answer_in files) (fold (inserted_kept files) (sorted_to files t ks) (cond b (k.answer ∷ []) []))
        ≡ by_sender (cond b (answer_in files k.answer ∷ []) [] ++ kept_answers files t ks)
    by true e =
        inserted_same files k.answer (sorted_to files t ks) ∙ ap (inserted (answer_in files k.answer)) e
    by false e = e
