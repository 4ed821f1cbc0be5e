-- How what is kept stands for what was read.
use Rattle.std.specs.Prelude.{◌≡◌, ℕ, suc, ◌<◌, min, List, [], ◌∷◌, count_by, length, Option, Some, slice_get, if◌then◌else◌}
use Rattle.std.specs.List.{flat_map}
use Rattle.std.specs.Option.{option_and_then}
use Rattle.cwr_sent.specs.declared.answers.AnsweringFile.{AnsweringFile}
use Rattle.cwr_sent.specs.Format.Answers.{Answer, counting_ones}
use Rattle.cwr_sent.specs.Format.GroupRows.{GroupRows, KeptFor, answer_in, file_by}
use Rattle.cwr_sent.specs.Format.SentRows.{SentShown}
use Rattle.cwr_sent.specs.Steps.Links.{is_for}
use Rattle.cwr_delivery.specs.declared.deliveries.Tally.{Tally}
use Rattle.cwr_delivery.specs.Format.Told.{Delivered, History, Told, answers_to, is_unkeyed, outcome_in}
use Rattle.cwr_delivery.specs.Steps.Deliveries.{Held, delivered_in, is_unclear, is_unsent, last_file, most}

-- the answers to transaction t that are kept of a group
abbrev pub kept_answers : List AnsweringFile → ℕ → List KeptFor → List Answer
kept_answers files t ks = flat_map (λ k. if is_for t k then answer_in files k.answer ∷ [] else []) ks

-- group g, from 0, of transmission i, from 0
abbrev pub group_at : List SentShown → ℕ → ℕ → Option GroupRows
group_at sent i g = option_and_then (λ s. slice_get s.groups g) (slice_get sent i)

-- the counts of what was told
abbrev pub tally_of : Delivered → List Told → Tally
tally_of delivered told = record {
  unsent = min (count_by (λ s. is_unsent (outcome_in delivered s.head)) told) most;
  unclear = min (count_by (λ s. is_unclear (outcome_in delivered s.head)) told) most;
  unkeyed = min (count_by (λ s. is_unkeyed delivered.by_place s.head) told) most;
}

-- of each transaction just the answers are kept that count
pub record Keeps (delivered : Delivered) (history : History) (h : Held) : Type 0 where
  pub sent_is : delivered_in h ≡ delivered
  pub some : 0 < length h.files
  pub current : last_file h.files ≡ file_by history.opening
  pub known : (i g : ℕ) (group : GroupRows) → group_at h.sent i g ≡ Some group → (j : ℕ) (k : KeptFor)
      → slice_get group.answers j ≡ Some k → k.answer.file < length h.files
  pub answers : (i g t : ℕ) (group : GroupRows) → group_at h.sent i g ≡ Some group → t < length group.facts
      → kept_answers h.files t group.answers ≡ counting_ones (answers_to delivered history.told i (suc g) t)
  pub counted : h.tally ≡ tally_of delivered history.told
