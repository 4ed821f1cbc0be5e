-- What the laws say.
use Rattle.std.specs.Prelude.{◌≡◌, ℕ, ◌≤◌, ◌≢◌, Bool, true, false, List, [], ◌∷◌, Option, Some, None, count_by, fold, slice_get}
use Rattle.std.specs.List.{All, AllPairs, Contains}
use Rattle.std.specs.List.Sorted.{IsPermutation}
use Rattle.std.specs.Str.{bytes_eq}
use Rattle.cwr_values.specs.declared.items.Item.{Item}
use Rattle.cwr_values.specs.declared.items.Item.TheVariants.{Opened}
use Rattle.cwr_sent.specs.declared.facts.SentFacts.{SentFacts}
use Rattle.cwr_sent.specs.Format.Answers.{Answer, counting_ones, same_sender}
use Rattle.cwr_delivery.specs.Format.Answering.{wants_answer}
use Rattle.cwr_delivery.specs.Format.Laws.{IsCounted}
use Rattle.cwr_delivery.specs.Format.Told.{Delivered, Told, answers_to, no_history, read_after}
use Rattle.cwr_state_rows.specs.Format.StateRows.{Row, rows_of, transaction_rows}

-- ---- a row for each sender that answers, or one

-- there is an answer by that sender
abbrev pub is_by : List ℕ → Option Answer → Bool
is_by sender None = false
is_by sender (Some a) = bytes_eq a.sender sender

-- a row of an answer that counts, by the sender of x
pub record IsRowFor (answers : List Answer) (rows : List Row) (x : Answer) : Type 0 where
  pub row : Row
  pub there : Contains rows row
  pub by : Answer
  pub answer : row.answer ≡ Some by
  pub counted : IsCounted answers x by

-- The rows of a transaction with these answers: for each answer that was read there is a row, in which the one stands that counts of
-- its sender's. A sender has one row, no answer stands there that doesn't count, and there is just one row where nobody answers.
pub record HasRowsFor (answers : List Answer) (rows : List Row) : Type 0 where
  pub each : (x : Answer) → Contains answers x → IsRowFor answers rows x
  pub one : (sender : List ℕ) → count_by (λ row. is_by sender row.answer) rows ≤ 1
  pub counting : (row : Row) (y : Answer) → Contains rows row → row.answer ≡ Some y → Contains (counting_ones answers) y
  pub blank : answers ≡ [] → (row : Row) × (rows ≡ row ∷ []) × (row.answer ≡ None)
  pub answered : (row : Row) → Contains rows row → row.answer ≡ None → answers ≡ []

-- so it is of each transaction that wants an answer, and its rows say which one it is
pub record HasItsRows (delivered : Delivered) (told : List Told) (names : List (List ℕ)) (i g t : ℕ) (f : SentFacts) : Type 0 where
  pub rows : HasRowsFor (answers_to delivered told i g t) (transaction_rows delivered told names i g t f)
  pub named : (row : Row) → Contains (transaction_rows delivered told names i g t f) row → row.sent ≡ slice_get names i
  pub group : (row : Row) → Contains (transaction_rows delivered told names i g t f) row → row.group ≡ g
  pub transaction : (row : Row) → Contains (transaction_rows delivered told names i g t f) row → row.transaction ≡ t
  pub facts : (row : Row) → Contains (transaction_rows delivered told names i g t f) row → row.facts ≡ f

abbrev pub EachHasItsRows : Type 0
EachHasItsRows = (delivered : Delivered) (told : List Told) (names : List (List ℕ)) (i g t : ℕ) (f : SentFacts)
    → wants_answer f ≡ true → HasItsRows delivered told names i g t f

-- ---- in any order

-- no two answers by one sender to one transaction were processed on one day
abbrev pub HaveOwnDays : Delivered → List Told → Type 0
HaveOwnDays delivered told = (i g t : ℕ)
    → AllPairs (λ x y. same_sender x y ≡ true → x.processed ≢ y.processed) (answers_to delivered told i g t)

-- the table doesn't hang on the order in which the acknowledgements were read
abbrev pub AnyOrderHasTheRows : Type 0
AnyOrderHasTheRows = (delivered : Delivered) (told other : List Told) (names : List (List ℕ)) → IsPermutation told other
    → HaveOwnDays delivered told → rows_of delivered told names ≡ rows_of delivered other names

-- the acknowledgements in the items of files that were read one after another
abbrev pub told_in : List (List Item) → List Told
told_in files = (fold read_after no_history files).told

-- HDR comes first, where anything does
abbrev pub BeginsOpened : List Item → Type 0
BeginsOpened [] = Unit {0}
BeginsOpened (Opened r ∷ rest) = Unit {0}
BeginsOpened (item ∷ rest) = ⊥

-- so it doesn't hang on the order of the files
abbrev pub AnyOrderOfFilesHasTheRows : Type 0
AnyOrderOfFilesHasTheRows = (delivered : Delivered) (files other : List (List Item)) (names : List (List ℕ))
    → IsPermutation files other → All BeginsOpened files → HaveOwnDays delivered (told_in files)
    → rows_of delivered (told_in files) names ≡ rows_of delivered (told_in other) names
