-- What the laws say.
use Rattle.std.specs.Prelude.{◌≡◌, ◌↔◌, ℕ, ◌≢◌, Bool, true, false, List}
use Rattle.std.specs.List.{AllPairs, Contains}
use Rattle.std.specs.List.Sorted.{IsPermutation}
use Rattle.cwr_lines.specs.Format.Records.{RecordValue}
use Rattle.cwr_sent.specs.declared.facts.SentFacts.{SentFacts}
use Rattle.cwr_sent.specs.Format.Answers.{Answer, counting_ones, counts_over, same_sender}
use Rattle.cwr_sent.specs.Format.SentFacts.{SentContent}
use Rattle.cwr_delivery.specs.declared.outcomes.Outcome.{Outcome}
use Rattle.cwr_delivery.specs.declared.outcomes.Outcome.TheVariants as outcomes
use Rattle.cwr_delivery.specs.Format.Answering.{AnswersIn, outcome_of}

-- ---- which transaction is answered

-- an acknowledgement answers the transaction with which alone it agrees
abbrev pub AgreeingIsAnswered : Type 0
AgreeingIsAnswered = (by_place : Bool) (sent : List SentContent) (a : RecordValue) (i : ℕ) (f : SentFacts)
    → AnswersIn by_place sent a i f → outcome_of by_place sent a ≡ outcomes.Answers i f

-- and no other
abbrev pub AnsweredAgrees : Type 0
AnsweredAgrees = (by_place : Bool) (sent : List SentContent) (a : RecordValue) (i : ℕ) (f : SentFacts)
    → outcome_of by_place sent a ≡ outcomes.Answers i f → AnswersIn by_place sent a i f

-- there is no one transaction, it isn't clear which one, or the one at the place differs
abbrev pub is_no_answer : Outcome → Bool
is_no_answer (outcomes.Answers i f) = false
is_no_answer outcome = true

-- where nothing is answered, there is no transaction with which alone it agrees
abbrev pub OthersAnswerNone : Type 0
OthersAnswerNone = (by_place : Bool) (sent : List SentContent) (a : RecordValue)
    → is_no_answer (outcome_of by_place sent a) ≡ true → (i : ℕ) (f : SentFacts) → AnswersIn by_place sent a i f → ⊥

-- ---- which answers count

-- an answer that counts is one of those that were read
abbrev pub CountingWereRead : Type 0
CountingWereRead = (answers : List Answer) (y : Answer) → Contains (counting_ones answers) y → Contains answers y

-- two that count come from two senders
abbrev pub OneOfEachSender : Type 0
OneOfEachSender = (answers : List Answer) → AllPairs (λ x y. same_sender x y ≡ false) (counting_ones answers)

-- y counts, by the sender of x, and over x
pub record IsCounted (answers : List Answer) (x y : Answer) : Type 0 where
  pub counts : Contains (counting_ones answers) y
  pub same : same_sender x y ≡ true
  pub over : counts_over x y ≡ true

-- for each that was read one counts
abbrev pub EachIsCounted : Type 0
EachIsCounted = (answers : List Answer) (x : Answer) → Contains answers x → (y : Answer) × IsCounted answers x y

-- Which of them count doesn't hang on the order in which they were read, where of two by one sender just one counts over the other.
abbrev pub AnyOrderCounts : Type 0
AnyOrderCounts = (xs ys : List Answer) → IsPermutation xs ys
    → AllPairs (λ x y. same_sender x y ≡ true → counts_over x y ≢ counts_over y x) xs
    → (x : Answer) → Contains (counting_ones xs) x ↔ Contains (counting_ones ys) x

-- So it is where no two by one sender were processed on one day.
abbrev pub AnyOrderOfDaysCounts : Type 0
AnyOrderOfDaysCounts = (xs ys : List Answer) → IsPermutation xs ys
    → AllPairs (λ x y. same_sender x y ≡ true → x.processed ≢ y.processed) xs
    → (x : Answer) → Contains (counting_ones xs) x ↔ Contains (counting_ones ys) x
