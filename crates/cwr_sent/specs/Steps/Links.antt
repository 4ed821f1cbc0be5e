-- The answers of a group in the order in which they came. Each leads to the one before it to the same transaction, and from a transaction the last one to
-- it is found.
use Rattle.std.specs.Prelude.{◌≡◌, ℕ, zero, suc, ◌<◌, Bool, ◌&&◌, ◌==◌, List, [], ◌∷◌, ◌++◌, length, map, Some, slice_get, take}
use Rattle.std.specs.Prelude.{if◌then◌else◌}
use Rattle.std.specs.List.{list_any}
use Rattle.cwr_sent.specs.declared.answers.AnsweringFile.{AnsweringFile}
use Rattle.cwr_sent.specs.declared.answers.KeptAnswer.{KeptAnswer}
use Rattle.cwr_sent.specs.declared.groups.Entry.{Entry}
use Rattle.cwr_sent.specs.declared.links.Link.{Link}
use Rattle.cwr_sent.specs.Format.Answers.{counts_over, same_sender}
use Rattle.cwr_sent.specs.Format.GroupRows.{GroupRows, KeptFor, answer_in}

-- ---- links

-- one more than the place of the last link of that transaction, and 0 where there is none: by that of the links after the first, and whether the first is one
abbrev pub place_after : ℕ → Bool → ℕ
place_after zero first = if first then 1 else 0
place_after (suc place) first = suc (suc place)

abbrev pub last_place : List Link → ℕ → ℕ
last_place [] t = 0
last_place (l ∷ ls) t = place_after (last_place ls t) (l.transaction == t)

-- each link leads to the one before it of its transaction
abbrev pub LeadBack : List Link → Type 0
LeadBack links = (j : ℕ) (l : Link) → slice_get links j ≡ Some l → l.before ≡ last_place (take j links) l.transaction

-- and each transaction to its last one
pub record AreLinked (entries : List Entry) (links : List Link) : Type 0 where
  pub last : (t : ℕ) (e : Entry) → slice_get entries t ≡ Some e → e.last ≡ last_place links t
  pub before : LeadBack links
  pub within : (j : ℕ) (l : Link) → slice_get links j ≡ Some l → l.transaction < length entries

-- ---- what they show

abbrev pub shown_link : Link → KeptFor
shown_link l = record { transaction = l.transaction; answer = l.answer }

abbrev pub shown_links : List Link → List KeptFor
shown_links links = map shown_link links

abbrev pub shown_group : List Entry → List Link → GroupRows
shown_group entries links = record { facts = map (λ (e : Entry). e.facts) entries; answers = shown_links links }

-- ---- answers

-- an answer to transaction t
abbrev pub is_for : ℕ → KeptFor → Bool
is_for t k = k.transaction == t

-- one by the sender of another
abbrev pub is_same : List AnsweringFile → ℕ → KeptAnswer → KeptFor → Bool
is_same files t new old = is_for t old && same_sender (answer_in files old.answer) (answer_in files new)

-- the one of two that counts
abbrev pub counting_kept : List AnsweringFile → KeptAnswer → KeptAnswer → KeptAnswer
counting_kept files new old = if counts_over (answer_in files old) (answer_in files new) then new else old

-- in the place of such a one, that which counts
abbrev pub counted : List AnsweringFile → ℕ → KeptAnswer → KeptFor → KeptFor
counted files t new old =
    if is_same files t new old then record old { answer = counting_kept files new old.answer } else old

-- with an answer more to transaction t: in the place of the one by the same sender if that doesn't count over it, or after all
abbrev pub with_kept : List AnsweringFile → ℕ → KeptAnswer → List KeptFor → List KeptFor
with_kept files t new answers =
    if list_any (is_same files t new) answers then map (counted files t new) answers
    else answers ++ record { transaction = t; answer = new } ∷ []

-- the answers to transaction t, the last one first
abbrev pub own_answer : ℕ → KeptFor → List KeptAnswer
own_answer t k = if is_for t k then k.answer ∷ [] else []

abbrev pub last_first : ℕ → List KeptFor → List KeptAnswer
last_first t [] = []
last_first t (k ∷ ks) = last_first t ks ++ own_answer t k

-- ---- the same of links

abbrev pub is_same_link : List AnsweringFile → ℕ → KeptAnswer → Link → Bool
is_same_link files t new l = is_same files t new (shown_link l)

abbrev pub with_counting : List AnsweringFile → ℕ → KeptAnswer → Link → Link
with_counting files t new l =
    if is_same_link files t new l then record l { answer = counting_kept files new l.answer } else l

-- the same of a link of the transaction
abbrev pub has_sender : List AnsweringFile → KeptAnswer → Link → Bool
has_sender files new l = same_sender (answer_in files l.answer) (answer_in files new)

abbrev pub counted_link : List AnsweringFile → KeptAnswer → Link → Link
counted_link files new l = if has_sender files new l then record l { answer = counting_kept files new l.answer } else l
