-- The answers to a transaction that was sent, and which of several by one sender counts.
use Rattle.std.specs.Prelude.{ℕ, Bool, true, false, not, ◌&&◌, nat_lt, ◌==◌, List, [], ◌∷◌, ◌++◌, fold, map, Option}
use Rattle.std.specs.Prelude.{if◌then◌else◌}
use Rattle.std.specs.List.{list_any}
use Rattle.std.specs.Str.{bytes_eq}
use Rattle.cwr_fields.specs.declared.message_codes.MessageLevel.{MessageLevel}
use Rattle.cwr_fields.specs.declared.message_codes.TransactionStatus.{TransactionStatus}
use Rattle.cwr_fields.specs.declared.message_codes.TransactionStatus.TheVariants as status
use Rattle.cwr_sent.specs.declared.created.Created.{Created}

-- what an acknowledgement says of the transaction that it answers, who sent it, and when the transmission was created in which it stands
pub record Answer : Type 0 where
  pub sender : List ℕ
  pub created : Created
  pub processed : ℕ
  pub status : TransactionStatus
  pub level : Option MessageLevel
  pub recipient : List ℕ

-- both come from one sender
abbrev pub same_sender : Answer → Answer → Bool
same_sender one other = bytes_eq one.sender other.sender

-- one was created before the other
abbrev pub is_before : Created → Created → Bool
is_before one other = if one.date == other.date then nat_lt one.time other.time else nat_lt one.date other.date

-- the transaction is taken for processing, and what becomes of it isn't known yet
abbrev pub is_pending : TransactionStatus → Bool
is_pending status.TransactionAccepted = true
is_pending this_status = false

-- of two that were processed on one day, the later one counts: not one that pends where the other doesn't, and else not one that was
-- created before the other
abbrev pub counts_same_day : Answer → Answer → Bool
counts_same_day old new =
    if is_pending old.status then not (is_pending new.status && is_before new.created old.created)
    else not (is_pending new.status) && not (is_before new.created old.created)

-- the later one counts: that which was processed later
abbrev pub counts_over : Answer → Answer → Bool
counts_over old new =
    if old.processed == new.processed then counts_same_day old new else nat_lt old.processed new.processed

abbrev pub counting_one : Answer → Answer → Answer
counting_one old new = if counts_over old new then new else old

-- in the place of the one by the same sender, where that one doesn't count over it
abbrev pub counted_for : Answer → Answer → Answer
counted_for new old = if same_sender old new then counting_one old new else old

-- one for each sender: with one answer more, that was read after them
abbrev pub with_answer : List Answer → Answer → List Answer
with_answer answers new =
    if list_any (λ old. same_sender old new) answers then map (counted_for new) answers else answers ++ new ∷ []

-- of answers, in the order in which they were read, those that count: one for each sender
abbrev pub counting_ones : List Answer → List Answer
counting_ones answers = fold with_answer [] answers
