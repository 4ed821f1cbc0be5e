-- A group that was sent: the facts of its transactions, and the answers to them.
use Rattle.std.specs.Prelude.{ℕ, List, [], replicate, slice_get, unwrap_or}
use Rattle.cwr_lines.specs.Format.Records.{RecordValue}
use Rattle.cwr_sent.specs.declared.answers.AnsweringFile.{AnsweringFile}
use Rattle.cwr_sent.specs.declared.answers.KeptAnswer.{KeptAnswer}
use Rattle.cwr_sent.specs.declared.facts.SentFacts.{SentFacts}
use Rattle.cwr_sent.specs.Format.Answers.{Answer}
use Rattle.cwr_sent.specs.Format.SentFacts.{created_never, created_of, sender_of}

-- an answer to the transaction of that number in its group, from 0
pub record KeptFor : Type 0 where
  pub transaction : ℕ
  pub answer : KeptAnswer

-- a group: the facts of its transactions, and all answers to them
pub record GroupRows : Type 0 where
  pub facts : List SentFacts
  pub answers : List KeptFor

-- a group of transactions with these facts, none of which is answered
abbrev pub fresh : List SentFacts → GroupRows
fresh facts = record { facts = facts; answers = [] }

-- ---- an answer with the file in which it stands

abbrev pub no_file : AnsweringFile
no_file = record { sender = replicate 11 32; created = created_never }

-- the one that an HDR record opens
abbrev pub file_by : RecordValue → AnsweringFile
file_by r = record { sender = sender_of r; created = created_of r }

abbrev pub file_of : List AnsweringFile → KeptAnswer → AnsweringFile
file_of files kept = unwrap_or (slice_get files kept.file) no_file

abbrev pub answer_in : List AnsweringFile → KeptAnswer → Answer
answer_in files kept = record {
  sender = (file_of files kept).sender;
  created = (file_of files kept).created;
  processed = kept.processed;
  status = kept.status;
  level = kept.level;
  recipient = kept.recipient;
}
