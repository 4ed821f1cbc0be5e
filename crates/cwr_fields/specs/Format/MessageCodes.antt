-- The codes of acknowledgements and their messages.
use Rattle.std.specs.Prelude.{ℕ, List, [], ◌∷◌, codes}
use Rattle.cwr_fields.specs.declared.message_codes.TransactionStatus.{TransactionStatus}
use Rattle.cwr_fields.specs.declared.message_codes.TransactionStatus.TheVariants as status
use Rattle.cwr_fields.specs.declared.message_codes.MessageLevel.{MessageLevel}
use Rattle.cwr_fields.specs.declared.message_codes.MessageLevel.TheVariants as level

-- the code of each status of transactions
abbrev pub status_code : TransactionStatus → List ℕ
status_code status.Conflict = codes "CO"
status_code status.Duplicate = codes "DU"
status_code status.TransactionAccepted = codes "RA"
status_code status.RegistrationAccepted = codes "AS"
status_code status.AcceptedWithChanges = codes "AC"
status_code status.ReadyForPayment = codes "SR"
status_code status.ChangedReadyForPayment = codes "CR"
status_code status.Rejected = codes "RJ"
status_code status.NoParticipation = codes "NP"
status_code status.ClaimRejected = codes "RC"

-- the statuses of transactions
abbrev pub transaction_statuses : List TransactionStatus
transaction_statuses =
    status.Conflict ∷ status.Duplicate ∷ status.TransactionAccepted ∷ status.RegistrationAccepted ∷ status.AcceptedWithChanges
    ∷ status.ReadyForPayment ∷ status.ChangedReadyForPayment ∷ status.Rejected ∷ status.NoParticipation ∷ status.ClaimRejected
    ∷ []

-- the code of each level of messages
abbrev pub level_code : MessageLevel → List ℕ
level_code level.EntireFile = codes "E"
level_code level.Group = codes "G"
level_code level.Transaction = codes "T"
level_code level.Record = codes "R"
level_code level.Field = codes "F"

-- the levels of messages
abbrev pub message_levels : List MessageLevel
message_levels = level.EntireFile ∷ level.Group ∷ level.Transaction ∷ level.Record ∷ level.Field ∷ []
