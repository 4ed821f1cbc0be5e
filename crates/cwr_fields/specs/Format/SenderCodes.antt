-- The types of senders, and the texts of their cells.
use Rattle.std.specs.Prelude.{ℕ, List, [], ◌∷◌, codes}
use Rattle.cwr_fields.specs.declared.sender_types.SenderType.{SenderType}
use Rattle.cwr_fields.specs.declared.sender_types.SenderType.TheVariants.{Publisher, Society, AdministrativeAgency, Writer}
use Rattle.cwr_fields.specs.declared.sender_types.SenderType.TheVariants.{Digits}
use Rattle.cwr_fields.specs.Format.Bytes.{digits}

-- the code of each type of sender, or its two digits
abbrev pub sender_text : SenderType → List ℕ
sender_text Publisher = codes "PB"
sender_text Society = codes "SO"
sender_text AdministrativeAgency = codes "AA"
sender_text Writer = codes "WR"
sender_text (Digits d) = digits 2 d.value

-- the types of senders that have a code
abbrev pub senders : List SenderType
senders = Publisher ∷ Society ∷ AdministrativeAgency ∷ Writer ∷ []
