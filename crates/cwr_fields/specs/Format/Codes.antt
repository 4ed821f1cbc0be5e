-- The code tables of this profile, and the words of constant cells.
use Rattle.std.specs.Prelude.{ℕ, List, [], ◌∷◌, codes, map}
use Rattle.cwr_fields.specs.declared.tables.Table.{Table}
use Rattle.cwr_fields.specs.declared.tables.Table.TheVariants as tables
use Rattle.cwr_fields.specs.declared.cell_types.Word.{Word}
use Rattle.cwr_fields.specs.declared.cell_types.Word.TheVariants.{Edi, Group}
use Rattle.cwr_fields.specs.declared.codes.TransactionType.{TransactionType}
use Rattle.cwr_fields.specs.declared.codes.TransactionType.TheVariants.{Agreement, NewWork, RevisedWork, Acknowledgement}
use Rattle.cwr_fields.specs.declared.codes.Role.{Role}
use Rattle.cwr_fields.specs.declared.codes.Role.TheVariants.{Assignor, Acquirer}
use Rattle.cwr_fields.specs.Format.AgreementCodes.{agreement_code, agreement_types, prior_code, prior_statuses, post_term_code}
use Rattle.cwr_fields.specs.Format.AgreementCodes.{post_term_statuses, sales_code, sales_clauses, sign_code, signs}
use Rattle.cwr_fields.specs.Format.WorkCodes.{category_code, categories, version_code, version_types, composite_code}
use Rattle.cwr_fields.specs.Format.WorkCodes.{composite_types, excerpt_code, excerpt_types, title_code, title_types, format_code}
use Rattle.cwr_fields.specs.Format.WorkCodes.{recording_formats, technique_code, recording_techniques}
use Rattle.cwr_fields.specs.Format.PartyCodes.{publisher_code, publisher_types, designation_code, designations}
use Rattle.cwr_fields.specs.Format.MessageCodes.{status_code, transaction_statuses, level_code, message_levels}
use Rattle.cwr_fields.specs.Format.SenderCodes.{sender_text, senders}

-- the code of each type of transaction
abbrev pub type_code : TransactionType → List ℕ
type_code Agreement = codes "AGR"
type_code NewWork = codes "NWR"
type_code RevisedWork = codes "REV"
type_code Acknowledgement = codes "ACK"

-- the types of transactions
abbrev pub transaction_types : List TransactionType
transaction_types = Agreement ∷ NewWork ∷ RevisedWork ∷ Acknowledgement ∷ []

-- the code of each role
abbrev pub role_code : Role → List ℕ
role_code Assignor = codes "AS"
role_code Acquirer = codes "AC"

-- the roles
abbrev pub roles : List Role
roles = Assignor ∷ Acquirer ∷ []

-- the width of a table's cells
abbrev pub code_width : Table → ℕ
code_width tables.Sender = 2
code_width tables.TransactionType = 3
code_width tables.AgreementType = 2
code_width tables.Role = 2
code_width tables.Prior = 1
code_width tables.PostTerm = 1
code_width tables.Sales = 1
code_width tables.Sign = 1
code_width tables.Category = 3
code_width tables.Version = 3
code_width tables.Composite = 3
code_width tables.Excerpt = 3
code_width tables.Publisher = 2
code_width tables.Designation = 2
code_width tables.Title = 2
code_width tables.Status = 2
code_width tables.Message = 1
code_width tables.Recording = 1
code_width tables.Technique = 1

-- the codes of a table; a sender type may also be two digits
abbrev pub codes_of : Table → List (List ℕ)
codes_of tables.Sender = map sender_text senders
codes_of tables.TransactionType = map type_code transaction_types
codes_of tables.AgreementType = map agreement_code agreement_types
codes_of tables.Role = map role_code roles
codes_of tables.Prior = map prior_code prior_statuses
codes_of tables.PostTerm = map post_term_code post_term_statuses
codes_of tables.Sales = map sales_code sales_clauses
codes_of tables.Sign = map sign_code signs
codes_of tables.Category = map category_code categories
codes_of tables.Version = map version_code version_types
codes_of tables.Composite = map composite_code composite_types
codes_of tables.Excerpt = map excerpt_code excerpt_types
codes_of tables.Publisher = map publisher_code publisher_types
codes_of tables.Designation = map designation_code designations
codes_of tables.Title = map title_code title_types
codes_of tables.Status = map status_code transaction_statuses
codes_of tables.Message = map level_code message_levels
codes_of tables.Recording = map format_code recording_formats
codes_of tables.Technique = map technique_code recording_techniques

-- the EDI standard's version, and the version of the transactions of a group
abbrev pub word_text : Word → List ℕ
word_text Edi = codes "01.10"
word_text Group = codes "02.10"
