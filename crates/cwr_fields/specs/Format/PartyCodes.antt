-- The codes of publishers and writers.
use Rattle.std.specs.Prelude.{ℕ, List, [], ◌∷◌, codes}
use Rattle.cwr_fields.specs.declared.party_codes.PublisherType.{PublisherType}
use Rattle.cwr_fields.specs.declared.party_codes.PublisherType.TheVariants as publisher
use Rattle.cwr_fields.specs.declared.party_codes.WriterDesignation.{WriterDesignation}
use Rattle.cwr_fields.specs.declared.party_codes.WriterDesignation.TheVariants as designation

-- the code of each type of publisher
abbrev pub publisher_code : PublisherType → List ℕ
publisher_code publisher.OriginalPublisher = codes "E"
publisher_code publisher.Acquirer = codes "AQ"
publisher_code publisher.Administrator = codes "AM"
publisher_code publisher.IncomeParticipant = codes "PA"
publisher_code publisher.SubstitutedPublisher = codes "ES"
publisher_code publisher.SubPublisher = codes "SE"

-- the types of publishers
abbrev pub publisher_types : List PublisherType
publisher_types =
    publisher.OriginalPublisher ∷ publisher.Acquirer ∷ publisher.Administrator ∷ publisher.IncomeParticipant
    ∷ publisher.SubstitutedPublisher ∷ publisher.SubPublisher ∷ []

-- the code of each designation of writers
abbrev pub designation_code : WriterDesignation → List ℕ
designation_code designation.Author = codes "A"
designation_code designation.Adaptor = codes "AD"
designation_code designation.Arranger = codes "AR"
designation_code designation.Composer = codes "C"
designation_code designation.ComposerAuthor = codes "CA"
designation_code designation.IncomeParticipant = codes "PA"
designation_code designation.SubAuthor = codes "SA"
designation_code designation.SubArranger = codes "SR"
designation_code designation.Translator = codes "TR"

-- the designations of writers
abbrev pub designations : List WriterDesignation
designations =
    designation.Author ∷ designation.Adaptor ∷ designation.Arranger ∷ designation.Composer ∷ designation.ComposerAuthor
    ∷ designation.IncomeParticipant ∷ designation.SubAuthor ∷ designation.SubArranger ∷ designation.Translator ∷ []
