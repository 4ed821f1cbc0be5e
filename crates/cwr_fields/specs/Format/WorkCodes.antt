-- The codes of musical works, their titles and their recordings.
use Rattle.std.specs.Prelude.{ℕ, List, [], ◌∷◌, codes}
use Rattle.cwr_fields.specs.declared.work_codes.DistributionCategory.{DistributionCategory}
use Rattle.cwr_fields.specs.declared.work_codes.DistributionCategory.TheVariants as category
use Rattle.cwr_fields.specs.declared.work_codes.VersionType.{VersionType}
use Rattle.cwr_fields.specs.declared.work_codes.VersionType.TheVariants as version
use Rattle.cwr_fields.specs.declared.work_codes.CompositeType.{CompositeType}
use Rattle.cwr_fields.specs.declared.work_codes.CompositeType.TheVariants as composite
use Rattle.cwr_fields.specs.declared.work_codes.ExcerptType.{ExcerptType}
use Rattle.cwr_fields.specs.declared.work_codes.ExcerptType.TheVariants as excerpt
use Rattle.cwr_fields.specs.declared.work_codes.TitleType.{TitleType}
use Rattle.cwr_fields.specs.declared.work_codes.TitleType.TheVariants as title
use Rattle.cwr_fields.specs.declared.work_codes.RecordingFormat.{RecordingFormat}
use Rattle.cwr_fields.specs.declared.work_codes.RecordingFormat.TheVariants as recording
use Rattle.cwr_fields.specs.declared.work_codes.RecordingTechnique.{RecordingTechnique}
use Rattle.cwr_fields.specs.declared.work_codes.RecordingTechnique.TheVariants as technique

-- the code of each distribution category
abbrev pub category_code : DistributionCategory → List ℕ
category_code category.Jazz = codes "JAZ"
category_code category.Popular = codes "POP"
category_code category.Serious = codes "SER"
category_code category.Unclassified = codes "UNC"

-- the distribution categories
abbrev pub categories : List DistributionCategory
categories = category.Jazz ∷ category.Popular ∷ category.Serious ∷ category.Unclassified ∷ []

-- the code of each type of version
abbrev pub version_code : VersionType → List ℕ
version_code version.Original = codes "ORI"
version_code version.Modified = codes "MOD"

-- the types of versions
abbrev pub version_types : List VersionType
version_types = version.Original ∷ version.Modified ∷ []

-- the code of each type of composite
abbrev pub composite_code : CompositeType → List ℕ
composite_code composite.CompositeOfSamples = codes "COS"
composite_code composite.Medley = codes "MED"
composite_code composite.Potpourri = codes "POT"
composite_code composite.Unspecified = codes "UCO"

-- the types of composites
abbrev pub composite_types : List CompositeType
composite_types = composite.CompositeOfSamples ∷ composite.Medley ∷ composite.Potpourri ∷ composite.Unspecified ∷ []

-- the code of each type of excerpt
abbrev pub excerpt_code : ExcerptType → List ℕ
excerpt_code excerpt.Movement = codes "MOV"
excerpt_code excerpt.Unspecified = codes "UEX"

-- the types of excerpts
abbrev pub excerpt_types : List ExcerptType
excerpt_types = excerpt.Movement ∷ excerpt.Unspecified ∷ []

-- the code of each type of title
abbrev pub title_code : TitleType → List ℕ
title_code title.Alternative = codes "AT"
title_code title.FirstLine = codes "TE"
title_code title.Formal = codes "FT"
title_code title.Incorrect = codes "IT"
title_code title.Original = codes "OT"
title_code title.OriginalTranslated = codes "TT"
title_code title.Part = codes "PT"
title_code title.Restricted = codes "RT"
title_code title.ExtraSearch = codes "ET"
title_code title.OriginalNational = codes "OL"
title_code title.AlternativeNational = codes "AL"

-- the types of titles
abbrev pub title_types : List TitleType
title_types =
    title.Alternative ∷ title.FirstLine ∷ title.Formal ∷ title.Incorrect ∷ title.Original ∷ title.OriginalTranslated ∷ title.Part
    ∷ title.Restricted ∷ title.ExtraSearch ∷ title.OriginalNational ∷ title.AlternativeNational ∷ []

-- the code of each format of recordings
abbrev pub format_code : RecordingFormat → List ℕ
format_code recording.Audio = codes "A"
format_code recording.Visual = codes "V"

-- the formats of recordings
abbrev pub recording_formats : List RecordingFormat
recording_formats = recording.Audio ∷ recording.Visual ∷ []

-- the code of each technique of recording
abbrev pub technique_code : RecordingTechnique → List ℕ
technique_code technique.Analogue = codes "A"
technique_code technique.Digital = codes "D"
technique_code technique.Unknown = codes "U"

-- the techniques of recording
abbrev pub recording_techniques : List RecordingTechnique
recording_techniques = technique.Analogue ∷ technique.Digital ∷ technique.Unknown ∷ []
