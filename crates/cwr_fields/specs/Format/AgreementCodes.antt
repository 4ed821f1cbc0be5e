-- The codes of agreements and of their territories.
use Rattle.std.specs.Prelude.{ℕ, List, [], ◌∷◌, codes}
use Rattle.cwr_fields.specs.declared.agreement_codes.AgreementType.{AgreementType}
use Rattle.cwr_fields.specs.declared.agreement_codes.AgreementType.TheVariants as agreement
use Rattle.cwr_fields.specs.declared.agreement_codes.PriorRoyaltyStatus.{PriorRoyaltyStatus}
use Rattle.cwr_fields.specs.declared.agreement_codes.PriorRoyaltyStatus.TheVariants as prior
use Rattle.cwr_fields.specs.declared.agreement_codes.PostTermCollectionStatus.{PostTermCollectionStatus}
use Rattle.cwr_fields.specs.declared.agreement_codes.PostTermCollectionStatus.TheVariants as post_term
use Rattle.cwr_fields.specs.declared.agreement_codes.SalesManufactureClause.{SalesManufactureClause}
use Rattle.cwr_fields.specs.declared.agreement_codes.SalesManufactureClause.TheVariants as sales
use Rattle.cwr_fields.specs.declared.agreement_codes.InclusionExclusion.{InclusionExclusion}
use Rattle.cwr_fields.specs.declared.agreement_codes.InclusionExclusion.TheVariants as sign

-- the code of each type of agreement
abbrev pub agreement_code : AgreementType → List ℕ
agreement_code agreement.OriginalSpecific = codes "OS"
agreement_code agreement.OriginalGeneral = codes "OG"
agreement_code agreement.SubpublishingSpecific = codes "PS"
agreement_code agreement.SubpublishingGeneral = codes "PG"

-- the types of agreements
abbrev pub agreement_types : List AgreementType
agreement_types =
    agreement.OriginalSpecific ∷ agreement.OriginalGeneral ∷ agreement.SubpublishingSpecific ∷ agreement.SubpublishingGeneral ∷ []

-- the code of each prior royalty status
abbrev pub prior_code : PriorRoyaltyStatus → List ℕ
prior_code prior.None = codes "N"
prior_code prior.FromDate = codes "D"
prior_code prior.All = codes "A"

-- the prior royalty statuses
abbrev pub prior_statuses : List PriorRoyaltyStatus
prior_statuses = prior.None ∷ prior.FromDate ∷ prior.All ∷ []

-- the code of each post-term collection status
abbrev pub post_term_code : PostTermCollectionStatus → List ℕ
post_term_code post_term.None = codes "N"
post_term_code post_term.Open = codes "O"
post_term_code post_term.UntilDate = codes "D"

-- the post-term collection statuses
abbrev pub post_term_statuses : List PostTermCollectionStatus
post_term_statuses = post_term.None ∷ post_term.Open ∷ post_term.UntilDate ∷ []

-- the code of each sales manufacture clause
abbrev pub sales_code : SalesManufactureClause → List ℕ
sales_code sales.Sales = codes "S"
sales_code sales.Manufacture = codes "M"

-- the sales manufacture clauses
abbrev pub sales_clauses : List SalesManufactureClause
sales_clauses = sales.Sales ∷ sales.Manufacture ∷ []

-- the code of inclusion and of exclusion
abbrev pub sign_code : InclusionExclusion → List ℕ
sign_code sign.Included = codes "I"
sign_code sign.Excluded = codes "E"

-- inclusion and exclusion
abbrev pub signs : List InclusionExclusion
signs = sign.Included ∷ sign.Excluded ∷ []
