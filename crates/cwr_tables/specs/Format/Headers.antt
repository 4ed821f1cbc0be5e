-- What a row says of its transaction: whose number and title it has.
use Rattle.std.specs.Prelude.{ℕ, List, [], ◌∷◌, codes, if◌then◌else◌}
use Rattle.cwr_fields.specs.declared.kinds.Kind.{Kind}
use Rattle.cwr_fields.specs.Format.Kinds.{is_in_transaction}
-- the number and the title
pub use Rattle.cwr_findings.specs.Format.Headers.{work_number, work_title}

-- the columns of these, where records of the kind stand in transactions
abbrev pub header_columns : Kind → List (List ℕ)
header_columns this_kind = if is_in_transaction this_kind then codes "_work" ∷ codes "_title" ∷ [] else []
