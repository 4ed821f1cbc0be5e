-- The rows of a transaction, by its header.
use Rattle.std.proofs.Common.{◌≡◌, List, [], ◌∷◌, refl, sym, ap}
use Rattle.std.specs.Prelude.{Some, None, slice_get}
use Rattle.cwr_fields.specs.declared.kinds.Kind.{Kind}
use Rattle.cwr_lines.specs.Format.Records.{RecordValue}
use Rattle.cwr_json.specs.declared.encodings.Encoding.{Encoding}
use Rattle.cwr_tables.specs.declared.places.Place.{Place}
use Rattle.cwr_tables.specs.Format.RecordTables.{rows_under, transaction_rows}

pub rows_by : (enc : Encoding) (this_kind : Kind) (p : Place) (head : RecordValue) (t : List RecordValue) → Some head ≡ slice_get t 0
    → rows_under enc head this_kind p t ≡ transaction_rows enc this_kind p t
rows_by enc this_kind p head [] e = absurd (cc e)
rows_by enc this_kind p head (x ∷ rest) e =
    let same : x ≡ head = cc e in ap (λ (r : RecordValue). rows_under enc r this_kind p (x ∷ rest)) (sym same)

pub no_rows : (enc : Encoding) (this_kind : Kind) (p : Place) (t : List RecordValue) → None ≡ slice_get t 0 → transaction_rows enc this_kind p t ≡ []
no_rows enc this_kind p [] e = refl
no_rows enc this_kind p (x ∷ rest) e = absurd (cc e)
