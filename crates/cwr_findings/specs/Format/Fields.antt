-- Where in a kind's layout the field of a name stands.
use Prim.Native.String.{String}
use Rattle.std.specs.Prelude.{◌≡◌, ℕ, ◌+◌, true, not, List, codes, is_some, option_map, unwrap_or, slice_get}
use Rattle.std.specs.List.{prefix_len}
use Rattle.std.specs.Str.{bytes_eq}
use Rattle.cwr_fields.specs.declared.kinds.Kind.{Kind}
use Rattle.cwr_fields.specs.Format.Layouts.{FieldLayout}
use Rattle.cwr_lines.specs.Format.Carried.{carried_at, carried_before}
use Rattle.cwr_lines.specs.Format.Records.{carried_fields}

-- the place of the first field of that name
abbrev pub index_of_name : List ℕ → List FieldLayout → ℕ
index_of_name name fields = prefix_len (λ f. not (bytes_eq f.name name)) fields

-- field j of the kind is carried, has the name and is so many bytes wide
pub record IsField (name : String) (kind : Kind) (j wide : ℕ) : Type 0 where
  pub carried : is_some (carried_at kind j) ≡ true
  pub place : carried_before kind j ≡ index_of_name (codes name) (carried_fields kind)
  pub width : unwrap_or (option_map (λ (f : FieldLayout). f.width) (slice_get (carried_fields kind) (carried_before kind j))) 0
      ≡ wide

-- field j of the kind is the share in the performing right, and those in the other two rights follow, each after one field more
pub record HasSharesFrom (kind : Kind) (j : ℕ) : Type 0 where
  pub performing : IsField "pr share" kind j 5
  pub mechanical : IsField "mr share" kind (j + 2) 5
  pub synchronization : IsField "sr share" kind (j + 4) 5
