-- What the definitions see of a field of the tables.
use Rattle.std.specs.Prelude.{ℕ}
use Rattle.cwr_fields.specs.declared.layouts.Field.{Field}
use Rattle.cwr_fields.specs.Format.Layouts.{FieldLayout}

-- where the field starts, and the field of the definition
abbrev pub field_view : Field → ℕ × FieldLayout
field_view f = (f.start, record { name = f.name.now; width = f.width; ty = f.ty; derived = f.derived })
