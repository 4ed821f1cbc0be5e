-- A field that shows that blanks were lost, as it is kept.
use Rattle.std.specs.Prelude.{ℕ}
use Rattle.cwr_fields.specs.Format.Layouts.{FieldLayout}
use Rattle.cwr_fields.specs.Steps.Views.{field_view}
use Rattle.cwr_causes.specs.declared.shifts.Found.{Found}
use Rattle.cwr_causes.specs.declared.shifts.Sign.{Sign}

abbrev pub found_sign : Found → (f : ℕ × FieldLayout) × Sign
found_sign found = (field_view found.place, found.sign)
