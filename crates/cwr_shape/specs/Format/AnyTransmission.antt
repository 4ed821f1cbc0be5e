-- Any transmission, whatever its limits.
use Rattle.std.specs.Prelude.{List}
use Rattle.cwr_shape.specs.Format.Outlines.{GroupOutline}

-- any transmission will do
abbrev pub Any : List GroupOutline → Type 0
Any groups = Unit {0}
