use Rattle.std.proofs.Common.{◌≡◌, ◌++◌, take}
use Rattle.std.specs.List.{flat_map}
use Rattle.cwr_tables.specs.Format.Tables.{doubled}
use Rattle.cwr_state_rows.proofs.forms.double.Given as goal

abbrev pub invariant-loop-b : goal.invariant-loop-b
invariant-loop-b l = l.shown.items ≡ l.fn.shown.items ++ flat_map doubled (take l.b-index l.name)
