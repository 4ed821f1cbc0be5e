use Rattle.std.proofs.Common.{inl}
use Rattle.cwr_fields.proofs.quick_cells.is_surely_date.Goals as goal

pub returns-then-are_same : goal.returns-then-are_same
returns-then-are_same c = λ yes. inl (c.are_same.ensures c.if-are_same.true)
