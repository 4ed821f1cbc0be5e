-- What may come is what some transmission continues with, and what is barred may not come.
use Rattle.std.proofs.Common.{◌++◌, List, [], ◌∷◌}
use Rattle.cwr_shape.specs.declared.symbols.Symbol.{Symbol}
use Rattle.cwr_shape.specs.declared.limits.LimitKind.TheVariants.{Records, Groups, Transaction}
use Rattle.cwr_shape.specs.declared.tallies.Bar.{Bar}
use Rattle.cwr_shape.specs.declared.tallies.Bar.TheVariants.{Misplaced, Limit}
use Rattle.cwr_shape.specs.Format.Ranges.{LimitValues}
use Rattle.cwr_shape.specs.Format.Outlines.{GroupOutline, Continues}
use Rattle.cwr_shape.specs.Format.AnyTransmission.{Any}
use Rattle.cwr_shape.specs.Format.NextSymbols.{MayCome, IsBarred}

-- any transmission
pub goes_any : {P : List GroupOutline → Type 0} (xs : List Symbol) → Continues P xs → Continues Any xs
goes_any xs g = (g.0, g.1, tt, g.3)

-- some transmission continues with what may come
pub comes_any : (limits : LimitValues) (xs : List Symbol) (s : Symbol) → MayCome limits xs s → Continues Any (xs ++ s ∷ [])
comes_any limits xs s m = goes_any (xs ++ s ∷ []) m

-- and what is barred may not come
pub comes_unbarred : (limits : LimitValues) (xs : List Symbol) (s : Symbol) (bar : Bar) → IsBarred limits xs s bar
    → ¬ MayCome limits xs s
comes_unbarred limits xs s Misplaced b m = b (comes_any limits xs s m)
comes_unbarred limits xs s (Limit Records) b m = b.1 (m.0, m.1, m.2.0, m.3)
comes_unbarred limits xs s (Limit Groups) b m = b.1 (m.0, m.1, m.2.1, m.3)
comes_unbarred limits xs s (Limit Transaction) b m = b.2 (m.0, m.1, m.2.2, m.3)
