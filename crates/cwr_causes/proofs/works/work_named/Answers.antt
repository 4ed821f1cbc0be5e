use Rattle.std.proofs.Common.{◌≤◌, length, refl, arith, inl, inr}
use Rattle.cwr_fields.specs.declared.kinds.Kind.TheVariants.{Nwr, Rev}
use Rattle.cwr_lines.specs.Steps.Held.{held_kind}
use Rattle.cwr_causes.specs.Format.RefusedWorks.{IsWorkHeader}
use Rattle.cwr_causes.proofs.works.work_named.Goals as goal

pub named-requires-clause-number : goal.named-requires-clause-number
named-requires-clause-number c = by c.requires
  where
    by : IsWorkHeader (held_kind c.args.line.now) → length c.plain_cell.result.now ≤ 20
    by (inl e) = let short : length c.plain_cell.result.now ≤ 14 = c.plain_cell.ensures.short Nwr _ e refl in omega arith
    by (inr e) = let short : length c.plain_cell.result.now ≤ 14 = c.plain_cell.ensures.short Rev _ e refl in omega arith

pub named-requires-clause-title : goal.named-requires-clause-title
named-requires-clause-title c = by c.requires
  where
    by : IsWorkHeader (held_kind c.args.line.now) → length c.plain_cell-2.result.now ≤ 60
    by (inl e) = c.plain_cell-2.ensures.short Nwr _ e refl
    by (inr e) = c.plain_cell-2.ensures.short Rev _ e refl
