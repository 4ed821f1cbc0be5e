use Rattle.std.proofs.Common.{◌≡◌, length, map, drop}
use Rattle.cwr_fields.specs.Steps.Members.{listed, listed_with}
use Rattle.cwr_fields.proofs.coded.member_of.Given as goal

abbrev pub invariant-loop-member : goal.invariant-loop-member
invariant-loop-member g l =
    listed_with (map listed l.list) (length l.cell) l.cell
    ≡ listed_with (map listed (drop l.member-index l.list)) (length l.cell) l.cell
