use Rattle.std.proofs.Common.{◌≡◌, take}
use Rattle.json.specs.Value.{members_view}
use Rattle.cwr_json.specs.Format.Forms.{told}
use Rattle.cwr_write.specs.Steps.Filling.{IsFilled}
use Rattle.cwr_write.proofs.records.filled.Given as goal

abbrev pub invariant-loop-member : goal.invariant-loop-member
invariant-loop-member l = record {
  filled : IsFilled l.encoding l.filling.kind (told (members_view (take l.member-index l.members.items))) l.filling.draft
      l.filling.seen;
  kind_is : l.filling.kind ≡ l.fn.kind;
}
