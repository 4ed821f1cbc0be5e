use Rattle.std.proofs.Common.{◌≡◌, drop}
use Rattle.json.specs.Value.{members_view}
use Rattle.cwr_json.specs.Format.Forms.{first_of, kind_key, told}
use Rattle.cwr_write.proofs.records.kind_in.Given as goal

abbrev pub invariant-loop-member : goal.invariant-loop-member
invariant-loop-member l =
    first_of kind_key (told (members_view l.members.items))
    ≡ first_of kind_key (told (members_view (drop l.member-index l.members.items)))
