use Rattle.std.proofs.Common.{◌≡◌, length, take}
use Rattle.json.specs.Value.{items_view}
use Rattle.cwr_json.specs.Format.Forms.{AreRecordsData}
use Rattle.cwr_write.proofs.items.transaction_of.Given as goal

abbrev pub invariant-loop-i : goal.invariant-loop-i
invariant-loop-i l = AreRecordsData l.encoding (items_view (take l.i l.values)) l.transaction × (length l.transaction ≡ l.i)
