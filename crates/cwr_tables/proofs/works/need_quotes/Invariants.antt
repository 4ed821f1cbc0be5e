use Rattle.std.proofs.Common.{◌≡◌, ◌≤◌, ◌-◌, length, take}
use Rattle.cwr_json.specs.declared.encodings.Encoding.{Encoding}
use Rattle.cwr_tables.specs.Steps.WorkTexts.{quotes}
use Rattle.cwr_tables.proofs.works.need_quotes.Given as goal

abbrev pub invariant-loop-shown : goal.invariant-loop-shown
invariant-loop-shown l = record {
  within : l.i ≤ length l.transaction;
  value : (enc : Encoding) → l.found ≡ quotes enc l.side (take l.i l.transaction);
}

abbrev pub decreases-loop-shown : goal.decreases-loop-shown
decreases-loop-shown l = length l.transaction - l.i
