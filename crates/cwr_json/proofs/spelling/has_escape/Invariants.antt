use Rattle.std.proofs.Common.{◌≡◌, ◌-◌, ◌≤◌, drop}
use Rattle.cwr_json.specs.Format.Encodings.{has_escape}
use Rattle.cwr_json.proofs.spelling.has_escape.Given as goal

abbrev pub invariant-loop-i : goal.invariant-loop-i
invariant-loop-i l = record {
  begun : 1 ≤ l.i;
  same : has_escape l.text ≡ has_escape (drop (l.i - 1) l.text);
}
