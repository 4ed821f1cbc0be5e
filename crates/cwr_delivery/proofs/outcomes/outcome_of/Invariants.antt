use Rattle.std.proofs.Common.{◌≡◌, take}
use Rattle.std.specs.Prelude.{map}
use Rattle.cwr_sent.specs.Format.SentRows.{content_in}
use Rattle.cwr_delivery.specs.Format.Answering.{agreeing_in, found_by, standing_in}
use Rattle.cwr_delivery.specs.Steps.Outcomes.{few_of}
use Rattle.cwr_delivery.proofs.outcomes.outcome_of.Given as goal

abbrev pub invariant-loop-i : goal.invariant-loop-i
invariant-loop-i l = record {
  agreeing : l.agreeing ≡ few_of (found_by (agreeing_in l.by_place l.head) (take l.i (map content_in l.sent)));
  standing : l.standing ≡ few_of (found_by (standing_in l.by_place l.head) (take l.i (map content_in l.sent)));
}
