use Rattle.std.proofs.Common.{◌≡◌, drop}
use Rattle.std.specs.Prelude.{not}
use Rattle.std.specs.List.{list_any}
use Rattle.cwr_findings.specs.Format.Findings.{is_a}
use Rattle.cwr_advice.specs.Format.Rules.{is_writer, records_of_writer}
use Rattle.cwr_advice.proofs.lemmas.WriterRecords.{some_kept}
use Rattle.cwr_advice.proofs.writers.writer_has.Given as goal

abbrev pub invariant-loop-at : goal.invariant-loop-at
invariant-loop-at l =
    list_any (is_a l.kind) (records_of_writer l.transaction l.sequence)
    ≡ some_kept (is_a l.kind) (λ r. not (is_writer r)) (drop l.at l.transaction)
