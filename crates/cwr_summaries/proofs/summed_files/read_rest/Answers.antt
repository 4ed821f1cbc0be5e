use Rattle.std.proofs.Common.{◌∙◌, ℕ, ap, refl, subst}
use Rattle.cwr_devices.specs.Format.Failures.{one_more_failure}
use Rattle.cwr_summaries.specs.Steps.Pieces.{IsPiece}
use Rattle.cwr_summaries.proofs.lemmas.Pieces.{all_taken, taken_more}
use Rattle.cwr_summaries.proofs.summed_files.read_rest.Goals as goal

pub returns-in-Ok-eq0-clause-rest : goal.returns-in-Ok-eq0-clause-rest
returns-in-Ok-eq0-clause-rest g c =
    let left = g.R.Source.remaining c.loop-piece.reader in
    let after = g.R.Source.remaining c.take_piece.new.reader in
    (all_taken (g.R.Source.remaining c.args.reader.now) left after c.loop-piece.bytes 0 c.loop-piece.invariant.0
    (subst (λ (n : ℕ). IsPiece left after n) c.in-Ok-eq0.field-0-test c.in-Ok-eq0.ensures.piece) refl).0

pub returns-in-Ok-eq0-clause-end : goal.returns-in-Ok-eq0-clause-end
returns-in-Ok-eq0-clause-end g c =
    let left = g.R.Source.remaining c.loop-piece.reader in
    let after = g.R.Source.remaining c.take_piece.new.reader in
    (all_taken (g.R.Source.remaining c.args.reader.now) left after c.loop-piece.bytes 0 c.loop-piece.invariant.0
    (subst (λ (n : ℕ). IsPiece left after n) c.in-Ok-eq0.field-0-test c.in-Ok-eq0.ensures.piece) refl).1

pub returns-in-Ok-eq0-clause-failures : goal.returns-in-Ok-eq0-clause-failures
returns-in-Ok-eq0-clause-failures g c = c.in-Ok-eq0.ensures.failures ∙ c.loop-piece.invariant.1

pub returns-in-Err-clause-failures : goal.returns-in-Err-clause-failures
returns-in-Err-clause-failures g c = c.in-Err.ensures.failures ∙ ap one_more_failure c.loop-piece.invariant.1

pub returns-clause-failures : goal.returns-clause-failures
returns-clause-failures g c = c.loop-piece.invariant.1

pub loop-piece-preserved : goal.loop-piece-preserved
loop-piece-preserved g c = (
  taken_more (g.R.Source.remaining c.args.reader.now) (g.R.Source.remaining c.loop-piece.reader)
      (g.R.Source.remaining c.take_piece.new.reader) c.loop-piece.bytes c.in-Ok.count c.saturating_add-bytes.result
      c.loop-piece.invariant.0 c.in-Ok.ensures.piece c.saturating_add-bytes.ensures,
  c.in-Ok.ensures.failures ∙ c.loop-piece.invariant.1,
)
