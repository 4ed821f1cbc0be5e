use Rattle.std.proofs.Common.{refl, sym, arith, true≢false}
use Rattle.cwr_fields.proofs.lemmas.DigitsFromTheEnd.{spells-front, spells-wrong, spells-none}
use Rattle.cwr_fields.proofs.byte_runs.spells.Goals as goal

pub returns-then-last-rest : goal.returns-then-last-rest
returns-then-last-rest c = (
  λ t. absurd (true≢false (sym t)),
  λ e. absurd (spells-wrong c.loop-text.text.now _ c.loop-text.rest c.in-len1-up.len_at_least
      refl c.if-last-rest.true (c.loop-text.invariant.1 e)),
)

pub loop-text-preserved : goal.loop-text-preserved
loop-text-preserved c =
    let step = spells-front c.loop-text.text.now _ c.loop-text.rest c.in-len1-up.len_at_least refl c.if-last-rest.false in
    (λ h. c.loop-text.invariant.0 (step.0 h), λ h. step.1 (c.loop-text.invariant.1 h))

pub returns : goal.returns
returns c = (λ t. c.loop-text.invariant.0 (spells-none c.loop-text.text.now c.loop-text.rest (omega arith)), λ e. refl)
