use Rattle.std.proofs.Common.{refl, sym, ◌∙◌}
use Rattle.cwr_fields.proofs.lemmas.Trims.{trimmed-front, trimmed-stays, trimmed-none}
use Rattle.cwr_fields.proofs.byte_runs.trimmed.Goals as goal

pub loop-rest-preserved : goal.loop-rest-preserved
loop-rest-preserved c =
    trimmed-front c.loop-rest.rest.now _ c.in-len1-up.len_at_least (refl) c.if-last-ne32.false ∙ c.loop-rest.invariant

pub returns-in_default : goal.returns-in_default
returns-in_default c = trimmed-none c.loop-rest.rest.now c.in_default.len_below ∙ c.loop-rest.invariant

pub returns-then-last-ne32 : goal.returns-then-last-ne32
returns-then-last-ne32 c =
    sym (trimmed-stays c.loop-rest.rest.now _ c.in-len1-up.len_at_least refl c.if-last-ne32.true) ∙ c.loop-rest.invariant
