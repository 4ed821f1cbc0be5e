use Rattle.std.specs.Int.NonZero.{non_zero_u32_get}
use Rattle.cwr_words.proofs.words.split_in.Goals as goal

pub returns-in_err-number : goal.returns-in_err-number
returns-in_err-number c = rw c.from_residual.ensures (λ words h. c.in_err-number.ensures (non_zero_u32_get words.transactions) h.0)
