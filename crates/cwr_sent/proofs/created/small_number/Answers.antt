use Rattle.std.proofs.Common.{arith}
use Rattle.cwr_sent.proofs.lemmas.SmallNumbers.{small_fits}
use Rattle.cwr_sent.proofs.created.small_number.Goals as goal

pub overflow_cast-result : goal.overflow_cast-result
overflow_cast-result c =
    let h = small_fits c.args.cell.now (λ k. let b = c.type_inv.cell k in omega (arith, b)) c.requires in
    omega (arith, h, c.number_of.ensures.value)
