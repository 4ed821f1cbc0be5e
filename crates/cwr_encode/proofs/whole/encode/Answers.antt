use Rattle.std.proofs.Common.{refl, sym, ◌∙◌}
use Rattle.cwr_values.proofs.lemmas.FitsIsWithin.{no_fault}
use Rattle.cwr_encode.proofs.lemmas.Few.{few_of}
use Rattle.cwr_encode.proofs.whole.encode.Goals as goal

pub write_transmission-requires : goal.write_transmission-requires
write_transmission-requires g c =
    few_of c.args.limits c.args.transmission.now c.transaction-longest.ensures.in_range c.in-Ok.ensures.in_order
    (c.in-Ok.ensures.within.0 refl).1

pub returns-in-Ok-clause-refused : goal.returns-in-Ok-clause-refused
returns-in-Ok-clause-refused g c =
    λ fault e. absurd (cc (sym ((no_fault c.args.limits c.args.transmission.now).1 (c.in-Ok.ensures.within.0 refl)) ∙ e))
