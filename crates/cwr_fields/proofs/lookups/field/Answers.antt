use Rattle.std.proofs.Common.{◌≡◌, ◌-◌, false, slice_get, arith, ne_eqb, nat_eq}
use Rattle.std.specs.Option.{option_copied}
use Rattle.std.proofs.lemmas.Option.{slice_get-map, gets}
use Rattle.std.proofs.lemmas.Grind.{common_steps}
use Rattle.cwr_fields.specs.Steps.Views.{field_view}
use Rattle.cwr_fields.proofs.lookups.field.Goals as goal

pub returns : goal.returns
returns c =
    let found : option_copied c.get.result ≡ slice_get c.layout.result.now (c.args.j - 1) = grind (arith, common_steps, gets) in
    let some : nat_eq c.args.j 0 ≡ false = ne_eqb c.args.j 0 c.if-j-eq0.false in
    rw some (rw (c.copied.ensures, found, ← slice_get-map field_view c.layout.result.now (c.args.j - 1), c.layout.ensures))
