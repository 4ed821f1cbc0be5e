use Rattle.std.proofs.Common.{leb-true, ltb-true}
use Rattle.std.specs.Prelude.{nat_eq}
use Rattle.std.proofs.lemmas.Bool.{eqb-false, and_parts, not-true}
use Rattle.cwr_json.proofs.lemmas.Spelled.{simple_byte}
use Rattle.cwr_json.proofs.spelling.is_simple_byte.Goals as goal

pub returns : goal.returns
returns c h =
    let p = and_parts _ _ h in
    let q = and_parts _ _ p.0 in
    let r = and_parts _ _ q.0 in
    simple_byte c.args.b (leb-true 32 c.args.b r.0) (ltb-true c.args.b 128 r.1)
    (eqb-false c.args.b 34 (not-true (nat_eq c.args.b 34) q.1)) (eqb-false c.args.b 92 (not-true (nat_eq c.args.b 92) p.1))
