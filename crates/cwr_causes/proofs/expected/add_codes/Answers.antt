use Rattle.std.proofs.Common.{◌≡◌}
use Rattle.std.specs.Prelude.{flat_map, map}
use Rattle.cwr_causes.specs.Format.Expected.{spaced, spaced_code}
use Rattle.cwr_causes.proofs.lemmas.ListedCodes.{listed_codes}
use Rattle.cwr_causes.proofs.expected.add_codes.Goals as goal

pub returns : goal.returns
returns g c =
    let e : flat_map spaced_code c.list.result.now ≡ flat_map spaced (map g.C.Coded.code g.C.Coded.members) =
    listed_codes g.C.Coded.code c.list.result.now g.C.Coded.members c.list.ensures in
    rw e at c.add_listed.ensures
