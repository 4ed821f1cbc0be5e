use Rattle.std.proofs.Common.{◌∙◌, ap}
use Rattle.std.specs.Prelude.{unwrap_or}
use Rattle.cwr_encode.proofs.lemmas.Groups.{number_next}
use Rattle.cwr_encode.proofs.encoders.Encoder.number.Goals as goal

pub returns : goal.returns
returns g c =
    λ xs s st k goes. c.unwrap_or.ensures
    ∙ ap (λ o. unwrap_or o 0) (number_next xs s c.args.kind c.args.j c.expects.result (c.expects.ensures xs st) k goes)
