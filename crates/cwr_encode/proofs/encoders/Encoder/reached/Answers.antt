use Rattle.std.proofs.Common.{◌∙◌, ap}
use Rattle.cwr_encode.specs.Steps.Encoders.{reached_at}
use Rattle.cwr_encode.proofs.lemmas.Comes.{reached_stands}
use Rattle.cwr_encode.proofs.encoders.Encoder.reached.Goals as goal

pub returns : goal.returns
returns g c = λ xs st. c.reached_at.ensures ∙ ap reached_at c.stage.ensures.value ∙ reached_stands xs _ st.stands
