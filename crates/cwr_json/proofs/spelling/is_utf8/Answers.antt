use Rattle.std.proofs.Common.{◌∙◌}
use Rattle.cwr_json.proofs.lemmas.Encoded.{is_ok_utf8}
use Rattle.cwr_json.proofs.spelling.is_utf8.Goals as goal

pub returns : goal.returns
returns c = c.is_ok.ensures.value ∙ is_ok_utf8 _ _ c.from_utf8.result c.args.bytes.now c.from_utf8.ensures.cases
