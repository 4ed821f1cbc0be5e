use Rattle.std.proofs.Common.{◌∙◌}
use Rattle.cwr_causes.proofs.lemmas.Utf8Texts.{is_ok_utf8}
use Rattle.cwr_causes.proofs.shifts.is_utf8.Goals as goal

pub returns : goal.returns
returns c = c.is_ok.ensures.value ∙ is_ok_utf8 _ _ c.from_utf8.result c.args.bytes.now c.from_utf8.ensures.cases
