use Rattle.cwr_fields.proofs.lemmas.NextDigits.{one_alone}
use Rattle.cwr_fields.proofs.spelled.one_digit.Goals as goal

pub returns : goal.returns
returns c = one_alone c.args.number c.requires
