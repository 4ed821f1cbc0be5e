use Rattle.cwr_values.specs.Format.Values.{type_of}
use Rattle.cwr_decode.proofs.lemmas.ItemsMakeOneTransmission.{never_refused}
use Rattle.cwr_decode.proofs.whole.add_transaction.Goals as goal

pub unreachable-requires : goal.unreachable-requires
unreachable-requires c =
    never_refused c.in-Err.fault (type_of c.args.group.now.head) c.args.transaction c.requires c.in-WrongKind.is
    c.in-Err.ensures.wrong_kind.0 c.in-Err.ensures.incomplete.0
