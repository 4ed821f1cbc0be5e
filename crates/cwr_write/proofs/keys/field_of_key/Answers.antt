use Rattle.cwr_write.proofs.lemmas.KeysOfNames.{none_named}
use Rattle.cwr_write.proofs.keys.field_of_key.Goals as goal

pub returns : goal.returns
returns c =
    none_named c.args.kind c.args.key.now c.fields-count.result c.loop-j-2.j c.fields-count.ensures c.loop-j-2-test.false
    c.loop-j-2.invariant
