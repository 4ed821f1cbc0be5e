use Rattle.cwr_write.proofs.lemmas.KeysOfNames.{key_differs, key_equals}
use Rattle.cwr_write.proofs.keys.is_key_of.Goals as goal

pub returns-then-key-i : goal.returns-then-key-i
returns-then-key-i c =
    key_differs c.args.key.now c.args.name.now c.loop-i.i c.key_byte.result c.loop-i-test.true c.key_byte.ensures c.if-key-i.true

pub returns : goal.returns
returns c = key_equals c.args.key.now c.args.name.now c.loop-i.i c.if-key-name.false c.loop-i-test.false c.loop-i.invariant
