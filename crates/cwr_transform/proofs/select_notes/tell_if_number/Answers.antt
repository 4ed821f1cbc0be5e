use Rattle.std.proofs.Common.{[]}
use Rattle.std.specs.Str.{bytes_eq}
use Rattle.cwr_transform.specs.Format.Lists.{number_in}
use Rattle.cwr_transform.proofs.lemmas.ListsTold.{tells_none, tells_some}
use Rattle.cwr_transform.proofs.select_notes.tell_if_number.Goals as goal

pub returns-in-Some-clause-told : goal.returns-in-Some-clause-told
returns-in-Some-clause-told g c = λ rest after lines told first is can are h.
    tells_some g.W.Target.contents g.W.Target.failures number_in bytes_eq lines c.args.sought.now.listed.now [] told
    c.args.sought.now.told.items c.tell_number.new.sought.told.items rest after c.args.value c.in-Some.number first c.args.pen.now
    c.tell_number.new.pen c.in-Some.is (λ before within noted. c.tell_number.ensures.told before lines can are within noted) is h

pub returns-in-None-clause-told : goal.returns-in-None-clause-told
returns-in-None-clause-told g c = λ rest after lines told first is can are h.
    tells_none g.W.Target.contents g.W.Target.failures number_in bytes_eq lines c.args.sought.now.listed.now [] told
    c.args.sought.now.told.items rest after c.args.value first c.args.pen.now c.in-None.is is h
