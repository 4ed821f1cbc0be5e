use Rattle.std.proofs.Common.{ℕ}
use Rattle.cwr_transform.specs.Format.Lists.{place_in}
use Rattle.cwr_transform.specs.Format.Missing.{same_place}
use Rattle.cwr_transform.specs.Format.Told.{place_lines}
use Rattle.cwr_transform.proofs.lemmas.ListsTold.{tells_none, tells_some}
use Rattle.cwr_transform.proofs.select_notes.tell_if_place.Goals as goal

pub returns-in-Some-clause-told : goal.returns-in-Some-clause-told
returns-in-Some-clause-told g c = λ rest after found told first is h.
    tells_some g.W.Target.contents g.W.Target.failures place_in same_place (λ (p : ℕ × ℕ). place_lines p found) c.args.sought.now.listed.now
    found told c.args.sought.now.found.items c.tell_place.new.sought.found.items rest after c.args.value c.in-Some.place first
    c.args.pen.now c.tell_place.new.pen c.in-Some.is (λ before within noted. c.tell_place.ensures.told found before within noted) is h

pub returns-in-None-clause-told : goal.returns-in-None-clause-told
returns-in-None-clause-told g c = λ rest after found told first is h.
    tells_none g.W.Target.contents g.W.Target.failures place_in same_place (λ (p : ℕ × ℕ). place_lines p found) c.args.sought.now.listed.now
    found told c.args.sought.now.found.items rest after c.args.value first c.args.pen.now c.in-None.is is h
