use Rattle.std.proofs.Common.{◌<◌, false, not, length, ap, sym, ◌∙◌, arith}
use Rattle.std.proofs.lemmas.List.{get_or_read}
use Rattle.cwr_transform.specs.Format.Missing.{same_place}
use Rattle.cwr_transform.proofs.lemmas.SoughtValues.{came_before, found_more, found_none, place_equiv}
use Rattle.cwr_transform.proofs.sought.SoughtPlaces.take.Goals as goal

pub returns-in_default-clause-noted : goal.returns-in_default-clause-noted
returns-in_default-clause-noted c = λ xs h.
    found_none same_place place_equiv c.args.self.now.listed.now c.args.self.now.found.items xs c.args.place
    (sym c.in_default.ensures.some) h

pub returns-clause-noted : goal.returns-clause-noted
returns-clause-noted c = λ xs h.
    found_more same_place place_equiv c.args.self.now.listed.now c.args.self.now.found.items xs c.args.place c.in-Some.at
    c.in-Some.ensures.within c.in-Some.ensures.value h

pub returns-clause-first : goal.returns-clause-first
returns-clause-first c = λ xs listed h.
    let s = c.args.self.now in
    let within : c.in-Some.at < length s.found.items = omega (arith, h.sized, c.in-Some.ensures.within) in
    ap not (get_or_read s.found.items _ _ within c.index.ensures false
    ∙ came_before same_place place_equiv s.listed.now s.found.items xs c.args.place c.in-Some.at c.in-Some.ensures.within
    c.in-Some.ensures.value h)
