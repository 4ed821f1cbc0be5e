use Rattle.std.proofs.Common.{◌++◌, List, length, get_or, sym, ap, ◌∙◌, arith}
use Rattle.std.specs.List.{flat_map}
use Rattle.cwr_devices.proofs.lemmas.Adding.{adds_as, adds_both, adds_nothing}
use Rattle.cwr_transform.specs.declared.sought.Further.{Further}
use Rattle.cwr_transform.specs.Format.Told.{twice_line}
use Rattle.cwr_transform.specs.Steps.Found.{further_of, place_at}
use Rattle.cwr_transform.proofs.lemmas.ListsTold.{lines_missing, lines_one, lines_several}
use Rattle.cwr_transform.proofs.select_notes.add_number.Goals as goal

pub returns-then-further-gt0 : goal.returns-then-further-gt0
returns-then-further-gt0 g c = λ can.
    let s = c.args.sought.now in
    let further : List Further = further_of c.args.at s.further.items in
    adds_as
    (ap (λ (l : List Further). twice_line c.args.number.now c.in-Some.first
    ++ flat_map (λ f. twice_line c.args.number.now (place_at s.starts.items f.count)) l) (c.further-further.ensures can)
    ∙ lines_several c.args.number.now (place_at s.starts.items) (get_or s.firsts.items c.args.at 0) further c.in-Some.first
    (sym (c.first.ensures can) ∙ c.in-Some.is) (omega (arith, c.if-further-gt0.true, ap length (c.further-further.ensures can))))
    (adds_both c.add_twice.ensures (c.add_each.ensures can))

pub returns-else-further-gt0 : goal.returns-else-further-gt0
returns-else-further-gt0 g c = λ can.
    let s = c.args.sought.now in
    adds_as
    (lines_one c.args.number.now (place_at s.starts.items) (get_or s.firsts.items c.args.at 0) (further_of c.args.at s.further.items)
    c.in-Some.first (sym (c.first.ensures can) ∙ c.in-Some.is)
    (omega (arith, c.if-further-gt0.false, ap length (c.further-further.ensures can)))) adds_nothing

pub returns-in_default : goal.returns-in_default
returns-in_default g c = λ can.
    let s = c.args.sought.now in
    adds_as
    (lines_missing c.args.number.now (place_at s.starts.items) (get_or s.firsts.items c.args.at 0) (further_of c.args.at s.further.items)
    (sym (c.first.ensures can) ∙ c.in_default.is)) c.add_missing.ensures
