use Rattle.std.proofs.Common.{◌∙◌, ltb, sym, ap, ℕ, length, take}
use Rattle.std.specs.List.{position_or_len}
use Rattle.std.proofs.lemmas.List.{take_all}
use Rattle.std.proofs.lemmas.Option.{cond_some}
use Rattle.cwr_files.specs.Format.Fronts.{ends_line}
use Rattle.cwr_files.proofs.lemmas.Taken.{none_found}
use Rattle.cwr_files.proofs.fronts.line_of.Goals as goal

pub returns-in-Some : goal.returns-in-Some
returns-in-Some c =
    let front = c.args.front.now in
    let end = position_or_len ends_line front in
    let found = cond_some (ltb end (length front)) end c.in-Some.end (sym c.end_of_line.ensures ∙ c.in-Some.is) in
    ap (λ (n : ℕ). take n front) (sym found.1)

pub returns-in-None : goal.returns-in-None
returns-in-None c =
    let front = c.args.front.now in
    let past = none_found ends_line front (sym c.end_of_line.ensures ∙ c.in-None.is) in
    sym (take_all (position_or_len ends_line front) front past)
