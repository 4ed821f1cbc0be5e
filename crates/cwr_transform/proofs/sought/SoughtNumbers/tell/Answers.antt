use Rattle.std.proofs.Common.{◌<◌, length, sym, ◌∙◌, arith}
use Rattle.std.specs.Str.{bytes_eq}
use Rattle.std.proofs.lemmas.List.{get_or_read}
use Rattle.cwr_transform.proofs.lemmas.SoughtValues.{bytes_equiv, came_again, came_first}
use Rattle.cwr_transform.proofs.sought.SoughtNumbers.tell.Goals as goal
use Rattle.cwr_transform.proofs.sought.SoughtNumbers.tell.Goals.{then-at-len-via-then-at-len, then-at-len-via-else-at-len+then-index}

pub returns-then-at-len-clause-told : goal.returns-then-at-len-clause-told
returns-then-at-len-clause-told c = λ before listed h.
    let s = c.args.self.now in
    elim c.then-at-len.branch [
      | then-at-len-via-then-at-len w ↦
          absurd (omega (arith, w.if-at-len, c.len.ensures, s.told.ok.0, h.sized, c.in-Some.ensures.within))
      | then-at-len-via-else-at-len+then-index w ↦
          let within : c.in-Some.at < length s.told.items = omega (arith, h.sized, c.in-Some.ensures.within) in
          came_again bytes_eq bytes_equiv s.listed.now s.told.items before c.args.number.now c.in-Some.at c.in-Some.ensures.within
          c.in-Some.ensures.value (sym (get_or_read s.told.items _ _ within w.index.ensures _) ∙ w.if-index.true) h
    ]

pub returns-clause-told : goal.returns-clause-told
returns-clause-told c = λ before listed h.
    let s = c.args.self.now in
    let within : c.in-Some.at < length s.told.items = omega (arith, h.sized, c.in-Some.ensures.within) in
    came_first bytes_eq bytes_equiv s.listed.now s.told.items before c.args.number.now c.in-Some.at c.in-Some.ensures.within
    c.in-Some.ensures.value (sym (get_or_read s.told.items _ _ within c.index.ensures _) ∙ c.if-index.false) h
