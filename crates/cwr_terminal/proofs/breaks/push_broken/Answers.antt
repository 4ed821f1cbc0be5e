use Rattle.std.proofs.Common.{ℕ, ◌+◌, List, ◌++◌, drop, get_or, sym, ap, ap₂, ◌∙◌, arith, append-nil, append_assoc}
use Rattle.std.proofs.lemmas.List.{take_rest}
use Rattle.cwr_terminal.specs.Format.Breaks.{broken, column_behind, shown_next}
use Rattle.cwr_terminal.proofs.lemmas.Broken.{broken_ends, broken_more}
use Rattle.cwr_terminal.proofs.breaks.push_broken.Goals as goal

pub loop-i-preserved : goal.loop-i-preserved
loop-i-preserved c =
    let text = c.args.text.now in
    let i = c.loop-i.i in
    let rest = take_rest c.args.text.now c.loop-i.i in
    let shown = shown_next c.args.indent c.args.width c.loop-i.column c.loop-i.before in
    let behind = column_behind c.args.indent c.args.width c.loop-i.column c.loop-i.before in
    let more = broken_more c.args.indent c.args.width c.loop-i.column c.loop-i.before c.args.text.now c.loop-i.i c.loop-i-test.true in
    let last = broken c.args.indent c.args.width (behind (drop i text)) (get_or text i 0) (drop (i + 1) text) in
    record {
      value =
          ap₂ (λ (l : List ℕ) (z : ℕ). l ++ broken c.args.indent c.args.width z (get_or text i 0) (drop (i + 1) text))
          (c.push_next-column.ensures.value ∙ ap (λ (l : List ℕ). c.loop-i.made.items ++ shown l) rest)
          (c.push_next-column.ensures.column ∙ ap behind rest)
          ∙ append_assoc c.loop-i.made.items (shown (drop i text)) last
          ∙ ap (λ (l : List ℕ). c.loop-i.made.items ++ l) (sym more)
          ∙ c.loop-i.invariant.value;
      len = omega arith;
      column = omega arith;
    }

pub returns : goal.returns
returns c =
    sym (append-nil c.loop-i.made.items)
    ∙ ap (λ (l : List ℕ). c.loop-i.made.items ++ l)
    (sym (broken_ends c.args.indent c.args.width c.loop-i.column c.loop-i.before c.args.text.now c.loop-i.i c.loop-i-test.false))
    ∙ c.loop-i.invariant.value
