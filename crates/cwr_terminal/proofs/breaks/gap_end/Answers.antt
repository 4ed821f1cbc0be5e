use Rattle.std.proofs.Common.{◌≡◌, ◌+◌, ◌-◌, drop, length, take, sym, ap, ◌∙◌, arith, length-drop}
use Rattle.std.proofs.lemmas.List.{take_rest}
use Rattle.cwr_terminal.specs.Format.Breaks.{begins_gap, gap_end}
use Rattle.cwr_terminal.proofs.lemmas.Broken.{gap_ends, gap_found, gap_goes_on}
use Rattle.cwr_terminal.proofs.breaks.gap_end.Goals as goal
use Rattle.cwr_terminal.proofs.breaks.gap_end.Goals.{then-begins_gap, else-begins_gap}

pub loop-i-preserved : goal.loop-i-preserved
loop-i-preserved c =
    let line = c.args.line.now in
    let rest = take_rest c.args.line.now c.loop-i.i in
    let here : c.begins_gap.result ≡ begins_gap (drop c.loop-i.i c.args.line.now) = c.begins_gap.ensures.value ∙ ap begins_gap rest in
    let size : length (take (length c.args.line.now - c.loop-i.i) (drop c.loop-i.i c.args.line.now)) ≡ length c.args.line.now - c.loop-i.i =
    ap length rest ∙ length-drop c.loop-i.i c.args.line.now in
    elim c.if-begins_gap.branch [
      | then-begins_gap w ↦ (let long = c.begins_gap.ensures.long w.if-begins_gap.true in record {
        value = ap (gap_end (drop (c.loop-i.i + 1) line) (c.loop-i.i + 1)) w.found-is
            ∙ sym (gap_found line c.loop-i.i c.loop-i.found c.loop-i-test.true (sym here ∙ w.if-begins_gap.true)) ∙ c.loop-i.invariant.value;
        most = omega (arith, long);
      })
      | else-begins_gap w ↦ record {
        value = ap (gap_end (drop (c.loop-i.i + 1) line) (c.loop-i.i + 1)) w.found-is
            ∙ sym (gap_goes_on line c.loop-i.i c.loop-i.found c.loop-i-test.true (sym here ∙ w.if-begins_gap.false)) ∙ c.loop-i.invariant.value;
        most = omega arith;
      }
    ]

pub returns-clause-value : goal.returns-clause-value
returns-clause-value c = sym (gap_ends c.args.line.now c.loop-i.i c.loop-i.found c.loop-i-test.false) ∙ c.loop-i.invariant.value
