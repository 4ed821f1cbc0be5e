use Rattle.std.proofs.Common.{rules, sym}
use Rattle.cwr_devices.specs.declared.devices.DeviceFault.{DeviceFault}
use Rattle.cwr_decode.proofs.lemmas.FromReader.{consumes_taken}
use Rattle.cwr_renumber.proofs.lemmas.LinesTaken.{taken_known}
use Rattle.cwr_renumber.proofs.takings.take_line.Goals as goal

pub returns-in_default : goal.returns-in_default
returns-in_default g c = record {
  takes = record {
    ended = sym c.take-taken.ensures.ended;
    known =
        taken_known DeviceFault _ _ _ c.args.line.now c.loop-piece.line c.take-taken.new.self c.in_ok-piece.piece.now
        c.take-taken.result.used c.take-taken.result.ended
        c.loop-piece.invariant.text c.in_ok-piece.ensures.front
        (consumes_taken _ _ _ c.in_ok-piece.piece.now c.take-taken.result.used c.fill.follows.holds-at-none.0
        c.in_ok-piece.ensures.front c.take-taken.ensures.takes.within c.consume.ensures.bytes)
        c.take-taken.ensures.takes (sym c.take-taken.ensures.ended) (λ q. c.in_default.not-Open q);
  };
  held = c.take-taken.ensures.held;
  failures = search rules;
}
