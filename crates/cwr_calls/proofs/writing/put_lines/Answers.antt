use Rattle.std.proofs.Common.{[], refl, sym, subst, ◌∙◌, List, ℕ}
use Rattle.cwr_decode.specs.Steps.TextLines.{FirstLine}
use Rattle.cwr_decode.proofs.lemmas.WalkedText.{all_left}
use Rattle.cwr_calls.specs.declared.writing.After.{After}
use Rattle.cwr_calls.specs.Steps.Writings.{WritesLine, held_records}
use Rattle.cwr_calls.proofs.lemmas.WrittenLines.{written_all, written_more, written_none, written_to_trailer}
use Rattle.cwr_calls.proofs.writing.put_lines.Goals as goal

pub lines-init : goal.lines-init
lines-init g c =
    record { written = written_none g.W.Target.contents c.args.text.now [] c.args.encoder.now refl; empty = c.new-line.ensures }

pub returns-in-Ok-Trailer : goal.returns-in-Ok-Trailer
returns-in-Ok-Trailer g c =
    let h =
    subst (λ (a : After). WritesLine g.W.Target.contents c.first_line.new.line (held_records c.lines.held) a c.lines.encoder
    c.put_line.new.encoder) c.in-Ok-Trailer.field-0-is c.in-Ok-Trailer.ensures in
    written_to_trailer g.W.Target.contents c.args.text.now c.lines.used c.in-Some.taken c.first_line.new.line
    (held_records c.lines.held) c.args.encoder.now c.lines.encoder c.put_line.new.encoder c.lines.invariant.written
    (subst (λ (rest : List ℕ). FirstLine rest c.in-Some.taken c.first_line.new.line) (all_left c.lines.used c.args.text.now)
    c.in-Some.ensures.some) h.0 h.1 h.2

pub lines-preserved : goal.lines-preserved
lines-preserved g c =
    let h =
    subst (λ (a : After). WritesLine g.W.Target.contents c.first_line.new.line (held_records c.lines.held) a c.lines.encoder
    c.put_line.new.encoder) c.in-Ok-Lines.field-0-is c.in-Ok-Lines.ensures in
    record {
      written =
          written_more g.W.Target.contents c.args.text.now c.lines.used c.in-Some.taken c.first_line.new.line h.0
          (held_records c.lines.held) (held_records c.in-Ok-Lines.left) c.args.encoder.now c.lines.encoder c.put_line.new.encoder
          c.lines.invariant.written (subst (λ (rest : List ℕ). FirstLine rest c.in-Some.taken c.first_line.new.line)
          (all_left c.lines.used c.args.text.now) c.in-Some.ensures.some) h.1 h.2;
      empty = c.clear.ensures;
    }

pub returns-in-Ok : goal.returns-in-Ok
returns-in-Ok g c =
    written_all g.W.Target.contents c.args.text.now c.lines.used (held_records c.lines.held) c.args.encoder.now c.lines.encoder
    c.end_transaction.new.encoder c.lines.invariant.written
    (sym (all_left c.lines.used c.args.text.now) ∙ c.in_default.ensures.none refl) c.in-Ok.ensures
