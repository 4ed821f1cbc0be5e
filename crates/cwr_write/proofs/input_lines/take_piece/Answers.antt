use Rattle.std.proofs.Common.{[], drop, take, sym, append-nil}
use Rattle.std.proofs.lemmas.List.{take-append-drop}
use Rattle.cwr_write.proofs.lemmas.FaultsPassed.{passed_on}
use Rattle.cwr_write.proofs.lemmas.LinesTaken.{exceeded}
use Rattle.cwr_write.proofs.input_lines.take_piece.Goals as goal

pub returns-in_err-add-in-Some-clause-long : goal.returns-in_err-add-in-Some-clause-long
returns-in_err-add-in-Some-clause-long g c =
    passed_on c.from_residual.result c.in_err-add-in-Some.field-0.0 _ c.from_residual.ensures.1
    (λ long. exceeded c.args.most (g.R.Source.remaining c.args.reader.now) c.in-Ok.piece.now (take c.in-Some.at c.in-Ok.piece.now)
    (drop c.in-Some.at c.in-Ok.piece.now) c.args.line.now.items c.in-Ok.ensures.front
    (sym (take-append-drop c.in-Some.at c.in-Ok.piece.now)) c.in-Some.ensures.1 (c.in_err-add-in-Some.ensures.long long))

pub returns-in_err-add-in-None-clause-long : goal.returns-in_err-add-in-None-clause-long
returns-in_err-add-in-None-clause-long g c =
    passed_on c.from_residual-in_err-add-in-None.result c.in_err-add-in-None.field-0.0 _
    c.from_residual-in_err-add-in-None.ensures.1
    (λ long. exceeded c.args.most (g.R.Source.remaining c.args.reader.now) c.in-Ok.piece.now c.in-Ok.piece.now []
    c.args.line.now.items c.in-Ok.ensures.front (sym (append-nil c.in-Ok.piece.now)) c.in-None.ensures
    (c.in_err-add-in-None.ensures.long long))
