use Rattle.std.proofs.Common.{ap, ◌∙◌, arith}
use Rattle.cwr_files.specs.declared.faults.Reason.{Reason}
use Rattle.cwr_files.proofs.lemmas.Parts.{counted_up, unkept, unkept_dropped}
use Rattle.cwr_files.proofs.new_files.NewFile.keep.Goals as goal

pub returns-in-Some-clause-kept : goal.returns-in-Some-clause-kept
returns-in-Some-clause-kept g c =
    λ texts text began has. c.keep_file.ensures.kept texts text began (ap g.S.Writer.Write.contents c.in-Some.ensures.0 ∙ has)

pub returns-in-None-clause-kept : goal.returns-in-None-clause-kept
returns-in-None-clause-kept g c =
    λ texts text began has. unkept (Unit {0}) Reason c.args.self text c.max-times.result (g.S.Store.failures c.args.store.now)
    (g.S.Store.failures c.discard.new.store) c.kind.result texts (g.S.Store.held c.discard.new.store) (omega arith)
    (c.discard.ensures.dropped texts began)

pub returns-in-None-clause-counted : goal.returns-in-None-clause-counted
returns-in-None-clause-counted g c =
    counted_up c.max-times.result (g.S.Store.failures c.args.store.now) (g.S.Store.failures c.discard.new.store) (omega arith)
    c.discard.ensures.failures

pub returns-in-None-clause-unkept : goal.returns-in-None-clause-unkept
returns-in-None-clause-unkept g c =
    λ texts began. unkept_dropped c.args.self c.max-times.result (g.S.Store.failures c.args.store.now)
    (g.S.Store.failures c.discard.new.store) texts (g.S.Store.held c.discard.new.store) (omega arith)
    (c.discard.ensures.dropped texts began)
