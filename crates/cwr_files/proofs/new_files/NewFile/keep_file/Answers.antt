use Rattle.std.proofs.Common.{List, ℕ, Some, sym, ap, subst}
use Rattle.cwr_files.specs.Format.Files.{Turns}
use Rattle.cwr_files.specs.Steps.NewFiles.{IsFinished}
use Rattle.cwr_files.proofs.lemmas.Parts.{kept, unfinished_file}
use Rattle.cwr_files.proofs.new_files.NewFile.keep_file.Goals as goal

pub returns-in-Some-clause-kept : goal.returns-in-Some-clause-kept
returns-in-Some-clause-kept g c =
    λ texts text began has. kept c.args.self text c.as_str.result.now (g.S.Store.failures c.args.store.now)
    (g.S.Store.failures c.finish.new.store) c.finish.result texts (g.S.Store.held c.args.store.now)
    (g.S.Store.held c.finish.new.store) (g.S.Store.making c.args.store.now) (rw c.in-Some.is (ap Some (sym c.as_str.ensures.value))) began
    (λ e. subst (λ (name : List ℕ). Turns (g.S.Store.held c.args.store.now) (g.S.Store.held c.finish.new.store)
    (IsFinished c.as_str.result.now name text (g.S.Store.failures c.args.store.now) (g.S.Store.failures c.finish.new.store) c.finish.result))
    c.as_str-in-Some.ensures.value (c.finish.ensures.finished text e has))

pub returns-in-Some-clause-unkept : goal.returns-in-Some-clause-unkept
returns-in-Some-clause-unkept g c =
    λ texts began. unfinished_file c.args.self c.as_str.result.now c.finish.result (g.S.Store.failures c.args.store.now)
    (g.S.Store.failures c.finish.new.store) texts (g.S.Store.held c.args.store.now) (g.S.Store.held c.finish.new.store)
    (g.S.Store.making c.args.store.now) (rw c.in-Some.is (ap Some (sym c.as_str.ensures.value))) began c.finish.ensures.unfinished
