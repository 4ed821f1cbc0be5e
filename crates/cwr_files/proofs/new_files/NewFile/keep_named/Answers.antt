use Rattle.std.proofs.Common.{ℕ, Bool, List, Option, Some, subst, sym, arith}
use Rattle.cwr_files.specs.Steps.NewFiles.{HasBegun}
use Rattle.cwr_files.specs.declared.faults.Fault.{Fault}
use Rattle.cwr_files.specs.declared.faults.Fault.TheVariants as faults
use Rattle.cwr_files.specs.declared.faults.Reason.{Reason}
use Rattle.cwr_files.proofs.lemmas.Parts.{dropped_alike, kept_alike, left_alike}
use Rattle.cwr_files.proofs.new_files.NewFile.keep_named.Goals as goal

pub returns-in-Ok-clause-kept : goal.returns-in-Ok-clause-kept
returns-in-Ok-clause-kept g c =
    λ texts text began has.
    let on : HasBegun c.args.self (g.S.Store.making c.args.store.now) texts (g.S.Store.held c.replaces-replaces.new.store)
    = subst (HasBegun c.args.self (g.S.Store.making c.args.store.now) texts) (sym c.replaces-replaces.ensures.kept) began in
    let here : HasBegun c.args.self (g.S.Store.making c.replaces-replaces.new.store) texts (g.S.Store.held c.replaces-replaces.new.store)
    = subst (λ (m : Option (List ℕ)). HasBegun c.args.self m texts (g.S.Store.held c.replaces-replaces.new.store)) (sym c.replaces-replaces.ensures.making) on in
    kept_alike (Unit {0}) Bool Reason Fault c.args.self text (g.S.Store.failures c.args.store.now)
    (g.S.Store.failures c.replaces-replaces.new.store) (g.S.Store.failures c.keep.new.store) c.in-Ok.field-0 c.replaces-replaces.result texts
    (g.S.Store.held c.keep.new.store) (c.in-Ok.ensures.kept texts text here has)

pub returns-in-Err-clause-kept : goal.returns-in-Err-clause-kept
returns-in-Err-clause-kept g c =
    λ texts text began has.
    let on : HasBegun c.args.self (g.S.Store.making c.args.store.now) texts (g.S.Store.held c.replaces-replaces.new.store)
    = subst (HasBegun c.args.self (g.S.Store.making c.args.store.now) texts) (sym c.replaces-replaces.ensures.kept) began in
    let here : HasBegun c.args.self (g.S.Store.making c.replaces-replaces.new.store) texts (g.S.Store.held c.replaces-replaces.new.store)
    = subst (λ (m : Option (List ℕ)). HasBegun c.args.self m texts (g.S.Store.held c.replaces-replaces.new.store)) (sym c.replaces-replaces.ensures.making) on in
    left_alike (Unit {0}) Bool Reason Fault c.args.self text (g.S.Store.failures c.args.store.now)
    (g.S.Store.failures c.replaces-replaces.new.store) (g.S.Store.failures c.keep.new.store) c.in-Err.reason
    (faults.Output c.args.name (Some c.in-Err.reason)) texts (g.S.Store.held c.keep.new.store) c.replaces-replaces.ensures.failures (c.in-Err.ensures.kept texts text here has)

pub returns-in-Err-clause-unkept : goal.returns-in-Err-clause-unkept
returns-in-Err-clause-unkept g c =
    λ texts began.
    let on : HasBegun c.args.self (g.S.Store.making c.args.store.now) texts (g.S.Store.held c.replaces-replaces.new.store)
    = subst (HasBegun c.args.self (g.S.Store.making c.args.store.now) texts) (sym c.replaces-replaces.ensures.kept) began in
    let here : HasBegun c.args.self (g.S.Store.making c.replaces-replaces.new.store) texts (g.S.Store.held c.replaces-replaces.new.store)
    = subst (λ (m : Option (List ℕ)). HasBegun c.args.self m texts (g.S.Store.held c.replaces-replaces.new.store)) (sym c.replaces-replaces.ensures.making) on in
    dropped_alike c.args.self (g.S.Store.failures c.args.store.now) (g.S.Store.failures c.replaces-replaces.new.store)
    (g.S.Store.failures c.keep.new.store) texts (g.S.Store.held c.keep.new.store) c.replaces-replaces.ensures.failures
    (c.in-Err.ensures.unkept texts here)

pub returns-in-Err-clause-counted : goal.returns-in-Err-clause-counted
returns-in-Err-clause-counted g c =
    λ lt. let one = c.in-Err.ensures.counted lt in omega (arith, one, c.replaces-replaces.ensures.failures)
