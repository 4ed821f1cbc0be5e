use Rattle.std.proofs.Common.{List, ℕ, Bor, map, length, sym, subst}
use Rattle.std.specs.Prelude.{Err}
use Rattle.cwr_files.specs.declared.faults.Fault.{Fault}
use Rattle.cwr_endings.specs.declared.stops.Stop.TheVariants as stops
use Rattle.cwr_endings.specs.Format.Failures.{FailsToJoin}
use Rattle.cwr_endings.specs.declared.endings.Wanted.{Wanted}
use Rattle.cwr.specs.Format.Endings.{EndsAsUnion}
use Rattle.cwr.proofs.lemmas.WorkEnds.{union_ends}
use Rattle.cwr.proofs.program.join_inputs.Goals as goal

pub returns-clause-ends : goal.returns-clause-ends
returns-clause-ends g c =
    subst
    (λ (w : Wanted). EndsAsUnion c.args.task.now.limits w (g.S.Store.held c.args.store.now) (g.I.Read.remaining c.args.standard)
    (map (λ name. name.now) c.args.words.now.files.items) c.join_files.result.1) c.wanted_by.ensures
    (subst
    (λ (l : List (Bor (List ℕ))). EndsAsUnion c.args.task.now.limits c.wanted_by.result (g.S.Store.held c.args.store.now)
    (g.I.Read.remaining c.args.standard) (map (λ name. name.now) l) c.join_files.result.1) c.as_slice-files.ensures.value
    (union_ends
    (record {
      limits = c.args.task.now.limits;
      wanted = c.wanted_by.result;
      out = c.args.words.now.out;
      only_new = c.args.words.now.only_new;
      same_sender = c.args.words.now.same_sender;
      repeated = c.args.words.now.repeated;
    })
    (length c.as_slice-files.result.now) c.args.task.now.limits c.wanted_by.result (g.S.Store.held c.args.store.now) (g.I.Read.remaining c.args.standard)
    (map (λ name. name.now) c.as_slice-files.result.now) c.join_files.result.1 c.join_files.ensures.ends c.join_files.ensures.status))

pub returns-in-Err-clause-failed : goal.returns-in-Err-clause-failed
returns-in-Err-clause-failed g c =
    let s = c.args.store.now in
    subst (λ (f : Fault). FailsToJoin c.args.words.now.out (g.S.Store.making s) (g.S.Store.held s) (g.S.Store.held s) (Err (stops.Fault f))
    (g.S.Store.failures s) (g.S.Store.failures s)) (sym c.in-Err.ensures.0) tt
