use Rattle.std.proofs.Common.{ℕ, ◌+◌, true, refl, sym, ap, ◌∙◌}
use Rattle.cwr_files.specs.Steps.NumberedFiles.{fault_of, has_stopped, prefix_of}
use Rattle.cwr_files.proofs.lemmas.Counts.{fault_first, fault_kept, fault_new, same_count}
use Rattle.cwr_files.proofs.lemmas.PartsInHand.{asks, goes_on, stands_alike, stands_stopped, stopped_stands}
use Rattle.cwr_files.proofs.numberings.Numbering.next.Goals as goal

pub returns-in-Ok-clause-stands : goal.returns-in-Ok-clause-stands
returns-in-Ok-clause-stands g c = λ texts count failures h.
    let it = c.args.self.now in
    let new = c.make.new.self in
    let a = asks (has_stopped it) (prefix_of it) (prefix_of new) it.asked it.open_file new.open_file
    (g.S.Store.making c.args.store.now) (g.S.Store.making c.make.new.store) (g.S.Store.held c.args.store.now)
    (g.S.Store.held c.make.new.store) (g.S.Store.failures c.args.store.now) (g.S.Store.failures c.make.new.store) texts count failures h
    c.if-self.false (sym c.is_some.ensures ∙ c.if-is_some.false) c.make.ensures.prefix
    c.make.ensures.begun c.make.ensures.failures in
    goes_on (has_stopped new) (prefix_of new) new.asked new.open_file (g.S.Store.making c.make.new.store) (g.S.Store.held c.make.new.store)
    (g.S.Store.failures c.make.new.store) texts count failures c.in-Ok.ensures.lent
    (c.in-Ok.ensures.asked ∙ ap (λ (n : ℕ). n + 1) a.1) a.0

pub returns-in-Err-clause-stands : goal.returns-in-Err-clause-stands
returns-in-Err-clause-stands g c = λ texts count failures h.
    let it = c.args.self.now in
    let new = c.make.new.self in
    let last = c.count_failure-in-Err.new.self in
    let a = asks (has_stopped it) (prefix_of it) (prefix_of new) it.asked it.open_file new.open_file
    (g.S.Store.making c.args.store.now) (g.S.Store.making c.make.new.store) (g.S.Store.held c.args.store.now)
    (g.S.Store.held c.make.new.store) (g.S.Store.failures c.args.store.now) (g.S.Store.failures c.make.new.store) texts count failures h
    c.if-self.false (sym c.is_some.ensures ∙ c.if-is_some.false) c.make.ensures.prefix
    c.make.ensures.begun c.make.ensures.failures in
    stopped_stands (has_stopped last) (prefix_of c.discard.new.self) (prefix_of last) last.asked c.discard.new.self.open_file last.open_file
    (g.S.Store.making c.discard.new.store) (g.S.Store.held c.discard.new.store) (g.S.Store.failures c.discard.new.store) texts count failures
    c.count_failure-in-Err.ensures.stopped c.count_failure-in-Err.ensures.prefix c.count_failure-in-Err.ensures.made
    c.discard.ensures.closed (c.discard.ensures.drops texts count failures a.0)

pub returns-then-is_some-clause-stands : goal.returns-then-is_some-clause-stands
returns-then-is_some-clause-stands g c = λ texts count failures h.
    let it = c.args.self.now in
    let last = c.count_failure.new.self in
    stands_alike true (has_stopped last) (prefix_of it) (prefix_of last) it.asked last.asked it.open_file last.open_file
    (g.S.Store.making c.args.store.now) (g.S.Store.held c.args.store.now) (g.S.Store.failures c.args.store.now) texts count failures
    c.count_failure.ensures.stopped c.count_failure.ensures.prefix c.count_failure.ensures.asked c.count_failure.ensures.made
    (stands_stopped (has_stopped it) (prefix_of it) it.asked it.open_file (g.S.Store.making c.args.store.now)
    (g.S.Store.held c.args.store.now) (g.S.Store.failures c.args.store.now) texts count failures h)

pub returns-then-is_some-clause-fault : goal.returns-then-is_some-clause-fault
returns-then-is_some-clause-fault g c =
    let failures = g.S.Store.failures c.args.store.now in
    fault_first failures failures (fault_of c.args.self.now) (fault_of c.count_failure.new.self) c.first_fault-fault.result c.first_fault-fault.ensures
    (same_count failures failures refl) c.count_failure.ensures.fault

pub returns-in-Ok-clause-fault : goal.returns-in-Ok-clause-fault
returns-in-Ok-clause-fault g c =
    fault_kept (g.S.Store.failures c.args.store.now) (g.S.Store.failures c.make.new.store) (fault_of c.args.self.now)
    (fault_of c.make.new.self) c.make.ensures.failures c.make.ensures.fault

pub returns-in-Err-clause-fault : goal.returns-in-Err-clause-fault
returns-in-Err-clause-fault g c =
    fault_new (g.S.Store.failures c.args.store.now) (g.S.Store.failures c.make.new.store) (g.S.Store.failures c.discard.new.store)
    (fault_of c.args.self.now) (fault_of c.count_failure-in-Err.new.self) c.in-Err.fault c.in-Err.ensures.failed c.discard.ensures.failures
    c.count_failure-in-Err.ensures.fault
