use Rattle.std.proofs.Common.{refl, ap, sym, ◌∙◌}
use Rattle.std.specs.Prelude.{Option}
use Rattle.cwr_files.specs.declared.new_files.NewFile.{NewFile}
use Rattle.cwr_files.specs.Steps.NumberedFiles.{fault_after, fault_of, has_stopped, made_in, prefix_of}
use Rattle.cwr_files.proofs.lemmas.Counts.{fault_gone}
use Rattle.cwr_files.proofs.lemmas.PartsInHand.{ends_alike, stands_ends, stopped_stands}
use Rattle.cwr_files.proofs.numberings.Numbering.give_up.Goals as goal

pub returns-clause-stands : goal.returns-clause-stands
returns-clause-stands g c =
    λ texts count failures h.
    let it = c.args.self.now in
    let on = c.tell_failed.new.self in
    let new = c.discard.new.self in
    stopped_stands (has_stopped new) (prefix_of new) (prefix_of new) new.asked new.open_file new.open_file
    (g.S.Store.making c.discard.new.store) (g.S.Store.held c.discard.new.store) (g.S.Store.failures c.discard.new.store) texts count failures
    (c.discard.ensures.stopped ∙ c.tell_failed.ensures.stopped ∙ c.count_given_up.ensures.stopped) refl refl c.discard.ensures.closed
    (c.discard.ensures.drops texts count failures
    (ends_alike (prefix_of it) (prefix_of on) it.open_file on.open_file (g.S.Store.making c.args.store.now) (g.S.Store.held c.args.store.now)
    (g.S.Store.failures c.args.store.now) texts count failures (c.tell_failed.ensures.prefix ∙ c.count_given_up.ensures.prefix)
    (c.tell_failed.ensures.made ∙ c.count_given_up.ensures.made)
    (stands_ends (has_stopped it) (prefix_of it) it.asked it.open_file (g.S.Store.making c.args.store.now)
    (g.S.Store.held c.args.store.now) (g.S.Store.failures c.args.store.now) texts count failures h)))

pub returns-clause-fault : goal.returns-clause-fault
returns-clause-fault g c =
    let it = c.args.self.now in
    let on = c.count_given_up.new.self in
    let told = c.told_of.result in
    fault_gone c.failures-times.result (g.S.Store.failures c.args.store.now) (g.S.Store.failures c.discard.new.store)
    (made_in c.tell_failed.new.self) told (fault_of it) (fault_of c.discard.new.self) c.discard.ensures.failures c.discard.ensures.failed
    (c.discard.ensures.fault ∙ c.tell_failed.ensures.fault
    ∙ ap (fault_after c.failures-times.result (made_in on) told) c.count_given_up.ensures.fault
    ∙ ap (λ (m : Option NewFile). fault_after c.failures-times.result m told (fault_of it)) (sym c.tell_failed.ensures.made))
