use Rattle.std.proofs.Common.{◌∙◌}
use Rattle.cwr_endings.proofs.lemmas.Fails.{refused_fails}
use Rattle.cwr_endings.proofs.lemmas.Outs.{turns_so, writes_on}
use Rattle.cwr_transform.proofs.lemmas.RepairFails.{file_since, unmade_on}
use Rattle.cwr_transform.proofs.lemmas.RepairFiles.{repaired_since}
use Rattle.cwr_transform.proofs.renumberings.write_repaired.Goals as goal

pub returns-clause-files : goal.returns-clause-files
returns-clause-files g c =
    λ none.
    let s0 = c.args.store.now in
    let s1 = c.refuse_out.new.store in
    let s2 = c.make_repaired.new.store in
    writes_on (g.S.Store.held s0) (g.S.Store.held s1) (g.S.Store.held s2) _ c.refuse_out.ensures.kept
    (turns_so (g.S.Store.held s1) (g.S.Store.held s2) _ _
    (λ texts new h. repaired_since c.args.out.now c.args.repair.now.wanted.whole (g.S.Store.failures s0) (g.S.Store.failures s1)
    (g.S.Store.failures s2) _ c.make_repaired.result texts new c.refuse_out.ensures.failures h)
    (c.make_repaired.ensures.files (c.refuse_out.ensures.making ∙ none)))

pub returns-in-Err-clause-unmade : goal.returns-in-Err-clause-unmade
returns-in-Err-clause-unmade g c =
    let s0 = c.args.store.now in
    let s1 = c.refuse_out.new.store in
    refused_fails c.args.out c.args.repair.now.only_new (g.S.Store.making s0) (g.S.Store.held s0) (g.S.Store.held s1) c.in-Err.fault
    (g.S.Store.failures s0) (g.S.Store.failures s1) c.in-Err.ensures.refused

pub returns-clause-unmade : goal.returns-clause-unmade
returns-clause-unmade g c =
    let s0 = c.args.store.now in
    let s1 = c.refuse_out.new.store in
    let s2 = c.make_repaired.new.store in
    unmade_on c.make_repaired.result c.args.out (g.S.Store.making s0) (g.S.Store.making s1) (g.S.Store.held s0) (g.S.Store.held s1)
    (g.S.Store.held s2) (g.S.Store.failures s0) (g.S.Store.failures s1) (g.S.Store.failures s2) c.refuse_out.ensures.making
    c.refuse_out.ensures.kept c.refuse_out.ensures.failures c.make_repaired.ensures.unmade

pub returns-clause-counted : goal.returns-clause-counted
returns-clause-counted g c =
    file_since c.make_repaired.result (g.S.Store.failures c.args.store.now) (g.S.Store.failures c.refuse_out.new.store)
    (g.S.Store.failures c.make_repaired.new.store) c.refuse_out.ensures.failures c.make_repaired.ensures.counted
