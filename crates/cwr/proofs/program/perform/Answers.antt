use Rattle.std.proofs.Common.{sym, subst}
use Rattle.cwr_words.specs.declared.words.Work.{Work}
use Rattle.cwr_endings.proofs.lemmas.Outs.{stays}
use Rattle.cwr.specs.Format.Files.{LeavesWork}
use Rattle.cwr.proofs.program.perform.Goals as goal

pub returns-in-Show-clause-files : goal.returns-in-Show-clause-files
returns-in-Show-clause-files g c =
    λ none. subst
    (λ (w : Work). LeavesWork c.args.task.now.limits c.args.task.now.whole w (g.S.Store.held c.args.store.now) (g.I.Read.remaining c.args.standard)
    (g.S.Store.failures c.args.store.now) (g.S.Store.failures c.show_records.new.store) c.show_records.result.1
    (g.S.Store.held c.show_records.new.store)) (sym c.in-Show.is)
    (stays (g.S.Store.held c.args.store.now) (g.S.Store.held c.show_records.new.store) c.show_records.ensures.kept)

pub returns-in-Summary-clause-files : goal.returns-in-Summary-clause-files
returns-in-Summary-clause-files g c =
    λ none. subst
    (λ (w : Work). LeavesWork c.args.task.now.limits c.args.task.now.whole w (g.S.Store.held c.args.store.now) (g.I.Read.remaining c.args.standard)
    (g.S.Store.failures c.args.store.now) (g.S.Store.failures c.sum_up.new.store) c.sum_up.result.1
    (g.S.Store.held c.sum_up.new.store)) (sym c.in-Summary.is)
    (stays (g.S.Store.held c.args.store.now) (g.S.Store.held c.sum_up.new.store) c.sum_up.ensures.kept)

pub returns-in-Json-clause-files : goal.returns-in-Json-clause-files
returns-in-Json-clause-files g c =
    λ none. subst
    (λ (w : Work). LeavesWork c.args.task.now.limits c.args.task.now.whole w (g.S.Store.held c.args.store.now) (g.I.Read.remaining c.args.standard)
    (g.S.Store.failures c.args.store.now) (g.S.Store.failures c.write_json.new.store) c.write_json.result.1
    (g.S.Store.held c.write_json.new.store)) (sym c.in-Json.is) (c.write_json.ensures.files none)

pub returns-in-Csv-clause-files : goal.returns-in-Csv-clause-files
returns-in-Csv-clause-files g c =
    λ none. subst
    (λ (w : Work). LeavesWork c.args.task.now.limits c.args.task.now.whole w (g.S.Store.held c.args.store.now) (g.I.Read.remaining c.args.standard)
    (g.S.Store.failures c.args.store.now) (g.S.Store.failures c.write_table.new.store) c.write_table.result.1
    (g.S.Store.held c.write_table.new.store)) (sym c.in-Csv.is) (c.write_table.ensures.files none)

pub returns-in-Split-clause-files : goal.returns-in-Split-clause-files
returns-in-Split-clause-files g c =
    λ none. subst
    (λ (w : Work). LeavesWork c.args.task.now.limits c.args.task.now.whole w (g.S.Store.held c.args.store.now) (g.I.Read.remaining c.args.standard)
    (g.S.Store.failures c.args.store.now) (g.S.Store.failures c.split_input.new.store) c.split_input.result.1
    (g.S.Store.held c.split_input.new.store)) (sym c.in-Split.is) (c.split_input.ensures.files none)
