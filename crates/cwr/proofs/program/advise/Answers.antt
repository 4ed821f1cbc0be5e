use Rattle.std.proofs.Common.{false, true, ℕ, List, Bor, map, refl, subst}
use Rattle.cwr_reports.specs.declared.tellings.Asked.{Asked}
use Rattle.cwr.specs.Steps.Tells.{TellsFiles}
use Rattle.cwr.proofs.program.advise.Goals as goal

pub returns-clause-told : goal.returns-clause-told
returns-clause-told g c =
    let by = c.asked_by in
    let asked : Asked = record {
      alloc = by.result.alloc;
      limits = by.result.limits;
      wanted = by.result.wanted;
      quiet = c.args.words.now.judging.quiet;
      faults = by.result.faults;
      advised = true;
      all = c.args.words.now.all;
      repeated = c.args.words.now.repeated;
    } in (
      asked,
      record {
        within = by.ensures.limits;
        wants = by.ensures.wanted;
        lines = refl;
        every = by.ensures.faults;
        advice = refl;
        whole = refl;
        kept = refl;
      },
      subst (λ (l : List (Bor (List ℕ))). TellsFiles asked false asked.quiet (g.S.Store.held c.args.store.now) (g.I.Read.remaining c.args.standard)
          (map (λ name. name.now) l) g.W.Target.contents g.W.Target.failures c.args.lines c.judge.result.0 (g.S.Store.failures c.args.store.now)
          (g.S.Store.failures c.judge.new.store) c.judge.result.1) c.as_slice-names.ensures.value c.judge.ensures.told,
    )
