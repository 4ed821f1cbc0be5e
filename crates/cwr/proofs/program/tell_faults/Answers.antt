use Rattle.std.proofs.Common.{true, ℕ, List, Bor, map, refl, subst}
use Rattle.cwr_reports.specs.declared.tellings.Asked.{Asked}
use Rattle.cwr.specs.Steps.Tells.{TellsFiles}
use Rattle.cwr.proofs.program.tell_faults.Goals as goal

pub returns-clause-told : goal.returns-clause-told
returns-clause-told g c =
    let by = c.asked_by in
    let asked : Asked = record {
      alloc = by.result.alloc;
      limits = by.result.limits;
      wanted = by.result.wanted;
      quiet = c.args.words.now.quiet;
      faults = true;
      advised = c.args.words.now.advised;
      all = c.args.words.now.all;
      repeated = by.result.repeated;
    } in (
      asked,
      record {
        within = by.ensures.limits;
        wants = by.ensures.wanted;
        lines = refl;
        every = refl;
        advice = refl;
        whole = refl;
        kept = by.ensures.repeated;
      },
      subst (λ (l : List (Bor (List ℕ))). TellsFiles asked c.args.words.now.explained asked.quiet (g.S.Store.held c.args.store.now) (g.I.Read.remaining c.args.standard)
          (map (λ name. name.now) l) g.W.Target.contents g.W.Target.failures c.args.lines c.judge.result.0 (g.S.Store.failures c.args.store.now)
          (g.S.Store.failures c.judge.new.store) c.judge.result.1) c.as_slice-names.ensures.value c.judge.ensures.told,
    )
