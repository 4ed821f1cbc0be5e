use Rattle.std.proofs.Common.{◌≡◌, ℕ, List, Option, map, refl, sym, subst, inl, inr}
use Rattle.std.specs.Prelude.{◌⊎◌, option_map}
use Rattle.clap.specs.Values.{kind_of}
use Rattle.cwr_words.specs.declared.words.Task.{Task}
use Rattle.cwr_words.specs.Format.Words.{AskFor}
use Rattle.cwr_endings.proofs.lemmas.Outs.{stays}
use Rattle.cwr.specs.Format.Styles.{style_of}
use Rattle.cwr.specs.Steps.Cleared.{plain_on}
use Rattle.cwr.specs.Steps.Tells.{TellsBack}
use Rattle.cwr.proofs.lemmas.CameBack.{styled_so, taken_back}
use Rattle.cwr.proofs.lemmas.Leaves.{refused_code}
use Rattle.cwr.proofs.program.run.Goals as goal

pub returns-in-Err-clause-runs : goal.returns-in-Err-clause-runs
returns-in-Err-clause-runs g c =
    inr (
      stays (g.F.Store.held c.args.store.now) (g.F.Store.held c.file_in_place-file.new.store) c.file_in_place-file.ensures.kept,
      refl,
      subst
          (λ (n : ℕ). ((n ≡ 2) × ((task : Task) → AskFor (map g.S.AsStr.text c.args.words.now) task → ⊥)) ⊎ (n ≡ 3))
          (sym c.code_of-in-Err.ensures)
          (refused_code (map g.S.AsStr.text c.args.words.now) (kind_of c.in-Err.answer) c.answer_words-status.result
          c.answer_words-status.ensures.memory c.answer_words-status.ensures.words c.in-Err.ensures.refused),
    )

pub returns-in-Ok-clause-runs : goal.returns-in-Ok-clause-runs
returns-in-Ok-clause-runs g c =
    let r = c.carry_out-status.ensures in
    let task = c.in-Ok.task in
    let terminals = c.args.terminals in
    let contents = g.O.Write.contents in
    let held = g.F.Store.held c.args.store.now in
    let standard : Option (List ℕ) = g.I.Read.remaining c.args.input in
    let count : ℕ = g.F.Store.failures c.args.store.now in
    let count_now : ℕ = g.F.Store.failures c.carry_out-status.new.store in
    inl (
      task,
      c.carry_out-status.result.0,
      c.in-Ok.ensures.asked,
      record {
        ending = r.ending;
        ends = r.ends;
        status_is = r.status_is;
        fails = r.fails;
        files = r.files;
        renumbers = r.renumbers;
        told = subst (λ (back : Option _). TellsBack task.limits task.whole task.work held standard
            (plain_on terminals task (contents c.args.output)) (option_map (λ it. plain_on terminals task (contents it)) back) count count_now
            r.ending) (sym c.taken_out.ensures)
            (taken_back contents task.limits task.whole task.work held standard (style_of task.work task.colouring terminals) terminals.output
            c.args.output _ c.carry_out-status.result.1 count count_now r.ending
            (styled_so contents c.new-output-in-Ok.result c.new-output.result c.args.output (style_of task.work task.colouring terminals)
            c.style_of-style.result terminals.output c.new-output-in-Ok.ensures.output c.new-output-in-Ok.ensures.style c.style_of-style.ensures.value
            c.new-output.ensures.output c.new-output.ensures.terminal) r.told);
      },
      c.code_of.ensures,
    )
