use Rattle.std.proofs.Common.{sym, subst, List, ℕ, Option, IfOk}
use Rattle.clap.specs.Words.{Row, found_of, rows_of}
use Rattle.cwr_words.specs.Format.Words.{Asks, Given, IsAnswer, IsTaskOf}
use Rattle.cwr_words.proofs.lemmas.Parses.{by_rows, subcommand_met}
use Rattle.cwr_words.proofs.words.task_in.Goals as goal

pub returns-in-Some : goal.returns-in-Some
returns-in-Some c =
    let found = found_of c.in-Some.given.now in
    let met = subcommand_met c.args.matches.now c.in-Some.name.now (rows_of found) c.in-Some.ensures.name c.in-Some.ensures.rows in
    subst (λ (o : Option (List ℕ × List Row)). IfOk c.task_of_subcommand.result (IsAnswer (Asks o))) (sym met)
    (subst (λ (given : Given). IfOk c.task_of_subcommand.result (IsAnswer (IsTaskOf c.in-Some.name.now given))) (by_rows found)
    c.task_of_subcommand.ensures)
