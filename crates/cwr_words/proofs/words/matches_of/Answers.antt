use Rattle.std.proofs.Common.{ap, subst, map, ◌≡◌, ◌∙◌}
use Rattle.std.proofs.lemmas.Result.{IfOk-weaker}
use Rattle.clap.specs.Words.{App, FailsBy, app_of, fault_of, is_simple, is_simple_and_free, subcommand_of}
use Rattle.cwr_grammar.specs.Format.CommandLine.{grammar}
use Rattle.cwr_grammar.proofs.lemmas.Read.{free, simple}
use Rattle.cwr_words.proofs.lemmas.Parses.{where_refused, where_taken}
use Rattle.cwr_words.proofs.words.matches_of.Goals as goal

pub returns : goal.returns
returns g c =
    let words = map g.S.AsStr.text c.args.words.now in
    let is : app_of c.in_ok-command.command ≡ grammar = c.in_ok-command.ensures in
    let parse = c.try_get_matches_from in
    let fails = subst (λ (a : App). FailsBy (fault_of a words) parse.result) is (parse.ensures.kinds (ap is_simple_and_free is ∙ free)) in
    record {
      rows = IfOk-weaker parse.result _ _ (λ m h. (h (ap is_simple is ∙ simple)).1 ∙ ap (λ (a : App). subcommand_of a words) is) parse.ensures.matches;
      fits = where_taken parse.result _ _ fails;
      refused = where_refused parse.result (fault_of grammar words) fails;
    }
