use Rattle.std.proofs.Common.{◌≡◌, true}
use Rattle.clap.specs.Words.{found_of}
use Rattle.cwr_words.specs.declared.words.AcksWords.{AcksWords}
use Rattle.cwr_words.specs.Steps.Matches.{given_by}
use Rattle.cwr_words.proofs.lemmas.Beside.{beside_too}
use Rattle.cwr_words.proofs.words.acks_in.Goals as goal

pub returns-then-not-are_beside : goal.returns-then-not-are_beside
returns-then-not-are_beside c = λ other h.
    let words : AcksWords = record {
      files = c.in_ok-names_in.field-0;
      sent = c.in_ok-values_of.field-0;
      as_json = c.flag_in.result;
      by_place = c.flag_in-2.result;
      state = c.flag_in-3.result;
      fail_on = c.in-Some.fail_on;
      statuses = c.in-Some-2.statuses;
      utf8 = c.flag_in-4.result;
    } in
    let there : c.are_beside.result ≡ true =
    c.are_beside.ensures.1 (beside_too (given_by (found_of c.args.given.now)) words other c.in_ok-values_of.ensures c.flag_in-2.ensures
    c.flag_in-3.ensures (rw c.in-Some-2.is at c.in_ok-statuses.ensures) h) in
    let untrue = c.if-not-are_beside.true in cc
