use Rattle.std.proofs.Common.{◌∙◌, ℕ, List, Option, Some, ap}
use Rattle.cwr_summary.specs.declared.summaries.Summary.{Summary}
use Rattle.cwr_summaries.specs.Format.Rows.{unended}
use Rattle.cwr_summaries.specs.Steps.Rows.{if_good}
use Rattle.cwr_summaries.proofs.summaries.row_of.Goals as goal

pub returns : goal.returns
returns c =
    let found = c.args.found.now in
    let after = c.if_good.ensures in
    let canonical = c.if_good-2.ensures ∙ ap (λ (o : Option (List ℕ)). if_good found.judgement.verdict o) c.digest.ensures in
    let verdict = c.unended.ensures ∙ ap unended c.requires in
    let numbers = ap (λ (s : Summary). Some s.numbers) c.summary.ensures.value in
    let senders = ap (λ (n : ℕ). Some n) c.senders_in.ensures in
    λ i. record {
      file = Some c.args.name.now;
      bytes = Some found.bytes;
      after = after i;
      digest = found.digest;
      canonical = canonical i;
      verdict = verdict i;
      header = c.header_of.ensures i;
      numbers = numbers i;
      advice = c.advice.result;
      senders = senders i;
    }
