use Rattle.cwr_advise.proofs.advice_lines.AdviceLines.worst.Goals as goal

pub returns : goal.returns
returns c = record {
  worst =
      λ of given here. (
        c.args.self.now.manner,
        c.args.self.now.up_to_fault,
        c.args.self.now.repeats.limit,
        here.0,
        here.5,
      );
}
