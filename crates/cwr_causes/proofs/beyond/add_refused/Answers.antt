use Rattle.std.proofs.Common.{Some, true, ap, ◌∙◌}
use Rattle.cwr_lines.specs.Steps.Held.{HeldLine}
use Rattle.cwr_causes.specs.Steps.LinesAtEnd.{EndsInLine}
use Rattle.cwr_causes.specs.Steps.Works.{work_refused}
use Rattle.cwr_causes.proofs.lemmas.SaidInParts.{on_ok}
use Rattle.cwr_causes.proofs.lemmas.LastRefused.{of_last, seen_before, unseen_before}
use Rattle.cwr_causes.proofs.beyond.add_refused.Goals as goal

pub returns : goal.returns
returns c =
    on_ok c.add.result
    (λ h. record {
      line = c.line_at_end-line.result;
      is_last = c.line_at_end-line.ensures;
      before = _;
      is_before = (
        λ read front line held ends. seen_before (EndsInLine front true) c.line_before.result
            (c.line_before.ensures.told read front line held ends),
        λ read front line shown held ends split few none. c.line_before.ensures.untold read front line shown held ends split few
            (unseen_before c.line_before.result none),
      );
      work = c.refused_work-work.result;
      is_work =
          λ short no_lf. c.refused_work-work.ensures
          ∙ ap (λ (line : HeldLine). work_refused c.args.last.now.header c.args.refusal.now.reason line)
          (c.cut.ensures ∙ c.line_again-again.ensures.whole short no_lf);
      explains =
          of_last c.args.limits.now (Some c.args.last.now.stage) c.args.name.now c.args.refusal.now c.line_at_end-line.result _ c.args.beyond _ _ _ _ _ _ c.kind_of.ensures
          c.goes_on.ensures c.ahead.ensures h;
    })
    c.add.ensures
