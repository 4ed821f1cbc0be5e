use Rattle.std.proofs.Common.{List, [], ◌∷◌, ◌++◌, length, sym, subst, ◌∙◌}
use Rattle.cwr_lines.specs.Format.Records.{RecordValue}
use Rattle.cwr_findings.specs.Steps.Walks.{IsBefore}
use Rattle.cwr_findings.proofs.lemmas.SummedRecords.{front_taken, work_more}
use Rattle.cwr_findings.proofs.sums.Sums.may_break.Goals as goal

pub returns : goal.returns
returns c = λ rs h no.
    let t = rs ++ c.args.shown.now ∷ [] in
    record {
      iswc = sym (c.has_wrong_iswc.ensures t (length rs)) ∙ c.if-has_wrong_iswc.false;
      party = sym (c.names_another_party.ensures t (length rs) (work_more rs c.args.shown.now h.work)
          (subst (λ (l : List RecordValue). IsBefore l c.before-known.result) (sym (front_taken rs c.args.shown.now))
          (c.before-known.ensures rs h))) ∙ c.if-names_another_party.false;
      publisher = c.may_name_no_publisher.ensures rs h c.if-may_name_no_publisher.false;
      excerpt = c.may_lack_excerpt_type.ensures rs h no;
    }
