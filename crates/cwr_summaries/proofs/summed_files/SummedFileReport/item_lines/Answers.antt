use Rattle.std.proofs.Common.{ℕ, List, [], ◌∷◌, Option, ap, replicate, sym, ◌∙◌}
use Rattle.cwr_lines.specs.Format.Records.{RecordValue}
use Rattle.cwr_summary.specs.Format.Summaries.{item_parts, parts_of}
use Rattle.cwr_summary.specs.Steps.Counted.{counted}
use Rattle.cwr_summary.proofs.lemmas.Counting.{counted_both}
use Rattle.cwr_summary.proofs.lemmas.Summed.{parts_more}
use Rattle.cwr_summaries.specs.declared.summed_files.SummedFile.{SummedFile}
use Rattle.cwr_summaries.specs.Format.Rows.{opening_in}
use Rattle.cwr_summaries.specs.Steps.Rows.{first_of}
use Rattle.cwr_summaries.proofs.lemmas.Counted.{same_some}
use Rattle.cwr_summaries.proofs.lemmas.Digesting.{same_digesting}
use Rattle.cwr_summaries.proofs.lemmas.Openings.{opening_more}
use Rattle.cwr_summaries.proofs.summed_files.SummedFileReport.item_lines.Goals as goal

pub returns-clause-stands : goal.returns-clause-stands
returns-clause-stands g c = λ of given counts e.
    let zeros : List ℕ = replicate {A = ℕ} 80 0 in
    let item = c.args.item.now in
    let noted = c.note_header.ensures.others in
    let advised = c.in_ok-advise.ensures.others in
    let encoded = c.encode.ensures.others in (
      e.0,
      (
        ap (λ (f : SummedFile). f.summary.numbers) encoded ∙ ap (λ (f : SummedFile). f.summary.numbers) advised
            ∙ ap (λ (f : SummedFile). f.summary.numbers) noted
            ∙ counted_both zeros c.args.self.now.summary.numbers c.add_item.new.self.numbers (parts_of given) (item_parts item) e.1.0
            c.in_ok-add_item.ensures.ok ∙ ap (counted zeros) (sym (parts_more given item)),
        ap (λ (f : SummedFile). f.header) encoded ∙ ap (λ (f : SummedFile). f.header) advised ∙ c.note_header.ensures.header
            ∙ ap (λ (o : Option RecordValue). first_of o (opening_in (item ∷ []))) e.1.1 ∙ sym (opening_more given item),
        c.encode.ensures.digesting given
            (same_digesting (ap (λ (f : SummedFile). f.encoder) advised ∙ ap (λ (f : SummedFile). f.encoder) noted)
            (ap (λ (f : SummedFile). f.digest) advised ∙ ap (λ (f : SummedFile). f.digest) noted) e.1.2),
      ),
      same_some _ c.encode.new.self.advice c.advise.new.self.advice (ap (λ (f : SummedFile). f.advice) encoded)
          (c.in_ok-advise.ensures.stands given counts
          (same_some _ c.note_header.new.self.advice c.args.self.now.advice (ap (λ (f : SummedFile). f.advice) noted) e.2)),
    )
