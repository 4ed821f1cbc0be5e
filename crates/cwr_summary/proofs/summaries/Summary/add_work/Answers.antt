use Rattle.std.proofs.Common.{Bool, [], ◌++◌, ap, sym, ◌∙◌, append-nil, if◌then◌else◌}
use Rattle.std.specs.Prelude.{flat_map}
use Rattle.cwr_summary.specs.declared.columns.Right.TheVariants.{Mechanical, Performing, Synchronization}
use Rattle.cwr_summary.specs.Format.Summaries.{all_rights, right_parts}
use Rattle.cwr_summary.specs.Steps.Counted.{counted}
use Rattle.cwr_summary.proofs.lemmas.Counting.{counted_both}
use Rattle.cwr_summary.proofs.lemmas.Headers.{work_header}
use Rattle.cwr_summary.proofs.summaries.Summary.add_work.Goals as goal

pub returns : goal.returns
returns c =
    let old = c.args.self.now.numbers in
    let t = c.args.transaction.now in
    let last = right_parts t Synchronization ++ [] in
    counted_both old c.add_right.new.self.numbers c.add_right-3.new.self.numbers (right_parts t Performing)
    (right_parts t Mechanical ++ last) c.add_right.ensures
    (counted_both c.add_right.new.self.numbers c.add_right-2.new.self.numbers c.add_right-3.new.self.numbers
    (right_parts t Mechanical) last c.add_right-2.ensures
    (c.add_right-3.ensures ∙ ap (counted c.add_right-2.new.self.numbers) (sym (append-nil (right_parts t Synchronization)))))
    ∙ ap (λ (b : Bool). counted old (if b then flat_map (right_parts t) all_rights else []))
    (sym (work_header t c.in-Some.head c.in-Some.ensures.value ∙ sym c.is_work.ensures ∙ c.if-not-is_work.false))
