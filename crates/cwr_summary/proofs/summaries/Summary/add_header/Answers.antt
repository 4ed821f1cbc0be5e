use Rattle.std.proofs.Common.{ap, sym, ◌∙◌}
use Rattle.cwr_fields.specs.declared.kinds.Kind.{Kind}
use Rattle.cwr_summary.specs.Format.Summaries.{type_parts, version_parts}
use Rattle.cwr_summary.specs.Steps.Counted.{counted}
use Rattle.cwr_summary.proofs.lemmas.Counting.{counted_both}
use Rattle.cwr_summary.proofs.lemmas.Headers.{one_header}
use Rattle.cwr_summary.proofs.summaries.Summary.add_header.Goals as goal

pub returns : goal.returns
returns c =
    let old = c.args.self.now.numbers in
    let head = c.in-Some.head in
    counted_both old c.add_type.new.self.numbers c.add_version.new.self.numbers (type_parts head.kind) (version_parts head)
    (c.add_type.ensures ∙ ap (λ (kind : Kind). counted old (type_parts kind)) c.kind.ensures.value) c.add_version.ensures
    ∙ ap (counted old) (sym (one_header c.args.transaction.now head c.in-Some.ensures.value))
