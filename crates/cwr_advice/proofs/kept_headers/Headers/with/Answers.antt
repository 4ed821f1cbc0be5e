use Rattle.cwr_advice.specs.Format.Rules.{has_composite_type, has_no_composite_type, is_version}
use Rattle.cwr_advice.proofs.lemmas.CountedFacts.{any_more}
use Rattle.cwr_advice.proofs.kept_headers.Headers.with.Goals as goal

pub returns : goal.returns
returns c = λ rs h.
    let r = c.args.shown.now in
    record {
      composite =
          any_more has_composite_type rs r c.args.self.has_composite c.has_composite_type-composite.result h.composite
          c.has_composite_type-composite.ensures;
      plain =
          any_more has_no_composite_type rs r c.args.self.has_plain c.has_no_composite_type-plain.result h.plain
          c.has_no_composite_type-plain.ensures;
      version =
          any_more is_version rs r c.args.self.has_version c.is_version-version.result h.version c.is_version-version.ensures;
    }
