use Rattle.std.proofs.Common.{[], ◌∷◌, refl, sym, ◌∙◌}
use Rattle.cwr_findings.proofs.lemmas.SummedRecords.{begun_sums}
use Rattle.cwr_findings.proofs.sums.Sums.begin_work.Goals as goal

pub returns : goal.returns
returns c = λ yes. begun_sums c.args.header.now _ c.requires (record {
  begun = refl;
  counted = refl;
  totals = c.none-self.ensures;
  publisher = refl;
  writer = refl;
  publishers = c.clear.ensures;
  excerpt = c.has_excerpt_type-self.ensures;
  components = c.components_of-self.ensures;
  iswc = sym (c.has_wrong_iswc.ensures (c.args.header.now ∷ []) 0) ∙ c.if-has_wrong_iswc.false;
})
