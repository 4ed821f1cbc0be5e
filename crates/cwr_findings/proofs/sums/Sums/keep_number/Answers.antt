use Rattle.std.proofs.Common.{◌≡◌, Some, refl, sym, ap, ◌∙◌}
use Rattle.cwr_fields.specs.declared.kinds.Kind.TheVariants as kinds
use Rattle.cwr_findings.proofs.lemmas.NamedCells.{named_cell}
use Rattle.cwr_findings.proofs.lemmas.LeftBehind.{number_more, number_same, territory_same}
use Rattle.cwr_findings.proofs.lemmas.RuleFields.{number_of_spu}
use Rattle.cwr_findings.proofs.lemmas.SummedRecords.{numbers_more, numbers_still, on_ok}
use Rattle.cwr_findings.proofs.sums.Sums.keep_number.Goals as goal

pub returns-in-Some : goal.returns-in-Some
returns-in-Some c = λ rs h yes.
    let r = c.args.shown.now in
    let kind : r.kind ≡ kinds.Spu = sym c.kind.ensures.value ∙ c.in-Spu.is in
    record {
      others = refl;
      publisher =
          ap Some (c.in-Some.ensures ∙ c.cell.ensures.value
          ∙ named_cell "interested party number" kinds.Spu 5 9 r number_of_spu kind c.cell.ensures.fits)
          ∙ sym (number_more kinds.Spu rs r kind);
      writer = h.writer ∙ sym (number_same kinds.Swr rs r (λ q. let no : kinds.Spu ≡ kinds.Swr = sym kind ∙ q in absurd (cc no)));
      territory =
          territory_same rs r (λ q. let no : kinds.Spu ≡ kinds.Ter = sym kind ∙ q in absurd (cc no))
          (λ q. let no : kinds.Spu ≡ kinds.Ipa = sym kind ∙ q in absurd (cc no)) ∙ h.territory;
      publishers =
          numbers_more rs r c.args.self.now.publishers.items c.try_push.new.self.items c.in-Some.number h.publishers
          (on_ok c.try_push.result _ (sym c.is_ok.ensures.value ∙ yes) c.try_push.ensures.ok)
          (c.in-Some.ensures ∙ c.cell.ensures.value) kind c.cell.ensures.fits;
    }

pub returns-in-Some-number_in : goal.returns-in-Some-number_in
returns-in-Some-number_in c = λ rs h yes.
    let r = c.args.shown.now in
    let kind : r.kind ≡ kinds.Swr = sym c.kind.ensures.value ∙ c.in-Swr.is in
    record {
      others = refl;
      publisher =
          h.publisher ∙ sym (number_same kinds.Spu rs r (λ q. let no : kinds.Swr ≡ kinds.Spu = sym kind ∙ q in absurd (cc no)));
      writer =
          ap Some (c.in-Some-number_in.ensures ∙ c.cell-in-Swr.ensures.value ∙ named_cell "interested party number" kinds.Swr 4 9
          r (record { carried = refl; place = refl; width = refl }) kind c.cell-in-Swr.ensures.fits)
          ∙ sym (number_more kinds.Swr rs r kind);
      territory =
          territory_same rs r (λ q. let no : kinds.Swr ≡ kinds.Ter = sym kind ∙ q in absurd (cc no))
          (λ q. let no : kinds.Swr ≡ kinds.Ipa = sym kind ∙ q in absurd (cc no)) ∙ h.territory;
      publishers = numbers_still rs r c.args.self.now.publishers.items h.publishers;
    }

pub returns-in_default : goal.returns-in_default
returns-in_default c = λ rs h yes.
    let r = c.args.shown.now in
    record {
      others = refl;
      publisher = h.publisher ∙ sym (number_same kinds.Spu rs r (λ q. c.in_default.not-Spu (c.kind.ensures.value ∙ q)));
      writer = h.writer ∙ sym (number_same kinds.Swr rs r (λ q. c.in_default.not-Swr (c.kind.ensures.value ∙ q)));
      territory =
          territory_same rs r (λ q. c.in_default.not-Ter (c.kind.ensures.value ∙ q))
          (λ q. c.in_default.not-Ipa (c.kind.ensures.value ∙ q)) ∙ h.territory;
      publishers = numbers_still rs r c.args.self.now.publishers.items h.publishers;
    }
