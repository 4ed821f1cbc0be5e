use Rattle.std.proofs.Common.{◌≡◌, Some, ap, sym, ◌∙◌, refl}
use Rattle.cwr_fields.specs.declared.kinds.Kind.TheVariants as kinds
use Rattle.cwr_findings.proofs.lemmas.NamedCells.{named_cell}
use Rattle.cwr_findings.proofs.lemmas.LeftBehind.{number_more, number_same, territory_more, party_more, territory_same}
use Rattle.cwr_findings.proofs.before.Before.with.Goals as goal

pub returns-in-Spu : goal.returns-in-Spu
returns-in-Spu c = λ rs h.
    let kind : c.args.shown.now.kind ≡ kinds.Spu = sym c.kind.ensures.value ∙ c.in-Spu.is in
    record {
      publisher =
          ap Some (c.cell.ensures.value ∙ named_cell "interested party number" kinds.Spu 5 9 c.args.shown.now
          (record { carried = refl; place = refl; width = refl }) kind c.cell.ensures.fits) ∙ sym (number_more kinds.Spu rs
          c.args.shown.now kind);
      writer =
          h.writer ∙ sym
          (number_same kinds.Swr rs c.args.shown.now (λ q. let no : kinds.Spu ≡ kinds.Swr = sym kind ∙ q in absurd (cc no)));
      territory =
          h.territory ∙ sym (territory_same rs c.args.shown.now
          (λ q. let no : kinds.Spu ≡ kinds.Ter = sym kind ∙ q in absurd (cc no))
          (λ q. let no : kinds.Spu ≡ kinds.Ipa = sym kind ∙ q in absurd (cc no)));
    }

pub returns-in-Swr : goal.returns-in-Swr
returns-in-Swr c = λ rs h.
    let kind : c.args.shown.now.kind ≡ kinds.Swr = sym c.kind.ensures.value ∙ c.in-Swr.is in
    record {
      publisher =
          h.publisher ∙ sym
          (number_same kinds.Spu rs c.args.shown.now (λ q. let no : kinds.Swr ≡ kinds.Spu = sym kind ∙ q in absurd (cc no)));
      writer =
          ap Some (c.cell-in-Swr.ensures.value ∙ named_cell "interested party number" kinds.Swr 4 9 c.args.shown.now
          (record { carried = refl; place = refl; width = refl }) kind c.cell-in-Swr.ensures.fits) ∙ sym (number_more kinds.Swr rs
          c.args.shown.now kind);
      territory =
          h.territory ∙ sym (territory_same rs c.args.shown.now
          (λ q. let no : kinds.Swr ≡ kinds.Ter = sym kind ∙ q in absurd (cc no))
          (λ q. let no : kinds.Swr ≡ kinds.Ipa = sym kind ∙ q in absurd (cc no)));
    }

pub returns-in-Ter : goal.returns-in-Ter
returns-in-Ter c = λ rs h.
    let kind : c.args.shown.now.kind ≡ kinds.Ter = sym c.kind.ensures.value ∙ c.in-Ter.is in
    record {
      publisher =
          h.publisher ∙ sym
          (number_same kinds.Spu rs c.args.shown.now (λ q. let no : kinds.Ter ≡ kinds.Spu = sym kind ∙ q in absurd (cc no)));
      writer =
          h.writer ∙ sym
          (number_same kinds.Swr rs c.args.shown.now (λ q. let no : kinds.Ter ≡ kinds.Swr = sym kind ∙ q in absurd (cc no)));
      territory = sym (territory_more rs c.args.shown.now kind);
    }

pub returns-in-Ipa : goal.returns-in-Ipa
returns-in-Ipa c = λ rs h.
    let kind : c.args.shown.now.kind ≡ kinds.Ipa = sym c.kind.ensures.value ∙ c.in-Ipa.is in
    record {
      publisher =
          h.publisher ∙ sym
          (number_same kinds.Spu rs c.args.shown.now (λ q. let no : kinds.Ipa ≡ kinds.Spu = sym kind ∙ q in absurd (cc no)));
      writer =
          h.writer ∙ sym
          (number_same kinds.Swr rs c.args.shown.now (λ q. let no : kinds.Ipa ≡ kinds.Swr = sym kind ∙ q in absurd (cc no)));
      territory = sym (party_more rs c.args.shown.now kind);
    }

pub returns-in_default : goal.returns-in_default
returns-in_default c = λ rs h. record {
  publisher =
      h.publisher ∙ sym (number_same kinds.Spu rs c.args.shown.now (λ q. c.in_default.not-Spu (c.kind.ensures.value ∙ q)));
  writer = h.writer ∙ sym (number_same kinds.Swr rs c.args.shown.now (λ q. c.in_default.not-Swr (c.kind.ensures.value ∙ q)));
  territory =
      h.territory ∙ sym (territory_same rs c.args.shown.now (λ q. c.in_default.not-Ter (c.kind.ensures.value ∙ q))
      (λ q. c.in_default.not-Ipa (c.kind.ensures.value ∙ q)));
}
