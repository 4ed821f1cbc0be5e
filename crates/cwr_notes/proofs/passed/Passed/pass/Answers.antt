use Rattle.std.proofs.Common.{◌≡◌, true, false, refl, sym, ◌∙◌, inl, inr}
use Rattle.cwr_fields.specs.declared.kinds.Kind.TheVariants as kinds
use Rattle.cwr_findings.specs.Format.Findings.{is_a}
use Rattle.cwr_findings.proofs.lemmas.KindTests.{is_of_kind, is_of_no_kind}
use Rattle.cwr_notes.specs.Format.FindingNotes.{is_header}
use Rattle.cwr_notes.proofs.lemmas.OthersListed.{is_no_header, is_other_header, is_some_header, last_more, last_same, listed_more}
use Rattle.cwr_notes.proofs.lemmas.OthersListed.{listed_same}
use Rattle.cwr_notes.proofs.passed.Passed.pass.Goals as goal

pub returns-in-Spu-clause-passed : goal.returns-in-Spu-clause-passed
returns-in-Spu-clause-passed c = λ t e h.
    let kind : c.args.shown.now.kind ≡ kinds.Spu = sym c.kind.ensures.value ∙ c.in-Spu.is in
    record {
      publishers =
          listed_more (is_a kinds.Spu) t _ c.args.shown.now c.add.new.self e (is_of_kind kinds.Spu c.args.shown.now kind)
          (c.add.ensures.listed _ h.publishers);
      publisher = last_more (is_a kinds.Spu) t _ c.args.shown.now e (is_of_kind kinds.Spu c.args.shown.now kind);
      writer =
          last_same (is_a kinds.Swr) t _ c.args.shown.now _ e
          (is_of_no_kind kinds.Swr c.args.shown.now (λ q. let no : kinds.Spu ≡ kinds.Swr = sym kind ∙ q in absurd (cc no)))
          h.writer;
      header =
          last_same is_header t _ c.args.shown.now _ e (is_no_header c.args.shown.now
          (λ q. let no : kinds.Spu ≡ kinds.Nwr = sym kind ∙ q in absurd (cc no))
          (λ q. let no : kinds.Spu ≡ kinds.Rev = sym kind ∙ q in absurd (cc no))) h.header;
    }

pub returns-in-Swr-clause-passed : goal.returns-in-Swr-clause-passed
returns-in-Swr-clause-passed c = λ t e h.
    let kind : c.args.shown.now.kind ≡ kinds.Swr = sym c.kind.ensures.value ∙ c.in-Swr.is in
    let no_spu =
    is_of_no_kind kinds.Spu c.args.shown.now (λ q. let no : kinds.Swr ≡ kinds.Spu = sym kind ∙ q in absurd (cc no)) in
    record {
      publishers = listed_same (is_a kinds.Spu) t _ c.args.shown.now _ e no_spu h.publishers;
      publisher = last_same (is_a kinds.Spu) t _ c.args.shown.now _ e no_spu h.publisher;
      writer = last_more (is_a kinds.Swr) t _ c.args.shown.now e (is_of_kind kinds.Swr c.args.shown.now kind);
      header =
          last_same is_header t _ c.args.shown.now _ e (is_no_header c.args.shown.now
          (λ q. let no : kinds.Swr ≡ kinds.Nwr = sym kind ∙ q in absurd (cc no))
          (λ q. let no : kinds.Swr ≡ kinds.Rev = sym kind ∙ q in absurd (cc no))) h.header;
    }

pub returns-in-Nwr-clause-passed : goal.returns-in-Nwr-clause-passed
returns-in-Nwr-clause-passed c = λ t e h.
    let header : is_header c.args.shown.now ≡ true = elim c.in-Nwr.is [
      | inl k ↦ is_some_header c.args.shown.now (is_of_kind kinds.Nwr c.args.shown.now (sym c.kind.ensures.value ∙ k))
      | inr k ↦ is_other_header c.args.shown.now (is_of_kind kinds.Rev c.args.shown.now (sym c.kind.ensures.value ∙ k))
    ] in
    let no_spu : is_a kinds.Spu c.args.shown.now ≡ false = elim c.in-Nwr.is [
      | inl k ↦ is_of_no_kind kinds.Spu c.args.shown.now
          (λ q. let no : kinds.Nwr ≡ kinds.Spu = sym k ∙ c.kind.ensures.value ∙ q in absurd (cc no))
      | inr k ↦ is_of_no_kind kinds.Spu c.args.shown.now
          (λ q. let no : kinds.Rev ≡ kinds.Spu = sym k ∙ c.kind.ensures.value ∙ q in absurd (cc no))
    ] in
    let no_swr : is_a kinds.Swr c.args.shown.now ≡ false = elim c.in-Nwr.is [
      | inl k ↦ is_of_no_kind kinds.Swr c.args.shown.now
          (λ q. let no : kinds.Nwr ≡ kinds.Swr = sym k ∙ c.kind.ensures.value ∙ q in absurd (cc no))
      | inr k ↦ is_of_no_kind kinds.Swr c.args.shown.now
          (λ q. let no : kinds.Rev ≡ kinds.Swr = sym k ∙ c.kind.ensures.value ∙ q in absurd (cc no))
    ] in
    record {
      publishers = listed_same (is_a kinds.Spu) t _ c.args.shown.now _ e no_spu h.publishers;
      publisher = last_same (is_a kinds.Spu) t _ c.args.shown.now _ e no_spu h.publisher;
      writer = last_same (is_a kinds.Swr) t _ c.args.shown.now _ e no_swr h.writer;
      header = last_more is_header t _ c.args.shown.now e header;
    }

pub returns-in_default : goal.returns-in_default
returns-in_default c = record {
  at = refl;
  passed = λ t e h.
      let no_spu = is_of_no_kind kinds.Spu c.args.shown.now (λ q. c.in_default.not-Spu (c.kind.ensures.value ∙ q)) in
      record {
        publishers = listed_same (is_a kinds.Spu) t _ c.args.shown.now _ e no_spu h.publishers;
        publisher = last_same (is_a kinds.Spu) t _ c.args.shown.now _ e no_spu h.publisher;
        writer =
            last_same (is_a kinds.Swr) t _ c.args.shown.now _ e
            (is_of_no_kind kinds.Swr c.args.shown.now (λ q. c.in_default.not-Swr (c.kind.ensures.value ∙ q))) h.writer;
        header =
            last_same is_header t _ c.args.shown.now _ e (is_no_header c.args.shown.now
            (λ q. c.in_default.not-Nwr (c.kind.ensures.value ∙ q))
            (λ q. c.in_default.not-Rev (c.kind.ensures.value ∙ q))) h.header;
      };
}
