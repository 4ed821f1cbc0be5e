use Rattle.std.proofs.Common.{◌≡◌, sym, ap, subst, ◌∙◌}
use Rattle.cwr_fields.specs.declared.kinds.Kind.{Kind}
use Rattle.cwr_fields.specs.declared.kinds.Kind.TheVariants as kinds
use Rattle.cwr_fields.specs.Format.Kinds.{letters}
use Rattle.cwr_lines.specs.Format.Carried.{set_cell}
use Rattle.cwr_lines.specs.Format.Records.{IsRecord, RecordValue}
use Rattle.cwr_select.specs.Format.Sent.{kind_of}
use Rattle.cwr_select.specs.Steps.Headers.{IsWholeCell}
use Rattle.cwr_select.proofs.lemmas.SentWorks.{letters_fit, opens, right_head}
use Rattle.cwr_select.proofs.sent.head_as.Goals as goal

pub put-requires : goal.put-requires
put-requires c =
    let text : c.letters.result.now ≡ letters (kind_of c.args.works) = c.letters.ensures ∙ ap letters c.kind_of.ensures in
    subst (λ (k : Kind). IsWholeCell k 2 c.letters.result.now) (sym (ap (λ (r : RecordValue). r.kind) c.copied-draft.ensures.copy))
    (subst (IsWholeCell kinds.Grh 2) (sym text) (letters_fit c.args.works))

pub unreachable-requires : goal.unreachable-requires
unreachable-requires c =
    let text : c.letters.result.now ≡ letters (kind_of c.args.works) = c.letters.ensures ∙ ap letters c.kind_of.ensures in
    let kind : c.args.head.now.kind ≡ kinds.Grh = opens c.args.head.now c.requires in
    let whole : c.copied-draft.result ≡ c.args.head.now =
    c.copied-draft.ensures.copy ∙ (λ i. record { kind = sym kind i; cells = (c.view.ensures.value i).cells }) in
    let same : c.put.new.draft ≡ set_cell 2 (letters (kind_of c.args.works)) c.args.head.now =
    c.put.ensures ∙ (λ i. set_cell 2 (text i) (whole i)) in
    let never = c.in-Err.ensures.variant.1
    (subst IsRecord (sym same) (right_head c.args.works c.args.head.now kind c.view.ensures.fits)) in
    absurd (cc never)
