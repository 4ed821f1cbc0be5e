use Rattle.std.proofs.Common.{◌≡◌, List, ℕ, Bool, cond, refl, sym, ap, ap₂, ◌∙◌, arith, length}
use Rattle.cwr_fields.specs.declared.kinds.Kind.TheVariants as kinds
use Rattle.cwr_findings.specs.Format.Findings.{is_a}
use Rattle.cwr_lines.specs.Format.Records.{cell_named}
use Rattle.cwr_findings.proofs.lemmas.NamedCells.{cell_width, named_cell}
use Rattle.cwr_sent.specs.Format.SentFacts.{no_number}
use Rattle.cwr_sent.proofs.lemmas.Cells.{agreement_number, work_number}
use Rattle.cwr_sent.proofs.facts.number_of_head.Goals as goal

pub copied-requires : goal.copied-requires
copied-requires c =
    let work = sym c.is_work.ensures ∙ c.if-is_work.true in
    ap length c.cell.ensures.value
    ∙ cell_width "submitter work number" c.args.head.now.kind 6 14 c.args.head.now (work_number c.args.head.now work) refl
    c.cell.ensures.fits

pub copied-requires-then-is_of : goal.copied-requires-then-is_of
copied-requires-then-is_of c =
    let agreement = sym c.is_of.ensures ∙ c.if-is_of.true in
    ap length c.cell-then-is_of.ensures.value
    ∙ cell_width "submitter agreement number" c.args.head.now.kind 4 14 c.args.head.now
    (agreement_number c.args.head.now agreement) refl c.cell-then-is_of.ensures.fits

abbrev by_kind : Bool → Bool → List ℕ → List ℕ → List ℕ
by_kind work agreement one other = cond work one (cond agreement other no_number)

pub returns-then-is_work : goal.returns-then-is_work
returns-then-is_work c =
    let work = sym c.is_work.ensures ∙ c.if-is_work.true in
    let named : c.cell.result.now ≡ cell_named "submitter work number" c.args.head.now =
    c.cell.ensures.value
    ∙ named_cell "submitter work number" c.args.head.now.kind 6 14 c.args.head.now (work_number c.args.head.now work) refl
    c.cell.ensures.fits in
    c.copied.ensures ∙ named ∙ ap (λ (b : Bool). by_kind b (is_a kinds.Agr c.args.head.now) (cell_named "submitter work number" c.args.head.now)
    (cell_named "submitter agreement number" c.args.head.now)) (sym work)

pub returns-then-is_of : goal.returns-then-is_of
returns-then-is_of c =
    let none = sym c.is_work.ensures ∙ c.if-is_work.false in
    let agreement = sym c.is_of.ensures ∙ c.if-is_of.true in
    let named : c.cell-then-is_of.result.now ≡ cell_named "submitter agreement number" c.args.head.now =
    c.cell-then-is_of.ensures.value
    ∙ named_cell "submitter agreement number" c.args.head.now.kind 4 14 c.args.head.now
    (agreement_number c.args.head.now agreement) refl c.cell-then-is_of.ensures.fits in
    c.copied-then-is_of.ensures ∙ named
    ∙ ap₂ (λ (a b : Bool). by_kind a b (cell_named "submitter work number" c.args.head.now)
    (cell_named "submitter agreement number" c.args.head.now)) (sym none) (sym agreement)
