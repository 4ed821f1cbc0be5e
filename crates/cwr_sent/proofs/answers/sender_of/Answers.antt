use Rattle.std.proofs.Common.{◌≡◌, ℕ, List, ◌++◌, Bool, true, cond, length, refl, sym, ap, ap₂, ◌∙◌}
use Rattle.std.specs.Prelude.{replicate}
use Rattle.cwr_fields.specs.declared.kinds.Kind.TheVariants as kinds
use Rattle.cwr_lines.specs.Format.Records.{cell_named}
use Rattle.cwr_findings.specs.Format.Findings.{is_a}
use Rattle.cwr_findings.proofs.lemmas.NamedCells.{cell_width, named_cell}
use Rattle.cwr_sent.proofs.lemmas.Cells.{sender_id, sender_type}
use Rattle.cwr_sent.proofs.answers.sender_of.Goals as goal

pub joined-requires-clause-short : goal.joined-requires-clause-short
joined-requires-clause-short c =
    let h : is_a kinds.Hdr c.args.opening.now ≡ true = sym c.is_of.ensures ∙ c.if-not-is_of.false in
    ap length c.cell.ensures.value
    ∙ cell_width "sender type" c.args.opening.now.kind 2 2 c.args.opening.now (sender_type c.args.opening.now h) refl
    c.cell.ensures.fits

pub joined-requires-clause-long : goal.joined-requires-clause-long
joined-requires-clause-long c =
    let h : is_a kinds.Hdr c.args.opening.now ≡ true = sym c.is_of.ensures ∙ c.if-not-is_of.false in
    ap length c.cell-2.ensures.value
    ∙ cell_width "sender id" c.args.opening.now.kind 3 9 c.args.opening.now (sender_id c.args.opening.now h) refl
    c.cell-2.ensures.fits

pub returns : goal.returns
returns c =
    let h : is_a kinds.Hdr c.args.opening.now ≡ true = sym c.is_of.ensures ∙ c.if-not-is_of.false in
    let one : c.cell.result.now ≡ cell_named "sender type" c.args.opening.now =
    c.cell.ensures.value
    ∙ named_cell "sender type" c.args.opening.now.kind 2 2 c.args.opening.now (sender_type c.args.opening.now h) refl
    c.cell.ensures.fits in
    let two : c.cell-2.result.now ≡ cell_named "sender id" c.args.opening.now =
    c.cell-2.ensures.value
    ∙ named_cell "sender id" c.args.opening.now.kind 3 9 c.args.opening.now (sender_id c.args.opening.now h) refl
    c.cell-2.ensures.fits in
    c.joined.ensures ∙ ap₂ (λ (a b : List ℕ). a ++ b) one two
    ∙ ap (λ (b : Bool). cond b (cell_named "sender type" c.args.opening.now ++ cell_named "sender id" c.args.opening.now)
    (replicate 11 32)) (sym h)
