use Rattle.std.proofs.Common.{ℕ, Some, Bor, List, [], ◌∷◌, ◌++◌, ap, ap₂, sym, ◌∙◌}
use Rattle.std.proofs.lemmas.Option.{slice_get-get_or}
use Rattle.cwr_devices.proofs.lemmas.Adding.{adds_as, adds_both, adds_nothing}
use Rattle.cwr_summary.specs.declared.columns.Column.{Column}
use Rattle.cwr_summary.proofs.lemmas.Counting.{listed_more, of_listed}
use Rattle.cwr_summary_rows.specs.Format.Rows.{sum_cell}
use Rattle.cwr_summary_rows.specs.Format.Shown.{numbers_of}
use Rattle.cwr_summary_rows.proofs.lemmas.Parts.{adds_elements}
use Rattle.cwr_summary_rows.proofs.rows.code_cells.Goals as goal

pub loop-member-init : goal.loop-member-init
loop-member-init g c = adds_nothing

pub loop-member-preserved : goal.loop-member-preserved
loop-member-preserved g c =
    let cell : List ℕ → List Column → List ℕ = λ name columns. sum_cell c.args.form (numbers_of c.args.summary.now) (c.args.front.now ++ name) columns in
    let of : g.row.C.Denot × Bor (List ℕ) → List ℕ = λ p. cell p.1.now (g.C.Columned.column p.0 ∷ []) in
    adds_as (sym (listed_more of c.list-member-items.result.now c.loop-member.member-index c.loop-member-item.result
    (sym (slice_get-get_or c.list-member-items.result.now c.loop-member.member-index c.loop-member-item.result c.loop-member-test.true
    ∙ ap (λ (p : g.row.C.Denot × Bor (List ℕ)). Some p) (sym c.loop-member-item.is)))))
    (adds_both c.loop-member.invariant
    (adds_as (ap₂ cell c.as_bytes.ensures.value (ap (λ (column : Column). column ∷ []) c.column.ensures)) c.sum_cell.ensures))

pub returns : goal.returns
returns g c =
    let cell : g.row.C.Denot → List ℕ → List ℕ = λ member code.
    sum_cell c.args.form (numbers_of c.args.summary.now) (c.args.front.now ++ code) (g.C.Columned.column member ∷ []) in
    adds_as (of_listed cell g.C.Coded.code c.list-member-items.result.now g.C.Coded.members c.list-member-items.ensures)
    (adds_elements (λ (p : g.row.C.Denot × Bor (List ℕ)). cell p.0 p.1.now) c.list-member-items.result.now c.loop-member.member-index
    c.loop-member-test.false c.loop-member.invariant)
