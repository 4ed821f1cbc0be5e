-- The fault that was found of a cell is that of the definition.
use Rattle.std.proofs.Common.{◌≡◌, ℕ, List, Option, Some, None, sym, ap, subst, option_map, ◌∙◌}
use Rattle.cwr_fields.specs.declared.cell_types.CellFault.{CellFault}
use Rattle.cwr_fields.specs.declared.kinds.Kind.{Kind}
use Rattle.cwr_fields.specs.declared.layouts.Field.{Field}
use Rattle.cwr_fields.specs.Format.Layouts.{FieldLayout, field_at, field_with_start}
use Rattle.cwr_lines.specs.Steps.Held.{HeldLine, held_cell, held_kind}
use Rattle.cwr_fields.specs.Steps.Views.{field_view}
use Rattle.cwr_fields.proofs.lemmas.FieldStarts.{field_at-start}
use Rattle.cwr_judge.proofs.lemmas.NumberCells.{found_in_layout}
use Rattle.cwr_lint_lines.specs.Steps.CellFaults.{IsFaultAt, IsFaultOf}

-- the field and the cell are those of the line
pub found_at : (h : HeldLine) (kind : Kind) (j : ℕ) (field : FieldLayout) (cell : List ℕ) (found : Option CellFault)
    → held_kind h ≡ Some kind → field_at kind j ≡ Some field → held_cell h j ≡ Some cell → IsFaultOf field.ty cell found
    → IsFaultAt h j found
found_at h kind j field cell found known at there is this_kind f here known_too at_too there_too =
    let kinds : kind ≡ this_kind = cc (sym known ∙ known_too) in
    let fields : field ≡ f = cc (sym (subst (λ (k : Kind). field_at k j ≡ Some field) kinds at) ∙ at_too) in
    let cells : cell ≡ here = cc (sym there ∙ there_too) in
    subst (λ (x : List ℕ). IsFaultOf f.ty x found) cells (subst (λ (x : FieldLayout). IsFaultOf x.ty cell found) fields is)

-- the line has no kind, or none with that field, or no such cell
pub no_kind : (h : HeldLine) (j : ℕ) (found : Option CellFault) → held_kind h ≡ None → IsFaultAt h j found
no_kind h j found none this_kind f here known at there = absurd (cc (sym none ∙ known))

pub no_such : (h : HeldLine) (kind : Kind) (j : ℕ) (found : Option CellFault) → held_kind h ≡ Some kind → field_at kind j ≡ None
    → IsFaultAt h j found
no_such h kind j found known none this_kind f here known_too at there =
    let kinds : kind ≡ this_kind = cc (sym known ∙ known_too) in
    absurd (cc (sym (subst (λ (k : Kind). field_at k j ≡ None) kinds none) ∙ at))

pub no_here : (h : HeldLine) (j : ℕ) (found : Option CellFault) → held_cell h j ≡ None → IsFaultAt h j found
no_here h j found none this_kind f here known at there = absurd (cc (sym none ∙ there))

-- by the field's place
pub found_in : (h : HeldLine) (kind : Kind) (j : ℕ) (place : Field) (cell : List ℕ) (found : Option CellFault)
    → held_kind h ≡ Some kind → Some (field_view place) ≡ field_with_start kind j → Some cell ≡ held_cell h j
    → IsFaultOf place.ty cell found → IsFaultAt h j found
found_in h kind j place cell found known p there is =
    found_at h kind j (field_view place).1 cell found known (found_in_layout kind j place p) (sym there) is

pub no_field : (h : HeldLine) (kind : Kind) (j : ℕ) (found : Option CellFault) → held_kind h ≡ Some kind
    → field_with_start kind j ≡ None → IsFaultAt h j found
no_field h kind j found known none =
    no_such h kind j found known (sym (field_at-start kind j) ∙ ap (option_map (λ (p : ℕ × FieldLayout). p.1)) none)
