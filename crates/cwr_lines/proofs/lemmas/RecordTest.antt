-- A test that computes whether a record is in order. One that passes shows that it is.
use Rattle.std.proofs.Common.{◌≡◌, ℕ, Bool, true, false, ◌&&◌, List, [], ◌∷◌, length, sym, true≢false}
use Rattle.std.specs.Prelude.{◌==◌}
use Rattle.std.specs.List.{AllZip}
use Rattle.std.proofs.lemmas.Bool.{and_parts, eqb-true}
use Rattle.cwr_fields.proofs.lemmas.CellTests.{holds_test, holds_sound}
use Rattle.cwr_fields.specs.Format.Layouts.{FieldLayout}
use Rattle.cwr_lines.specs.Format.Records.{RecordValue, IsCellOf, IsRecord, carried_fields}

abbrev pub cells_test : List FieldLayout → List (List ℕ) → Bool
cells_test [] [] = true
cells_test (f ∷ fields) (c ∷ cells) = (length c == f.width) && (holds_test f.ty c && cells_test fields cells)
cells_test fields cells = false

cells_sound : (fields : List FieldLayout) (cells : List (List ℕ)) → cells_test fields cells ≡ true → AllZip IsCellOf fields cells
cells_sound [] [] h = tt
cells_sound [] (c ∷ cells) h = absurd (true≢false (sym h))
cells_sound (f ∷ fields) [] h = absurd (true≢false (sym h))
cells_sound (f ∷ fields) (c ∷ cells) h =
    let p = and_parts (length c == f.width) (holds_test f.ty c && cells_test fields cells) h in
    let q = and_parts (holds_test f.ty c) (cells_test fields cells) p.1 in
    ((eqb-true (length c) f.width p.0, holds_sound f.ty c q.0), cells_sound fields cells q.1)

abbrev pub record_test : RecordValue → Bool
record_test r = cells_test (carried_fields r.kind) r.cells

pub record_sound : (r : RecordValue) → record_test r ≡ true → IsRecord r
record_sound r h = cells_sound (carried_fields r.kind) r.cells h
