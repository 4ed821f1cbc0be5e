-- The status that the header of an acknowledgement names.
use Rattle.std.proofs.Common.{◌≡◌, ℕ, zero, suc, true, List, [], ◌∷◌, length, Option, Some, None, refl, sym, ap, subst, ◌∙◌}
use Rattle.std.specs.Prelude.{IsSomeAnd, slice_get, unwrap_or}
use Rattle.std.specs.List.{AllZip}
use Rattle.std.specs.Option.{option_and_then}
use Rattle.cwr_fields.specs.declared.cell_types.CellType.TheVariants.{Code}
use Rattle.cwr_fields.specs.declared.tables.Table.TheVariants as tables
use Rattle.cwr_fields.specs.declared.message_codes.TransactionStatus.{TransactionStatus}
use Rattle.cwr_fields.specs.declared.message_codes.TransactionStatus.TheVariants as status
use Rattle.cwr_fields.specs.Format.Bytes.{filled}
use Rattle.cwr_fields.specs.Format.Cells.{Allows}
use Rattle.cwr_fields.specs.Format.Members.{member_with}
use Rattle.cwr_fields.specs.Format.MessageCodes.{status_code, transaction_statuses}
use Rattle.cwr_fields.specs.declared.kinds.Kind.{Kind}
use Rattle.cwr_fields.specs.declared.kinds.Kind.TheVariants as kinds
use Rattle.cwr_fields.specs.Format.Layouts.{FieldLayout}
use Rattle.cwr_lines.specs.Format.Records.{RecordValue, IsCellOf, IsRecord, carried_fields}
use Rattle.cwr_lines.specs.Format.Carried.{carried_at, carried_before, record_cell}
use Rattle.cwr_findings.proofs.lemmas.KindTests.{kind_of}
use Rattle.cwr_delivery.specs.Format.Acknowledgements.{is_ack, status_in}
use Rattle.cwr_delivery.proofs.lemmas.NamedCells.{cell_is}
use Rattle.cwr_delivery.proofs.lemmas.AckFields.{status as status_field}

cell_at : (fields : List FieldLayout) (cells : List (List ℕ)) (i : ℕ) (f : FieldLayout) → AllZip IsCellOf fields cells
    → slice_get fields i ≡ Some f
    → IsSomeAnd (slice_get cells i) (IsCellOf f)
cell_at [] cells i f h e = absurd (cc e)
cell_at (g ∷ fields) [] i f h e = absurd h
cell_at (g ∷ fields) (cell ∷ cells) zero f h e = let same : g ≡ f = cc e in subst (λ (x : FieldLayout). IsCellOf x cell) same h.0
cell_at (g ∷ fields) (cell ∷ cells) (suc i) f h e = cell_at fields cells i f h.1 e

of_some : {X : Type 0} (P : X → Type 0) (o : Option X) (d : X) → IsSomeAnd o P → P (unwrap_or o d)
of_some P (Some x) d h = h
of_some P None d h = absurd h

-- the cell of a header's status is one of the table
pub names_status : (r : RecordValue) (cell : List ℕ) → is_ack r ≡ true → IsRecord r → cell ≡ unwrap_or (record_cell r 13) []
    → (length cell ≡ 2) × Allows (Code tables.Status) cell
names_status r cell ack fits e =
    let Fits : List ℕ → Type 0 = λ text. (length text ≡ 2) × Allows (Code tables.Status) text in
    let There : Kind → Type 0
    = λ k. AllZip IsCellOf (carried_fields k) r.cells
    → IsSomeAnd (option_and_then (λ _. slice_get r.cells (carried_before k 13)) (carried_at k 13)) Fits in
    let there : There r.kind =
    subst There (sym (kind_of kinds.Ack r ack)) (λ h. cell_at (carried_fields kinds.Ack) r.cells 9 _ h refl) in
    subst Fits (sym e) (of_some Fits (record_cell r 13) [] (there fits))

found_status : (s : TransactionStatus) → member_with status_code transaction_statuses 2 (filled 2 (status_code s)) ≡ Some s
found_status status.Conflict = refl
found_status s = refl

pub status_named : (r : RecordValue) (s : TransactionStatus) (cell : List ℕ) → is_ack r ≡ true → IsRecord r
    → cell ≡ unwrap_or (record_cell r 13) []
    → filled 2 (status_code s) ≡ cell → Some s ≡ status_in r
status_named r s cell ack fits e text =
    sym (found_status s) ∙ ap (member_with status_code transaction_statuses 2)
    (text ∙ cell_is "transaction status" r 13 2 cell e (status_field r ack) fits)
