-- Where the two sequences of a line inside a transaction stand.
use Rattle.std.proofs.Common.{◌≡◌, ℕ, true, List, ◌∷◌, take, drop, option_map, slice_get, refl, sym, ap, ◌∙◌, lit≤}
use Rattle.std.specs.Prelude.{Some}
use Rattle.std.proofs.lemmas.List.{take-take, drop-take, drop-drop}
use Rattle.cwr_fields.specs.declared.kinds.Kind.{Kind}
use Rattle.cwr_fields.specs.declared.kinds.Kind.TheVariants.{Hdr, Grh, Grt, Trl}
use Rattle.cwr_fields.specs.Format.Kinds.{is_in_transaction}
use Rattle.cwr_fields.specs.Format.Layouts.{FieldLayout, field_with_start, fields_after_type, in_transaction, layout, number}
use Rattle.cwr_fields.specs.Format.Layouts.{fields_with_starts, record_type}
use Rattle.cwr_lines.specs.Steps.Held.{HeldLine, IsFilled, held_cell}
use Rattle.cwr_lines.proofs.lemmas.CellParts.{part, held_cell-part}

-- the fields of a record inside a transaction begin with the two sequences
record Sequenced (kind : Kind) : Type 0 where
  rest : List FieldLayout
  begins : layout kind ≡ record_type ∷ in_transaction rest

sequenced : (kind : Kind) → is_in_transaction kind ≡ true → Sequenced kind
sequenced Hdr e = absurd cc
sequenced Grh e = absurd cc
sequenced Grt e = absurd cc
sequenced Trl e = absurd cc
sequenced this_kind e = record { rest = drop 2 (fields_after_type this_kind); begins = refl }

second : (kind : Kind) → is_in_transaction kind ≡ true → field_with_start kind 2 ≡ Some (3, number "transaction sequence" 8)
second kind e = ap (λ (fields : List FieldLayout). slice_get (fields_with_starts 0 fields) 1) (sequenced kind e).begins

third : (kind : Kind) → is_in_transaction kind ≡ true → field_with_start kind 3 ≡ Some (11, number "record sequence" 8)
third kind e = ap (λ (fields : List FieldLayout). slice_get (fields_with_starts 0 fields) 2) (sequenced kind e).begins

-- both stand in the sixteen bytes after the record type
pub transaction_cell : (text : List ℕ) (h : HeldLine) (kind : Kind) → IsFilled text (Some kind) h → is_in_transaction kind ≡ true
    → held_cell h 2 ≡ Some (take 8 (take 16 (drop 3 text)))
transaction_cell text h kind k e =
    held_cell-part text h kind 2 k ∙ ap (option_map (part text)) (second kind e)
    ∙ ap (λ (x : List ℕ). Some x) (sym (take-take 8 16 (drop 3 text) (lit≤ tt)))

pub record_cell : (text : List ℕ) (h : HeldLine) (kind : Kind) → IsFilled text (Some kind) h → is_in_transaction kind ≡ true
    → held_cell h 3 ≡ Some (drop 8 (take 16 (drop 3 text)))
record_cell text h kind k e =
    held_cell-part text h kind 3 k ∙ ap (option_map (part text)) (third kind e)
    ∙ ap (λ (x : List ℕ). Some x) (sym (drop-take 8 8 (drop 3 text) ∙ ap (take 8) (drop-drop 8 3 text)))
