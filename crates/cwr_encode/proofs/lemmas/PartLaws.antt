-- The part of some records is the canonical text of the rows with which each transmission begins that they begin.
use Rattle.std.proofs.Common.{◌≡◌, ℕ, List, [], ◌∷◌, ◌++◌, length, map, take, refl, sym, ap, ap₂, subst, ◌∙◌}
use Rattle.std.specs.List.{AllByRecursion, flat_map}
use Rattle.cwr_lines.specs.Format.Records.{RecordValue, IsRecord, Row}
use Rattle.cwr_shape.specs.declared.limits.Limits.{Limits}
use Rattle.cwr_shape.specs.Format.Outlines.{IsWithin, Continues}
use Rattle.cwr_values.specs.Format.Values.{TransmissionValue, IsTransmission, symbol_of}
use Rattle.cwr_values.specs.Format.Rows.{records_of, rows, canonical_line}
use Rattle.cwr_values.specs.Format.Begins.{rows_so_far, rows_after}
use Rattle.cwr_values.proofs.lemmas.RowAt.{rows_split, length-rows_so_far, same_rows}
use Rattle.cwr_values.proofs.lemmas.Witnesses.{completed}
use Rattle.cwr_encode.specs.Format.Encoders.{part_of}
use Rattle.cwr_encode.specs.Format.Written.{IsPart}

taken : (xs ys : List Row) → take (length xs) (xs ++ ys) ≡ xs
taken [] ys = refl
taken (x ∷ xs) ys = ap (λ (l : List Row). x ∷ l) (taken xs ys)

-- the rows of the first records of a transmission
first_rows : (v : TransmissionValue) (before rest : List RecordValue) → IsTransmission v → records_of v ≡ before ++ rest
    → take (length before) (rows v) ≡ rows_so_far before
first_rows v before rest h e =
    ap₂ (λ (n : ℕ) (l : List Row). take n l) (sym (length-rows_so_far before)) (rows_split v before rest h e)
    ∙ taken (rows_so_far before) (rows_after before rest)

pub has_part : (limits : Limits) (records : List RecordValue) → AllByRecursion IsRecord records
    → Continues (IsWithin limits) (map symbol_of records) → IsPart limits records (part_of records)
has_part limits records in_order g =
    let c = completed g.0 records g.3.0 g.1 in_order g.3.1 in
    record {
      value = c.value;
      whole = c.whole;
      within = subst (IsWithin limits) (sym c.outline) g.2;
      rest = c.more;
      begins = c.begins;
      written = ap (flat_map canonical_line) (sym (first_rows c.value records c.more c.whole c.begins));
    }

pub one_part : (limits others : Limits) (records : List RecordValue) (text other : List ℕ) → IsPart limits records text
    → IsPart others records other → text ≡ other
one_part limits others records text other p q =
    p.written ∙ ap (flat_map canonical_line) (same_rows p.value q.value records p.rest q.rest p.whole q.whole p.begins q.begins)
    ∙ sym q.written
