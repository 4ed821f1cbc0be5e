-- The limits bound how many bytes of the input a decoder uses, since they bound its lines, and each of these is short.
use Rattle.std.proofs.Common.{◌≡◌, ℕ, ◌+◌, ◌*◌, ◌≤◌, Bool, true, false, List, [], ◌∷◌, ◌++◌, length, map, Option, sym, ap, ◌∙◌}
use Rattle.std.proofs.Common.{arith, append-nil}
use Rattle.std.specs.List.{AllZip}
use Rattle.std.proofs.lemmas.List.{length-append, length-map}
use Rattle.cwr_lines.specs.declared.lines.LineEnd.{LineEnd}
use Rattle.cwr_lines.specs.declared.lines.LineEnd.TheVariants as line_ends
use Rattle.cwr_lines.specs.Format.Records.{RecordValue, Row}
use Rattle.cwr_lines.specs.Format.Lines.{IsLineOf}
use Rattle.cwr_lines.specs.Steps.Held.{text_by}
use Rattle.cwr_shape.specs.declared.symbols.Symbol.{Symbol}
use Rattle.cwr_shape.specs.Format.Outlines.{IsWhole, symbols_of}
use Rattle.cwr_shape.specs.Steps.Tallies.{TallyValue}
use Rattle.cwr_values.specs.declared.items.Item.{Item}
use Rattle.cwr_values.specs.Format.Values.{symbol_of}
use Rattle.cwr_values.specs.Format.Begins.{rows_so_far}
use Rattle.cwr_values.proofs.lemmas.RowAt.{length-rows_so_far}
use Rattle.cwr_judge.proofs.lemmas.Accepted.{closed_begins}
use Rattle.cwr_decode.specs.declared.machine.State.{State}
use Rattle.cwr_decode.specs.declared.machine.State.TheVariants as states
use Rattle.cwr_decode.specs.Steps.Machines.{Standing}
use Rattle.cwr_decode.specs.Steps.Readings.{FeedsOn}
use Rattle.cwr_decode.specs.Steps.Represents.{AreAccepted, Represents, RepresentsSome, RepresentsIn, IsThrough, IsInput, text_of}

text_short : (rows : List Row) (lines : List (List ℕ)) → AllZip IsLineOf rows lines → length (text_of lines) ≤ 1025 * length rows
text_short [] [] h = omega arith
text_short [] (line ∷ lines) h = absurd h
text_short (row ∷ rows) [] h = absurd h
text_short (row ∷ rows) (line ∷ lines) h
    = omega
    (arith, text_short rows lines h.1, h.0.1, length-append (line ++ 10 ∷ []) (text_of lines), length-append line (10 ∷ []))

-- the limits hold each accepted record, and after those that aren't a whole transmission one more
pub accepted_few : (tally : TallyValue) (lines : List (List ℕ)) (records : List RecordValue) → AreAccepted tally lines records
    → length records ≤ tally.limits.records
accepted_few tally lines records read = by read.counted.within.3
  where
    xs : List Symbol
    xs = map symbol_of records

    by : (rest : List Symbol) × (symbols_of read.counted.within.0 ≡ xs ++ rest) → length records ≤ tally.limits.records
    by (rest, e) = omega (arith, read.counted.within.2.0, ap length e, length-append xs rest, length-map records symbol_of)

one_more : (tally : TallyValue) (lines : List (List ℕ)) (records : List RecordValue) → AreAccepted tally lines records
    → ¬ IsWhole (map symbol_of records) → length records + 1 ≤ tally.limits.records
one_more tally lines records read left = by read.counted.within.3
  where
    xs : List Symbol
    xs = map symbol_of records

    by : (rest : List Symbol) × (symbols_of read.counted.within.0 ≡ xs ++ rest) → length records + 1 ≤ tally.limits.records
    by ([], e) = absurd (left (read.counted.within.0, read.counted.within.1, sym (e ∙ append-nil xs)))
    by (s ∷ rest, e) =
        omega (arith, read.counted.within.2.0, ap length e, length-append xs (s ∷ rest), length-map records symbol_of)

-- the input is no longer than its text
input_text : (input_ended : Bool) (input text : List ℕ) → IsInput input_ended input text → length input ≤ length text
input_text false input text h = omega (arith, ap length h)
input_text true input text h = let c = closed_begins input in omega (arith, ap length h, ap length c.1, length-append input c.0)

accepted_text : (tally : TallyValue) (lines : List (List ℕ)) (records : List RecordValue) → AreAccepted tally lines records
    → length (text_of lines) ≤ 1025 * length records
accepted_text tally lines records read =
    omega (arith, text_short (rows_so_far records) lines read.rows, length-rows_so_far records)

-- the accepted lines, and bytes of one more
with_one_more : (tally : TallyValue) (lines : List (List ℕ)) (records : List RecordValue) (input_ended : Bool)
    (input bytes : List ℕ) → AreAccepted tally lines records → ¬ IsWhole (map symbol_of records)
    → length bytes ≤ 1025 → IsInput input_ended input (text_of lines ++ bytes) → length input ≤ 1025 * tally.limits.records
with_one_more tally lines records input_ended input bytes read left short split =
    omega (
      arith,
      input_text input_ended input (text_of lines ++ bytes) split,
      length-append (text_of lines) bytes,
      accepted_text tally lines records read,
      one_more tally lines records read left,
      short,
    )

through_bounded : (d : Standing) (input : List ℕ) (given : List Item) → IsThrough d input given
    → length input ≤ 1025 * d.tally.limits.records
through_bounded d input given t =
    omega (
      arith,
      input_text d.finished input (text_of t.lines) t.split,
      accepted_text d.tally t.lines t.records t.read,
      accepted_few d.tally t.lines t.records t.read,
    )

text_long : (e : LineEnd) (bytes : List ℕ) → length bytes ≤ 1024 → length (text_by e bytes) ≤ 1025
text_long line_ends.Open bytes h = omega (arith, h)
text_long line_ends.Line bytes h = omega (arith, h, length-append bytes (10 ∷ []))
text_long line_ends.Over bytes h = omega (arith, h)

bounded_in : (state : State) (d : Standing) (input : List ℕ) (given : List Item) → RepresentsIn state d input given
    → length input ≤ 1025 * d.tally.limits.records
bounded_in states.Reading d input given r =
    with_one_more d.tally r.lines r.records d.finished input d.line.bytes r.read r.left (omega (arith, r.line.short)) r.split
bounded_in states.Pending d input given p =
    omega (
      arith,
      input_text d.finished input (text_of p.lines) p.split,
      accepted_text d.tally p.lines (p.records ++ p.last ∷ []) p.read,
      accepted_few d.tally p.lines (p.records ++ p.last ∷ []) p.read,
    )
bounded_in states.Ended d input given e = through_bounded d input given e.through
bounded_in (states.Refused refusal) d input given s =
    with_one_more d.tally s.lines s.records s.input_ended input (text_by s.line.ended s.line.bytes) s.read s.left
    (text_long s.line.ended s.line.bytes s.is_held.short) s.split
bounded_in (states.Truncated count) d input given c = through_bounded d input given c.through
bounded_in states.Memory d input given f = through_bounded d input given f.through

-- at most 1,025 bytes for each record that the limits hold are used
pub input_bounded : (d : Standing) (input : List ℕ) (given : List Item) → Represents d input given
    → length input ≤ 1025 * d.tally.limits.records
input_bounded d input given s = bounded_in d.state d input given s.here

-- so as many pieces at most are fed to a decoder that needs more
pub feeds_short : (n : ℕ) (old : Standing) (left : Option (List ℕ)) (new : Standing) (after : Option (List ℕ))
    → RepresentsSome old → FeedsOn n old left new after → n ≤ 103000000000
feeds_short n old left new after way f =
    let stands = f.stands way.input way.given way.stands in
    omega (
      arith,
      f.count,
      length-append way.input f.bytes,
      input_bounded new (way.input ++ f.bytes) way.given stands,
      stands.in_range.most_records,
    )
