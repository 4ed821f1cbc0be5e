-- A decoder holds at most one line and one transaction: bytes no more than the longest line has, and records no more than the limit.
use Rattle.std.proofs.Common.{◌≡◌, ℕ, ◌-◌, ◌≤◌, List, [], ◌∷◌, ◌++◌, length, map, Option, None, sym, ap, ◌∙◌, arith}
use Rattle.std.proofs.Common.{append-nil}
use Rattle.std.specs.List.{AllZip}
use Rattle.std.proofs.lemmas.List.{length-drop}
use Rattle.cwr_lines.specs.Format.Records.{RecordValue, Row}
use Rattle.cwr_lines.specs.Format.Lines.{IsLineOf}
use Rattle.cwr_shape.specs.declared.symbols.Symbol.{Symbol}
use Rattle.cwr_shape.specs.Format.NextSymbols.{open_records}
use Rattle.cwr_shape.specs.Steps.Tallies.{TallyValue}
use Rattle.cwr_shape.proofs.lemmas.WithinByFronts.{none_passed}
use Rattle.cwr_values.specs.declared.items.Item.{Item}
use Rattle.cwr_values.specs.Format.Values.{symbol_of}
use Rattle.cwr_values.specs.Format.Begins.{rows_so_far}
use Rattle.cwr_judge.specs.Steps.Open.{open_of}
use Rattle.cwr_decode.specs.declared.machine.State.{State}
use Rattle.cwr_decode.specs.declared.machine.State.TheVariants as states
use Rattle.cwr_decode.specs.Steps.Machines.{Standing, held_list, held_of}
use Rattle.cwr_decode.specs.Steps.Represents.{AreAccepted, IsSound, IsThrough, RepresentsIn}
use Rattle.cwr_decode.proofs.lemmas.AfterAcceptedLine.{list_held}

-- what is held is bounded
pub record IsBounded (d : Standing) : Type 0 where
  pub line : length d.line.bytes ≤ 1024
  pub transaction : length (held_list d.held) ≤ d.tally.limits.transaction

-- each line of a row is short, the last one too
last_short : (rows : List Row) (lines front : List (List ℕ)) (line : List ℕ) → AllZip IsLineOf rows lines
    → lines ≡ front ++ line ∷ [] → length line ≤ 1024
last_short [] [] [] line h e = absurd (cc e)
last_short [] [] (other ∷ front) line h e = absurd (cc e)
last_short [] (first ∷ lines) front line h e = absurd h
last_short (row ∷ rows) [] front line h e = absurd h
last_short (row ∷ rows) (first ∷ lines) [] line h e =
    let same : first ≡ line = cc e in
    omega (arith, h.0.1, ap length same)
last_short (row ∷ rows) (first ∷ lines) (other ∷ front) line h e = last_short rows lines front line h.1 (cc e)

-- the open transaction of accepted records is within its limit
open_few : (tally : TallyValue) (lines : List (List ℕ)) (records : List RecordValue) → AreAccepted tally lines records
    → length (open_of records) ≤ tally.limits.transaction
open_few tally lines records read =
    let xs : List Symbol = map symbol_of records in
    let keeps = none_passed tally.limits xs (read.within xs [] (sym (append-nil xs))) in
    omega (arith, keeps.transaction, length-drop (length records - open_records xs) records)

-- so it is of what is held of it
open_bounded : (d : Standing) (lines : List (List ℕ)) (records : List RecordValue) → AreAccepted d.tally lines records
    → d.held ≡ held_of (open_of records) → length (held_list d.held) ≤ d.tally.limits.transaction
open_bounded d lines records read kept =
    let held : held_list d.held ≡ open_of records = ap held_list kept ∙ list_held (open_of records) in
    omega (arith, ap length held, open_few d.tally lines records read)

-- nothing is held
none_held : (d : Standing) → d.line.bytes ≡ [] → d.held ≡ None → IsBounded d
none_held d empty nothing = record {
  line = omega (arith, ap length empty);
  transaction = omega (arith, ap (λ (held : Option (List RecordValue)). length (held_list held)) nothing);
}

through_bounded : (d : Standing) (input : List ℕ) (given : List Item) → IsThrough d input given → IsBounded d
through_bounded d input given t = none_held d t.empty t.nothing

bounded_in : (state : State) (d : Standing) (input : List ℕ) (given : List Item) → RepresentsIn state d input given → IsBounded d
bounded_in states.Reading d input given r = record {
  line = omega (arith, r.line.short);
  transaction = open_bounded d r.lines r.records r.read r.held;
}
bounded_in states.Pending d input given p = record {
  line = last_short (rows_so_far (p.records ++ p.last ∷ [])) p.lines p.earlier d.line.bytes p.read.rows p.waits;
  transaction = omega (arith, ap (λ (held : Option (List RecordValue)). length (held_list held)) p.held);
}
bounded_in states.Ended d input given e = through_bounded d input given e.through
bounded_in (states.Refused refusal) d input given s = record {
  line = omega (arith, ap length s.empty);
  transaction = open_bounded d s.lines s.records s.read s.held;
}
bounded_in (states.Truncated count) d input given c = through_bounded d input given c.through
bounded_in states.Memory d input given f = through_bounded d input given f.through

-- so it is of each decoder
pub held_bounded : (d : Standing) → IsSound d → IsBounded d
held_bounded d s = bounded_in d.state d s.under_way.input s.under_way.given s.under_way.stands.here
