-- What an index says of a text: entry by entry the lines are those of the records.
use Rattle.std.specs.Prelude.{◌≡◌, ℕ, ◌+◌, ◌≤◌, List, [], ◌∷◌, ◌++◌, count_by, length, take, drop, Option, Some, None}
use Rattle.cwr_fields.specs.declared.codes.TransactionType.TheVariants.{Acknowledgement}
use Rattle.cwr_fields.specs.declared.kinds.Kind.{Kind}
use Rattle.cwr_lines.specs.Format.Records.{RecordValue, record_of}
use Rattle.cwr_lines.specs.Format.Lines.{body_kind, cells_as}
use Rattle.cwr_shape.specs.declared.symbols.Symbol.{Symbol}
use Rattle.cwr_shape.specs.Format.Ranges.{LimitValues}
use Rattle.cwr_shape.specs.Format.LastSymbols.{is_grh}
use Rattle.cwr_shape.specs.Format.NextSymbols.{transactions_begun}
use Rattle.cwr_values.specs.Format.Values.{TransmissionValue, symbol_of}
use Rattle.cwr_values.specs.Format.Rows.{records_of}
use Rattle.cwr_judge.specs.Format.Ends.{IsAccepted, IsRefused, IsTruncated}
use Rattle.cwr_decode.specs.declared.endings.End.{End}
use Rattle.cwr_decode.specs.declared.endings.End.TheVariants as ends
use Rattle.cwr_decode.specs.declared.indexing.IndexEntry.{IndexEntry}
use Rattle.cwr_decode.specs.Format.WholeLines.{IsLineAfter}

-- what a line of the kind carries, whose line end is left out; a line of unknown kind carries nothing
abbrev pub carried_as : Option Kind → List ℕ → Option RecordValue
carried_as None body = None
carried_as (Some this_kind) body = Some (record_of (record { kind = this_kind; cells = cells_as (Some this_kind) body }))

-- what the bytes carry, cut by the layout of the kind that they name and filled up with spaces
abbrev pub carried : List ℕ → Option RecordValue
carried body = carried_as (body_kind body) body

-- The entry is that of the record, which comes after records with these symbols: its line comes after as many lines, and carries it.
pub record IsEntryOf (text : List ℕ) (before : List Symbol) (entry : IndexEntry) (r : RecordValue) : Type 0 where
  pub within : entry.offset + entry.length ≤ length text
  pub is_line : IsLineAfter text (length before) entry.offset entry.length
  pub carries : carried (take entry.length (drop entry.offset text)) ≡ Some r
  pub group : entry.group ≡ count_by is_grh (before ++ symbol_of r ∷ [])
  pub transaction : entry.transaction ≡ transactions_begun Acknowledgement (before ++ symbol_of r ∷ [])

-- the entries are those of the first of the records, in order
unfoldable pub AreEntriesOf : List ℕ → List Symbol → List IndexEntry → List RecordValue → Type 0
AreEntriesOf text before [] records = Unit {0}
AreEntriesOf text before (entry ∷ entries) [] = ⊥
AreEntriesOf text before (entry ∷ entries) (r ∷ records) =
    IsEntryOf text before entry r × AreEntriesOf text (before ++ symbol_of r ∷ []) entries records

-- the text has that end; where it is accepted, these are the transmission's records
abbrev pub EndsWith : LimitValues → List ℕ → List RecordValue → End → Type 0
EndsWith limits text records (ends.Accepted used) =
    (v : TransmissionValue) × IsAccepted limits text v used × (records_of v ≡ records)
EndsWith limits text records (ends.Refused refusal) = IsRefused limits text refusal × (refusal.rec ≡ length records + 1)
EndsWith limits text records (ends.Truncated count) = IsTruncated limits text count × (count ≡ length records)

-- So many records are accepted before the text's end, and the entries are those of the first of them, as many as there is room for.
-- What stands in the room after these stays.
pub record IndexesTo (limits : LimitValues) (text : List ℕ) (old entries : List IndexEntry) (count : ℕ) (end : End) : Type 0 where
  pub records : List RecordValue
  pub counted : count ≡ length records
  pub covered : AreEntriesOf text [] (take count entries) records
  pub rest : drop count entries ≡ drop count old
  pub ends : EndsWith limits text records end
