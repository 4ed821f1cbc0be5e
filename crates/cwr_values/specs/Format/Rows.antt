-- The rows of a transmission, and the texts that spell it.
use Rattle.std.specs.Prelude.{◌≡◌, ℕ, List, [], ◌∷◌, ◌++◌, length, map, zip}
use Rattle.std.specs.List.{AllZip, flat_map}
use Rattle.cwr_fields.specs.declared.kinds.Kind.TheVariants as kinds
use Rattle.cwr_lines.specs.Format.Records.{RecordValue, Row, row_of, full_line}
use Rattle.cwr_lines.specs.Format.Lines.{IsLineOf}
use Rattle.cwr_shape.specs.Format.Numbers.{numbers_of}
use Rattle.cwr_values.specs.Format.Values.{GroupValue, TransmissionValue}

-- the records of a group, from GRH to GRT
abbrev pub records_of_group : GroupValue → List RecordValue
records_of_group g = g.head ∷ flat_map (λ t. t) g.transactions ++ g.foot ∷ []

-- TRL carries nothing
abbrev pub trailer : RecordValue
trailer = record { kind = kinds.Trl; cells = [] }

-- the records of a transmission, from HDR to TRL
abbrev pub records_of : TransmissionValue → List RecordValue
records_of v = v.opening ∷ flat_map records_of_group v.groups ++ trailer ∷ []

-- the lengths of the transactions, group by group
abbrev pub lengths_of_value : TransmissionValue → List (List ℕ)
lengths_of_value v = map (λ g. map length g.transactions) v.groups

-- each record with its numbers
unfoldable pub rows : TransmissionValue → List Row
rows v = map (λ p. row_of p.0 p.1) (zip (numbers_of (lengths_of_value v)) (records_of v))

-- the text is a line for each row, each followed by a line feed
abbrev pub Spells : TransmissionValue → List ℕ → Type 0
Spells v text = (lines : List (List ℕ)) × AllZip IsLineOf (rows v) lines × (text ≡ flat_map (λ line. line ++ 10 ∷ []) lines)

-- a line in full width, followed by CR and LF
abbrev pub canonical_line : Row → List ℕ
canonical_line row = full_line row ++ 13 ∷ 10 ∷ []

-- the one text that is written for a transmission
unfoldable pub canonical_text : TransmissionValue → List ℕ
canonical_text v = flat_map canonical_line (rows v)
