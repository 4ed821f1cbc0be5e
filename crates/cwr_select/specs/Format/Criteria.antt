-- What transactions are chosen by.
use Rattle.std.specs.Prelude.{ℕ, ◌==◌, ◌&&◌, Bool, false, List, [], ◌∷◌, slice_get, if◌then◌else◌}
use Rattle.std.specs.List.{list_any}
use Rattle.std.specs.Option.{option_map_or}
use Rattle.std.specs.Str.{bytes_eq}
use Rattle.cwr_fields.specs.declared.kinds.Kind.{Kind}
use Rattle.cwr_fields.specs.declared.kinds.Kind.TheVariants.{Agr, Nwr, Rev, Ack}
use Rattle.cwr_fields.specs.Format.Bytes.{filled, trimmed}
use Rattle.cwr_lines.specs.Format.Records.{RecordValue, cell_named}
use Rattle.cwr_findings.specs.Format.Headers.{work_number}
use Rattle.cwr_select.specs.declared.criteria.ByKind.{ByKind}

-- ---- numbers

-- A transaction's number: that of its work or agreement, and of an acknowledgement that of what it answers. It is filled up with spaces
-- to the width of the widest.
abbrev pub number_cell : List RecordValue → List ℕ
number_cell t = filled 20 (option_map_or work_number (slice_get t 0) [])

-- it is one of these
abbrev pub has_number : List (List ℕ) → List RecordValue → Bool
has_number numbers t = list_any (λ number. bytes_eq number (number_cell t)) numbers

-- ---- parties

-- digits without leading zeros
abbrev pub significant : List ℕ → List ℕ
significant [] = []
significant (b ∷ digits) = if b == 48 then significant digits else b ∷ digits

-- a cell is the number, which has no leading zeros
abbrev pub is_party : List ℕ → List ℕ → Bool
is_party number cell = bytes_eq (significant (trimmed cell)) number

-- the cells of a record that have IPI name numbers; EWT, VER and COM have those of two writers
abbrev pub party_cells : RecordValue → List (List ℕ)
party_cells r =
    cell_named "ipi name number" r ∷ cell_named "writer 1 ipi name number" r ∷ cell_named "writer 2 ipi name number" r ∷ []

-- the record names the party
abbrev pub names_party : List ℕ → RecordValue → Bool
names_party number r = list_any (is_party number) (party_cells r)

-- a record of the transaction does, be it one of a copy
abbrev pub has_party : List ℕ → List RecordValue → Bool
has_party number t = list_any (names_party number) t

-- ---- places

-- the place of a group, and of a transaction in it, is one of these
abbrev pub has_place : List (ℕ × ℕ) → ℕ → ℕ → Bool
has_place places group place = list_any (λ p. p.0 == group && p.1 == place) places

-- ---- kinds

-- the kind of header is asked for
abbrev pub asks_for : ByKind → Kind → Bool
asks_for by Agr = by.agreements
asks_for by Nwr = by.new_works
asks_for by Rev = by.revised_works
asks_for by Ack = by.acknowledgements
asks_for by this_kind = false

-- that of a transaction is
abbrev pub has_kind : ByKind → List RecordValue → Bool
has_kind by t = option_map_or (λ head. asks_for by head.kind) (slice_get t 0) false
