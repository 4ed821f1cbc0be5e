-- The text of a work's row, piece by piece.
use Prim.Native.String.{String}
use Rattle.std.specs.Prelude.{◌≡◌, ℕ, ◌+◌, ◌<◌, ◌≤◌, ◌^◌, Bool, true, false, List, [], ◌++◌, codes, decimal, if◌then◌else◌}
use Rattle.std.specs.Prelude.{Option, None, Some, unwrap_or}
use Rattle.std.specs.List.{flat_map, list_any}
use Rattle.cwr_fields.specs.Format.Kinds.{letters}
use Rattle.cwr_lines.specs.Format.Records.{RecordValue, cell_named}
use Rattle.cwr_json.specs.declared.encodings.Encoding.{Encoding}
use Rattle.cwr_findings.specs.Format.Findings.{is_blank, share_of}
use Rattle.cwr_tables.specs.declared.places.Place.{Place}
use Rattle.cwr_tables.specs.declared.works.Side.{Side}
use Rattle.cwr_tables.specs.declared.works.Sums.{Sums}
use Rattle.cwr_tables.specs.Format.Tables.{calls_for_quotes, cell_text, doubled}
use Rattle.cwr_tables.specs.Format.RecordTables.{shown_cell}
use Rattle.cwr_tables.specs.Format.WorkTables.{is_on, name_of_owner, names, percent}
use Rattle.cwr_tables.specs.Steps.RowTexts.{next_cell}

-- a part of a cell, where that stands between quotes or not
abbrev pub within : Bool → List ℕ → List ℕ
within true text = flat_map doubled text
within false text = text

-- what stands at both ends of such a cell
abbrev pub edge : Bool → List ℕ
edge true = codes "\""
edge false = []

-- what stands before a name that comes after others, or not
abbrev pub between : Bool → List ℕ
between true = codes "; "
between false = []

-- the names call for quotes
abbrev pub quotes : Encoding → Side → List RecordValue → Bool
quotes enc side t = list_any calls_for_quotes (names enc side t)

-- the cells before the names
abbrev pub front_text : Encoding → Place → RecordValue → List ℕ
front_text enc p head =
    cell_text (decimal p.group) ++ next_cell (decimal p.transaction) ++ next_cell (letters head.kind)
    ++ next_cell (shown_cell enc (cell_named "submitter work number" head))
    ++ next_cell (shown_cell enc (cell_named "title" head)) ++ next_cell (shown_cell enc (cell_named "iswc" head))

-- three shares
abbrev pub shares_text : Sums → List ℕ
shares_text s = next_cell (percent s.performing) ++ next_cell (percent s.mechanical) ++ next_cell (percent s.synchronization)

-- the cells after the names
abbrev pub tail_text : Sums → Sums → List ℕ
tail_text writers publishers = shares_text writers ++ shares_text publishers ++ codes "\r\n"

-- the record's share in a right: none where that is blank
abbrev pub stated_share : String → RecordValue → Option ℕ
stated_share right r = if is_blank right r then None else Some (share_of right r)

-- both shares, if there are two, and else the one that there is
abbrev pub both : Option ℕ → Option ℕ → Option ℕ
both None more = more
both (Some share) None = Some share
both (Some share) (Some more) = Some (share + more)

-- it is the record's share in the right, and not large
pub record IsShareOf (right : String) (r : RecordValue) (share : Option ℕ) : Type 0 where
  pub value : share ≡ stated_share right r
  pub small : unwrap_or share 0 < 10 ^ 10

-- these are the record's shares
pub record AreSharesOf (r : RecordValue) (s : Sums) : Type 0 where
  pub performing : IsShareOf "pr share" r s.performing
  pub mechanical : IsShareOf "mr share" r s.mechanical
  pub synchronization : IsShareOf "sr share" r s.synchronization

-- what an owner's name adds to the names before it, where there are some or not; other records add nothing
abbrev pub owner_text : Encoding → Side → Bool → Bool → RecordValue → List ℕ
owner_text enc side quoted later r = if is_on side r then between later ++ within quoted (name_of_owner enc side r) else []

-- some of the records are owners
abbrev pub has_owners : Side → List RecordValue → Bool
has_owners side t = list_any (is_on side) t

-- the sum in a right with the record's share, if that is an owner of the side
pub record AddsShare (right : String) (side : Side) (r : RecordValue) (old new : Option ℕ) : Type 0 where
  pub sum : new ≡ both old (if is_on side r then stated_share right r else None)
  pub few : unwrap_or new 0 ≤ unwrap_or old 0 + 10 ^ 10

-- the same in the three rights
pub record AddsShares (side : Side) (r : RecordValue) (old new : Sums) : Type 0 where
  pub performing : AddsShare "pr share" side r old.performing new.performing
  pub mechanical : AddsShare "mr share" side r old.mechanical new.mechanical
  pub synchronization : AddsShare "sr share" side r old.synchronization new.synchronization

-- the record is an owner of the side, in whose name a byte calls for quotes
abbrev pub name_needs_quotes : Encoding → Side → RecordValue → Bool
name_needs_quotes enc side r = if is_on side r then list_any calls_for_quotes (name_of_owner enc side r) else false
