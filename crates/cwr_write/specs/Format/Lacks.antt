-- What an item lacks that is incomplete.
use Rattle.std.specs.Prelude.{ℕ, List, [], ◌∷◌, codes, Option, Some, None, unwrap_or, if◌then◌else◌}
use Rattle.std.specs.Str.{bytes_eq}
use Rattle.cwr_fields.specs.declared.kinds.Kind.{Kind}
use Rattle.cwr_fields.specs.declared.kinds.Kind.TheVariants.{Agr, Ter, Ipa, Nwr, Rev, Spu, Opu, Spt}
use Rattle.cwr_lines.specs.Format.Records.{RecordValue}
use Rattle.cwr_lines.specs.Format.Carried.{record_cell}
use Rattle.cwr_values.specs.declared.items.Item.{Item}
use Rattle.cwr_values.specs.declared.items.Item.TheVariants as items
use Rattle.cwr_write.specs.declared.hints.Lack.{Lack}
use Rattle.cwr_write.specs.declared.hints.Lack.TheVariants.{Territory, Parties, Assignor, Acquirer, Writer, Transaction, Group}

-- beside a party of that role, the other one
abbrev pub lack_beside : Option (List ℕ) → Lack
lack_beside None = Assignor
lack_beside (Some role) = if bytes_eq role (codes "AS") then Acquirer else Assignor

-- after an agreement a territory, after that its parties, after one of these the other; in a work a writer
abbrev pub lack_after : Kind → RecordValue → Option Lack
lack_after Agr r = Some Territory
lack_after Ter r = Some Parties
lack_after Ipa r = Some (lack_beside (record_cell r 4))
lack_after Nwr r = Some Writer
lack_after Rev r = Some Writer
lack_after Spu r = Some Writer
lack_after Opu r = Some Writer
lack_after Spt r = Some Writer
lack_after other r = None

-- what the last of the records tells that tells it, and else what was told before
abbrev pub lack_told : Lack → List RecordValue → Lack
lack_told before [] = before
lack_told before (r ∷ rs) = lack_told (unwrap_or (lack_after r.kind r) before) rs

-- in a transaction what its records tell; before GRT a transaction, and else a group
abbrev pub lack_of : Item → Lack
lack_of (items.Transaction t) = lack_told Writer t
lack_of (items.GroupClosed r) = Transaction
lack_of other = Group
