-- The records of the transaction that is open after some records, and what one more record does to it and to the items.
use Rattle.std.specs.Prelude.{◌≡◌, ◌-◌, ◌<◌, Bool, true, ◌&&◌, ◌==◌, List, [], ◌∷◌, ◌++◌, length, map, drop, if◌then◌else◌}
use Rattle.cwr_fields.specs.declared.codes.TransactionType.TheVariants.{Acknowledgement}
use Rattle.cwr_fields.specs.declared.kinds.Kind.{Kind}
use Rattle.cwr_fields.specs.declared.kinds.Kind.TheVariants.{Hdr, Grh, Grt, Trl}
use Rattle.cwr_lines.specs.Format.Records.{RecordValue}
use Rattle.cwr_shape.specs.declared.symbols.Symbol.{Symbol}
use Rattle.cwr_shape.specs.Format.NextSymbols as tallies_there
use Rattle.cwr_shape.specs.Format.NextSymbols.{transactions_begun, scope_after, open_records}
use Rattle.cwr_values.specs.declared.items.Item.{Item}
use Rattle.cwr_values.specs.declared.items.Item.TheVariants.{Opened, GroupOpened, Transaction, GroupClosed, Ended}
use Rattle.cwr_values.specs.Format.Values.{symbol_of}
use Rattle.cwr_values.specs.Format.Begins.{rows_so_far}
use Rattle.cwr_fields.specs.Format.Kinds.{is_in_transaction}
use Rattle.cwr_judge.specs.Format.Items.{items}

-- the items that the rows of these records give
abbrev pub items_so_far : List RecordValue → List Item
items_so_far records = items (rows_so_far records)

-- the records of the open transaction
abbrev pub open_of : List RecordValue → List RecordValue
open_of records = drop (length records - open_records (map symbol_of records)) records

-- one more symbol continues the open transaction: it stands in one, and begins none
abbrev pub continues_open : List Symbol → Symbol → Bool
continues_open xs s =
    (transactions_begun Acknowledgement (xs ++ s ∷ []) == transactions_begun Acknowledgement xs)
    && tallies_there.has_open_transaction (scope_after (xs ++ s ∷ []))

-- the item of an open transaction that ends
abbrev pub ended_transaction : List RecordValue → List Item
ended_transaction [] = []
ended_transaction (r ∷ records) = Transaction (r ∷ records) ∷ []

-- the own item of a record of the kind
abbrev pub item_of : Kind → RecordValue → List Item
item_of Hdr r = Opened r ∷ []
item_of Grh r = GroupOpened r ∷ []
item_of Grt r = GroupClosed r ∷ []
item_of Trl r = Ended ∷ []
item_of this_kind r = []

-- one more record continues the open transaction
pub record Stays (records : List RecordValue) (r : RecordValue) : Type 0 where
  pub inside : is_in_transaction r.kind ≡ true
  pub some : 0 < length (open_of records)
  pub longer : open_of (records ++ r ∷ []) ≡ open_of records ++ r ∷ []
  pub nothing : items_so_far (records ++ r ∷ []) ≡ items_so_far records

-- one more record ends the open transaction, if there is one
pub record Closes (records : List RecordValue) (r : RecordValue) : Type 0 where
  pub open_now : open_of (records ++ r ∷ []) ≡ (if is_in_transaction r.kind then r ∷ [] else [])
  pub given : items_so_far (records ++ r ∷ []) ≡ items_so_far records ++ ended_transaction (open_of records) ++ item_of r.kind r
