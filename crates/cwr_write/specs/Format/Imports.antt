-- What a run writes from lines of JSON.
use Rattle.std.specs.Prelude.{◌≡◌, ◌⊎◌, ℕ, ◌==◌, ◌<◌, ◌||◌, Bool, not, IsFalse, List, [], ◌∷◌, ◌++◌, length, Option, Some, IfSome}
use Rattle.std.specs.Prelude.{Result, Err}
use Rattle.std.specs.List.{AllZip, filter, flat_map, list_all, list_any}
use Rattle.std.specs.Str.{IsUtf8}
use Rattle.json.specs.Json.{Json, document}
use Rattle.cwr_devices.specs.Format.Failures.{one_more_failure}
use Rattle.cwr_shape.specs.Format.Ranges.{LimitValues}
use Rattle.cwr_values.specs.Format.Values.{TransmissionValue, IsTransmission, FitsIn}
use Rattle.cwr_values.specs.Format.Rows.{canonical_text, records_of}
use Rattle.cwr_values.specs.declared.items.Item.{Item}
use Rattle.cwr_values.specs.declared.items.Item.TheVariants.{Opened, GroupOpened, Transaction, GroupClosed, Ended}
use Rattle.cwr_judge.specs.Format.Items.{item_records, records_in}
use Rattle.cwr_json.specs.declared.encodings.Encoding.{Encoding}
use Rattle.cwr_json.specs.Format.Forms.{IsItemData}
use Rattle.cwr_lines.specs.Format.Records.{RecordValue}
use Rattle.cwr_lines.specs.Format.Lines.{is_lf}
use Rattle.cwr_encode.specs.Format.Finishing.{HasAll}
use Rattle.cwr_write.specs.declared.writing.WriteFault.{WriteFault}
use Rattle.cwr_write.specs.declared.writing.WriteFault.TheVariants.{Reader, Writer}

-- a line of spaces, tabs and carriage returns says nothing
abbrev pub is_blank_line : List ℕ → Bool
is_blank_line line = list_all (λ b. (b == 32) || (b == 9) || (b == 13)) line

-- the line is JSON in UTF-8, and that is data of the item
pub record SaysItem (enc : Encoding) (line : List ℕ) (i : Item) : Type 0 where
  pub value : Json
  pub utf8 : IsUtf8 line
  pub text : document line ≡ Some value
  pub says : IsItemData enc value (item_records i)

-- the records that an item gives; TRL follows from them
abbrev pub given_records : Item → List RecordValue
given_records (Opened r) = r ∷ []
given_records (GroupOpened r) = r ∷ []
given_records (Transaction t) = t
given_records (GroupClosed r) = r ∷ []
given_records Ended = []

abbrev pub given_in : List Item → List RecordValue
given_in items = flat_map given_records items

-- the lines of a text: each ends with a line feed, but the last one may end with the text
unfoldable pub AreLines : List (List ℕ) → List ℕ → Type 0
AreLines [] text = text ≡ []
AreLines (l ∷ ls) text =
    IsFalse (list_any is_lf l)
    × (((rest : List ℕ) × (text ≡ l ++ 10 ∷ rest) × AreLines ls rest) ⊎ ((text ≡ l) × (0 < length l) × (ls ≡ [])))

-- the text's lines but for the blank ones are data of the items, one by one
pub record SaysItems (enc : Encoding) (text : List ℕ) (items : List Item) : Type 0 where
  pub lines : List (List ℕ)
  pub are : AreLines lines text
  pub each : AllZip (SaysItem enc) (filter (λ line. not (is_blank_line line)) lines) items

-- After what the writer had, the canonical text of a transmission within the limits is written, in so many bytes. Its records are those of the
-- items that the lines are data of.
pub record WritesWhole {W : Type 0} (enc : Encoding) (limits : LimitValues) (left : Option (List ℕ))
    (contents : W → Option (List ℕ)) (old new : W) (n : ℕ) : Type 0 where
  pub value : TransmissionValue
  pub whole : IsTransmission value
  pub within : FitsIn limits value
  pub written : HasAll contents (contents old) new (canonical_text value) n
  pub items : List Item
  pub records_are : records_of value ≡ records_in items
  pub said : IfSome left (λ text. SaysItems enc text items)

-- the writer's failures count one more where its fault is answered, and else they stay
abbrev pub CountsWriterFault : {A : Type 0} → Result A WriteFault → ℕ → ℕ → Type 0
CountsWriterFault (Err (Writer written)) old new = new ≡ one_more_failure old
CountsWriterFault result old new = new ≡ old

-- and so do the reader's
abbrev pub CountsReaderFault : {A : Type 0} → Result A WriteFault → ℕ → ℕ → Type 0
CountsReaderFault (Err Reader) old new = new ≡ one_more_failure old
CountsReaderFault result old new = new ≡ old
