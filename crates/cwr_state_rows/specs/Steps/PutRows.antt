-- What is written and counted of the rows of a delivery, where memory can be refused too.
use Rattle.std.specs.Prelude.{◌≡◌, ℕ, List, ◌++◌, Option, Result, Ok, Err}
use Rattle.cwr_devices.specs.declared.sinks.Sink.{Sink}
use Rattle.cwr_devices.specs.declared.sinks.SinkFault.{SinkFault}
use Rattle.cwr_devices.specs.declared.pens.Pen.{Pen}
use Rattle.cwr_devices.specs.Steps.Pens.{Adds}
use Rattle.cwr_devices.specs.Steps.Sinks.{PutsText}
use Rattle.cwr_delivery.specs.declared.deliveries.Delivery.{Delivery}
use Rattle.cwr_delivery.specs.Format.Told.{Delivered, History}
use Rattle.cwr_delivery.specs.Steps.Deliveries.{held_in}
use Rattle.cwr_delivery.specs.Steps.Keeping.{Keeps}
use Rattle.cwr_state_rows.specs.declared.counts.Counts.{Counts}
use Rattle.cwr_state_rows.specs.declared.forms.Form.{Form}
use Rattle.cwr_state_rows.specs.declared.faults.RowFault.{RowFault}
use Rattle.cwr_state_rows.specs.declared.faults.RowFault.TheVariants.{Memory, Writer}
use Rattle.cwr_state_rows.specs.Format.RowTexts.{rows_text}
use Rattle.cwr_state_rows.specs.Format.StateCounts.{counts_of}
use Rattle.cwr_state_rows.specs.Format.StateRows.{rows_of}
use Rattle.cwr_state_rows.specs.Steps.HeldRows.{counts_held, held_text}

-- a part of the text was added, and memory refused for the rest
pub record AddsPart {W : Type 0} (contents : W → Option (List ℕ)) (failures : W → ℕ) (text : List ℕ) (old new : Pen W) : Type 0 where
  pub part : List ℕ
  pub rest : List ℕ
  pub split : text ≡ part ++ rest
  pub adds : Adds contents failures part old new

-- The text is added whole, or up to where memory was refused.
abbrev pub AddsRows : {W E : Type 0} → (W → Option (List ℕ)) → (W → ℕ) → List ℕ → Result (Unit {0}) E → Pen W → Pen W → Type 0
AddsRows contents failures text (Ok u) old new = Adds contents failures text old new
AddsRows contents failures text (Err fault) old new = AddsPart contents failures text old new

-- what is answered where rows were put, and memory for the rest of them was refused or not
abbrev pub put_so : {E : Type 0} → Result (Unit {0}) SinkFault → Result (Unit {0}) E → Result (Unit {0}) RowFault
put_so (Ok u) (Ok v) = Ok v
put_so (Ok u) (Err fault) = Err Memory
put_so (Err fault) added = Err (Writer fault)

-- a part of the text was put, and memory refused for the rest
pub record PutsPart {W : Type 0} (contents : W → Option (List ℕ)) (failures : W → ℕ) (text : List ℕ) (old new : Sink W) : Type 0 where
  pub part : List ℕ
  pub rest : List ℕ
  pub split : text ≡ part ++ rest
  pub puts : PutsText contents failures part (Ok tt) old new

-- The text is put whole, or up to where the writer failed, or up to where memory was refused.
abbrev pub PutsRows : {W : Type 0} → (W → Option (List ℕ)) → (W → ℕ) → List ℕ → Result (Unit {0}) RowFault → Sink W → Sink W → Type 0
PutsRows contents failures text (Ok u) old new = PutsText contents failures text (Ok tt) old new
PutsRows contents failures text (Err (Writer fault)) old new = PutsText contents failures text (Err fault) old new
PutsRows contents failures text (Err Memory) old new = PutsPart contents failures text old new

-- ---- of a delivery

-- the table is that of what was sent and read, where the delivery keeps that
abbrev pub PutsTold : {W : Type 0} → (W → Option (List ℕ)) → (W → ℕ) → Form → List (List ℕ) → Delivery → Result (Unit {0}) RowFault
    → Sink W → Sink W → Type 0
PutsTold contents failures form names delivery result old new =
    (delivered : Delivered) (history : History) → Keeps delivered history (held_in delivery)
    → PutsRows contents failures (rows_text form delivered history.told names) result old new

-- it is that of what the delivery keeps
abbrev pub PutsHeld : {W : Type 0} → (W → Option (List ℕ)) → (W → ℕ) → Form → List (List ℕ) → Delivery → Result (Unit {0}) RowFault
    → Sink W → Sink W → Type 0
PutsHeld contents failures form names delivery result old new =
    PutsRows contents failures (held_text form names (held_in delivery)) result old new

-- the counts are those of what was sent and read, whatever the names are
abbrev pub CountsTold : Delivery → Counts → Type 0
CountsTold delivery counts =
    (names : List (List ℕ)) (delivered : Delivered) (history : History) → Keeps delivered history (held_in delivery)
    → counts ≡ counts_of delivered (rows_of delivered history.told names)

-- they are those of what the delivery keeps
abbrev pub CountsHeld : Delivery → Counts → Type 0
CountsHeld delivery counts = counts ≡ counts_held (held_in delivery)
