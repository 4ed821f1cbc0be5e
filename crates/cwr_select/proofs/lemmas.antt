-- What is written of a transmission's items is the items of what is selected of it.
pub mod SelectedItems
-- What is selected of a transmission is a transmission, within the limits that the whole is within.
pub mod SelectedFits
-- Items are written: each is no mistake, no limit refuses it, and a fault of the writer comes in one of them.
pub mod ItemsWritten
-- What is held between two items: HDR and GRH, never TRL, and few counts.
pub mod HeldItems
-- A selection continues with each item that is handed out.
pub mod SelectingOn
-- A selection at the end of its input, and at a fault.
pub mod SelectionsEnded
-- Laws over what is selected: just what is chosen, with the rest all, and of what was selected all.
pub mod SelectionLaws
-- A value is found by a binary search of a sorted list exactly where the list has it.
pub mod FoundValues
-- The cells of a record that have IPI name numbers, by the fields of its kind.
pub mod PartyCells
-- What a selection leaves written where it stops.
pub mod LeftSelections
-- A cell that is known to be one of its field is set as it is, and never refused.
pub mod WholeCells
-- The cells of a record are copied one by one into a draft in which nothing was set.
pub mod CopiedCells
-- The cells of HDR, and that with those of a moment they are a record.
pub mod CreatedHeaders
-- A transmission that is created at a moment is one, and its items are those of the transmission, but for HDR.
pub mod CreatedItems
-- A transmission whose works are sent as new or as revised ones is one, within the limits that it was within.
pub mod SentWorks
-- The items of a transmission whose works are sent as new or as revised ones are its items, as they are sent.
pub mod SentItems
-- Values that are kept each once are in order, and no others.
pub mod DistinctValues
-- A transmission that was read has few items.
pub mod FewItems
