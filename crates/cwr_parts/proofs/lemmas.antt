-- Where records begin those of a transmission, a call of an encoder that adds more of them may come: it is no mistake, and
-- it isn't refused by a limit to which the transmission keeps.
pub mod BegunTransmissions
-- The items that are joined of whole inputs and of the next one begin those of the transmission to which they are joined.
pub mod JoinedItems
-- Each transaction among a transmission's items is of the type of its group, which the records before it name.
pub mod OwnTypes
-- The items of a transmission, added one by one: each is right, its call of the encoder is no mistake, and its numbers stay
-- small.
pub mod ItemsAdded
-- An item is written to an output of a split: it is no mistake, no limit refuses it, and the output goes on with it.
pub mod PutItems
-- A transaction is added to an output of a split: HDR and GRH come before it where they weren't written.
pub mod OutputAdded
-- An output of a split is handed over: TRL is no mistake, and the outputs have the text of the transmission that its items are.
pub mod OutputHandedOver
-- What was joined so far goes on with an item: there is room to count it, its call is no mistake, and it is joined or refused.
pub mod JoiningOn
-- What was joined of one input goes on with each item, up to its end or a fault.
pub mod OneInputJoined
-- Inputs are joined one after another, up to the last or a fault.
pub mod InputsJoined
-- After the last input TRL is written, which is no mistake, and what is written is the transmission to which the inputs are
-- joined.
pub mod JoinsEnded
-- A join that added all inputs and wrote TRL has written the transmission to which they are joined, or its writer failed.
pub mod JoinsWhole
-- Where all inputs are accepted, and joined to a transmission within the limits, a join stops only where a device or memory
-- failed.
pub mod AcceptedJoins
-- A list in runs: a first run, and those of the rest.
pub mod RunsOfLists
-- A transmission that is split: its first part, and those of the rest.
pub mod SplitParts
-- A front or a back of a transmission that is within the limits is within them too.
pub mod FrontsFit
-- The open output of a split: it is opened, its group ends, and it is handed over.
pub mod OutputSteps
-- A transaction is added to the open output of a split, which is opened for it or finished with it.
pub mod TransactionsAdded
-- What is left of a transmission that is split, after one item more.
pub mod StagesLeft
-- The items of the open part of a split: what the next transaction and what its end make of them.
pub mod StagesHeld
-- The stage that an item comes at in a split.
pub mod StagesOfItems
-- A split takes HDR or GRH: it knows it from then on.
pub mod HeadsTaken
-- A split takes a transaction: the open output continues with it, or is whole and handed over.
pub mod TransactionsTaken
-- A split takes GRT or TRL: the open group ends, and at TRL the last output is handed over.
pub mod EndsTaken
-- A split takes an item: what it holds is then that of the next stage, and a part that is whole was handed over.
pub mod ItemsTaken
-- What is told of a split of a text leaves open neither which items come before a fault nor what is handed over.
pub mod OneSplit
-- The places that a split passes, and the parts that are whole then.
pub mod StagesPassed
-- A split continues with each item that is handed out.
pub mod SplittingOn
-- A split at the end of its input, and at a fault.
pub mod SplitsEnded
-- The items that a run hands out before a fault are those that the first lines of its text give.
pub mod ToldItems
-- What a split and a join do is told by their texts.
pub mod ToldRuns
-- The fault of an output's writer tells how many bytes that writer has.
pub mod WritersCounted
-- A viewer sees the items of input after input.
pub mod InputsSeen
