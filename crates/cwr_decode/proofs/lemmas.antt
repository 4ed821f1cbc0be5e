-- The steps of a decoder, put together.
pub mod LineSteps
-- Texts of whole lines, and what closing does to a text.
pub mod ClosedTexts
-- The lines of a whole transmission spell it, and it is accepted with their bytes, however the input continues.
pub mod WholeLinesAccepted
-- What a decoder represents after an accepted record.
pub mod AfterRecord
-- What comes after the lines that were accepted, where a text is accepted as a whole: the line of a record that may come next.
pub mod NoneAcceptedAfter
-- What a decoder represents after a line that is accepted.
pub mod AfterAcceptedLine
-- What a decoder represents after a line that is judged: one that is refused too, and a record that waits.
pub mod AfterLine
-- A decoder holds at most one line and one transaction: bytes no more than the longest line has, and records no more than
-- the limit.
pub mod HeldBounds
-- What is held when a record is entered: the record continues that, or begins a transaction where nothing is held.
pub mod HeldOpen
-- The steps of a decoder: what is left after each, and what its answer says.
pub mod StepsWithoutBytes
-- What an answer says of the input is right, by what the decoder represents after it.
pub mod RightAnswers
-- What a decoder represents after bytes of a piece, up to the end of a line.
pub mod AfterBytes
-- What is answered before a piece is looked at.
pub mod AnsweredAtOnce
-- What a decoder represents after a piece, line by line.
pub mod AfterPiece
-- What a decoder represents after the end of the input, and with it a last line.
pub mod AfterInputEnd
-- What the call that takes the end of the input answers.
pub mod AfterFinish
-- A decoder of which nothing was read represents no input and no items.
pub mod NothingRead
-- The bytes of a reader that are fed to a decoder, and what it answers.
pub mod FromReader
-- What a decoder answers to bytes of a reader, as what is read.
pub mod FedFromReader
-- The limits bound how many bytes of the input a decoder uses, since they bound its lines, and each of these is short.
pub mod BoundedInputs
-- The items that a decoder handed out are the first of those of some transmission within its limits.
pub mod FirstItems
-- The items that were handed out from a text that is accepted are the first of its transmission's items.
pub mod ItemsOfAccepted
-- The items so far have just the records that were read, but for those of the open transaction, and so there are no more
-- items than records.
pub mod CountedItems
-- One call of a reading after others: what was read so far continues, up to all items or a fault.
pub mod ItemsReadSoFar
-- The items of a transmission are put together to one, and to no other.
pub mod ItemsMakeOneTransmission
-- A line that is that of no record that may come next is first bad at the field that is reported, after lines that were
-- accepted.
pub mod StoppedPlaces
-- The raw lines of a text that begins with whole lines.
pub mod RawLines
-- The first line of a text that continues, after bytes without a line feed, with one that is no line feed.
pub mod LongLines
-- The level that a decoder reports is that of the raw line, by the kind of the line before it.
pub mod StoppedLevel
-- A decoder that refused a line has a text that is refused so, however it continues: at the first bad place, for the first
-- reason that holds there, with its level.
pub mod StoppedRefused
-- A decoder whose input has ended, with all lines accepted and no whole transmission, has a truncated text.
pub mod CutTruncated
-- The answer of a run that read a known text by a reader which didn't fail is the text's one end.
pub mod Headlines
-- A text is walked line by line up to its end: what each line does to what was walked, and what ends the walk.
pub mod WalkedText
-- What a line that was taken carries, by its bytes alone.
pub mod CarriedLines
-- The entries of records, with one more at the end.
pub mod EntriesPut
-- The line at the front of a text, and where its bytes stand.
pub mod LinesAtFront
-- The line at the front of what is left of a text comes after the lines before it.
pub mod LineAfterLines
-- A text is indexed line by line up to its end.
pub mod IndexedText
-- A line that is judged where it stands, at the front of a piece, is one that was taken from there.
pub mod FrontSteps
-- The last bytes that were read are held, however they are taken.
pub mod LastHeld
-- Whole transactions that are passed over, one after another.
pub mod PassedOver
-- Transactions that a reading passes over are read: what was read so far continues with them.
pub mod PassedReading
-- What an item that is read after transactions were passed over keeps of what a reading of one item promises.
pub mod PassingAnswers
