-- A split ends as its text does.
pub mod SplitsEnd
-- What is left of a split.
pub mod SplitFiles
-- An import ends as its text does.
pub mod ImportsEnd
-- A join ends as what it is made of answers.
pub mod JoinsEnd
-- What is left of an import to a file.
pub mod ImportFiles
-- The readers of a join have what their words name, and their failures are counted.
pub mod JoinInputs
-- What is answered of a join is right of the texts of its readers.
pub mod JoinsJudged
-- What is left of a join to a file.
pub mod JoinFiles
-- A join of readers is right of their texts.
pub mod JoinsRead
-- What is made of an input whose numbers are put right is right of its text.
pub mod RepairsJudged
-- What is left of a run that puts numbers right in a file.
pub mod RepairFiles
-- The lines of a list, one by one.
pub mod ListLines
-- A run that selects is right of its text.
pub mod SelectionsJudged
-- What is left of a selection to a file, and how it ends.
pub mod SelectionsLeft
-- What is selected is chosen by what the words name.
pub mod SelectionsNamed
-- What failed where an import ends as one that did.
pub mod ImportFails
-- What failed where a split ends as one that did.
pub mod SplitFails
-- What failed where a join ends as one that did.
pub mod JoinFails
-- What failed where putting numbers right ends as one that did.
pub mod RepairFails
-- What is noted of the values of lists while others come, one after another.
pub mod SoughtValues
-- Where the transactions stand that have a number is found again.
pub mod FoundPlaces
-- It is known where the transactions stand that have a number of a list, while others come.
pub mod FoundNumbers
-- What is told of lists comes line by line.
pub mod ListsTold
-- What is seen of a transmission while some of its transactions are selected comes item by item.
pub mod SelectionsSeen
-- The status of a selection is right of its text.
pub mod SelectionStatuses
-- What is told of a selection is right of its text.
pub mod SelectionsTold
-- What is told of a selection is so by what the words name.
pub mod ToldNamed
-- The status of a selection is that of what the words name.
pub mod StatusesNamed
-- An import to an output writes the transmission that its lines are.
pub mod ImportsWritten
