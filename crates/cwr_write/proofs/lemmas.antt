-- What is said of a field that is looked up in its kind's table.
pub mod FieldsFound
-- Texts that are added one after another are their list, put together.
pub mod TextsTogether
-- Bytes from the characters that stand for them.
pub mod CharactersRead
-- A draft that members fill has their cells, with each member more.
pub mod FilledDrafts
-- A key is that of a name, byte by byte.
pub mod KeysOfNames
-- What taking lines does to an encoder.
pub mod TakenLines
-- The members that say something, member by member.
pub mod ToldMembers
-- The cells of each field are bytes, at most 700.
pub mod ByteCells
-- What a `?` hands on is the fault that it met.
pub mod FaultsPassed
-- Records give one list of items: so an item more continues some transmission where its records do.
pub mod ItemsInOrder
-- The records of a line, member by member and value by value.
pub mod ItemsRead
-- What records tell that an item lacks, one after another.
pub mod LacksTold
-- What is taken of a text line by line.
pub mod LinesTaken
-- Why a line's value is data of no item: what is told of it is so.
pub mod ItemReasons
-- Values that no item of a transmission has for its data.
pub mod NoItemData
-- Members that no record has for its data: by one of them.
pub mod NoRecordData
-- The lines of a transmission's data are data of its items, and of no other's.
pub mod OwnLines
-- What bytes are shown as is in UTF-8.
pub mod ShownUtf8
-- Why members are data of no record: what is told of them is so.
pub mod RecordReasons
-- What is written where a run over lines stops.
pub mod LeftWritten
-- How a run over lines ends, and what it has then written.
pub mod RunsEnded
-- An item is taken exactly where with it some transmission within the limits begins.
pub mod TakenItems
