-- A text ends with one line at most, and the last bytes of a text show it.
pub mod LastLines
-- What stands after the last line feed of a text.
pub mod FeedPlaces
-- The table of symbols has each symbol, and those that may come are found in it one after another.
pub mod ComingSymbols
-- The input of a decoder that refused a line ends with that line.
pub mod RefusedLines
-- What is read and counted in two steps.
pub mod TakenPieces
-- How numbers go on, byte by byte and line by line.
pub mod WalkedLines
-- The codes of a list of members are those of the members.
pub mod ListedCodes
-- Symbols are listed one by one.
pub mod ListedSymbols
-- The letters of the kinds and the words of constant cells are in UTF-8.
pub mod PlainLetters
-- In a line that ends before it no sequence stands.
pub mod ShortLines
-- What is said part by part.
pub mod SaidInParts
-- What is said of the line with which the bytes end that were read.
pub mod LastRefused
-- Whether a text is in UTF-8, as a test.
pub mod Utf8Texts
-- The first field that shows lost blanks, one field more at a time.
pub mod FirstSigns
