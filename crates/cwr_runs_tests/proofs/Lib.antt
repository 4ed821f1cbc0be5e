mod WorkedNumbers
mod WorkedParts
mod WorkedSelections
