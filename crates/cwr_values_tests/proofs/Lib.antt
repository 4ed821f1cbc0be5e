mod WorkedCells
mod WorkedCodes
mod WorkedFits
mod WorkedLevels
mod WorkedShapes
mod WorkedStages
