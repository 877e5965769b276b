mod BigintParses
mod TextParses
mod CellFacts
mod RowSteps
mod RecordSteps
mod Fitting
mod WorkedFiles
mod FirstDecide
