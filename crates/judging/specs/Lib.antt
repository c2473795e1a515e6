pub mod ProposedRow
pub mod JudgedStep
pub mod JudgingLoop
pub mod WrittenStates
pub mod PutPlaces
pub mod OwnRows
pub mod JudgingEnds
