pub mod RowLaws
pub mod TakingLaws
pub mod TakenRows
