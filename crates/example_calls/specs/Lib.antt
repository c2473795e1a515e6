pub mod ReleasedRecord
pub mod ReleasedLaws
