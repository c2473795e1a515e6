pub mod RampsLaws
pub mod Grants
pub mod LastStep
