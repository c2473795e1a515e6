pub mod StreetLaws
pub mod Loops
