pub mod WantedLaws
pub mod Loops
