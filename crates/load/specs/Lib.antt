pub mod LoadLaws
pub mod Loop
pub mod Theorems
