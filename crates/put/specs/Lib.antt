pub mod Bytes
pub mod ReleasesLaws
pub mod SameReading
pub mod PutLaws
pub mod Theorems
