pub mod TimingLaws
pub mod Cells
pub mod WeightBounds
pub mod WeightSums
pub mod Longest
pub mod LongestLaws
pub mod LongestRun
pub mod LongestSoFar
