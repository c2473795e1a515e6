pub mod StepNeeds
pub mod LentColumns
pub mod Findings
pub mod EngineStep
