pub mod MeterLaws
pub mod LawColumns
