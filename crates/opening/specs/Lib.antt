pub mod RefusedCell
pub mod OpeningEnds
pub mod StartingEnds
pub mod OpenedStudy
