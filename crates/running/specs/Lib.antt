pub mod Steps
pub mod LentList
pub mod WeightedTotal
pub mod Promise
pub mod Arrays
