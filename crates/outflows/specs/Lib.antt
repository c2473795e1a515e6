pub mod Columns
pub mod CarriedValues
pub mod Outflows
pub mod Rooms
pub mod Faults
