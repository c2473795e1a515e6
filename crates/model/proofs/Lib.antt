pub mod WorkedSchedule
