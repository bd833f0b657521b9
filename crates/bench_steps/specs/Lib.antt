pub mod Words
pub mod Scheduler
pub mod Meter
pub mod Gate
