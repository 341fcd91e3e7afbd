pub mod Lines
pub mod Heads
pub mod Outcomes
pub mod Readings
pub mod Streams
pub mod FaultPlaces
pub mod Readers
pub mod Puts
