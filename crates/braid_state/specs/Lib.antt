pub mod Heads
pub mod States
pub mod StateFaults
pub mod Stops
