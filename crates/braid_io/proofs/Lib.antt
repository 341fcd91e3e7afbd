pub mod Ends
pub mod Known
pub mod Outcomes
pub mod Parts
pub mod Pieces
