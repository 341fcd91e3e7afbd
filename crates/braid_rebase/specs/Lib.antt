pub mod Additions
pub mod Worked
pub mod Resolved
pub mod Pieces
pub mod Standing
