pub mod Accepted
pub mod CheckTexts
pub mod Runs
pub mod Kept
