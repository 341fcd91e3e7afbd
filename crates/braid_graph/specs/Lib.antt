pub mod Entries
pub mod Ancestries
pub mod Levels
pub mod Frontiers
pub mod Orders
pub mod Runs
pub mod Inside
