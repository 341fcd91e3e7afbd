pub mod Lists
pub mod Identifiers
pub mod Frontiers
pub mod MarkSets
pub mod Pieces
pub mod Agents
pub mod Kept
