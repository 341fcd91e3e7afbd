pub mod Pieces
pub mod Readers
pub mod Steps
pub mod Owned
pub mod Chunked
