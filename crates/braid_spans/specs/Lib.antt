pub mod Spans
pub mod Kept
pub mod Blocks
pub mod SeenRuns
