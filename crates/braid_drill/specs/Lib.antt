pub mod Draws
pub mod Told
pub mod Forms
pub mod Lines
pub mod Runs
pub mod Laws
