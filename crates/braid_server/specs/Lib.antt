pub mod Commands
pub mod Workers
pub mod Texts
pub mod Runs
pub mod Laws
