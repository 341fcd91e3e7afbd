pub mod Forms
pub mod Texts
pub mod Runs
pub mod Steps
pub mod Laws
