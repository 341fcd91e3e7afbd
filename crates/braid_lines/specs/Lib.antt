pub mod Numbers
pub mod Prints
pub mod Lines
