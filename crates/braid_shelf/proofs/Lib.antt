pub mod Passing
pub mod Apart
pub mod Digits
pub mod Characters
pub mod Loops
pub mod Items
pub mod Keyed
pub mod Params
pub mod Members
pub mod Wholes
pub mod Spelled
pub mod Decided
pub mod Outcomes
pub mod Listed
pub mod Written
pub mod Narrowed
mod Rows
