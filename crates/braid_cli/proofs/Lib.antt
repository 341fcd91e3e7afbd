pub mod Refusals
mod Picked
