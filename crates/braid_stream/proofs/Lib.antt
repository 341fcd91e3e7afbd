pub mod Completed
pub mod Moved
pub mod Caused
pub mod Windows
pub mod Framed
pub mod AtHand
pub mod Taken
pub mod Budgets
