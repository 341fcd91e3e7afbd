pub mod Lists
pub mod Closing
pub mod Together
pub mod Commanding
pub mod Counting
pub mod Ending
pub mod Wholes
