pub mod ByteClasses
pub mod Lists
pub mod Faults
pub mod Reading
pub mod Stops
