pub mod Events
pub mod ReplicaCalls
pub mod BookCalls
pub mod Progress
pub mod ReadBack
pub mod BodyReads
pub mod WholeSyncs
