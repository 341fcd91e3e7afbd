pub mod Texts
pub mod Changes
pub mod Updates
pub mod Splices
pub mod Spellings
pub mod Outlets
pub mod Digests
pub mod RangeForms
