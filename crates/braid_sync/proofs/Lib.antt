pub mod Doing
pub mod PieceReads
pub mod Streaming
pub mod AtHands
pub mod Refilling
pub mod Heard
pub mod Opened
pub mod Reading
pub mod Subscribed
pub mod Replied
pub mod Posted
pub mod Put
pub mod Dialled
pub mod Synced
pub mod FollowSteps
pub mod Kept
pub mod Growing
pub mod Learned
pub mod LawFronts
pub mod LawStreams
pub mod LawChunks
pub mod LawData
mod LawHearing
mod LawSame
mod LawOpening
mod LawReplies
mod LawPosting
mod LawSubscribed
pub mod LawSync
pub mod LawFollow
mod LawSound
pub mod LawCounts
pub mod LawEnds
mod LawCompletes
pub mod LawDialled
pub mod LawWritten
