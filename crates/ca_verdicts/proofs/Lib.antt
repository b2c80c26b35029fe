mod Differences
mod JoinedGroups
mod SeenMarks
mod Examples
pub mod Unique
pub mod Looks
pub mod Conditions
pub mod MetDemands
pub mod Meeting
pub mod FormsSame
pub mod OneByOne
pub mod Counting
pub mod Moving
pub mod MovingVerdict
pub mod Multisets
pub mod Orders
pub mod Sorts
pub mod SortedBodies
pub mod Sound
pub mod Fewer
pub mod SameSlots
pub mod FoundLoops
pub mod RisingLoops
pub mod ArrayTerms
pub mod VerdictSound
pub mod Offending
pub mod MarkSums
pub mod Comparing
pub mod Settled
pub mod PlainPairs
