mod Examples
pub mod Sound
pub mod Made
pub mod Commuting
pub mod Telling
pub mod Keeping
pub mod Knowing
pub mod LoopWalks
pub mod Judgements
pub mod Tested
pub mod Chosen
pub mod Written
pub mod OnePlan
