pub mod AcceptedTyped
pub mod AcceptedNames
pub mod Annotated
pub mod Answering
pub mod Asked
pub mod Ended
pub mod Endings
mod Examples
pub mod GeneratedRuns
pub mod LoadedTexts
mod NamesApart
pub mod OneProgram
pub mod OneRefusal
pub mod OneReading
pub mod OneVerify
pub mod OneReply
mod PlannedMarks
pub mod StatusLemmas
pub mod Totals
pub mod Scheduled
pub mod Traces
pub mod TracesVerified
pub mod Uses
