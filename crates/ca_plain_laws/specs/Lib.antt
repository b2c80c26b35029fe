pub mod PlainPairs
pub mod Laws
