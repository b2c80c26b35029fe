pub mod Framed
pub mod Stores
pub mod Loading
pub mod Operating
pub mod Ties
pub mod Going
pub mod Bodies
pub mod Anywhere
pub mod Told
pub mod Staying
pub mod Calling
pub mod Entering
pub mod Halting
pub mod Listing
pub mod Creating
pub mod Opped
mod Powers
pub mod Adding
pub mod Arms
pub mod Forms
pub mod Lacked
pub mod Failing
pub mod Reaching
pub mod Turning
pub mod Undone
pub mod Handing
pub mod Ways
mod Examples
