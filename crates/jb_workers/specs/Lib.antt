pub mod Entering
pub mod Events
pub mod Lock
pub mod Round
pub mod Turns
pub mod Works
pub mod inside
