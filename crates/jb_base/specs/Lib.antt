pub mod Causes
pub mod Classes
pub mod Limits
pub mod Name
pub mod Packed
pub mod Pairwise
pub mod Range
pub mod Rules
