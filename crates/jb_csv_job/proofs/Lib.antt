pub mod Carrying
pub mod Going
mod Listing
mod Matching
pub mod Owning
mod Skipping
pub mod Taking
mod Worked
pub mod Writing
