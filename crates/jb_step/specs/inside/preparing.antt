pub mod Fresh
pub mod Preparing
pub mod Starting
