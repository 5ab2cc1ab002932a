pub mod Prepare
pub mod Setup
