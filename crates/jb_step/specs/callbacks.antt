pub mod Callbacks
pub mod Heard
