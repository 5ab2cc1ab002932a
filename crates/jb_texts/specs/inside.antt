pub mod Head
pub mod Heard
pub mod Idle
pub mod Parts
pub mod Tail
