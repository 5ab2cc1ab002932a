pub mod Borrowed
pub mod Forms
pub mod Parts
pub mod Taken
