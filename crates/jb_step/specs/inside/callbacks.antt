pub mod Reducing
pub mod Telling
