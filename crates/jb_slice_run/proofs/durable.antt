pub mod Causing
pub mod Telling
