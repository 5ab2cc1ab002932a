pub mod EvenCover
pub mod Mapping
