pub mod Gathering
pub mod Repeats
pub mod TriedChunk
