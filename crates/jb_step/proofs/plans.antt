pub mod ChunkNumbers
pub mod ChunksInOrder
pub mod Holding
pub mod Planning
pub mod Staying
pub mod Steady
pub mod Whole
