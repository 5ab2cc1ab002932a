pub mod Digits
pub mod Packing
pub mod FaultPlaces
pub mod FaultTables
pub mod Writing
