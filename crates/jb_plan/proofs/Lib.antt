pub mod BlockLists
pub mod Following
pub mod NoFaults
