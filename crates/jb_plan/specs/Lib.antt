pub mod Blocks
pub mod Faults
pub mod Plans
pub mod Ranges
pub mod Texts
pub mod inside
