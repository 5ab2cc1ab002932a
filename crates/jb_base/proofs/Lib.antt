pub mod Ascii
pub mod Causes
pub mod Classes
pub mod Packed
pub mod Pairwise
pub mod Parts
