pub mod PrefixSums
pub mod Made
pub mod Busy
pub mod Rows
pub mod Only
