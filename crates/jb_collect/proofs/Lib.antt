pub mod Taking
pub mod Delivering
pub mod Listing
pub mod Apart
