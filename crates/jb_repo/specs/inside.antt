pub mod LowerLaws
pub mod Fit
pub mod Sized
pub mod Projection
pub mod Steps
