pub mod Begun
pub mod CallsInPart
pub mod Growing
pub mod Hearing
pub mod Pooling
pub mod Telling
