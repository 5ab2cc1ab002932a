pub mod Deltas
pub mod Places
pub mod RowTests
pub mod StaySound
