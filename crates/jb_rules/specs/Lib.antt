pub mod Counts
pub mod Decide
pub mod Laws
pub mod RowTest
pub mod Rows
pub mod Sound
pub mod States
pub mod Numbers
