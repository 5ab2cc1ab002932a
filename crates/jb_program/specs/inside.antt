pub mod LowerLaws
pub mod Written
