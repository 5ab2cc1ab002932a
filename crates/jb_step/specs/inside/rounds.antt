pub mod Round
pub mod SoFar
