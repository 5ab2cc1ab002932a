pub mod Adding
pub mod Job
