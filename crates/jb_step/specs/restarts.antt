pub mod Restarts
pub mod Saving
pub mod StepRuns
