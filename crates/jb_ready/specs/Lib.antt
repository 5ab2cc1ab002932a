pub mod Classes
pub mod FaultClasses
pub mod Lines
pub mod Notes
