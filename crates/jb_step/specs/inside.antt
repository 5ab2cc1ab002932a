pub mod LowerLaws
pub mod callbacks
pub mod preparing
pub mod rounds
pub mod table
