-- Definitions for only this crate's own functions and proofs.
pub mod Walk
