-- Definitions for only this crate's own functions and proofs.
pub mod Starts
pub mod Index
