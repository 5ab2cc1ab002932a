pub mod Fitting
pub mod Gathered
pub mod Mailboxes
