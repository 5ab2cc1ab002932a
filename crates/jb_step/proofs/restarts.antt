pub mod Beginning
pub mod Overriding
pub mod ReadBack
pub mod Restarting
