pub mod Entering
pub mod Fitting
pub mod Rounds
pub mod SingleWork
pub mod Rising
pub mod Gathering
pub mod Mailing
pub mod Reporting
