pub mod ByName
pub mod ListOfPrices
pub mod OneMore
pub mod Payments
