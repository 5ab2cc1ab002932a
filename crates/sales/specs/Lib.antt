pub mod Amounts
pub mod Prices
pub mod Sales
pub mod Totals
