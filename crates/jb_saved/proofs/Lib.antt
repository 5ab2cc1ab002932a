mod Trees
mod TextRead
mod RoundTrip
pub mod Written
mod Numbers
mod Unfit
mod RowByRow
mod Inverse
mod GoneOn
mod Worked
