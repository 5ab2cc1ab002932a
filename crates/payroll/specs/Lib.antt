pub mod Payroll
pub mod Sheets
