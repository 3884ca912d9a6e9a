pub mod Balances
pub mod Records
pub mod Admissions
pub mod Kept
pub mod Changing
pub mod Settling
