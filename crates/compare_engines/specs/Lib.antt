pub mod Agreements
pub mod Orders
pub mod Scripts
