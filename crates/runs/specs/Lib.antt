pub mod Agreements
pub mod Networks
pub mod Runs
pub mod Statements
