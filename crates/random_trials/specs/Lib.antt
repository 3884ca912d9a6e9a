pub mod Rules
pub mod Spreads
pub mod Tallies
