pub mod Cuts
pub mod Rated
