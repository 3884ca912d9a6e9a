pub mod Conditions
pub mod Examples
pub mod Fits
pub mod Pages
pub mod Ratings
