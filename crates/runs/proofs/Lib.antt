pub mod Agreed
pub mod Asked
pub mod Chained
pub mod Fronts
pub mod Sheets
pub mod Sounds
pub mod Told
