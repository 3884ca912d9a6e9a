pub mod Conditions
pub mod Laws
pub mod Texts
