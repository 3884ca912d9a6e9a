pub mod Chains
pub mod Closures
pub mod Legs
pub mod Settings
pub mod Surveys
pub mod Walks
