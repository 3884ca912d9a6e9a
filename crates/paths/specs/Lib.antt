pub mod BestPaths
pub mod Fews
pub mod Metrics
pub mod Searches
pub mod WeightFirst
pub mod Widths
