pub mod Augmentations
pub mod Verdicts
pub mod Works
