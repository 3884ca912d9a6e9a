pub mod Digits
pub mod Fills
pub mod Lengths
pub mod Moves
pub mod Numbers
pub mod StepLines
