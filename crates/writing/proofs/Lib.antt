pub mod PageLines
pub mod Puts
pub mod SheetLines
