pub mod Calling
pub mod Reading
pub mod Working
pub mod Marked
pub mod Taking
