pub mod Patterned
