pub mod Whole
pub mod Body
