pub mod Single
pub mod Performing
pub mod Along
pub mod Flushing
