pub mod Naming
pub mod Fractions
pub mod Arithmetic
