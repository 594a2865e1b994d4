pub mod Dealing
pub mod Marks
pub mod Zeros
pub mod Crossing
