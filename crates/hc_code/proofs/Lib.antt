pub mod Measures
pub mod Sums
pub mod Growing
pub mod Ways
pub mod Steps
pub mod Heads
pub mod Arms
pub mod Whole
