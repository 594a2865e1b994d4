pub mod Named
pub mod Worths
pub mod Stepping
pub mod Pair
