pub mod Runs
pub mod Fronts
pub mod Values
pub mod Ranges
pub mod Digits
pub mod Either
pub mod Ended
