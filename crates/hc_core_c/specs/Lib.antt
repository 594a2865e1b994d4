pub mod Twin
pub mod Code
pub mod Owner
pub mod Cost
pub mod Limits
