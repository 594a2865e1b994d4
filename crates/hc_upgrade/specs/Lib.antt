pub mod Laws
pub mod Routes
pub mod Seen
pub mod Stops
pub mod Tails
pub mod Upgraded
pub mod Written
