pub mod Worth
pub mod Laws
pub mod Deeds
