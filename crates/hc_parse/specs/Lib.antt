pub mod Builder
pub mod Language
pub mod Counted
pub mod Stops
pub mod Laws
