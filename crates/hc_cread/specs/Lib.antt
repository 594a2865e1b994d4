pub mod Builder
pub mod Language
pub mod Stops
pub mod Laws
pub mod TextStops
pub mod TextLaws
