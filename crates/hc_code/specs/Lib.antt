pub mod Stands
pub mod Kept
pub mod Measure
pub mod Pieces
