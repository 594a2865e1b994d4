pub mod Placed
pub mod Stages
pub mod Pieces
