pub mod Counts
pub mod Memory
pub mod Pieces
pub mod Reading
pub mod Sinks
pub mod States
pub mod Streams
pub mod Written
