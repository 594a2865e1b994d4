pub mod Seen
pub mod Able
pub mod Stands
pub mod Parts
pub mod Keeps
pub mod Judging
pub mod Handed
