pub mod Seen
pub mod Callee
