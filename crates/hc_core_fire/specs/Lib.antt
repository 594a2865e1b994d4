pub mod Firing
pub mod Behind
pub mod PassOfC
pub mod First
