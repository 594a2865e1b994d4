pub mod Lead
pub mod Ran
