pub mod BareForms
pub mod Mapped
