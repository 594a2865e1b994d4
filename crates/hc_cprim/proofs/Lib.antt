pub mod Same
pub mod Deeds
pub mod Lowest
pub mod Along
