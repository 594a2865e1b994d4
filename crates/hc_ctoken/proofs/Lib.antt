pub mod Fronts
pub mod Numerals
pub mod SourceWords
pub mod Ended
