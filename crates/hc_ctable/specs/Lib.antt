pub mod Symbols
pub mod Rows
pub mod Table
pub mod Language
