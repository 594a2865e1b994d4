pub mod Lexemes
pub mod Numerals
pub mod Written
pub mod Appends
pub mod CanonExprs
pub mod CanonStmts
pub mod Canonical
pub mod Readable
