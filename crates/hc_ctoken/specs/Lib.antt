pub mod Kinds
pub mod Lexemes
pub mod Numbers
pub mod Words
pub mod Strings
pub mod Pieces
pub mod Tokens
