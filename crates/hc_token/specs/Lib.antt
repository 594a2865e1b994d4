pub mod Kinds
pub mod Lexemes
pub mod Words
pub mod Decimals
pub mod Ranged
pub mod Numbers
pub mod Pieces
pub mod Tokens
