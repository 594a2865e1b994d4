pub mod Tokens
pub mod Exprs
pub mod Stmts
pub mod Units
pub mod Appends
