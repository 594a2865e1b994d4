pub mod PartForms
pub mod First
pub mod ExprForms
pub mod Along
pub mod Noted
pub mod Ends
pub mod Tallied
pub mod InTurn
