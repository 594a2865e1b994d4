pub mod Chains
pub mod ExprForms
pub mod StmtForms
