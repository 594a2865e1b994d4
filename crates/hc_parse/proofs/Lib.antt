pub mod Built
pub mod BuiltStmts
pub mod BuiltSources
pub mod Accepting
pub mod OneAnswer
pub mod Answered
