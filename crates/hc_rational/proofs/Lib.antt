pub mod Literals
pub mod Coprime
pub mod Cross
pub mod Quotients
pub mod FieldLaws
pub mod OrderLaws
pub mod RankLaws
pub mod FitsLaws
