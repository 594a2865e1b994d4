pub mod States
pub mod Ended
pub mod Lending
