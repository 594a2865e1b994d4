pub mod Tails
pub mod UpgradedTrace
