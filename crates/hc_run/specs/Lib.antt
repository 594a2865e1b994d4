pub mod Lanes
pub mod Wanted
pub mod Counted
pub mod Outcomes
