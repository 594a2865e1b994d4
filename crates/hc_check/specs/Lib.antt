pub mod Numbered
pub mod Numberings
pub mod Checked
pub mod Laws
pub mod Accepted
