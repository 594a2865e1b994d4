pub mod Kept
pub mod Words
pub mod Reduced
pub mod Wide
pub mod TextLemmas
pub mod SameNumbers
