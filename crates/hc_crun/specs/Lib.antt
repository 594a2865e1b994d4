pub mod Items
pub mod Going
pub mod Told
