pub mod Sayable
pub mod Writable
pub mod Laws
